use Rattle.std.proofs.Common.{◌≡◌, ◌∙◌, ℕ, ◌+◌, ◌<◌, List, Bool, true, false, cond, length, get_or, take, refl, sym, ap, subst, arith}
use Rattle.std.specs.Prelude.{filter, slice_get}
use Rattle.std.specs.List.{list_any}
use Rattle.std.proofs.lemmas.List.{take_more}
use Rattle.orders.specs.Orders.{nodes_below}
use Rattle.test_lang.specs.Actions.{op_of}
use Rattle.tso_machine.specs.Places.{TellsMet, free_places, is_free, is_store_fence_at, with_met}
use Rattle.tso_machine.proofs.Bytes.{byte_is}
use Rattle.tso_machine.proofs.ListChanges.{length-filter_below_more, passing_at}
use Rattle.tso_machine.proofs.Walks.{all_found, met_more, none_met, none_more, passes_free, word_below}
use Rattle.tso_machine.proofs.places.nth_free.Goals as goal
use Rattle.tso_machine.proofs.places.nth_free.Goals.{else-loop-place-test, then-loop-place-test+else-left-free+then-is_store_fence}

pub loop-place-init : goal.loop-place-init
loop-place-init c = record { met = none_met c.args.test.now; none = refl; counted = omega arith }

one_of : (b : Bool) (left : ℕ) → left < cond b 1 0 → (b ≡ true) × (left ≡ 0)
one_of true left lt = (refl, omega (arith, lt))
one_of false left lt = absurd (omega (arith, lt))

pub returns-then-left-free : goal.returns-then-left-free
returns-then-left-free c =
    let p = c.args.test.now in
    let entries = c.args.entries.now in
    let place = c.loop-place.place in
    let action = c.action-action.result in
    let is = c.action-action.ensures.found in
    let below = word_below 256 p.words (op_of action) c.requires.words c.action-action.ensures.word in
    let free = passes_free p entries c.requires.nodes place c.loop-place-test.true c.loop-place.met c.loop-place.invariant.met c.loop-place.invariant.none action is below in
    let bit : c.from-free.result ≡ cond (is_free p entries place) 1 0 = c.from-free.ensures ∙ byte_is c.passes.result ∙ ap (λ (b : Bool). cond b 1 0) (c.passes.ensures.passes ∙ free) in
    let more = length-filter_below_more (is_free p entries) place in
    let counted = c.loop-place.invariant.counted in
    let lt = c.if-left-free.true in
    let parts = one_of (is_free p entries place) c.loop-place.left (omega (arith, lt, bit)) in
    let none = parts.1 in
    let at : c.args.k ≡ length (filter (is_free p entries) (nodes_below place)) = omega (arith, none, counted) in
    ap (slice_get (free_places p entries)) at ∙ passing_at (is_free p entries) (length entries) place c.loop-place-test.true parts.0

pub loop-place-preserved : goal.loop-place-preserved
loop-place-preserved c =
    let p = c.args.test.now in
    let entries = c.args.entries.now in
    let place = c.loop-place.place in
    let action = c.action-action.result in
    let is = c.action-action.ensures.found in
    let below = word_below 256 p.words (op_of action) c.requires.words c.action-action.ensures.word in
    let free = passes_free p entries c.requires.nodes place c.loop-place-test.true c.loop-place.met c.loop-place.invariant.met c.loop-place.invariant.none action is below in
    let bit : c.from-free.result ≡ cond (is_free p entries place) 1 0 = c.from-free.ensures ∙ byte_is c.passes.result ∙ ap (λ (b : Bool). cond b 1 0) (c.passes.ensures.passes ∙ free) in
    let more = length-filter_below_more (is_free p entries) place in
    let counted = c.loop-place.invariant.counted in
    let least = c.if-left-free.false in
    let grown = take_more entries place 0 c.loop-place-test.true in
    record {
      met = subst (TellsMet p (take (place + 1) entries)) (sym c.passes.ensures.met) (subst (λ (front : List ℕ). TellsMet p front (with_met c.loop-place.met action)) (sym grown)
          (met_more p (take place entries) c.loop-place.met (get_or entries place 0) c.loop-place.invariant.met action is below));
      none = ap (list_any (is_store_fence_at p)) grown ∙ none_more p (take place entries) (get_or entries place 0) action c.loop-place.invariant.none is (sym c.if-is_store_fence.ensures);
      counted = omega (arith, bit, more, counted, least);
    }

pub unreachable-requires : goal.unreachable-requires
unreachable-requires c = elim c.loop-place-test.branch [
  | else-loop-place-test w ↦
      let past = w.loop-place-test.false in
      let end = c.loop-place.auto.place-end in
      let same : c.loop-place.place ≡ length c.args.entries.now = omega (arith, past, end) in
      let all = ap (λ (n : ℕ). length (filter (is_free c.args.test.now c.args.entries.now) (nodes_below n))) same in
      let counted = c.loop-place.invariant.counted in
      let few = c.requires.k in
      omega (arith, all, counted, few)
  | then-loop-place-test+else-left-free+then-is_store_fence w ↦
      let p = c.args.test.now in
      let entries = c.args.entries.now in
      let place = c.loop-place.place in
      let action = w.action-action.result in
      let is = w.action-action.ensures.found in
      let below = word_below 256 p.words (op_of action) c.requires.words w.action-action.ensures.word in
      let free = passes_free p entries c.requires.nodes place w.loop-place-test.true c.loop-place.met c.loop-place.invariant.met c.loop-place.invariant.none action is below in
      let bit : w.from-free.result ≡ cond (is_free p entries place) 1 0 = w.from-free.ensures ∙ byte_is w.passes.result ∙ ap (λ (b : Bool). cond b 1 0) (w.passes.ensures.passes ∙ free) in
      let more = length-filter_below_more (is_free p entries) place in
      let counted = c.loop-place.invariant.counted in
      let least = w.if-left-free.false in
      let all = ap length (all_found p entries c.requires.nodes place action w.loop-place-test.true is (sym w.if-is_store_fence.ensures)) in
      let few = c.requires.k in
      omega (arith, bit, more, counted, least, all, few)
]
