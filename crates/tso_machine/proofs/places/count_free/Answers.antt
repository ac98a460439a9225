use Rattle.std.proofs.Common.{◌≡◌, ◌∙◌, ℕ, ◌+◌, List, Bool, cond, length, get_or, take, refl, sym, ap, subst, arith}
use Rattle.std.specs.List.{list_any}
use Rattle.std.proofs.lemmas.List.{take_more}
use Rattle.test_lang.specs.Actions.{op_of}
use Rattle.tso_machine.specs.Places.{TellsMet, is_free, is_store_fence_at, with_met}
use Rattle.tso_machine.proofs.Bytes.{byte_is, byte_le}
use Rattle.tso_machine.proofs.ListChanges.{few_pass, length-filter_below_more}
use Rattle.tso_machine.proofs.Walks.{all_found, met_more, none_met, none_more, passes_free, word_below}
use Rattle.tso_machine.proofs.places.count_free.Goals as goal

pub loop-place-init : goal.loop-place-init
loop-place-init c = record { met = none_met c.args.test.now; none = refl; counted = refl }

pub overflow_add-count : goal.overflow_add-count
overflow_add-count c =
    let few = few_pass (is_free c.args.test.now c.args.entries.now) c.loop-place.place in
    let one = byte_le c.passes.result in
    let bit = c.from-count.ensures in
    let counted = c.loop-place.invariant.counted in
    let below = c.loop-place-test.true in
    let long = c.requires.few in
    omega (arith, few, one, bit, counted, below, long)

pub returns-then-is_store_fence : goal.returns-then-is_store_fence
returns-then-is_store_fence c =
    let p = c.args.test.now in
    let entries = c.args.entries.now in
    let place = c.loop-place.place in
    let action = c.action-action.result in
    let is = c.action-action.ensures.found in
    let below = word_below 256 p.words (op_of action) c.requires.words c.action-action.ensures.word in
    let free = passes_free p entries c.requires.nodes place c.loop-place-test.true c.loop-place.met c.loop-place.invariant.met c.loop-place.invariant.none action is below in
    let bit : c.from-count.result ≡ cond (is_free p entries place) 1 0 = c.from-count.ensures ∙ byte_is c.passes.result ∙ ap (λ (b : Bool). cond b 1 0) (c.passes.ensures.passes ∙ free) in
    let more = length-filter_below_more (is_free p entries) place in
    let counted = c.loop-place.invariant.counted in
    let all = ap length (all_found p entries c.requires.nodes place action c.loop-place-test.true is (sym c.if-is_store_fence.ensures)) in
    omega (arith, bit, more, counted, all)

pub loop-place-preserved : goal.loop-place-preserved
loop-place-preserved c =
    let p = c.args.test.now in
    let entries = c.args.entries.now in
    let place = c.loop-place.place in
    let action = c.action-action.result in
    let is = c.action-action.ensures.found in
    let below = word_below 256 p.words (op_of action) c.requires.words c.action-action.ensures.word in
    let free = passes_free p entries c.requires.nodes place c.loop-place-test.true c.loop-place.met c.loop-place.invariant.met c.loop-place.invariant.none action is below in
    let bit : c.from-count.result ≡ cond (is_free p entries place) 1 0 = c.from-count.ensures ∙ byte_is c.passes.result ∙ ap (λ (b : Bool). cond b 1 0) (c.passes.ensures.passes ∙ free) in
    let more = length-filter_below_more (is_free p entries) place in
    let counted = c.loop-place.invariant.counted in
    let grown = take_more entries place 0 c.loop-place-test.true in
    record {
      met = subst (TellsMet p (take (place + 1) entries)) (sym c.passes.ensures.met) (subst (λ (front : List ℕ). TellsMet p front (with_met c.loop-place.met action)) (sym grown)
          (met_more p (take place entries) c.loop-place.met (get_or entries place 0) c.loop-place.invariant.met action is below));
      none = ap (list_any (is_store_fence_at p)) grown ∙ none_more p (take place entries) (get_or entries place 0) action c.loop-place.invariant.none is (sym c.if-is_store_fence.ensures);
      counted = omega (arith, bit, more, counted);
    }
