use Rattle.std.proofs.Common.{◌≡◌, ◌∙◌, ℕ, ◌+◌, ◌-◌, ◌<◌, List, [], drop, length, ap, sym, arith}
use Rattle.std.specs.Prelude.{filter, None}
use Rattle.std.specs.List.{last_or}
use Rattle.std.proofs.lemmas.List.{drop_all}
use Rattle.test_lang.specs.Play.States.{stores_to}
use Rattle.tso_machine.proofs.Forwarding.{last_at, none_behind}
use Rattle.tso_machine.proofs.newest.newest_store.Goals as goal

pub loop-place-init : goal.loop-place-init
loop-place-init c = record { within = omega arith; none = ap (filter (stores_to c.args.test.now c.args.word)) (drop_all (length c.args.entries.now) c.args.entries.now (omega arith)) }

pub bounds-entries-place : goal.bounds-entries-place
bounds-entries-place c = let within = c.loop-place.invariant.within in let some = c.loop-place-test.true in omega (arith, within, some)

pub stores_to-requires : goal.stores_to-requires
stores_to-requires c = let within = c.loop-place.invariant.within in let some = c.loop-place-test.true in c.requires (c.loop-place.place - 1) 0 (omega (arith, within, some))

rest : (test : ℕ → _) (xs : List ℕ) (k : ℕ) → 0 < k → filter test (drop k xs) ≡ [] → filter test (drop (k - 1 + 1) xs) ≡ []
rest test xs k some none = let same : k - 1 + 1 ≡ k = omega (arith, some) in ap (λ (n : ℕ). filter test (drop n xs)) same ∙ none

pub returns-then-stores_to : goal.returns-then-stores_to
returns-then-stores_to c =
    let within = c.loop-place.invariant.within in
    let some = c.loop-place-test.true in
    sym (last_at (stores_to c.args.test.now c.args.word) c.args.entries.now (c.loop-place.place - 1) (omega (arith, within, some))
    (sym c.if-stores_to.ensures) (rest (stores_to c.args.test.now c.args.word) c.args.entries.now c.loop-place.place some c.loop-place.invariant.none))

pub loop-place-preserved : goal.loop-place-preserved
loop-place-preserved c =
    let within = c.loop-place.invariant.within in
    let some = c.loop-place-test.true in
    record {
      within = omega (arith, within);
      none = none_behind (stores_to c.args.test.now c.args.word) c.args.entries.now (c.loop-place.place - 1) (omega (arith, within, some))
          (sym c.if-stores_to.ensures) (rest (stores_to c.args.test.now c.args.word) c.args.entries.now c.loop-place.place some c.loop-place.invariant.none);
    }

pub returns : goal.returns
returns c =
    let past = c.loop-place-test.false in
    let zero_is : c.loop-place.place ≡ 0 = omega (arith, past) in
    sym (ap (last_or None) (sym (ap (λ (n : ℕ). filter (stores_to c.args.test.now c.args.word) (drop n c.args.entries.now)) zero_is) ∙ c.loop-place.invariant.none))
