use Rattle.std.proofs.Common.{◌≡◌, ℕ, List, [], ◌∷◌, length, refl, arith}
use Rattle.run_text.proofs.Steps.{so_far-step, so_far-no_space, so_far-no_numeral, so_far-end}
use Rattle.run_text.proofs.parts.read_parts.Goals as goal

pub returns-then-first-ne32-clause-exact : goal.returns-then-first-ne32-clause-exact
returns-then-first-ne32-clause-exact c = so_far-no_space _ _ _ _ _ _ _ c.parts.invariant.1 _ _ c.in-Some.ensures.cases.0 c.if-first-ne32.true

pub returns-in_default-numeral-clause-exact : goal.returns-in_default-numeral-clause-exact
returns-in_default-numeral-clause-exact c = so_far-no_numeral _ _ _ _ _ _ _ c.parts.invariant.1 _ _ c.in-Some.ensures.cases.0 c.if-first-ne32.false c.in_default-numeral.ensures.exact

pub parts-preserved : goal.parts-preserved
parts-preserved c =
    so_far-step _ _ _ _ _ _ _ c.parts.invariant.1 _ _ c.in-Some.ensures.cases.0 c.if-first-ne32.false (c.in-Some-numeral.value, c.in-Some-numeral.rest.now)
    c.in-Some-numeral.ensures.exact c.in-Some-numeral.ensures.shorter _ c.in_ok-add.ensures.values _ c.in_ok-add.ensures.found

empty : (xs : List ℕ) → length xs ≡ 0 → xs ≡ []
empty [] e = refl
empty (c ∷ cs) e = absurd (omega (arith, e))

pub returns-clause-exact : goal.returns-clause-exact
returns-clause-exact c = so_far-end _ _ _ _ _ _ _ c.parts.invariant.1 (empty _ c.in_default.ensures.cases)
