-- The nodes of a level, listed one after another.
use Rattle.std.proofs.Common.{◌≡◌, ◌≢◌, ◌∙◌, ◌↔◌, ℕ, ◌+◌, ◌<◌, List, [], ◌∷◌, ◌++◌, length, get_or, set, take, Contains, arith, sym, ap, subst, inl, inr}
use Rattle.std.proofs.lemmas.Bool.{cases_eq}
use Rattle.std.proofs.lemmas.List.{take_more_set}
use Rattle.std.proofs.lemmas.List.Elements.{Contains-append_left, Contains-push, Contains-push_cases}

-- the list has exactly the nodes below m that have the level
abbrev pub Lists : List ℕ → ℕ → List ℕ → ℕ → Type 0
Lists levels level list m = (y : ℕ) → Contains list y ↔ ((y < m) × (get_or levels y 0 ≡ level))

pub lists_none : (levels list : List ℕ) (level : ℕ) → Lists levels level (take 0 list) 0
lists_none levels list level = λ y. ((λ h. let below = h.1 in absurd (omega (arith, below))), (λ h. let lt = h.0 in absurd (omega (arith, lt))))

-- one node more that has the level
pub lists_push : (levels list : List ℕ) (level count node : ℕ) → count < length list → get_or levels node 0 ≡ level → Lists levels level (take count list) node →
    Lists levels level (take (count + 1) (set list count node)) (node + 1)
lists_push levels list level count node room at lists =
    subst (λ (xs : List ℕ). Lists levels level xs (node + 1)) (sym (take_more_set list count node room)) (λ y. (
      (λ h. elim (Contains-push_cases (take count list) node y h) [
        | inl before ↦ let old = (lists y).0 before in let lt = old.0 in (omega (arith, lt), old.1)
        | inr same ↦ (omega (arith, same), ap (λ (z : ℕ). get_or levels z 0) (sym same) ∙ at)
      ]),
      (λ h. elim (cases_eq y node) [
        | inl same ↦ subst (Contains (take count list ++ node ∷ [])) (sym same) (Contains-push (take count list) node)
        | inr other ↦ let lt = h.0 in Contains-append_left (take count list) (node ∷ []) y ((lists y).1 (omega (arith, lt, other), h.1))
      ]),
    ))

-- one node more that hasn't
pub lists_skip : (levels list : List ℕ) (level node : ℕ) → get_or levels node 0 ≢ level → Lists levels level list node → Lists levels level list (node + 1)
lists_skip levels list level node other lists = λ y. (
  (λ h. let old = (lists y).0 h in let lt = old.0 in (omega (arith, lt), old.1)),
  (λ h. elim (cases_eq y node) [
    | inl same ↦ absurd (other (ap (λ (z : ℕ). get_or levels z 0) (sym same) ∙ h.1))
    | inr ne ↦ let lt = h.0 in (lists y).1 (omega (arith, lt, ne), h.1)
  ]),
)
