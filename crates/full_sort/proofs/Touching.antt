-- Nodes from which an edge leads to a list, one target after another.
use Rattle.std.proofs.Common.{◌⊎◌, ℕ, ◌+◌, ◌<◌, List, [], ◌∷◌, ◌++◌, length, get_or, take, inl, inr, sym, subst}
use Rattle.std.proofs.lemmas.List.{take_more}
use Rattle.std.proofs.lemmas.List.Elements.{Contains-append_left, Contains-push, Contains-push_cases}
use Rattle.digraph.specs.Marks.{MarksSources}
use Rattle.digraph.proofs.Marks.{marks_both, marks_like}
use Rattle.full_sort.specs.Levels.{Touches, AddsLevel}

touches_push : (E : ℕ → ℕ → Type 0) (list : List ℕ) (y x : ℕ) → Touches E x list ⊎ E x y → Touches E x (list ++ y ∷ [])
touches_push E list y x (inl t) = (t.0, Contains-append_left list (y ∷ []) t.0 t.1, t.2)
touches_push E list y x (inr e) = (y, Contains-push list y, e)

touches_push_cases : (E : ℕ → ℕ → Type 0) (list : List ℕ) (y x : ℕ) → Touches E x (list ++ y ∷ []) → Touches E x list ⊎ E x y
touches_push_cases E list y x t = elim (Contains-push_cases list y t.0 t.1) [ inl before ↦ inl (t.0, before, t.2) | inr same ↦ inr (subst (E x) (sym same) t.2) ]

-- one target more
pub adds_more : (E : ℕ → ℕ → Type 0) (level : ℕ) (list : List ℕ) (i : ℕ) (old mid new : List ℕ) → i < length list → AddsLevel E level (take i list) old mid →
    MarksSources E (get_or list i 0) level mid new → AddsLevel E level (take (i + 1) list) old new
adds_more E level list i old mid new lt adds marks =
    let y : ℕ = get_or list i 0 in
    subst (λ (xs : List ℕ). AddsLevel E level xs old new) (sym (take_more list i 0 lt))
    (marks_like (λ x. Touches E x (take i list) ⊎ E x y) (λ x. Touches E x (take i list ++ y ∷ [])) level old new (touches_push E (take i list) y) (touches_push_cases E (take i list) y)
    (marks_both (λ x. Touches E x (take i list)) (λ x. E x y) level old mid new adds marks))
