-- One node more in the list of placed nodes.
use Rattle.std.proofs.Common.{ℕ, ◌+◌, ◌<◌, List, length, get_or, set, take, sym, subst, arith, inl, inr, get_or-set_same, get_or-set_other}
use Rattle.std.proofs.lemmas.List.{take-set, take-set-le}
use Rattle.std.proofs.lemmas.Bool.{cases_eq}
use Rattle.orders.specs.Choices.{IsNext}

module _ (E : ℕ → ℕ → Type 0) (window placed : List ℕ) (k x : ℕ) (room : k < length placed) where
  next-at-end : IsNext E window (take k placed) x → IsNext E window (take k (set placed k x)) (get_or (set placed k x) k 0)
  next-at-end next =
      subst (λ (p : List ℕ). IsNext E window p (get_or (set placed k x) k 0)) (sym (take-set placed k x))
      (subst (IsNext E window (take k placed)) (sym (get_or-set_same placed k x 0 room)) next)

  pub next-more : ((i : ℕ) → i < k → IsNext E window (take i placed) (get_or placed i 0)) → IsNext E window (take k placed) x → (i : ℕ) → i < k + 1 → IsNext E window (take i (set placed k x)) (get_or (set placed k x) i 0)
  next-more before next i lt = elim (cases_eq i k) [
    | inl same ↦ subst (λ (m : ℕ). IsNext E window (take m (set placed k x)) (get_or (set placed k x) m 0)) (sym same) (next-at-end next)
    | inr other ↦
        subst (λ (p : List ℕ). IsNext E window p (get_or (set placed k x) i 0)) (sym (take-set-le i placed k x (omega (arith, lt, other))))
        (subst (IsNext E window (take i placed)) (sym (get_or-set_other placed k i x 0 other)) (before i (omega (arith, lt, other))))
  ]
