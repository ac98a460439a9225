-- A least order is the only one.
use Rattle.std.proofs.Common.{◌≡◌, ◌∙◌, ℕ, ◌<◌, List, [], ◌∷◌, refl, ap, arith, ⊎_elim}
use Rattle.orders.specs.Orders.{IsLeastOrder, NotAfter}

-- two lists that aren't after each other are the same
pub NotAfter-both : (xs ys : List ℕ) → NotAfter xs ys → NotAfter ys xs → xs ≡ ys
NotAfter-both [] [] p q = refl
NotAfter-both [] (y ∷ ys) p q = absurd q
NotAfter-both (x ∷ xs) [] p q = absurd p
NotAfter-both (x ∷ xs) (y ∷ ys) p q =
    ⊎_elim
    (λ (lt : x < y). ⊎_elim (λ (gt : y < x). absurd (omega (arith, lt, gt))) (λ (r : (y ≡ x) × NotAfter ys xs). let same = r.0 in absurd (omega (arith, lt, same))) q)
    (λ (l : (x ≡ y) × NotAfter xs ys). ⊎_elim
    (λ (gt : y < x). let same = l.0 in absurd (omega (arith, gt, same)))
    (λ (r : (y ≡ x) × NotAfter ys xs). ap (λ (m : ℕ). m ∷ xs) l.0 ∙ ap (λ (zs : List ℕ). y ∷ zs) (NotAfter-both xs ys l.1 r.1))
    q)
    p

pub one_least : (E : ℕ → ℕ → Type 0) (nodes a b : List ℕ) → IsLeastOrder E nodes a → IsLeastOrder E nodes b → a ≡ b
one_least E nodes a b p q = NotAfter-both a b (p.least b q.is_order) (q.least a p.is_order)
