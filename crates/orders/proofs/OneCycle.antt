-- There is one canonical cycle at most.
use Rattle.std.proofs.Common.{◌≡◌, ◌∙◌, ℕ, ◌≤◌, List, [], ◌∷◌, length, sym, ap, subst, arith}
use Rattle.orders.specs.Cycles.{IsCanonicalCycle, IsFirstShortestCycle, IsLeastOnCycle}
use Rattle.orders.proofs.LeastOrders.{NotAfter-both}

one_start : (E : ℕ → ℕ → Type 0) (a b : ℕ) → IsLeastOnCycle E a → IsLeastOnCycle E b → a ≡ b
one_start E a b p q =
    let low = p.least b q.on_cycle in
    let high = q.least a p.on_cycle in
    omega (arith, low, high)

one_rest : (E : ℕ → ℕ → Type 0) (start : ℕ) (more others : List ℕ) → IsFirstShortestCycle E start more → IsFirstShortestCycle E start others → more ≡ others
one_rest E start more others p q =
    let low = p.shortest others q.is_cycle in
    let high = q.shortest more p.is_cycle in
    NotAfter-both more others (p.first others q.is_cycle (omega (arith, low, high))) (q.first more p.is_cycle (omega (arith, low, high)))

pub one_canonical : (E : ℕ → ℕ → Type 0) (a b : List ℕ) → IsCanonicalCycle E a → IsCanonicalCycle E b → a ≡ b
one_canonical E [] b p q = absurd p
one_canonical E (x ∷ more) [] p q = absurd q
one_canonical E (x ∷ more) (y ∷ others) p q =
    let start = one_start E x y p.0 q.0 in
    let same : more ≡ others = one_rest E x more others p.1 (subst (λ (z : ℕ). IsFirstShortestCycle E z others) (sym start) q.1) in
    ap (λ (z : ℕ). z ∷ more) start ∙ ap (λ (xs : List ℕ). y ∷ xs) same
