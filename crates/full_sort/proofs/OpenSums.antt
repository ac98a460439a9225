-- Sums over the nodes that pass a test, where a list of nodes passes no more.
use Rattle.std.proofs.Common.{◌≡◌, ◌≢◌, ◌∙◌, ℕ, zero, suc, ◌+◌, ◌<◌, ◌≤◌, List, [], ◌∷◌, Bool, true, false, cond, eqb, Contains, refl, sym, ap, arith, inl, inr, ne_eqb}
use Rattle.std.specs.Prelude.{sum_by}
use Rattle.std.proofs.lemmas.Bool.{cases_Bool, cases_eq, eq-eqb}
use Rattle.std.proofs.lemmas.List.Sums.{sum_by-cons, sum_by_push}
use Rattle.orders.proofs.Members.{Contains-head, Contains-tail}
use Rattle.orders.specs.Orders.{nodes_below}
use Rattle.full_sort.specs.Components.{sum_where}
use Rattle.full_sort.proofs.Sums.{IsOnce, once-head, once-tail}

-- a test that passes at fewer nodes has a smaller sum
pub where-le : (p q : ℕ → Bool) (w : ℕ → ℕ) (n : ℕ) → ((t : ℕ) → q t ≡ true → p t ≡ true) → sum_where q w n ≤ sum_where p w n
where-le p q w zero fewer = omega arith
where-le p q w (suc n) fewer =
    let rest = where-le p q w n fewer in
    elim (cases_Bool (q n)) [
      | inl holds ↦ rw (holds, fewer n holds) (omega (arith, rest))
      | inr fails ↦ rw fails (omega (arith, rest))
    ]

-- one node passes no more
pub where-less : (p q : ℕ → Bool) (w : ℕ → ℕ) (n x : ℕ) → x < n → p x ≡ true → q x ≡ false → ((t : ℕ) → t ≢ x → q t ≡ p t) → sum_where p w n ≡ w x + sum_where q w n
where-less p q w zero x lt holds fails others = absurd (omega (arith, lt))
where-less p q w (suc n) x lt holds fails others = elim (cases_eq n x) [
  | inl same ↦
      let here : p n ≡ true = ap p same ∙ holds in
      let gone : q n ≡ false = ap q same ∙ fails in
      let rest = where-same p q w n (λ t below. others t (λ is. absurd (omega (arith, below, is, same)))) in
      let term : w n ≡ w x = ap w same in
      rw (here, gone) (omega (arith, rest, term))
  | inr other ↦
      let rest = where-less p q w n x (omega (arith, lt, other)) holds fails others in
      rw (others n other) (omega (arith, rest))
] where
  where-same : (p q : ℕ → Bool) (w : ℕ → ℕ) (n : ℕ) → ((t : ℕ) → t < n → q t ≡ p t) → sum_where q w n ≡ sum_where p w n
  where-same p q w zero same = refl
  where-same p q w (suc n) same =
      let rest = where-same p q w n (λ t lt. same t (omega (arith, lt))) in
      rw (same n (omega arith)) (omega (arith, rest))

-- the nodes of a list pass no more
pub where-list : (p q : ℕ → Bool) (w : ℕ → ℕ) (n : ℕ) (list : List ℕ) → IsOnce list → ((t : ℕ) → Contains list t → (t < n) × (p t ≡ true) × (q t ≡ false)) → ((t : ℕ) → q t ≡ true → p t ≡ true) →
    sum_by w list + sum_where q w n ≤ sum_where p w n
where-list p q w n [] once gone fewer = let rest = where-le p q w n fewer in omega (arith, rest)
where-list p q w n (x ∷ list) once gone fewer =
    let here = gone x (Contains-head x list x refl) in
    let mid : ℕ → Bool = λ t. cond (eqb t x) false (p t) in
    let less = where-less p mid w n x here.0 here.1 (rw (eq-eqb x x refl) refl) (λ t other. kept t other) in
    let rest = where-list mid q w n list (once-tail x list once)
    (λ t at. let there = gone t (Contains-tail x list t at) in (there.0, kept t (λ same. once-head x list t once at (sym same)) ∙ there.1, there.2))
    (λ t passes. kept t (λ same. absurd cc) ∙ fewer t passes) in
    let parts = sum_by-cons w x list in
    omega (arith, less, rest, parts)
  where
    kept : (t : ℕ) → t ≢ x → cond (eqb t x) false (p t) ≡ p t
    kept t other = rw (ne_eqb t x other) refl

-- no more than all
pub where-all : (p : ℕ → Bool) (w : ℕ → ℕ) (n : ℕ) → sum_where p w n ≤ sum_by w (nodes_below n)
where-all p w zero = omega arith
where-all p w (suc n) =
    let rest = where-all p w n in
    let parts = sum_by_push w (nodes_below n) n in
    elim (cases_Bool (p n)) [
      | inl holds ↦ rw holds (omega (arith, rest, parts))
      | inr fails ↦ rw fails (omega (arith, rest, parts))
    ]
