-- The list of all nodes of a graph.
use Rattle.std.proofs.Common.{◌≡◌, ◌≢◌, ℕ, zero, suc, ◌<◌, [], ◌∷◌, ◌++◌, length, Contains, All, AllPairs, sym, subst, arith, refl, ⊎_elim}
use Rattle.std.proofs.lemmas.List.{length_push}
use Rattle.std.proofs.lemmas.List.Elements.{All-nil, All-push, All-weaker, Contains-append_left, Contains-push}
use Rattle.std.proofs.lemmas.List.Quantifiers.{all_pairs_push}
use Rattle.std.proofs.lemmas.Bool.{cases_eq}
use Rattle.orders.specs.Orders.{nodes_below}

-- there are n of them
pub length-below : (n : ℕ) → length (nodes_below n) ≡ n
length-below zero = refl
length-below (suc n) =
    let longer = length_push (nodes_below n) n in
    let rest = length-below n in
    omega (arith, longer, rest)

-- each is below n
pub all-below : (n : ℕ) → All (λ x. x < n) (nodes_below n)
all-below zero = All-nil (λ x. x < 0)
all-below (suc n) = All-push (λ x. x < suc n) (nodes_below n) n (All-weaker (λ x. x < n) (λ x. x < suc n) (λ x lt. omega (arith, lt)) (nodes_below n) (all-below n)) (omega arith)

-- each stands once
pub once-below : (n : ℕ) → AllPairs (λ a b. a ≢ b) (nodes_below n)
once-below zero = λ i j d lt below. absurd (omega (arith, below))
once-below (suc n) = all_pairs_push (λ a b. a ≢ b) (nodes_below n) n (once-below n)
    (λ k d lt same. let below = all-below n k d lt in omega (arith, below, same))

-- each number below n stands there
pub has-below : (n x : ℕ) → x < n → Contains (nodes_below n) x
has-below zero x lt = absurd (omega (arith, lt))
has-below (suc n) x lt = ⊎_elim
    (λ (same : x ≡ n). subst (Contains (nodes_below n ++ n ∷ [])) (sym same) (Contains-push (nodes_below n) n))
    (λ other. Contains-append_left (nodes_below n) (n ∷ []) x (has-below n x (omega (arith, lt, other))))
    (cases_eq x n)
