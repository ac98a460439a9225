-- Nodes by their places in a list.
use Rattle.std.proofs.Common.{◌≡◌, ◌≢◌, ◌⊎◌, ℕ, suc, ◌<◌, ◌≤◌, List, [], ◌∷◌, ◌++◌, length, get_or, Contains, AllPairs, inl, inr, arith, refl, sym, subst, ◌∙◌}
use Rattle.std.proofs.lemmas.List.{get_or_default}
use Rattle.orders.proofs.Distinct.{IsDistinct, distinct_of_pairs, length-parted, left_of, parted}
use Rattle.orders.proofs.Members.{Contains-head, Contains-tail}

pub le_or_lt : (m n : ℕ) → (m ≤ n) ⊎ (n < m)
le_or_lt m n = grind arith

-- the place of a node
pub place_in : (xs : List ℕ) (x : ℕ) → Contains xs x → (i : ℕ) × (i < length xs) × (get_or xs i 0 ≡ x)
place_in xs x h = (h.0, h.1, get_or_default xs h.0 0 x h.1 ∙ h.2)

-- the node at a place
pub node_at : (xs : List ℕ) (i : ℕ) → i < length xs → Contains xs (get_or xs i 0)
node_at xs i below = (i, below, get_or_default xs i (get_or xs i 0) 0 below)

pub stands_at : (xs : List ℕ) (i x : ℕ) → i < length xs → get_or xs i 0 ≡ x → Contains xs x
stands_at xs i x below same = subst (Contains xs) same (node_at xs i below)

-- each node has one place
pub one_place : (xs : List ℕ) → AllPairs (λ a b. a ≢ b) xs → (i j : ℕ) → i < length xs → j < length xs → get_or xs i 0 ≡ get_or xs j 0 → i ≡ j
one_place xs once i j below below' same = elim (le_or_lt i j) [
  | inl le ↦ elim (le_or_lt j i) [
    | inl le' ↦ omega (arith, le, le')
    | inr lt ↦ absurd (once i j 0 lt below' same)
  ]
  | inr lt ↦ absurd (once j i 0 lt below (sym same))
]

-- distinct nodes that all stand in a list are no more than its length
pub length-among : (xs ys : List ℕ) → IsDistinct xs → ((x : ℕ) → Contains xs x → Contains ys x) → length xs ≤ length ys
length-among [] ys distinct among = omega arith
length-among (x ∷ xs) ys distinct among =
    let at = parted ys x (among x (Contains-head x xs x refl)) in
    let rest : length xs ≤ length (at.0 ++ at.1) = length-among xs (at.0 ++ at.1) distinct.1 (λ z here.
    elim (left_of at.0 x at.1 z (subst (λ (zs : List ℕ). Contains zs z) at.2 (among z (Contains-tail x xs z here)))) [
      | inl same ↦ absurd (distinct.0 (subst (Contains xs) (sym same) here))
      | inr other ↦ other
    ]) in
    let whole = length-parted at.0 x at.1 in
    subst (λ (zs : List ℕ). suc (length xs) ≤ length zs) (sym at.2) (omega (arith, rest, whole))

-- lists of the same nodes, each once, are equally long
pub same_length : (xs ys : List ℕ) → AllPairs (λ a b. a ≢ b) xs → AllPairs (λ a b. a ≢ b) ys → ((x : ℕ) → Contains xs x → Contains ys x) → ((x : ℕ) → Contains ys x → Contains xs x) → length xs ≡ length ys
same_length xs ys once once' among among' =
    let few = length-among xs ys (distinct_of_pairs xs once) among in
    let many = length-among ys xs (distinct_of_pairs ys once') among' in
    omega (arith, few, many)
