-- Lists without repeats, by recursion; what is left where an element is taken out.
use Rattle.std.proofs.Common.{◌≡◌, ◌≢◌, ◌⊎◌, ℕ, zero, suc, ◌<◌, List, [], ◌∷◌, ◌++◌, length, get_or, Contains, AllPairs, inl, inr, arith, refl, sym, ap, subst, ◌∙◌}
use Rattle.std.proofs.lemmas.List.{get_or_default}
use Rattle.std.proofs.lemmas.List.Elements.{Contains-append_left, Contains-append_right, Contains-append_cases}
use Rattle.orders.proofs.Members.{Contains-nil, Contains-head, Contains-tail, Contains-cons_cases}

abbrev pub IsDistinct : List ℕ → Type 0
IsDistinct [] = Unit {0}
IsDistinct (x ∷ xs) = (Contains xs x → ⊥) × IsDistinct xs

pairs_at : (x : ℕ) (xs : List ℕ) → (Contains xs x → ⊥) → AllPairs (λ a b. a ≢ b) xs → (i j d : ℕ) → i < j → j < length (x ∷ xs) → get_or (x ∷ xs) i d ≢ get_or (x ∷ xs) j d
pairs_at x xs new rest i zero d lt below same = absurd (omega (arith, lt))
pairs_at x xs new rest zero (suc j) d lt below same = new (j, omega (arith, below), get_or_default xs j x d (omega (arith, below)) ∙ sym same)
pairs_at x xs new rest (suc i) (suc j) d lt below same = rest i j d (omega (arith, lt)) (omega (arith, below)) same

pub pairs_of_distinct : (xs : List ℕ) → IsDistinct xs → AllPairs (λ a b. a ≢ b) xs
pairs_of_distinct [] h = λ i j d lt below. absurd (omega (arith, below))
pairs_of_distinct (x ∷ xs) h = pairs_at x xs h.0 (pairs_of_distinct xs h.1)

pub distinct_of_pairs : (xs : List ℕ) → AllPairs (λ a b. a ≢ b) xs → IsDistinct xs
distinct_of_pairs [] h = tt
distinct_of_pairs (x ∷ xs) h = (
  λ at. let below = at.1 in h 0 (suc at.0) x (omega arith) (omega (arith, below)) (sym at.2),
  distinct_of_pairs xs (λ i j d lt below. h (suc i) (suc j) d (omega (arith, lt)) (omega (arith, below))),
)

-- an element that stands in a list parts it
pub parted : (xs : List ℕ) (x : ℕ) → Contains xs x → (before : List ℕ) × (after : List ℕ) × (xs ≡ before ++ x ∷ after)
parted [] x h = absurd (Contains-nil x h)
parted (y ∷ ys) x h = elim (Contains-cons_cases y ys x h) [
  | inl same ↦ ([], ys, ap (λ (z : ℕ). z ∷ ys) same)
  | inr r ↦ let rest = parted ys x r in (y ∷ rest.0, rest.1, ap (λ (zs : List ℕ). y ∷ zs) rest.2)
]

pub length-parted : (before : List ℕ) (x : ℕ) (after : List ℕ) → length (before ++ x ∷ after) ≡ suc (length (before ++ after))
length-parted [] x after = refl
length-parted (y ∷ before) x after = ap suc (length-parted before x after)

pub Contains-middle : (before : List ℕ) (x : ℕ) (after : List ℕ) → Contains (before ++ x ∷ after) x
Contains-middle before x after = Contains-append_right before (x ∷ after) x (Contains-head x after x refl)

-- what else stands in the list is left
pub left_of : (before : List ℕ) (x : ℕ) (after : List ℕ) (z : ℕ) → Contains (before ++ x ∷ after) z → (x ≡ z) ⊎ Contains (before ++ after) z
left_of before x after z h = elim (Contains-append_cases before (x ∷ after) z h) [
  | inl front ↦ inr (Contains-append_left before after z front)
  | inr back ↦ elim (Contains-cons_cases x after z back) [
    | inl same ↦ inl same
    | inr r ↦ inr (Contains-append_right before after z r)
  ]
]

pub was_there : (before : List ℕ) (x : ℕ) (after : List ℕ) (z : ℕ) → Contains (before ++ after) z → Contains (before ++ x ∷ after) z
was_there before x after z h = elim (Contains-append_cases before after z h) [
  | inl front ↦ Contains-append_left before (x ∷ after) z front
  | inr back ↦ Contains-append_right before (x ∷ after) z (Contains-tail x after z back)
]

-- the element stands once, and no other stands twice
pub distinct_left : (before : List ℕ) (x : ℕ) (after : List ℕ) → IsDistinct (before ++ x ∷ after) → (Contains (before ++ after) x → ⊥) × IsDistinct (before ++ after)
distinct_left [] x after h = h
distinct_left (y ∷ before) x after h =
    let rest = distinct_left before x after h.1 in (
      λ at. elim (Contains-cons_cases y (before ++ after) x at) [
        | inl same ↦ h.0 (subst (Contains (before ++ x ∷ after)) (sym same) (Contains-middle before x after))
        | inr r ↦ rest.0 r
      ],
      ((λ at. h.0 (was_there before x after y at)), rest.1),
    )

-- an element and what stands before it
pub distinct_front : (before : List ℕ) (x : ℕ) (after : List ℕ) → IsDistinct (before ++ x ∷ after) → IsDistinct (x ∷ before)
distinct_front [] x after h = (Contains-nil x, tt)
distinct_front (y ∷ before) x after h =
    let rest = distinct_front before x after h.1 in (
      λ at. elim (Contains-cons_cases y before x at) [
        | inl same ↦ h.0 (subst (Contains (before ++ x ∷ after)) (sym same) (Contains-middle before x after))
        | inr r ↦ rest.0 r
      ],
      ((λ at. h.0 (Contains-append_left before (x ∷ after) y at)), rest.1),
    )
