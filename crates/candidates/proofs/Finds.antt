-- The place of a value in a list.
use Rattle.std.proofs.Common.{◌≡◌, ◌∙◌, ◌↔◌, ℕ, suc, ◌+◌, ◌<◌, List, [], ◌∷◌, ◌++◌, length, get_or, false, Contains, Option, None, Some, refl, ap, arith, sym}
use Rattle.std.specs.Prelude.{◌==◌, position, nat_lt, slice_get}
use Rattle.std.specs.List.{position_or_len}
use Rattle.std.specs.Option.{IsNone}
use Rattle.std.proofs.lemmas.Bool.{eq-eqb, ne_eqb, le-ltb, lt-ltb, cond-true, cond-false}
use Rattle.std.proofs.lemmas.List.Sums.{position_or_len_is}
use Rattle.std.proofs.lemmas.Option.{get_or_from_slice_get, same_Some, slice_get-get_or, slice_get_within}
use Rattle.candidates.specs.ByRank.{FindsPlace}

pub slice_get_right : {X : Type 0} (xs ys : List X) (n : ℕ) → slice_get (xs ++ ys) (length xs + n) ≡ slice_get ys n
slice_get_right [] ys n = let same : 0 + n ≡ n = omega arith in ap (slice_get ys) same
slice_get_right (x ∷ xs) ys n = let next : length (x ∷ xs) + n ≡ suc (length xs + n) = omega arith in ap (slice_get ((x ∷ xs) ++ ys)) next ∙ slice_get_right xs ys n

-- the place of a value in a list, if it stands there

some_place : (xs : List ℕ) (value k : ℕ) → k < length xs → get_or xs k 0 ≡ value → slice_get xs k ≡ Some value
some_place xs value k lt e = slice_get-get_or xs k 0 lt ∙ ap Some e

-- what is not the value at a place
not_there : (xs : List ℕ) (value k : ℕ) → k < length xs → (slice_get xs k ≡ Some value → ⊥) → (get_or xs k 0 == value) ≡ false
not_there xs value k lt lacks = ne_eqb (get_or xs k 0) value (λ e. lacks (some_place xs value k lt e))

pub finds-position : (xs : List ℕ) (value : ℕ) (result : Option ℕ) → FindsPlace xs value result → result ≡ position (λ x. x == value) xs
finds-position xs value None f =
    let at = position_or_len_is (λ x. x == value) xs (length xs) 0 (omega arith)
    (λ k lt. not_there xs value k lt (λ e. let no_place = (f.finds k).1 e in absurd cc)) (λ lt. absurd (omega (arith, lt))) in
    sym (cond-false (nat_lt (position_or_len (λ x. x == value) xs) (length xs)) (Some (position_or_len (λ x. x == value) xs)) None (le-ltb (position_or_len (λ x. x == value) xs) (length xs) (omega (arith, at))))
finds-position xs value (Some k) f =
    let here = (f.finds k).0 refl in
    let within = slice_get_within xs k value here in
    let at = position_or_len_is (λ x. x == value) xs k 0 (omega (arith, within))
    (λ j lt. not_there xs value j (omega (arith, lt, within)) (λ e. let same = same_Some k j ((f.finds j).1 e) in absurd (omega (arith, lt, same))))
    (λ lt. eq-eqb (get_or xs k 0) value (get_or_from_slice_get xs k value 0 here)) in
    ap Some (sym at) ∙ sym (cond-true (nat_lt (position_or_len (λ x. x == value) xs) (length xs)) (Some (position_or_len (λ x. x == value) xs)) None (lt-ltb (position_or_len (λ x. x == value) xs) (length xs) (omega (arith, at, within))))

pub finds-lacks : (xs : List ℕ) (value : ℕ) → FindsPlace xs value None → Contains xs value → ⊥
finds-lacks xs value f h = let here = (f.finds h.0).1 (slice_get-get_or xs h.0 value h.1 ∙ ap Some h.2) in absurd cc

pub finds-contains : (xs : List ℕ) (value k : ℕ) → FindsPlace xs value (Some k) → Contains xs value
finds-contains xs value k f =
    let here = (f.finds k).0 refl in
    (k, slice_get_within xs k value here, get_or_from_slice_get xs k value value here)

pub finds-none : (xs : List ℕ) (value : ℕ) (result : Option ℕ) → FindsPlace xs value result → IsNone result ↔ (Contains xs value → ⊥)
finds-none xs value None f = (λ h. finds-lacks xs value f, λ lacks. refl)
finds-none xs value (Some k) f = (λ h. absurd cc, λ lacks. absurd (lacks (finds-contains xs value k f)))

-- in a list that has no value twice

pub finds_here : (xs : List ℕ) (value k : ℕ) → ((i j : ℕ) → slice_get xs i ≡ Some value → slice_get xs j ≡ Some value → i ≡ j) → slice_get xs k ≡ Some value → FindsPlace xs value (Some k)
finds_here xs value k once here = record { finds = λ n. (λ e. ap (slice_get xs) (sym (same_Some k n e)) ∙ here, λ e. ap Some (once k n here e)) }

pub finds_nowhere : (xs : List ℕ) (value : ℕ) → ((k : ℕ) → slice_get xs k ≡ Some value → ⊥) → FindsPlace xs value None
finds_nowhere xs value lacks = record { finds = λ k. (λ e. absurd cc, λ e. absurd (lacks k e)) }
