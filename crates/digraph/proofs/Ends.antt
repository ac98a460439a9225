-- The edges xs two lists of ends.
use Rattle.std.proofs.Common.{◌≡◌, ℕ, ◌<◌, ◌≤◌, List, [], ◌∷◌, ◌++◌, All, Option, length, get_or, map, take, ◌∙◌, sym, ap, subst, arith, zero, suc, refl}
use Rattle.std.specs.List.{zip}
use Rattle.std.proofs.lemmas.List.{length-take}
use Rattle.std.proofs.lemmas.Slice.Zip.{firsts-zip, seconds-zip, length-zip, get_or-zip}
use Rattle.digraph.specs.Digraph.{IsLastBelow, IsLastOut, IsLastIn, source_of, target_of}
use Rattle.digraph.proofs.Last.{last-same}

-- one edge more, and the first ones alone
pub zip-push : {A B : Type 0} (xs : List A) (ys : List B) (a : A) (b : B) → length ys ≡ length xs → zip (xs ++ a ∷ []) (ys ++ b ∷ []) ≡ zip xs ys ++ (a, b) ∷ []
zip-push [] [] a b same = refl
zip-push [] (y ∷ ys) a b same = absurd (omega (arith, same))
zip-push (x ∷ xs) [] a b same = absurd (omega (arith, same))
zip-push {A} {B} (x ∷ xs) (y ∷ ys) a b same = ap (λ (es : List (A × B)). (x, y) ∷ es) (zip-push xs ys a b (omega (arith, same)))

pub zip-take : {A B : Type 0} (n : ℕ) (xs : List A) (ys : List B) → zip (take n xs) (take n ys) ≡ take n (zip xs ys)
zip-take zero xs ys = refl
zip-take (suc n) [] ys = refl
zip-take (suc n) (x ∷ xs) [] = refl
zip-take {A} {B} (suc n) (x ∷ xs) (y ∷ ys) = ap (λ (es : List (A × B)). (x, y) ∷ es) (zip-take n xs ys)

pub zip-push_all : (xs ys : List ℕ) (es : List (ℕ × ℕ)) → length ys ≡ length xs → zip (xs ++ map (λ e. e.0) es) (ys ++ map (λ e. e.1) es) ≡ zip xs ys ++ es
zip-push_all [] [] es same = zip-ends es
  where
    zip-ends : (es : List (ℕ × ℕ)) → zip (map (λ e. e.0) es) (map (λ e. e.1) es) ≡ es
    zip-ends [] = refl
    zip-ends (e ∷ es) = ap (λ (rest : List (ℕ × ℕ)). e ∷ rest) (zip-ends es)
zip-push_all [] (y ∷ ys) es same = absurd (omega (arith, same))
zip-push_all (x ∷ xs) [] es same = absurd (omega (arith, same))
zip-push_all (x ∷ xs) (y ∷ ys) es same = ap (λ (rest : List (ℕ × ℕ)). (x, y) ∷ rest) (zip-push_all xs ys es (omega (arith, same)))

-- where the edges begin with others, so do their ends
pub zip-begins : (xs ys vs ws : List ℕ) → length ys ≡ length xs → length ws ≡ length vs → take (length vs) (zip xs ys) ≡ zip vs ws → (take (length vs) xs ≡ vs) × (take (length ws) ys ≡ ws)
zip-begins xs ys vs ws long same e =
    let n : ℕ = length vs in
    let taken : zip (take n xs) (take n ys) ≡ zip vs ws = zip-take n xs ys ∙ e in
    let left = length-take n xs in
    let right = length-take n ys in
    let even : length (take n ys) ≡ length (take n xs) = rw (left, right, long) refl in (
      sym (firsts-zip (take n xs) (take n ys) even) ∙ ap (map (λ (p : ℕ × ℕ). p.0)) taken ∙ firsts-zip vs ws same,
      ap (λ (k : ℕ). take k ys) same ∙ sym (seconds-zip (take n xs) (take n ys) even) ∙ ap (map (λ (p : ℕ × ℕ). p.1)) taken ∙ seconds-zip vs ws same,
    )

module _ (xs ys : List ℕ) (same : length ys ≡ length xs) where
  pub zip-count : length (zip xs ys) ≡ length xs
  zip-count = let e = length-zip xs ys in omega (arith, e, same)

  pub zip-source : (k : ℕ) → k < length xs → source_of (zip xs ys) k ≡ get_or xs k 0
  zip-source k lt = ap (λ (e : ℕ × ℕ). e.0) (get_or-zip xs ys k (0, 0) lt (omega (arith, lt, same)))

  pub zip-target : (k : ℕ) → k < length xs → target_of (zip xs ys) k ≡ get_or ys k 0
  zip-target k lt = ap (λ (e : ℕ × ℕ). e.1) (get_or-zip xs ys k (0, 0) lt (omega (arith, lt, same)))

  pub zip-last_out : (node bound : ℕ) (r : Option ℕ) → bound ≤ length xs → IsLastBelow (λ k. get_or xs k 0) node bound r → IsLastOut (zip xs ys) node bound r
  zip-last_out node bound r le last = last-same (λ k. get_or xs k 0) (source_of (zip xs ys)) node bound r (λ k lt. zip-source k (omega (arith, lt, le))) last

  pub zip-last_in : (node bound : ℕ) (r : Option ℕ) → bound ≤ length xs → IsLastBelow (λ k. get_or ys k 0) node bound r → IsLastIn (zip xs ys) node bound r
  zip-last_in node bound r le last = last-same (λ k. get_or ys k 0) (target_of (zip xs ys)) node bound r (λ k lt. zip-target k (omega (arith, lt, le))) last

  pub zip-inside : (nodes : ℕ) → All (λ a. a < nodes) xs → All (λ b. b < nodes) ys → All (λ e. (e.0 < nodes) × (e.1 < nodes)) (zip xs ys)
  zip-inside nodes sources targets k d lt =
      let count = zip-count in
      let e : get_or (zip xs ys) k d ≡ (get_or xs k d.0, get_or ys k d.1) = get_or-zip xs ys k d (omega (arith, lt, count)) (omega (arith, lt, count, same)) in
      subst (λ (e : ℕ × ℕ). (e.0 < nodes) × (e.1 < nodes)) (sym e) (sources k d.0 (omega (arith, lt, count)), targets k d.1 (omega (arith, lt, count, same)))
