-- Lists that stand in one, one behind the other.
use Rattle.std.proofs.Common.{◌≡◌, ◌∙◌, ℕ, zero, suc, ◌+◌, ◌-◌, ◌<◌, ◌≤◌, List, [], ◌∷◌, ◌++◌, take, drop, length, get_or, sym, ap, subst, arith, refl, length-append}
use Rattle.std.specs.Prelude.{sum_by}
use Rattle.std.specs.List.{slice_range}
use Rattle.std.proofs.lemmas.List.{drop-append-le, take-append-le, length-drop, length-take, take_all}
use Rattle.std.proofs.lemmas.List.Sums.{sum_by-cons}
use Rattle.std.proofs.Math.Seq.{drop-append_seam}
use Rattle.weak_machine.specs.Lists.{lists_from, lists_of, Rise, AreStarts}

pub rise-le : (from : ℕ) (ends : List ℕ) (total : ℕ) → Rise from ends total → from ≤ total
rise-le from [] total r = omega (arith, r)
rise-le from (end ∷ ends) total r = let first = r.0 in let rest = rise-le end ends total r.1 in omega (arith, first, rest)

length-lists_from : (from : ℕ) (ends flat : List ℕ) → length (lists_from from ends flat) ≡ length ends
length-lists_from from [] flat = refl
length-lists_from from (end ∷ ends) flat = let rest = length-lists_from end ends flat in omega (arith, rest)

pub length-lists : (starts flat : List ℕ) → AreStarts starts flat → length (lists_of starts flat) + 1 ≡ length starts
length-lists [] flat s = absurd s
length-lists (from ∷ ends) flat s = let rest = length-lists_from from ends flat in omega (arith, rest)

-- one list

list-from : (from : ℕ) (ends flat : List ℕ) (k : ℕ) → k < length ends → get_or (lists_from from ends flat) k [] ≡ slice_range flat (get_or (from ∷ ends) k 0) (get_or (from ∷ ends) (k + 1) 0)
list-from from [] flat k lt = absurd (omega (arith, lt))
list-from from (end ∷ ends) flat zero lt = refl
list-from from (end ∷ ends) flat (suc k) lt =
    let next : suc k + 1 ≡ suc (k + 1) = omega arith in
    list-from end ends flat k (omega (arith, lt)) ∙ ap (λ (j : ℕ). slice_range flat (get_or (end ∷ ends) k 0) (get_or (from ∷ end ∷ ends) j 0)) (sym next)

pub list-at : (starts flat : List ℕ) (k : ℕ) → AreStarts starts flat → k < length (lists_of starts flat) → slice_range flat (get_or starts k 0) (get_or starts (k + 1) 0) ≡ get_or (lists_of starts flat) k []
list-at [] flat k s lt = absurd s
list-at (from ∷ ends) flat k s lt = let long = length-lists_from from ends flat in sym (list-from from ends flat k (omega (arith, lt, long)))

-- its bounds
bounds-from : (from : ℕ) (ends : List ℕ) (total k : ℕ) → Rise from ends total → k < length ends → (get_or (from ∷ ends) k 0 ≤ get_or (from ∷ ends) (k + 1) 0) × (get_or (from ∷ ends) (k + 1) 0 ≤ total)
bounds-from from [] total k r lt = absurd (omega (arith, lt))
bounds-from from (end ∷ ends) total zero r lt = (r.0, rise-le end ends total r.1)
bounds-from from (end ∷ ends) total (suc k) r lt =
    let rest = bounds-from end ends total k r.1 (omega (arith, lt)) in
    let next : suc k + 1 ≡ suc (k + 1) = omega arith in
    let same : get_or (from ∷ end ∷ ends) (suc k + 1) 0 ≡ get_or (end ∷ ends) (k + 1) 0 = ap (λ (j : ℕ). get_or (from ∷ end ∷ ends) j 0) next in
    let lower = rest.0 in let upper = rest.1 in
    (omega (arith, lower, same), omega (arith, upper, same))

pub list-bounds : (starts flat : List ℕ) (k : ℕ) → AreStarts starts flat → k < length (lists_of starts flat) → (get_or starts k 0 ≤ get_or starts (k + 1) 0) × (get_or starts (k + 1) 0 ≤ length flat)
list-bounds [] flat k s lt = absurd s
list-bounds (from ∷ ends) flat k s lt = let long = length-lists_from from ends flat in bounds-from from ends (length flat) k s.1 (omega (arith, lt, long))

-- a list is added at the end

range-longer : (flat list : List ℕ) (from end : ℕ) → from ≤ end → end ≤ length flat → slice_range (flat ++ list) from end ≡ slice_range flat from end
range-longer flat list from end low high =
    let long = length-drop from flat in
    ap (take (end - from)) (drop-append-le from flat list (omega (arith, low, high)))
    ∙ take-append-le (end - from) (drop from flat) list (omega (arith, low, high, long))

range-last : (flat list : List ℕ) → slice_range (flat ++ list) (length flat) (length flat + length list) ≡ list
range-last flat list =
    let long : length flat + length list - length flat ≡ length list = omega arith in
    ap (λ (n : ℕ). take n (drop (length flat) (flat ++ list))) long
    ∙ ap (take (length list)) (drop-append_seam flat list)
    ∙ take_all (length list) list (omega arith)

push-from : (from : ℕ) (ends flat list : List ℕ) → Rise from ends (length flat) → lists_from from (ends ++ (length flat + length list) ∷ []) (flat ++ list) ≡ lists_from from ends flat ++ list ∷ []
push-from from [] flat list r =
    ap (λ (n : ℕ). slice_range (flat ++ list) n (length flat + length list) ∷ []) r ∙ ap (λ (xs : List ℕ). xs ∷ []) (range-last flat list)
push-from from (end ∷ ends) flat list r =
    let high = rise-le end ends (length flat) r.1 in
    ap (λ (xs : List ℕ). xs ∷ lists_from end (ends ++ (length flat + length list) ∷ []) (flat ++ list)) (range-longer flat list from end r.0 high)
    ∙ ap (λ (lists : List (List ℕ)). slice_range flat from end ∷ lists) (push-from end ends flat list r.1)

rise-push : (from : ℕ) (ends : List ℕ) (total end : ℕ) → Rise from ends total → total ≤ end → Rise from (ends ++ end ∷ []) end
rise-push from [] total end r le = (omega (arith, r, le), refl)
rise-push from (next ∷ ends) total end r le = (r.0, rise-push next ends total end r.1 le)

pub lists-push : (starts flat list : List ℕ) (end : ℕ) → AreStarts starts flat → end ≡ length (flat ++ list) → lists_of (starts ++ end ∷ []) (flat ++ list) ≡ lists_of starts flat ++ list ∷ []
lists-push [] flat list end s e = absurd s
lists-push (from ∷ ends) flat list end s e = ap (λ (n : ℕ). lists_from from (ends ++ n ∷ []) (flat ++ list)) (e ∙ length-append flat list) ∙ push-from from ends flat list s.1

pub starts-push : (starts flat list : List ℕ) (end : ℕ) → AreStarts starts flat → end ≡ length (flat ++ list) → AreStarts (starts ++ end ∷ []) (flat ++ list)
starts-push [] flat list end s e = absurd s
starts-push (from ∷ ends) flat list end s e =
    (s.0, subst (λ (n : ℕ). Rise from (ends ++ n ∷ []) (length (flat ++ list))) (sym e) at_end) where
      at_end : Rise from (ends ++ length (flat ++ list) ∷ []) (length (flat ++ list))
      at_end = let long = length-append flat list in rise-push from ends (length flat) (length (flat ++ list)) s.1 (omega (arith, long))

-- the lists have as many elements as the flat list

sum-from : (from : ℕ) (ends flat : List ℕ) → Rise from ends (length flat) → from + sum_by length (lists_from from ends flat) ≡ length flat
sum-from from [] flat r = omega (arith, r)
sum-from from (end ∷ ends) flat r =
    let high = rise-le end ends (length flat) r.1 in
    let low = r.0 in
    let rest = sum-from end ends flat r.1 in
    let all = sum_by-cons length (slice_range flat from end) (lists_from end ends flat) in
    let left = length-drop from flat in
    let part = length-take (end - from) (drop from flat) in
    omega (arith, high, low, rest, all, left, part)

pub sum-lists : (starts flat : List ℕ) → AreStarts starts flat → sum_by length (lists_of starts flat) ≡ length flat
sum-lists [] flat s = absurd s
sum-lists (from ∷ ends) flat s = let all = sum-from from ends flat s.1 in let zero_is = s.0 in omega (arith, all, zero_is)
