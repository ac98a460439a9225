-- Lists joined in order, piece by piece.
use Rattle.std.proofs.Common.{◌≡◌, ◌∙◌, ℕ, zero, suc, ◌+◌, ◌<◌, ◌≤◌, List, [], ◌∷◌, ◌++◌, take, drop, length, get_or, Contains, refl, ap, arith, sym, length-append}
use Rattle.std.specs.List.{concat, flat_map}
use Rattle.std.proofs.Math.Seq.{take-append_seam, drop-append_seam, drop-append-add}
use Rattle.std.proofs.lemmas.List.Folds.{concat-append}
use Rattle.std.proofs.lemmas.List.Concat.{flat_map-cons}
use Rattle.std.proofs.lemmas.List.Elements.{Contains-append_left, Contains-append_right}

-- equal lists of two pieces of equal lengths have equal pieces
pub same_front : {X : Type 0} (a c b d : List X) → length a ≡ length c → a ++ b ≡ c ++ d → a ≡ c
same_front a c b d long e = sym (take-append_seam a b) ∙ ap (take (length a)) e ∙ ap (λ n. take n (c ++ d)) long ∙ take-append_seam c d

pub same_back : {X : Type 0} (a c b d : List X) → length a ≡ length c → a ++ b ≡ c ++ d → b ≡ d
same_back a c b d long e = sym (drop-append_seam a b) ∙ ap (drop (length a)) e ∙ ap (λ n. drop n (c ++ d)) long ∙ drop-append_seam c d

-- a joined list of joined lists
pub concat-flat_map : {X : Type 0} (f : X → List (List ℕ)) (xs : List X) → concat (flat_map f xs) ≡ flat_map (λ x. concat (f x)) xs
concat-flat_map f [] = refl
concat-flat_map f (x ∷ xs) =
    ap concat (flat_map-cons f x xs) ∙ concat-append (f x) (flat_map f xs) ∙ ap (λ rest. concat (f x) ++ rest) (concat-flat_map f xs) ∙ sym (flat_map-cons (λ y. concat (f y)) x xs)

-- where the pieces before a place end
abbrev pub start_of : List (List ℕ) → ℕ → ℕ
start_of pieces k = length (concat (take k pieces))

pub start_of-suc : (pieces : List (List ℕ)) (k : ℕ) → start_of pieces (suc k) ≡ start_of pieces k + length (get_or pieces k [])
start_of-suc [] zero = refl
start_of-suc [] (suc k) = refl
start_of-suc (piece ∷ pieces) zero = let one = length-append piece [] in omega (arith, one)
start_of-suc (piece ∷ pieces) (suc k) =
    let long = length-append piece (concat (take (suc k) pieces)) in
    let short = length-append piece (concat (take k pieces)) in
    let rest = start_of-suc pieces k in
    omega (arith, long, short, rest)

-- the piece at a place stands in the joined list
pub piece_at : (pieces : List (List ℕ)) (k : ℕ) → k < length pieces → take (length (get_or pieces k [])) (drop (start_of pieces k) (concat pieces)) ≡ get_or pieces k []
piece_at [] k lt = absurd (omega (arith, lt))
piece_at (piece ∷ pieces) zero lt = take-append_seam piece (concat pieces)
piece_at (piece ∷ pieces) (suc k) lt =
    let there = length-append piece (concat (take k pieces)) in
    ap (take (length (get_or pieces k []))) (ap (λ n. drop n (piece ++ concat pieces)) there ∙ drop-append-add piece (concat pieces) (start_of pieces k)) ∙ piece_at pieces k (omega (arith, lt))

pub start_of-le : (pieces : List (List ℕ)) (k : ℕ) → start_of pieces k ≤ length (concat pieces)
start_of-le [] zero = omega arith
start_of-le [] (suc k) = omega arith
start_of-le (piece ∷ pieces) zero = omega arith
start_of-le (piece ∷ pieces) (suc k) =
    let short = length-append piece (concat (take k pieces)) in
    let long = length-append piece (concat pieces) in
    let rest = start_of-le pieces k in
    omega (arith, short, long, rest)

-- what a piece has, the joined list has
pub Contains-concat : (pieces : List (List ℕ)) (k x : ℕ) → k < length pieces → Contains (get_or pieces k []) x → Contains (concat pieces) x
Contains-concat [] k x lt h = absurd (omega (arith, lt))
Contains-concat (piece ∷ pieces) zero x lt h = Contains-append_left piece (concat pieces) x h
Contains-concat (piece ∷ pieces) (suc k) x lt h = Contains-append_right piece (concat pieces) x (Contains-concat pieces k x (omega (arith, lt)) h)
