-- The front of a list that was copied elsewhere, and the rest.
use Rattle.std.proofs.Common.{◌≡◌, ℕ, ◌+◌, ◌≤◌, List, ◌++◌, length, take, drop, sym, ◌∙◌, ap}
use Rattle.std.proofs.lemmas.List.{take_at, take-append-drop, drop-drop, length-take-le}

-- What is left of xs from a place on is its next n items, read back from where they were copied to, and what follows them.
pub copied-rest : (xs left copy others : List ℕ) (place n : ℕ) → left ≡ drop place xs → copy ≡ take n left → n ≤ length left → left ≡ take n (copy ++ others) ++ drop (place + n) xs
copied-rest xs left copy others place n is_left is_copy fits =
    let long : length copy ≡ n = ap length is_copy ∙ length-take-le n left fits in
    sym (take-append-drop n left)
    ∙ ap (λ (front : List ℕ). front ++ drop n left) (sym (take_at copy others n long ∙ is_copy))
    ∙ ap (λ (rest : List ℕ). take n (copy ++ others) ++ rest) (ap (λ (l : List ℕ). drop n l) is_left ∙ drop-drop n place xs)
