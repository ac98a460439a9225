-- Each n-th element of a list, and what all those lists have together.
use Rattle.std.proofs.Common.{◌≡◌, ◌∙◌, ℕ, zero, suc, ◌+◌, ◌≤◌, List, [], ◌∷◌, length, Some, refl, sym, ap, arith}
use Rattle.std.specs.Prelude.{slice_get}
use Rattle.std.proofs.lemmas.Option.{same_Some}
use Rattle.runner.specs.Runners.{each_nth}

pub each_nth-next : {X : Type 0} (m run : ℕ) (xs : List X) (x : X) → slice_get xs run ≡ Some x → each_nth (suc m) run xs ≡ x ∷ each_nth (suc m) (run + suc m) xs
each_nth-next m run [] x e = absurd cc
each_nth-next m zero (y ∷ ys) x e =
    let first : y ≡ x = same_Some y x e in
    let n : 0 + suc m ≡ suc m = omega arith in
    ap (λ z. z ∷ each_nth (suc m) m ys) first ∙ ap (λ (k : ℕ). x ∷ each_nth (suc m) k (y ∷ ys)) (sym n)
each_nth-next m (suc r) (y ∷ ys) x e =
    let n : suc r + suc m ≡ suc (r + suc m) = omega arith in
    each_nth-next m r ys x e ∙ ap (λ (k : ℕ). x ∷ each_nth (suc m) k (y ∷ ys)) (sym n)

pub each_nth-past : {X : Type 0} (n run : ℕ) (xs : List X) → length xs ≤ run → each_nth n run xs ≡ []
each_nth-past n run [] past = refl
each_nth-past n zero (x ∷ xs) past = absurd (omega (arith, past))
each_nth-past n (suc r) (x ∷ xs) past = each_nth-past n r xs (omega (arith, past))
