-- How the digits of a numeral are read, a byte at a time, with the number held down.
use Rattle.std.proofs.Common.{◌≡◌, ℕ, suc, ◌+◌, ◌-◌, ◌*◌, ◌<◌, List, [], ◌∷◌, Bool, true, false, length, drop, get_or, ap, arith, ◌∙◌, sym, cond, add-one, drop-cons}
use Rattle.std.specs.Char.{is_ascii_digit}
use Rattle.test_lang.specs.Text.Numeral.{digits_at, held, held_front}

-- Numbers that are held as one stay so behind more digits.
pub digits_at-held : (m n : ℕ) (xs : List ℕ) → held m ≡ held n → held_front (digits_at m xs) ≡ held_front (digits_at n xs)
digits_at-held m n [] e = ap (λ (k : ℕ). (k, [])) e
digits_at-held m n (c ∷ cs) e =
    elim (is_ascii_digit c) as (λ b. held_front (cond b (digits_at (10 * m + (c - 48)) cs) (m, c ∷ cs)) ≡ held_front (cond b (digits_at (10 * n + (c - 48)) cs) (n, c ∷ cs))) [
      | true ↦ digits_at-held (10 * m + (c - 48)) (10 * n + (c - 48)) cs (omega arith)
      | false ↦ ap (λ (k : ℕ). (k, c ∷ cs)) e
    ]

module _ (n at : ℕ) (text : List ℕ) (within : at < length text) where
  digits_at-digit : is_ascii_digit (get_or text at 0) ≡ true → digits_at n (drop at text) ≡ digits_at (10 * n + (get_or text at 0 - 48)) (drop (at + 1) text)
  digits_at-digit digit = rw (add-one, drop-cons text at 0) (ap (λ (b : Bool). cond b (digits_at (10 * n + (get_or text at 0 - 48)) (drop (suc at) text)) (n, get_or text at 0 ∷ drop (suc at) text)) digit)

  -- Behind the last digit the number stands.
  pub digits_at-other : is_ascii_digit (get_or text at 0) ≡ false → digits_at n (drop at text) ≡ (n, drop at text)
  digits_at-other other = rw (drop-cons text at 0) (ap (λ (b : Bool). cond b (digits_at (10 * n + (get_or text at 0 - 48)) (drop (suc at) text)) (n, get_or text at 0 ∷ drop (suc at) text)) other)

  -- One digit more, and the number held down, leave what is read in all.
  pub digits_at-step : (next : ℕ) (whole : ℕ × List ℕ) → next ≡ held (10 * n + (get_or text at 0 - 48)) → is_ascii_digit (get_or text at 0) ≡ true
      → held_front (digits_at n (drop at text)) ≡ held_front whole → held_front (digits_at next (drop (at + 1) text)) ≡ held_front whole
  digits_at-step next whole e digit so_far =
      digits_at-held next (10 * n + (get_or text at 0 - 48)) (drop (at + 1) text) (omega arith) ∙ sym (ap held_front (digits_at-digit digit)) ∙ so_far
