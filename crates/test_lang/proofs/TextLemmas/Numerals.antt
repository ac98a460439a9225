-- The numeral that is read is the numeral that the bytes spell.
use Rattle.std.proofs.Common.{◌≡◌, ◌≢◌, ℕ, zero, suc, ◌+◌, ◌-◌, ◌*◌, ◌^◌, ◌<◌, ◌≤◌, List, [], ◌∷◌, ◌++◌, Bool, true, false, refl, ap, arith, ◌∙◌, sym, subst, cond, Option, Some, None, eqb, leb, inl, inr, ⊎_elim, length, get_or}
use Rattle.std.proofs.lemmas.Bool.{ne_eqb, eqb-true, eqb-false, and_parts, and_from, leb-true, le-leb}
use Rattle.std.proofs.lemmas.List.{append-nil}
use Rattle.std.proofs.lemmas.Str.Parse.{IsDigitsTest, FoldsDigits, IsNumeralModel, numerals_by_fold}
use Rattle.std.proofs.lemmas.Fmt.{digits_decimal, digits_value-decimal, first_decimal, decimal_digit, decimal-digits_value}
use Rattle.std.specs.Char.{is_ascii_digit}
use Rattle.std.specs.Fmt.{decimal}
use Rattle.test_lang.specs.Text.Line.{IsLine}
use Rattle.test_lang.specs.Text.Numeral.{AreDigits, IsNumeral, value, value_after, IsNumeralOf, NoDigit, StartsWithNumeral, digits_at, numeral_at, if_whole, whole_numeral}
use Rattle.test_lang.proofs.TextLemmas.Choices.{chosen, guarded}

pub digit_in : (c : ℕ) → is_ascii_digit c ≡ true → (48 ≤ c) × (c ≤ 57)
digit_in c e = let parts = and_parts (leb 48 c) (leb c 57) e in (leb-true 48 c parts.0, leb-true c 57 parts.1)

pub in_digit : (c : ℕ) → 48 ≤ c → c ≤ 57 → is_ascii_digit c ≡ true
in_digit c low high = and_from (leb 48 c) (leb c 57) (le-leb 48 c low) (le-leb c 57 high)

-- What the digits at the front are, and that no digit stands behind them.
pub record SpellsDigits (k : ℕ) (bytes : List ℕ) (read : ℕ × List ℕ) : Type 0 where
  pub digits : List ℕ
  pub are_digits : AreDigits digits
  pub number : value_after k digits ≡ read.0
  pub whole : bytes ≡ digits ++ read.1
  pub longest : NoDigit read.1

pub digits_at-spelled : (k : ℕ) (bytes : List ℕ) → SpellsDigits k bytes (digits_at k bytes)
digits_at-spelled k [] = record { digits = []; are_digits = tt; number = refl; whole = refl; longest = tt }
digits_at-spelled k (c ∷ cs) = go (is_ascii_digit c) refl (digits_at-spelled (10 * k + (c - 48)) cs)
  where
    go : (b : Bool) → is_ascii_digit c ≡ b → SpellsDigits (10 * k + (c - 48)) cs (digits_at (10 * k + (c - 48)) cs)
        → SpellsDigits k (c ∷ cs) (cond b (digits_at (10 * k + (c - 48)) cs) (k, c ∷ cs))
    go true e more =
        let bounds = digit_in c e in
        record { digits = c ∷ more.digits; are_digits = (bounds.0, bounds.1, more.are_digits); number = more.number; whole = ap (λ (ys : List ℕ). c ∷ ys) more.whole; longest = more.longest }
    go false e more = record { digits = []; are_digits = tt; number = refl; whole = refl; longest = e }

pub digits_at-of : (k : ℕ) (digits rest : List ℕ) → AreDigits digits → NoDigit rest → digits_at k (digits ++ rest) ≡ (value_after k digits, rest)
digits_at-of k [] [] h longest = refl
digits_at-of k [] (c ∷ cs) h longest = ap (λ (b : Bool). cond b (digits_at (10 * k + (c - 48)) cs) (k, c ∷ cs)) longest
digits_at-of k (c ∷ cs) rest h longest =
    ap (λ (b : Bool). cond b (digits_at (10 * k + (c - 48)) (cs ++ rest)) (k, c ∷ (cs ++ rest))) (in_digit c h.0 h.1)
    ∙ digits_at-of (10 * k + (c - 48)) cs rest h.2 longest

pub numeral_at-spelled : (bytes : List ℕ) (read : ℕ × List ℕ) → numeral_at bytes ≡ Some read → StartsWithNumeral bytes read.0 read.1
numeral_at-spelled [] read e = absurd cc
numeral_at-spelled (c ∷ cs) read e =
    let Goal : ℕ × List ℕ → Type 0 = λ r. StartsWithNumeral (c ∷ cs) r.0 r.1 in
    ⊎_elim
    (λ (zero_here : (eqb c 48 ≡ true) × (Some (0, cs) ≡ Some read)).
    let is : (0, cs) ≡ read = let h = zero_here.1 in cc in
    subst Goal is (record { numeral = 48 ∷ []; is_numeral = record { numeral = inl (refl, refl); number = refl }; whole = ap (λ (n : ℕ). n ∷ cs) (eqb-true c 48 zero_here.0); longest = inl refl }))
    (λ (other : (eqb c 48 ≡ false) × (cond (is_ascii_digit c) (Some (digits_at (c - 48) cs)) None ≡ Some read)).
    let digit = guarded (is_ascii_digit c) (Some (digits_at (c - 48) cs)) read other.1 in
    let bounds = digit_in c digit.0 in
    let not_zero : c ≢ 48 = eqb-false c 48 other.0 in
    let is : digits_at (c - 48) cs ≡ read = let h = digit.1 in cc in
    let more = digits_at-spelled (c - 48) cs in
    let first : 10 * 0 + (c - 48) ≡ c - 48 = omega arith in
    subst Goal is (record {
      numeral = c ∷ more.digits;
      is_numeral = record { numeral = inr (omega arith, bounds.1, more.are_digits); number = ap (λ (n : ℕ). value_after n more.digits) first ∙ more.number };
      whole = ap (λ (ys : List ℕ). c ∷ ys) more.whole;
      longest = inr more.longest;
    }))
    (chosen (eqb c 48) (Some (0, cs)) (cond (is_ascii_digit c) (Some (digits_at (c - 48) cs)) None) (Some read) e)

pub numeral_at-of : (numeral rest : List ℕ) (n : ℕ) → IsNumeralOf n numeral → NoDigit rest → numeral_at (numeral ++ rest) ≡ Some (n, rest)
numeral_at-of [] rest n h longest = absurd (h.numeral)
numeral_at-of (c ∷ cs) rest n h longest = ⊎_elim
    (λ (is : (c ≡ 48) × (cs ≡ [])).
    let zero_is : 0 ≡ n = let spelled : value (48 ∷ []) ≡ n = subst (λ (ys : List ℕ). value ys ≡ n) (ap (λ (k : ℕ). k ∷ cs) (is.0) ∙ ap (λ (ys : List ℕ). 48 ∷ ys) (is.1)) (h.number) in spelled in
    ap (λ (k : ℕ). numeral_at (k ∷ (cs ++ rest))) (is.0) ∙ ap (λ (ys : List ℕ). Some (0, ys ++ rest)) (is.1) ∙ ap (λ (k : ℕ). Some (k, rest)) zero_is)
    (λ (is : (49 ≤ c) × (c ≤ 57) × AreDigits cs).
    let not_zero : c ≢ 48 = λ same. absurd (omega (arith, is.0)) in
    let low : 48 ≤ c = omega (arith, is.0) in
    let first : c - 48 ≡ 10 * 0 + (c - 48) = omega arith in
    ap (λ (b : Bool). cond b (Some (0, cs ++ rest)) (cond (is_ascii_digit c) (Some (digits_at (c - 48) (cs ++ rest))) None)) (ne_eqb c 48 not_zero)
    ∙ ap (λ (b : Bool). cond b (Some (digits_at (c - 48) (cs ++ rest))) None) (in_digit c low (is.1))
    ∙ ap (λ (p : ℕ × List ℕ). Some p) (digits_at-of (c - 48) cs rest (is.2) longest)
    ∙ ap (λ (k : ℕ). Some (value_after k cs, rest)) first ∙ ap (λ (k : ℕ). Some (k, rest)) (h.number))
    (h.numeral)

pub numeral_at-starts : (bytes : List ℕ) (n : ℕ) (rest : List ℕ) → StartsWithNumeral bytes n rest → numeral_at bytes ≡ Some (n, rest)
numeral_at-starts bytes n rest h = ap numeral_at h.whole ∙ ⊎_elim
    (λ (zero_is : h.numeral ≡ 48 ∷ []).
    let number : 0 ≡ n = sym (ap value zero_is) ∙ h.is_numeral.number in
    ap (λ (ys : List ℕ). numeral_at (ys ++ rest)) zero_is ∙ ap (λ (k : ℕ). Some (k, rest)) number)
    (λ (longest : NoDigit rest). numeral_at-of h.numeral rest n h.is_numeral longest)
    h.longest

-- Bytes that are one numeral.

if_whole-is : (read : Option (ℕ × List ℕ)) (n : ℕ) → if_whole read ≡ Some n → read ≡ Some (n, [])
if_whole-is None n e = absurd cc
if_whole-is (Some (m, [])) n e = let same : m ≡ n = cc in ap (λ (k : ℕ). Some (k, [])) same
if_whole-is (Some (m, c ∷ cs)) n e = absurd cc

pub whole_numeral-spelled : (bytes : List ℕ) (n : ℕ) → whole_numeral bytes ≡ Some n → IsNumeralOf n bytes
whole_numeral-spelled bytes n e =
    let is = numeral_at-spelled bytes (n, []) (if_whole-is (numeral_at bytes) n e) in
    subst (IsNumeralOf n) (sym (is.whole ∙ append-nil is.numeral)) is.is_numeral

pub whole_numeral-of : (bytes : List ℕ) (n : ℕ) → IsNumeralOf n bytes → whole_numeral bytes ≡ Some n
whole_numeral-of bytes n h = ap whole_numeral (sym (append-nil bytes)) ∙ ap if_whole (numeral_at-of bytes [] n h tt)

-- A number has one numeral, which is its decimal text.

are_digits : IsDigitsTest AreDigits
are_digits = record { empty = tt; parts = λ c cs h. ((h.0, h.1), h.2); more = λ c cs k h. (k.0, k.1, h) }

folds_digits : FoldsDigits value_after
folds_digits = record { empty = λ n. refl; more = λ n c cs h. let same : 10 * n + (c - 48) ≡ n * 10 + (c - 48) = omega arith in ap (λ (m : ℕ). value_after m cs) same }

own : IsNumeralModel AreDigits (value_after 0)
own = numerals_by_fold AreDigits are_digits value_after folds_digits

numeral-from_digits : (digits : List ℕ) → AreDigits digits → 48 < get_or digits 0 0 → IsNumeral digits
numeral-from_digits [] h some = absurd (omega arith)
numeral-from_digits (c ∷ cs) h some = inr (omega (arith, some), h.1, h.2)

pub decimal-numeral : (n : ℕ) → n < 2 ^ 64 → IsNumeralOf n (decimal n)
decimal-numeral zero small = let digit : 0 < 10 = omega arith in subst (IsNumeralOf 0) (sym (decimal_digit 0 digit)) (record { numeral = inl (refl, refl); number = refl })
decimal-numeral (suc n) small =
    let some : 0 < suc n = omega arith in
    record { numeral = numeral-from_digits (decimal (suc n)) (digits_decimal own (suc n) small) (first_decimal (suc n) some small); number = digits_value-decimal own (suc n) small }

numeral-digits : (bytes : List ℕ) → IsNumeral bytes → AreDigits bytes × (0 < length bytes) × (get_or bytes 0 0 ≡ 48 → length bytes ≡ 1)
numeral-digits [] h = absurd h
numeral-digits (c ∷ cs) h = ⊎_elim
    (λ (is : (c ≡ 48) × (cs ≡ [])). ((omega (arith, is.0), omega (arith, is.0), subst AreDigits (sym (is.1)) tt), omega arith, λ e. ap (λ (ys : List ℕ). suc (length ys)) (is.1)))
    (λ (is : (49 ≤ c) × (c ≤ 57) × AreDigits cs). ((omega (arith, is.0), is.1, is.2), omega arith, λ e. absurd (omega (arith, is.0))))
    h

pub numeral-is_decimal : (bytes : List ℕ) (n : ℕ) → IsNumeralOf n bytes → n < 2 ^ 64 → bytes ≡ decimal n
numeral-is_decimal bytes n h small =
    let are = numeral-digits bytes h.numeral in
    let fits : value bytes < 2 ^ 64 = omega (arith, h.number) in
    sym (decimal-digits_value own bytes (are.0) (are.1) (are.2) fits) ∙ ap decimal h.number

-- No numeral holds a line feed.

IsLine-digits : (digits : List ℕ) → AreDigits digits → IsLine digits
IsLine-digits [] h = tt
IsLine-digits (c ∷ cs) h = (λ same. absurd (omega (arith, h.0)), IsLine-digits cs h.2)

pub IsLine-decimal : (n : ℕ) → n < 2 ^ 64 → IsLine (decimal n)
IsLine-decimal n small = IsLine-digits (decimal n) (digits_decimal own n small)
