-- Where the first line of a text ends.
use Rattle.std.proofs.Common.{◌≡◌, ◌≢◌, ℕ, zero, suc, ◌+◌, ◌-◌, ◌<◌, List, [], ◌∷◌, Bool, true, false, length, drop, take, get_or, refl, ap, arith, ◌∙◌, cond, Some, None, eqb, add-one}
use Rattle.std.proofs.lemmas.Bool.{ne_eqb, eq-eqb}
use Rattle.std.proofs.lemmas.List.{take_rest}
use Rattle.memchr.specs.Find.{IsFirstByte, is_byte}
use Rattle.test_lang.specs.Text.Line.{first_line, line_on}

first_line-more : (c : ℕ) (cs : List ℕ) → eqb c 10 ≡ false → first_line (c ∷ cs) ≡ line_on c (first_line cs)
first_line-more c cs other = ap (λ (b : Bool). cond b (Some ([], cs)) (line_on c (first_line cs))) other

first_line-none : (text : List ℕ) → ((k : ℕ) → k < length text → eqb (get_or text k 0) 10 ≡ true → ⊥) → first_line text ≡ None
first_line-none [] h = refl
first_line-none (c ∷ cs) h =
    let other : c ≢ 10 = λ e. h 0 (omega arith) (eq-eqb c 10 e) in
    first_line-more c cs (ne_eqb c 10 other) ∙ ap (line_on c) (first_line-none cs (λ k lt feed. h (suc k) (omega arith) feed))

first_line-some : (end : ℕ) (text : List ℕ) → end < length text → eqb (get_or text end 0) 10 ≡ true → ((k : ℕ) → k < end → eqb (get_or text k 0) 10 ≡ true → ⊥)
    → first_line text ≡ Some (take end text, drop (suc end) text)
first_line-some end [] lt feed h = absurd (omega arith)
first_line-some zero (c ∷ cs) lt feed h = ap (λ (b : Bool). cond b (Some ([], cs)) (line_on c (first_line cs))) feed
first_line-some (suc end) (c ∷ cs) lt feed h =
    let other : c ≢ 10 = λ e. h 0 (omega arith) (eq-eqb c 10 e) in
    first_line-more c cs (ne_eqb c 10 other) ∙ ap (line_on c) (first_line-some end cs (omega arith) feed (λ k less at. h (suc k) (omega arith) at))

-- The first line from what a search for the line feed found.
pub first_line-unclosed : (text : List ℕ) → IsFirstByte (is_byte 10) text None → first_line text ≡ None
first_line-unclosed text h = first_line-none text (λ k lt feed. h k (omega arith) lt feed)

pub first_line-closed : (text : List ℕ) (end : ℕ) → IsFirstByte (is_byte 10) text (Some end)
    → first_line text ≡ Some (take end text, take (length text - (end + 1)) (drop (end + 1) text))
first_line-closed text end h =
    let lt = h.0.high in
    let before : (k : ℕ) → k < end → eqb (get_or text k 0) 10 ≡ true → ⊥ = λ k less feed. h.0.before k (omega arith) less feed in
    rw (take_rest, add-one) (first_line-some end text lt h.1 before)
