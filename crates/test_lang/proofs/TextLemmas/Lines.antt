-- The first line of a text, and all its lines.
use Rattle.std.proofs.Common.{◌≡◌, ◌≢◌, ℕ, List, [], ◌∷◌, ◌++◌, Bool, true, false, refl, ap, ◌∙◌, subst, sym, cond, Option, Some, None, eqb, ⊎_elim, append_assoc}
use Rattle.std.proofs.lemmas.Bool.{ne_eqb, eqb-true, eqb-false}
use Rattle.std.specs.List.{AllByRecursion}
use Rattle.test_lang.specs.Text.Line.{IsLine, StartsWithLine, closed, first_line, line_on, lines_of, on_first}
use Rattle.test_lang.proofs.TextLemmas.Choices.{chosen}

line_on_some : (c : ℕ) (o : Option (List ℕ × List ℕ)) (l : List ℕ × List ℕ) → line_on c o ≡ Some l → (m : List ℕ × List ℕ) × (o ≡ Some m) × ((c ∷ m.0, m.1) ≡ l)
line_on_some c None l e = absurd cc
line_on_some c (Some m) l e = (m, refl, cc)

line_on_none : (c : ℕ) (o : Option (List ℕ × List ℕ)) → line_on c o ≡ None → o ≡ None
line_on_none c None e = refl
line_on_none c (Some m) e = absurd cc

-- The first line is the line that the text begins with.
pub first_line-starts : (text : List ℕ) (l : List ℕ × List ℕ) → first_line text ≡ Some l → StartsWithLine text l.0 l.1
first_line-starts [] l e = absurd cc
first_line-starts (c ∷ cs) l e =
    let Goal : List ℕ × List ℕ → Type 0 = λ m. StartsWithLine (c ∷ cs) m.0 m.1 in
    ⊎_elim
    (λ (feed : (eqb c 10 ≡ true) × (Some ([], cs) ≡ Some l)).
    let is : ([], cs) ≡ l = let h = feed.1 in cc in
    subst Goal is (record { no_feed = tt; whole = ap (λ (n : ℕ). n ∷ cs) (eqb-true c 10 feed.0) }))
    (λ (other : (eqb c 10 ≡ false) × (line_on c (first_line cs) ≡ Some l)).
    let rest = line_on_some c (first_line cs) l other.1 in
    let more = first_line-starts cs rest.0 rest.1 in
    subst Goal rest.2 (record { no_feed = (eqb-false c 10 other.0, more.no_feed); whole = ap (λ (ys : List ℕ). c ∷ ys) more.whole }))
    (chosen (eqb c 10) (Some ([], cs)) (line_on c (first_line cs)) (Some l) e)

-- Where there is no first line, no line feed stands in the text.
pub first_line-none_is : (text : List ℕ) → first_line text ≡ None → IsLine text
first_line-none_is [] e = tt
first_line-none_is (c ∷ cs) e = ⊎_elim
    (λ (feed : (eqb c 10 ≡ true) × (Some ([], cs) ≡ None)). let h = feed.1 in absurd cc)
    (λ (other : (eqb c 10 ≡ false) × (line_on c (first_line cs) ≡ None)). (eqb-false c 10 other.0, first_line-none_is cs (line_on_none c (first_line cs) other.1)))
    (chosen (eqb c 10) (Some ([], cs)) (line_on c (first_line cs)) None e)

first_line-more : (c : ℕ) (cs : List ℕ) → c ≢ 10 → first_line (c ∷ cs) ≡ line_on c (first_line cs)
first_line-more c cs other = ap (λ (b : Bool). cond b (Some ([], cs)) (line_on c (first_line cs))) (ne_eqb c 10 other)

first_line-closed_by : (line rest : List ℕ) → IsLine line → first_line (line ++ 10 ∷ rest) ≡ Some (line, rest)
first_line-closed_by [] rest h = refl
first_line-closed_by (c ∷ cs) rest h = first_line-more c (cs ++ 10 ∷ rest) h.0 ∙ ap (line_on c) (first_line-closed_by cs rest h.1)

pub first_line-of : (text line rest : List ℕ) → StartsWithLine text line rest → first_line text ≡ Some (line, rest)
first_line-of text line rest h = ap first_line h.whole ∙ first_line-closed_by line rest h.no_feed

pub first_line-of_none : (text : List ℕ) → IsLine text → first_line text ≡ None
first_line-of_none [] h = refl
first_line-of_none (c ∷ cs) h = first_line-more c cs h.0 ∙ ap (line_on c) (first_line-of_none cs h.1)

-- All lines are the first and those behind it.

lines_of-more : (c : ℕ) (cs : List ℕ) → c ≢ 10 → lines_of (c ∷ cs) ≡ on_first c (lines_of cs)
lines_of-more c cs other = ap (λ (b : Bool). cond b ([] ∷ lines_of cs) (on_first c (lines_of cs))) (ne_eqb c 10 other)

pub lines_of-line : (line rest : List ℕ) → IsLine line → lines_of (line ++ 10 ∷ rest) ≡ line ∷ lines_of rest
lines_of-line [] rest h = refl
lines_of-line (c ∷ cs) rest h = lines_of-more c (cs ++ 10 ∷ rest) h.0 ∙ ap (on_first c) (lines_of-line cs rest h.1)

pub lines_of-none : (text : List ℕ) → IsLine text → lines_of text ≡ []
lines_of-none [] h = refl
lines_of-none (c ∷ cs) h = lines_of-more c cs h.0 ∙ ap (on_first c) (lines_of-none cs h.1)

pub lines_of-closed : (lines : List (List ℕ)) (rest : List ℕ) → AllByRecursion IsLine lines → lines_of (closed lines ++ rest) ≡ lines ++ lines_of rest
lines_of-closed [] rest h = refl
lines_of-closed (line ∷ lines) rest h =
    ap lines_of (append_assoc line (10 ∷ closed lines) rest) ∙ lines_of-line line (closed lines ++ rest) h.0 ∙ ap (λ (ls : List (List ℕ)). line ∷ ls) (lines_of-closed lines rest h.1)

pub closed-append : (before after : List (List ℕ)) → closed (before ++ after) ≡ closed before ++ closed after
closed-append [] after = refl
closed-append (line ∷ lines) after = ap (λ (ys : List ℕ). line ++ 10 ∷ ys) (closed-append lines after) ∙ sym (append_assoc line (10 ∷ closed lines) (closed after))
