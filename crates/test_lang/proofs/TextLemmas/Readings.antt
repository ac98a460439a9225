-- What reading a text gives is what the text means, and the other way round.
use Rattle.std.proofs.Common.{◌≡◌, ◌≢◌, ℕ, ◌<◌, ◌≤◌, List, [], ◌∷◌, ◌++◌, map, Bool, true, false, refl, ap, ◌∙◌, sym, subst, cond, Result, Ok, Err, eqb, length, append_assoc}
use Rattle.std.specs.Prelude.{codes}
use Rattle.std.specs.List.{AllByRecursion, flat_map}
use Rattle.std.proofs.lemmas.Bool.{eqb-true, eqb-false}
use Rattle.test_lang.specs.declared.op.Action.{Action}
use Rattle.test_lang.specs.declared.text.fault.TestFault.{TestFault}
use Rattle.test_lang.specs.declared.text.fault.TestFault.TheVariants.{BadHead, BadWords, BadLine, WordRange, TooManyThreads, TooManyOps, NoThread, NoEnd, Memory}
use Rattle.test_lang.specs.Program.{Program, IsWithinLimits}
use Rattle.test_lang.specs.Text.Line.{IsLine, StartsWithLine, IsInLines, closed, lines_of, on_first}
use Rattle.test_lang.specs.Text.Grammar.{action_line, thread_lines, body_lines, test_lines, test_text, StartsWithTest}
use Rattle.test_lang.specs.Text.Reading.{reading}
use Rattle.test_lang.specs.Text.Refusal.{Begun, nothing, head, behind, begun_lines, IsWellBegun, IsBad, IsBadLine, TextMeans}
use Rattle.test_lang.proofs.TextLemmas.Lines.{lines_of-line, lines_of-none, lines_of-closed, closed-append}
use Rattle.test_lang.proofs.TextLemmas.Forms.{IsLine-head, IsLine-words, IsLine-thread, IsLine-action, IsLine-end}
use Rattle.test_lang.proofs.TextLemmas.Walking.{IsBadRest, below_256}
use Rattle.test_lang.proofs.TextLemmas.Passing.{program, IsFit, fit-threads}
use Rattle.test_lang.proofs.TextLemmas.LinesRead.{LinesMean, lines_mean, mean_lines}

on_first-in_lines : (c : ℕ) (cs : List ℕ) (lines : List (List ℕ)) (rest : List ℕ) → c ≢ 10 → IsInLines cs lines rest → (more : List ℕ) × IsInLines (c ∷ cs) (on_first c lines) more
on_first-in_lines c cs [] rest other h = (c ∷ rest, record { each = tt; unclosed = (other, h.unclosed); whole = ap (λ (ys : List ℕ). c ∷ ys) h.whole })
on_first-in_lines c cs (line ∷ lines) rest other h = (rest, record { each = ((other, h.each.0), h.each.1); unclosed = h.unclosed; whole = ap (λ (ys : List ℕ). c ∷ ys) h.whole })

pub in_lines : (text : List ℕ) → (rest : List ℕ) × IsInLines text (lines_of text) rest
in_lines [] = ([], record { each = tt; unclosed = tt; whole = refl })
in_lines (c ∷ cs) = go (eqb c 10) refl (in_lines cs)
  where
    go : (feed : Bool) → eqb c 10 ≡ feed → (rest : List ℕ) × IsInLines cs (lines_of cs) rest → (rest : List ℕ) × IsInLines (c ∷ cs) (cond feed ([] ∷ lines_of cs) (on_first c (lines_of cs))) rest
    go true e more = (more.0, record { each = (tt, more.1.each); unclosed = more.1.unclosed; whole = ap (λ (n : ℕ). n ∷ cs) (eqb-true c 10 e) ∙ ap (λ (ys : List ℕ). 10 ∷ ys) more.1.whole })
    go false e more = on_first-in_lines c cs (lines_of cs) (more.0) (eqb-false c 10 e) (more.1)

-- lists of lines

each-append : (before after : List (List ℕ)) → AllByRecursion IsLine before → AllByRecursion IsLine after → AllByRecursion IsLine (before ++ after)
each-append [] after h k = k
each-append (line ∷ lines) after h k = (h.0, each-append lines after (h.1) k)

each-behind : (before after : List (List ℕ)) → AllByRecursion IsLine (before ++ after) → AllByRecursion IsLine after
each-behind [] after h = h
each-behind (line ∷ lines) after h = each-behind lines after (h.1)

-- the lines of a test hold no line feed

each-actions : (p : Program) (thread : List Action) → p.words ≤ 256 → AllByRecursion (IsFit p.version p.words) thread → AllByRecursion IsLine (map action_line thread)
each-actions p [] few h = tt
each-actions p (action ∷ thread) few h = (IsLine-action action (below_256 p action few (h.0.0)), each-actions p thread few (h.1))

each-threads : (p : Program) (threads : List (List Action)) → p.words ≤ 256 → AllByRecursion (AllByRecursion (IsFit p.version p.words)) threads → AllByRecursion IsLine (flat_map thread_lines threads)
each-threads p [] few h = tt
each-threads p (thread ∷ more) few h =
    each-append (thread_lines thread) (flat_map thread_lines more) (IsLine-thread, each-actions p thread few (h.0)) (each-threads p more few (h.1))

each-body : (p : Program) → IsWithinLimits p → AllByRecursion IsLine (body_lines p)
each-body p h = each-threads (program p.version p.words []) p.threads h.words (fit-threads p h)

each-test : (p : Program) → IsWithinLimits p → AllByRecursion IsLine (test_lines p)
each-test p h =
    (IsLine-head p.version (h.version.1), (IsLine-words p.words h.words, each-append (body_lines p) (codes "end" ∷ []) (each-body p h) (IsLine-end, tt)))

each-begun : (begun : Begun) → IsWellBegun begun → AllByRecursion IsLine (begun_lines begun)
each-begun nothing h = tt
each-begun (head version) h = (IsLine-head version (h.1), tt)
each-begun (behind p) h = (IsLine-head p.version (h.version.1), (IsLine-words p.words h.words, each-body p h))

-- bad lines and bad bytes

line_starts : (line : List ℕ) (lines : List (List ℕ)) (tail : List ℕ) → IsLine line → StartsWithLine (closed (line ∷ lines) ++ tail) line (closed lines ++ tail)
line_starts line lines tail h = record { no_feed = h; whole = append_assoc line (10 ∷ closed lines) tail }

-- What is so of the first of the lines is so of the first line of the bytes.
first_line_is : (P : List ℕ → Type 0) (lines : List (List ℕ)) (tail : List ℕ) → AllByRecursion IsLine lines → (line : List ℕ) × (rest : List (List ℕ)) × (lines ≡ line ∷ rest) × P line
    → (line : List ℕ) × (rest : List ℕ) × StartsWithLine (closed lines ++ tail) line rest × P line
first_line_is P lines tail each h =
    let first : AllByRecursion IsLine (h.0 ∷ h.1) = subst (AllByRecursion IsLine) (h.2) each in
    (h.0, closed (h.1) ++ tail, subst (λ (ls : List (List ℕ)). StartsWithLine (closed ls ++ tail) (h.0) (closed (h.1) ++ tail)) (sym (h.2)) (line_starts (h.0) (h.1) tail (first.0)), h.3)

bad_bytes : (fault : TestFault) (begun : Begun) (lines : List (List ℕ)) (tail : List ℕ) → AllByRecursion IsLine lines → IsLine tail → IsBadRest fault begun lines → IsBad fault begun (closed lines ++ tail)
bad_bytes (NoEnd number) begun lines tail each unclosed h = subst (λ (ls : List (List ℕ)). IsLine (closed ls ++ tail)) (sym h) unclosed
bad_bytes (BadHead number) begun lines tail each unclosed h = first_line_is (IsBadLine (BadHead number) begun) lines tail each h
bad_bytes (BadWords number) begun lines tail each unclosed h = first_line_is (IsBadLine (BadWords number) begun) lines tail each h
bad_bytes (BadLine number) begun lines tail each unclosed h = first_line_is (IsBadLine (BadLine number) begun) lines tail each h
bad_bytes (WordRange number) begun lines tail each unclosed h = first_line_is (IsBadLine (WordRange number) begun) lines tail each h
bad_bytes (TooManyThreads number) begun lines tail each unclosed h = first_line_is (IsBadLine (TooManyThreads number) begun) lines tail each h
bad_bytes (TooManyOps number) begun lines tail each unclosed h = first_line_is (IsBadLine (TooManyOps number) begun) lines tail each h
bad_bytes (NoThread number) begun lines tail each unclosed h = first_line_is (IsBadLine (NoThread number) begun) lines tail each h
bad_bytes Memory begun lines tail each unclosed h = first_line_is (IsBadLine Memory begun) lines tail each h

lines_from : (P : List ℕ → Type 0) (bytes : List ℕ) → (line : List ℕ) × (rest : List ℕ) × StartsWithLine bytes line rest × P line
    → (line : List ℕ) × (rest : List (List ℕ)) × (lines_of bytes ≡ line ∷ rest) × P line
lines_from P bytes h = (h.0, lines_of (h.1), ap lines_of h.2.whole ∙ lines_of-line (h.0) (h.1) h.2.no_feed, h.3)

bad_lines : (fault : TestFault) (begun : Begun) (bytes : List ℕ) → IsBad fault begun bytes → IsBadRest fault begun (lines_of bytes)
bad_lines (NoEnd number) begun bytes h = lines_of-none bytes h
bad_lines (BadHead number) begun bytes h = lines_from (IsBadLine (BadHead number) begun) bytes h
bad_lines (BadWords number) begun bytes h = lines_from (IsBadLine (BadWords number) begun) bytes h
bad_lines (BadLine number) begun bytes h = lines_from (IsBadLine (BadLine number) begun) bytes h
bad_lines (WordRange number) begun bytes h = lines_from (IsBadLine (WordRange number) begun) bytes h
bad_lines (TooManyThreads number) begun bytes h = lines_from (IsBadLine (TooManyThreads number) begun) bytes h
bad_lines (TooManyOps number) begun bytes h = lines_from (IsBadLine (TooManyOps number) begun) bytes h
bad_lines (NoThread number) begun bytes h = lines_from (IsBadLine (NoThread number) begun) bytes h
bad_lines Memory begun bytes h = lines_from (IsBadLine Memory begun) bytes h

-- A text that is these lines and those, is the text of these and the text of those.
split_text : (text : List ℕ) (lines front rest : List (List ℕ)) (tail : List ℕ) → text ≡ closed lines ++ tail → lines ≡ front ++ rest → text ≡ closed front ++ (closed rest ++ tail)
split_text text lines front rest tail whole parts =
    whole ∙ ap (λ (ls : List (List ℕ)). closed ls ++ tail) parts ∙ ap (λ (ys : List ℕ). ys ++ tail) (closed-append front rest) ∙ append_assoc (closed front) (closed rest) tail

lines_mean-text : (text : List ℕ) (lines : List (List ℕ)) (tail : List ℕ) (read : Result Program TestFault) → IsInLines text lines tail → LinesMean lines read → TextMeans text read
lines_mean-text text lines tail (Ok p) is h =
    (closed h.rest ++ tail, record { limits = h.limits; some_thread = h.some_thread; whole = split_text text lines (test_lines p) h.rest tail is.whole h.whole })
lines_mean-text text lines tail (Err fault) is h =
    let each : AllByRecursion IsLine h.rest = each-behind (begun_lines h.begun) h.rest (subst (AllByRecursion IsLine) h.whole is.each) in
    record {
      begun = h.begun;
      bytes = closed h.rest ++ tail;
      good = h.good;
      whole = split_text text lines (begun_lines h.begun) h.rest tail is.whole h.whole;
      bad = bad_bytes fault h.begun h.rest tail each is.unclosed h.bad;
      number = h.number;
    }

text_means-lines : (text : List ℕ) (read : Result Program TestFault) → TextMeans text read → LinesMean (lines_of text) read
text_means-lines text (Ok p) h = record {
  limits = h.1.limits;
  some_thread = h.1.some_thread;
  rest = lines_of (h.0);
  whole = ap lines_of h.1.whole ∙ lines_of-closed (test_lines p) (h.0) (each-test p h.1.limits);
}
text_means-lines text (Err fault) h = record {
  begun = h.begun;
  good = h.good;
  rest = lines_of h.bytes;
  whole = ap lines_of h.whole ∙ lines_of-closed (begun_lines h.begun) h.bytes (each-begun h.begun h.good);
  bad = bad_lines fault h.begun h.bytes h.bad;
  number = h.number;
}

-- What is read is meant.
pub reading_means : (text : List ℕ) → TextMeans text (reading text)
reading_means text = let split = in_lines text in lines_mean-text text (lines_of text) (split.0) (reading text) (split.1) (lines_mean (lines_of text))

-- What is meant is read.
pub means_reading : (text : List ℕ) (read : Result Program TestFault) → TextMeans text read → reading text ≡ read
means_reading text read h = mean_lines (lines_of text) read (text_means-lines text read h)

-- The text of a test is read as that test, whatever stands behind it.
pub reading-test_text : (text : List ℕ) (p : Program) (rest : List ℕ) → text ≡ test_text p → IsWithinLimits p → 0 < length p.threads → reading (text ++ rest) ≡ Ok p
reading-test_text text p rest is limits some =
    means_reading (text ++ rest) (Ok p) (rest, record { limits = limits; some_thread = some; whole = ap (λ (ys : List ℕ). ys ++ rest) is })

-- What is read as a test begins with its text.
pub reading-starts : (text : List ℕ) (p : Program) → reading text ≡ Ok p → (rest : List ℕ) × StartsWithTest text p rest
reading-starts text p e = subst (TextMeans text) e (reading_means text)
