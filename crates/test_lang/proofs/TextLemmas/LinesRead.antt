-- What reading lines gives is what the lines mean, and the other way round.
use Rattle.std.proofs.Common.{◌≡◌, ◌≢◌, ℕ, ◌+◌, ◌<◌, ◌≤◌, List, [], ◌∷◌, ◌++◌, refl, ap, arith, ◌∙◌, sym, Option, Some, None, Result, Ok, Err, length, append_assoc}
use Rattle.std.specs.Prelude.{codes}
use Rattle.test_lang.specs.declared.text.form.Form.{Form}
use Rattle.test_lang.specs.declared.text.form.Form.TheVariants.{Thread, Operation, End}
use Rattle.test_lang.specs.declared.text.fault.TestFault.{TestFault}
use Rattle.test_lang.specs.declared.text.fault.TestFault.TheVariants.{BadHead, BadWords, BadLine, WordRange, TooManyThreads, TooManyOps, NoThread, NoEnd, Memory}
use Rattle.test_lang.specs.Program.{Program, empty_program, IsVersion, IsWithinLimits}
use Rattle.test_lang.specs.Text.Form.{HasForm, form_of}
use Rattle.test_lang.specs.Text.Grammar.{head_line, words_line, body_lines, test_lines}
use Rattle.test_lang.specs.Text.Reading.{go_on, walk, version_of, words_of, behind_words, behind_version, behind_head, reading_lines}
use Rattle.test_lang.specs.Text.Refusal.{Begun, nothing, head, behind, begun_lines, IsWellBegun, IsBadLine, number_of}
use Rattle.test_lang.proofs.TextLemmas.Forms.{form_of-has, has-form_of, version_of-line, head_line-version_of, words_of-line, words_line-words_of}
use Rattle.test_lang.proofs.TextLemmas.Judging.{Judges, judges-judged}
use Rattle.test_lang.proofs.TextLemmas.Bodies.{limits-empty}
use Rattle.test_lang.proofs.TextLemmas.Walking.{IsBadRest, Walks, walk-walks}
use Rattle.test_lang.proofs.TextLemmas.Passing.{walk-form, walk-body}

-- These lines begin with those of a test that has a thread.
pub record StartWithTest (lines : List (List ℕ)) (p : Program) : Type 0 where
  pub limits : IsWithinLimits p
  pub some_thread : 0 < length p.threads
  pub rest : List (List ℕ)
  pub whole : lines ≡ test_lines p ++ rest

-- These lines are refused.
pub record AreRefused (lines : List (List ℕ)) (fault : TestFault) : Type 0 where
  pub begun : Begun
  pub good : IsWellBegun begun
  pub rest : List (List ℕ)
  pub whole : lines ≡ begun_lines begun ++ rest
  pub bad : IsBadRest fault begun rest
  pub number : number_of fault ≡ length (begun_lines begun) + 1

abbrev pub LinesMean : List (List ℕ) → Result Program TestFault → Type 0
LinesMean lines (Ok p) = StartWithTest lines p
LinesMean lines (Err fault) = AreRefused lines fault

-- From reading to meaning.

module _ (version n : ℕ) (lines : List (List ℕ)) where
  -- the first two lines are those of a test of this version and so many words
  same_front : (p : Program) (rest : List (List ℕ)) → p.version ≡ version → p.words ≡ n → head_line version ∷ words_line n ∷ rest ≡ head_line p.version ∷ words_line p.words ∷ rest
  same_front p rest versions words =
      ap (λ (k : ℕ). head_line k ∷ words_line n ∷ rest) (sym versions) ∙ ap (λ (k : ℕ). head_line p.version ∷ words_line k ∷ rest) (sym words)

  walked_means : (read : Result Program TestFault) → Walks (empty_program version n) 3 lines read → LinesMean (head_line version ∷ words_line n ∷ lines) read
  walked_means (Ok p) h = record {
    limits = h.limits;
    some_thread = h.some_thread;
    rest = h.rest;
    whole = ap (λ (ls : List (List ℕ)). head_line version ∷ words_line n ∷ ls) (h.whole ∙ sym (append_assoc (body_lines p) (codes "end" ∷ []) h.rest))
        ∙ same_front p ((body_lines p ++ codes "end" ∷ []) ++ h.rest) h.same_version h.same_words;
  }
  walked_means (Err fault) h = record {
    begun = behind h.test;
    good = h.limits;
    rest = h.rest;
    whole = ap (λ (ls : List (List ℕ)). head_line version ∷ words_line n ∷ ls) h.whole ∙ same_front h.test (body_lines h.test ++ h.rest) h.same_version h.same_words;
    bad = h.bad;
    number = omega (arith, h.number);
  }

words_mean : (version : ℕ) (second : List ℕ) (lines : List (List ℕ)) (words : Option ℕ) → IsVersion version → words_of second ≡ words
    → LinesMean (head_line version ∷ second ∷ lines) (behind_words version words lines)
words_mean version second lines None good e = record {
  begun = head version;
  good = good;
  rest = second ∷ lines;
  whole = refl;
  bad = (second, lines, refl, λ n some few is. let found : None ≡ Some n = sym e ∙ ap words_of is ∙ words_line-words_of n some few in absurd cc);
  number = refl;
}
words_mean version second lines (Some n) good e =
    let is = words_of-line second n e in
    let here = walked_means version n lines (walk (empty_program version n) 3 lines) (walk-walks lines (empty_program version n) 3 (limits-empty version n good (is.1) (is.2))) in
    rw (is.0) here

version_means : (version : ℕ) (lines : List (List ℕ)) → IsVersion version → LinesMean (head_line version ∷ lines) (behind_version version lines)
version_means version [] good = record { begun = head version; good = good; rest = []; whole = refl; bad = refl; number = refl }
version_means version (second ∷ lines) good = words_mean version second lines (words_of second) good refl

head_means : (first : List ℕ) (lines : List (List ℕ)) (version : Option ℕ) → version_of first ≡ version → LinesMean (first ∷ lines) (behind_head version lines)
head_means first lines None e = record {
  begun = nothing;
  good = tt;
  rest = first ∷ lines;
  whole = refl;
  bad = (first, lines, refl, λ version good is. let found : None ≡ Some version = sym e ∙ ap version_of is ∙ head_line-version_of version good in absurd cc);
  number = refl;
}
head_means first lines (Some version) e =
    let is = version_of-line first version e in
    let here = version_means version lines (is.1) in
    rw (is.0) here

pub lines_mean : (lines : List (List ℕ)) → LinesMean lines (reading_lines lines)
lines_mean [] = record { begun = nothing; good = tt; rest = []; whole = refl; bad = refl; number = refl }
lines_mean (first ∷ lines) = head_means first lines (version_of first) refl

-- From meaning to reading.

head_read : (version : ℕ) (lines : List (List ℕ)) → IsVersion version → reading_lines (head_line version ∷ lines) ≡ behind_version version lines
head_read version lines good = ap (λ (o : Option ℕ). behind_head o lines) (head_line-version_of version good)

body_read : (p : Program) (lines : List (List ℕ)) → IsWithinLimits p
    → reading_lines (head_line p.version ∷ words_line p.words ∷ (body_lines p ++ lines)) ≡ walk p (3 + length (body_lines p)) lines
body_read p lines h =
    head_read p.version (words_line p.words ∷ (body_lines p ++ lines)) h.version
    ∙ ap (λ (o : Option ℕ). behind_words p.version o (body_lines p ++ lines)) (words_line-words_of p.words h.some_word h.words) ∙ walk-body p 3 lines h

no_version : (first : List ℕ) → ((version : ℕ) → IsVersion version → first ≢ head_line version) → version_of first ≡ None
no_version first other = go (version_of first) refl
  where
    go : (o : Option ℕ) → version_of first ≡ o → o ≡ None
    go None e = refl
    go (Some version) e = let is = version_of-line first version e in absurd (other version (is.1) (is.0))

no_words : (second : List ℕ) → ((n : ℕ) → 1 ≤ n → n ≤ 256 → second ≢ words_line n) → words_of second ≡ None
no_words second other = go (words_of second) refl
  where
    go : (o : Option ℕ) → words_of second ≡ o → o ≡ None
    go None e = refl
    go (Some n) e = let is = words_of-line second n e in absurd (other n (is.1) (is.2) (is.0))

no_form : (version : ℕ) (line : List ℕ) → ((form : Form) → ¬ HasForm version line form) → form_of version line ≡ None
no_form version line other = go (form_of version line) refl
  where
    go : (o : Option Form) → form_of version line ≡ o → o ≡ None
    go None e = refl
    go (Some form) e = absurd (other form (form_of-has version line form e))

-- A line that is bad behind the lines of p is judged so.
bad-judges : (p : Program) (n : ℕ) (line : List ℕ) (fault : TestFault) → IsBadLine fault (behind p) line → number_of fault ≡ n → Judges p n (form_of p.version line) (Err fault)
bad-judges p n line (BadLine number) h is = (is, no_form p.version line h)
bad-judges p n line (TooManyThreads number) h is = (is, has-form_of p.version line Thread (h.0), omega (arith, h.1))
bad-judges p n line (NoThread number) h is = (is, h.0, has-form_of p.version line (h.0) (h.1), h.2, h.3)
bad-judges p n line (WordRange number) h is = (is, h.0, has-form_of p.version line (Operation (h.0)) (h.1), h.2, h.3)
bad-judges p n line (TooManyOps number) h is = (is, h.0, has-form_of p.version line (Operation (h.0)) (h.1), h.2, h.3, omega (arith, h.4))
bad-judges p n line (BadHead number) h is = absurd h
bad-judges p n line (BadWords number) h is = absurd h
bad-judges p n line (NoEnd number) h is = absurd h
bad-judges p n line Memory h is = absurd h

bad_line-walk : (p : Program) (n : ℕ) (line : List ℕ) (lines : List (List ℕ)) (fault : TestFault) → IsBadLine fault (behind p) line → number_of fault ≡ n → walk p n (line ∷ lines) ≡ Err fault
bad_line-walk p n line lines fault h is = ap (go_on p (λ q. walk q (n + 1) lines)) (judges-judged p n (form_of p.version line) (Err fault) (bad-judges p n line fault h is))

bad_rest-walk : (p : Program) (n : ℕ) (lines : List (List ℕ)) (fault : TestFault) → IsBadRest fault (behind p) lines → number_of fault ≡ n → walk p n lines ≡ Err fault
bad_rest-walk p n lines (NoEnd number) h is = ap (walk p n) h ∙ ap (λ (k : ℕ). Err (NoEnd k)) (sym is)
bad_rest-walk p n lines (BadLine number) h is = ap (walk p n) (h.2) ∙ bad_line-walk p n (h.0) (h.1) (BadLine number) (h.3) is
bad_rest-walk p n lines (TooManyThreads number) h is = ap (walk p n) (h.2) ∙ bad_line-walk p n (h.0) (h.1) (TooManyThreads number) (h.3) is
bad_rest-walk p n lines (NoThread number) h is = ap (walk p n) (h.2) ∙ bad_line-walk p n (h.0) (h.1) (NoThread number) (h.3) is
bad_rest-walk p n lines (WordRange number) h is = ap (walk p n) (h.2) ∙ bad_line-walk p n (h.0) (h.1) (WordRange number) (h.3) is
bad_rest-walk p n lines (TooManyOps number) h is = ap (walk p n) (h.2) ∙ bad_line-walk p n (h.0) (h.1) (TooManyOps number) (h.3) is
bad_rest-walk p n lines (BadHead number) h is = absurd (h.3)
bad_rest-walk p n lines (BadWords number) h is = absurd (h.3)
bad_rest-walk p n lines Memory h is = absurd (h.3)

nothing-read : (fault : TestFault) (lines : List (List ℕ)) → IsBadRest fault nothing lines → number_of fault ≡ 1 → reading_lines lines ≡ Err fault
nothing-read (NoEnd number) lines h is = ap reading_lines h ∙ ap (λ (k : ℕ). Err (NoEnd k)) (sym is)
nothing-read (BadHead number) lines h is =
    ap reading_lines (h.2) ∙ ap (λ (o : Option ℕ). behind_head o (h.1)) (no_version (h.0) (h.3)) ∙ ap (λ (k : ℕ). Err (BadHead k)) (sym is)
nothing-read (BadWords number) lines h is = absurd (h.3)
nothing-read (BadLine number) lines h is = absurd (h.3)
nothing-read (TooManyThreads number) lines h is = absurd (h.3)
nothing-read (NoThread number) lines h is = absurd (h.3)
nothing-read (WordRange number) lines h is = absurd (h.3)
nothing-read (TooManyOps number) lines h is = absurd (h.3)
nothing-read Memory lines h is = absurd (h.3)

version-read : (version : ℕ) (fault : TestFault) (lines : List (List ℕ)) → IsBadRest fault (head version) lines → number_of fault ≡ 2 → behind_version version lines ≡ Err fault
version-read version (NoEnd number) lines h is = ap (behind_version version) h ∙ ap (λ (k : ℕ). Err (NoEnd k)) (sym is)
version-read version (BadWords number) lines h is =
    ap (behind_version version) (h.2) ∙ ap (λ (o : Option ℕ). behind_words version o (h.1)) (no_words (h.0) (h.3)) ∙ ap (λ (k : ℕ). Err (BadWords k)) (sym is)
version-read version (BadHead number) lines h is = absurd (h.3)
version-read version (BadLine number) lines h is = absurd (h.3)
version-read version (TooManyThreads number) lines h is = absurd (h.3)
version-read version (NoThread number) lines h is = absurd (h.3)
version-read version (WordRange number) lines h is = absurd (h.3)
version-read version (TooManyOps number) lines h is = absurd (h.3)
version-read version Memory lines h is = absurd (h.3)

begun-read : (begun : Begun) (fault : TestFault) (lines : List (List ℕ)) → IsWellBegun begun → IsBadRest fault begun lines → number_of fault ≡ length (begun_lines begun) + 1
    → reading_lines (begun_lines begun ++ lines) ≡ Err fault
begun-read nothing fault lines good bad is = nothing-read fault lines bad is
begun-read (head version) fault lines good bad is = head_read version lines good ∙ version-read version fault lines bad is
begun-read (behind p) fault lines good bad is = body_read p lines good ∙ bad_rest-walk p (3 + length (body_lines p)) lines fault bad (omega (arith, is))

test-read : (p : Program) (lines : List (List ℕ)) → IsWithinLimits p → 0 < length p.threads → reading_lines (test_lines p ++ lines) ≡ Ok p
test-read p lines limits some =
    ap (λ (ls : List (List ℕ)). reading_lines (head_line p.version ∷ words_line p.words ∷ ls)) (append_assoc (body_lines p) (codes "end" ∷ []) lines)
    ∙ body_read p (codes "end" ∷ lines) limits ∙ walk-form p (3 + length (body_lines p)) (codes "end") lines End (Ok End) refl (refl, some)

pub mean_lines : (lines : List (List ℕ)) (read : Result Program TestFault) → LinesMean lines read → reading_lines lines ≡ read
mean_lines lines (Ok p) h = ap reading_lines h.whole ∙ test-read p h.rest h.limits h.some_thread
mean_lines lines (Err fault) h = ap reading_lines h.whole ∙ begun-read h.begun fault h.rest h.good h.bad h.number
