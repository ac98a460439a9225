-- What a walk over lines gives is what the lines mean.
use Rattle.std.proofs.Common.{◌≡◌, ℕ, ◌+◌, ◌<◌, ◌≤◌, List, [], ◌∷◌, ◌++◌, refl, ap, arith, ◌∙◌, sym, Some, None, Result, Ok, Err, length, append_assoc, length-append}
use Rattle.std.specs.Prelude.{codes}
use Rattle.test_lang.specs.declared.op.Action.{Action}
use Rattle.test_lang.specs.declared.op.Action.TheVariants.{Load, Store, Fence}
use Rattle.test_lang.specs.declared.text.form.Form.{Form}
use Rattle.test_lang.specs.declared.text.form.Form.TheVariants.{Thread, Operation, End}
use Rattle.test_lang.specs.declared.text.fault.TestFault.{TestFault}
use Rattle.test_lang.specs.declared.text.fault.TestFault.TheVariants.{BadHead, BadWords, BadLine, WordRange, TooManyThreads, TooManyOps, NoThread, NoEnd, Memory}
use Rattle.test_lang.specs.Actions.{op_of}
use Rattle.test_lang.specs.Program.{Program, with_thread, with_action, HasWord, HasWordBelow, IsWithinLimits}
use Rattle.test_lang.specs.Text.Form.{HasForm, form_of}
use Rattle.test_lang.specs.Text.Grammar.{action_line, body_lines}
use Rattle.test_lang.specs.Text.Reading.{judged, go_on, walk}
use Rattle.test_lang.specs.Text.Refusal.{Begun, behind, IsBadLine, number_of}
use Rattle.test_lang.proofs.TextLemmas.Forms.{form_of-has, has-form_of, form-allows, form-action_line}
use Rattle.test_lang.proofs.TextLemmas.Judging.{Judges, judged-judges}
use Rattle.test_lang.proofs.TextLemmas.Bodies.{body_lines-with_thread, body_lines-with_action, limits-with_thread, limits-with_action}

-- no line is left, or the first is bad
abbrev pub IsBadRest : TestFault → Begun → List (List ℕ) → Type 0
IsBadRest (NoEnd number) begun lines = lines ≡ []
IsBadRest fault begun lines = (line : List ℕ) × (rest : List (List ℕ)) × (lines ≡ line ∷ rest) × IsBadLine fault begun line

-- The lines of p and these lines begin with the lines of the test q and `end`.
pub record Ends (p q : Program) (lines : List (List ℕ)) : Type 0 where
  pub limits : IsWithinLimits q
  pub same_version : q.version ≡ p.version
  pub same_words : q.words ≡ p.words
  pub some_thread : 0 < length q.threads
  pub rest : List (List ℕ)
  pub whole : body_lines p ++ lines ≡ body_lines q ++ codes "end" ∷ rest

-- The lines of p and these lines begin with the lines of the test q, and bad lines stand behind them; the first of these lines has the number n.
pub record Fails (p : Program) (n : ℕ) (lines : List (List ℕ)) (fault : TestFault) : Type 0 where
  pub test : Program
  pub limits : IsWithinLimits test
  pub same_version : test.version ≡ p.version
  pub same_words : test.words ≡ p.words
  pub rest : List (List ℕ)
  pub whole : body_lines p ++ lines ≡ body_lines test ++ rest
  pub bad : IsBadRest fault (behind test) rest
  pub number : number_of fault + length (body_lines p) ≡ n + length (body_lines test)

abbrev pub Walks : Program → ℕ → List (List ℕ) → Result Program TestFault → Type 0
Walks p n lines (Ok q) = Ends p q lines
Walks p n lines (Err fault) = Fails p n lines fault

pub below_256 : (p : Program) (action : Action) → p.words ≤ 256 → HasWord p (op_of action) → HasWordBelow 256 (op_of action)
below_256 p (Load word) few h = omega (arith, h)
below_256 p (Store word) few h = omega (arith, h)
below_256 p (Fence kind) few h = tt

-- What is meant behind one line more is meant before it.
walks-line : (p q : Program) (n : ℕ) (line : List ℕ) (lines : List (List ℕ)) (read : Result Program TestFault) → q.version ≡ p.version → q.words ≡ p.words → body_lines q ≡ body_lines p ++ line ∷ []
    → Walks q (n + 1) lines read → Walks p n (line ∷ lines) read
walks-line p q n line lines (Ok t) versions same grown h = record {
  limits = h.limits;
  same_version = h.same_version ∙ versions;
  same_words = h.same_words ∙ same;
  some_thread = h.some_thread;
  rest = h.rest;
  whole = sym (append_assoc (body_lines p) (line ∷ []) lines) ∙ ap (λ (ls : List (List ℕ)). ls ++ lines) (sym grown) ∙ h.whole;
}
walks-line p q n line lines (Err fault) versions same grown h =
    let one : length (body_lines q) ≡ length (body_lines p) + 1 = ap length grown ∙ length-append (body_lines p) (line ∷ []) in
    record {
      test = h.test;
      limits = h.limits;
      same_version = h.same_version ∙ versions;
      same_words = h.same_words ∙ same;
      rest = h.rest;
      whole = sym (append_assoc (body_lines p) (line ∷ []) lines) ∙ ap (λ (ls : List (List ℕ)). ls ++ lines) (sym grown) ∙ h.whole;
      bad = h.bad;
      number = omega (arith, one, h.number);
    }

-- A line that is refused is bad.
refused-bad : (p : Program) (n : ℕ) (line : List ℕ) (lines : List (List ℕ)) (fault : TestFault) → IsWithinLimits p → Judges p n (form_of p.version line) (Err fault)
    → IsBadRest fault (behind p) (line ∷ lines) × (number_of fault ≡ n)
refused-bad p n line lines (BadLine number) limits h =
    ((line, lines, refl, λ form has. let found : None ≡ Some form = sym (h.1) ∙ has-form_of p.version line form has in absurd cc), h.0)
refused-bad p n line lines (TooManyThreads number) limits h =
    ((line, lines, refl, (form_of-has p.version line Thread (h.1), omega (arith, h.2, limits.threads))), h.0)
refused-bad p n line lines (NoThread number) limits h = ((line, lines, refl, (h.1, form_of-has p.version line (h.1) (h.2), h.3, h.4)), h.0)
refused-bad p n line lines (WordRange number) limits h = ((line, lines, refl, (h.1, form_of-has p.version line (Operation (h.1)) (h.2), h.3, h.4)), h.0)
refused-bad p n line lines (TooManyOps number) limits h =
    ((line, lines, refl, (h.1, form_of-has p.version line (Operation (h.1)) (h.2), h.3, h.4, omega (arith, h.5, limits.operations))), h.0)
refused-bad p n line lines (BadHead number) limits h = absurd h
refused-bad p n line lines (BadWords number) limits h = absurd h
refused-bad p n line lines (NoEnd number) limits h = absurd h
refused-bad p n line lines Memory limits h = absurd h

-- One line, and then what is meant behind it.
module _ (p : Program) (n : ℕ) (line : List ℕ) (lines : List (List ℕ)) (more : Program → Result Program TestFault) (limits : IsWithinLimits p)
    (later : (q : Program) → IsWithinLimits q → Walks q (n + 1) lines (more q)) where
  line_walks : (judgement : Result Form TestFault) → Judges p n (form_of p.version line) judgement → Walks p n (line ∷ lines) (go_on p more judgement)
  line_walks (Ok Thread) h =
      let is : line ≡ codes "thread" = form_of-has p.version line Thread (h.0) in
      walks-line p (with_thread p) n line lines (more (with_thread p)) refl refl (body_lines-with_thread p ∙ ap (λ (l : List ℕ). body_lines p ++ l ∷ []) (sym is))
      (later (with_thread p) (limits-with_thread p limits (h.1)))
  line_walks (Ok (Operation action)) h =
      let form : HasForm p.version line (Operation action) = form_of-has p.version line (Operation action) (h.0) in
      let is : line ≡ action_line action = form-action_line p.version line action form (below_256 p action limits.words (h.2)) in
      walks-line p (with_action p action) n line lines (more (with_action p action)) refl refl (body_lines-with_action p action (h.1) ∙ ap (λ (l : List ℕ). body_lines p ++ l ∷ []) (sym is))
      (later (with_action p action) (limits-with_action p action limits (h.1) (h.2) (h.3) (form-allows p.version line action form)))
  line_walks (Ok End) h = record {
    limits = limits;
    same_version = refl;
    same_words = refl;
    some_thread = h.1;
    rest = lines;
    whole = ap (λ (l : List ℕ). body_lines p ++ l ∷ lines) (form_of-has p.version line End (h.0));
  }
  line_walks (Err fault) h =
      let refused = refused-bad p n line lines fault limits h in
      record { test = p; limits = limits; same_version = refl; same_words = refl; rest = line ∷ lines; whole = refl; bad = refused.0; number = ap (λ (k : ℕ). k + length (body_lines p)) (refused.1) }

pub walk-walks : (lines : List (List ℕ)) (p : Program) (n : ℕ) → IsWithinLimits p → Walks p n lines (walk p n lines)
walk-walks [] p n limits = record { test = p; limits = limits; same_version = refl; same_words = refl; rest = []; whole = refl; bad = refl; number = refl }
walk-walks (line ∷ lines) p n limits =
    line_walks p n line lines (λ q. walk q (n + 1) lines) limits (λ q h. walk-walks lines q (n + 1) h) (judged p n (form_of p.version line)) (judged-judges p n (form_of p.version line))
