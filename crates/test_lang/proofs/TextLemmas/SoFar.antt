-- How the lines of a test behind the second are read, one after another.
use Rattle.std.proofs.Common.{◌≡◌, ℕ, ◌+◌, ◌<◌, ◌≤◌, List, [], ◌∷◌, ◌++◌, true, refl, ap, arith, ◌∙◌, sym, subst, Option, Some, None, Result, Ok, Err, length, append_assoc, length-append, ⊎_elim, eqb, leb}
use Rattle.std.specs.Prelude.{codes, sum_by, IsTrue}
use Rattle.std.specs.List.{flat_map}
use Rattle.std.specs.Option.{option_map}
use Rattle.std.proofs.lemmas.Bool.{cases_lt, le-leb}
use Rattle.std.proofs.lemmas.List.{length-map}
use Rattle.std.proofs.lemmas.List.Sums.{sum_by-cons}
use Rattle.test_lang.specs.declared.op.Action.{Action}
use Rattle.test_lang.specs.declared.op.Action.TheVariants.{Load, Store, Fence}
use Rattle.test_lang.specs.declared.text.form.Form.{Form}
use Rattle.test_lang.specs.declared.text.form.Form.TheVariants.{Thread, Operation, End}
use Rattle.test_lang.specs.declared.text.fault.TestFault.{TestFault}
use Rattle.test_lang.specs.declared.text.fault.TestFault.TheVariants.{NoEnd}
use Rattle.test_lang.specs.Actions.{allows}
use Rattle.test_lang.specs.Program.{Program, empty_program, with_thread, with_action, op_count, IsWithinLimits}
use Rattle.test_lang.specs.Text.Line.{IsLine, StartsWithLine, closed, lines_of}
use Rattle.test_lang.specs.Text.Form.{HasForm, form_of, held_word, held_form}
use Rattle.test_lang.specs.Text.Grammar.{action_line, thread_lines, body_lines}
use Rattle.test_lang.specs.Text.Reading.{names_other_word, judged, go_on, walk}
use Rattle.test_lang.proofs.TextLemmas.Lines.{lines_of-line, lines_of-none, closed-append}
use Rattle.test_lang.proofs.TextLemmas.Forms.{form_of-has, form-allows, form-action_line}
use Rattle.test_lang.proofs.TextLemmas.Judging.{Judges, judged-judges, judged-operation}
use Rattle.test_lang.proofs.TextLemmas.Bodies.{body_lines-with_thread, body_lines-with_action, op_count-sum_by, limits-with_thread, limits-with_action}
use Rattle.test_lang.proofs.TextLemmas.Walking.{below_256}

-- A word held down is judged as the word itself.
held-access : (make : ℕ → Action) (p : Program) (n word : ℕ) → ((w : ℕ) → names_other_word p (Operation (make w)) ≡ leb p.words w) → p.words ≤ 256
    → judged p n (Some (Operation (make (held_word word)))) ≡ judged p n (Some (Operation (make word)))
held-access make p n word tests few = ⊎_elim
    (λ (small : word < p.words). let same : held_word word ≡ word = omega arith in ap (λ (w : ℕ). judged p n (Some (Operation (make w)))) same)
    (λ (large : p.words ≤ word).
    let still : p.words ≤ held_word word = omega arith in
    judged-operation p n (make (held_word word)) (eqb (length p.threads) 0) true (leb 2048 (op_count p)) refl (tests (held_word word) ∙ le-leb p.words (held_word word) still) refl
    ∙ sym (judged-operation p n (make word) (eqb (length p.threads) 0) true (leb 2048 (op_count p)) refl (tests word ∙ le-leb p.words word large) refl))
    (cases_lt word p.words)

held-judged : (p : Program) (n : ℕ) (form : Option Form) → p.words ≤ 256 → judged p n (option_map held_form form) ≡ judged p n form
held-judged p n None few = refl
held-judged p n (Some Thread) few = refl
held-judged p n (Some (Operation (Load word))) few = held-access (λ w. Load w) p n word (λ w. refl) few
held-judged p n (Some (Operation (Store word))) few = held-access (λ w. Store w) p n word (λ w. refl) few
held-judged p n (Some (Operation (Fence kind))) few = refl
held-judged p n (Some End) few = refl

-- how many lines stand between the second and the last
length-threads : (threads : List (List Action)) → length (flat_map thread_lines threads) ≡ length threads + sum_by length threads
length-threads [] = refl
length-threads (thread ∷ more) =
    let rest = length-threads more in
    let whole = sum_by-cons length thread more in
    simp (length-append, length-map) (omega (arith, rest, whole))

pub length-body_lines : (p : Program) → length (body_lines p) ≡ length p.threads + op_count p
length-body_lines p = let count = op_count-sum_by p in omega (arith, length-threads p.threads, count)

pub few_lines : (p : Program) → IsWithinLimits p → length (body_lines p) ≤ 2064
few_lines p h = let long = length-body_lines p in omega (arith, long, h.threads, h.operations)

-- These lines of the text were read: those of the test p, behind which the line n begins what is left.
pub record SoFar (version words : ℕ) (text : List ℕ) (p : Program) (n : ℕ) (left : List ℕ) : Type 0 where
  pub limits : IsWithinLimits p
  pub number : n ≡ length (body_lines p) + 3
  pub whole : text ≡ closed (body_lines p) ++ left
  pub same_version : p.version ≡ version
  pub walked : walk p n (lines_of left) ≡ walk (empty_program version words) 3 (lines_of text)

module _ (version words : ℕ) (text : List ℕ) (p : Program) (n : ℕ) (left : List ℕ) (so_far : SoFar version words text p n left) where
  pub so_far-unclosed : IsLine left → walk (empty_program version words) 3 (lines_of text) ≡ Err (NoEnd n)
  so_far-unclosed h = sym so_far.walked ∙ ap (walk p n) (lines_of-none left h)

  module _ (line rest : List ℕ) (starts : StartsWithLine left line rest) (read : Option Form) (judgement : Result Form TestFault) (form : read ≡ option_map held_form (form_of version line))
      (judges : judgement ≡ judged p n read) where
    is_judged : judged p n (form_of p.version line) ≡ judgement
    is_judged =
        ap (λ (k : ℕ). judged p n (form_of k line)) so_far.same_version ∙ sym (held-judged p n (form_of version line) so_far.limits.words) ∙ ap (judged p n) (sym form) ∙ sym judges

    said : Judges p n (form_of p.version line) judgement
    said = subst (Judges p n (form_of p.version line)) is_judged (judged-judges p n (form_of p.version line))

    goes_on : walk (empty_program version words) 3 (lines_of text) ≡ go_on p (λ q. walk q (n + 1) (lines_of rest)) judgement
    goes_on = sym so_far.walked ∙ ap (λ (ys : List ℕ). walk p n (lines_of ys)) starts.whole ∙ ap (walk p n) (lines_of-line line rest starts.no_feed)
        ∙ ap (go_on p (λ q. walk q (n + 1) (lines_of rest))) is_judged

    pub so_far-refused : (fault : TestFault) → judgement ≡ Err fault → walk (empty_program version words) 3 (lines_of text) ≡ Err fault
    so_far-refused fault e = goes_on ∙ ap (go_on p (λ q. walk q (n + 1) (lines_of rest))) e

    pub so_far-ended : judgement ≡ Ok End → walk (empty_program version words) 3 (lines_of text) ≡ Ok p
    so_far-ended e = goes_on ∙ ap (go_on p (λ q. walk q (n + 1) (lines_of rest))) e

    -- the text is its lines, the line that was read, and the rest
    with_line : (spelled : List ℕ) → line ≡ spelled → text ≡ closed (body_lines p ++ spelled ∷ []) ++ rest
    with_line spelled is =
        let here : closed (body_lines p ++ spelled ∷ []) ++ rest ≡ closed (body_lines p) ++ (spelled ++ 10 ∷ rest) =
        ap (λ (ys : List ℕ). ys ++ rest) (closed-append (body_lines p) (spelled ∷ [])) ∙ append_assoc (closed (body_lines p)) (spelled ++ 10 ∷ []) rest
        ∙ ap (λ (ys : List ℕ). closed (body_lines p) ++ ys) (append_assoc spelled (10 ∷ []) rest) in
        so_far.whole ∙ ap (λ (ys : List ℕ). closed (body_lines p) ++ ys) (starts.whole ∙ ap (λ (ys : List ℕ). ys ++ 10 ∷ rest) is) ∙ sym here

    pub so_far-end_line : judgement ≡ Ok End → text ≡ closed (body_lines p ++ codes "end" ∷ []) ++ rest
    so_far-end_line e = with_line (codes "end") (form_of-has p.version line End ((subst (Judges p n (form_of p.version line)) e said).0))

    grown : (q : Program) (spelled : List ℕ) → IsWithinLimits q → q.version ≡ p.version → line ≡ spelled → body_lines q ≡ body_lines p ++ spelled ∷ []
        → walk q (n + 1) (lines_of rest) ≡ walk (empty_program version words) 3 (lines_of text) → SoFar version words text q (n + 1) rest
    grown q spelled limits versions is lines walked =
        let one : length (body_lines q) ≡ length (body_lines p) + 1 = ap length lines ∙ length-append (body_lines p) (spelled ∷ []) in
        record {
          limits = limits;
          number = omega (arith, one, so_far.number);
          whole = with_line spelled is ∙ ap (λ (ls : List (List ℕ)). closed ls ++ rest) (sym lines);
          same_version = versions ∙ so_far.same_version;
          walked = walked;
        }

    pub so_far-thread : judgement ≡ Ok Thread → SoFar version words text (with_thread p) (n + 1) rest
    so_far-thread e =
        let h = subst (Judges p n (form_of p.version line)) e said in
        grown (with_thread p) (codes "thread") (limits-with_thread p so_far.limits (h.1)) refl (form_of-has p.version line Thread (h.0)) (body_lines-with_thread p)
        (sym (goes_on ∙ ap (go_on p (λ q. walk q (n + 1) (lines_of rest))) e))

    pub so_far-allows : (action : Action) → judgement ≡ Ok (Operation action) → IsTrue (allows p.version action)
    so_far-allows action e =
        let h = subst (Judges p n (form_of p.version line)) e said in
        form-allows p.version line action (form_of-has p.version line (Operation action) (h.0))

    pub so_far-operation : (action : Action) → judgement ≡ Ok (Operation action) → SoFar version words text (with_action p action) (n + 1) rest
    so_far-operation action e =
        let h = subst (Judges p n (form_of p.version line)) e said in
        let form : HasForm p.version line (Operation action) = form_of-has p.version line (Operation action) (h.0) in
        grown (with_action p action) (action_line action) (limits-with_action p action so_far.limits (h.1) (h.2) (h.3) (so_far-allows action e)) refl
        (form-action_line p.version line action form (below_256 p action so_far.limits.words (h.2))) (body_lines-with_action p action (h.1))
        (sym (goes_on ∙ ap (go_on p (λ q. walk q (n + 1) (lines_of rest))) e))
