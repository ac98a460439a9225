-- A line is judged by the first test that applies.
use Rattle.std.proofs.Common.{◌≡◌, ◌≢◌, ℕ, ◌<◌, ◌≤◌, Bool, true, false, refl, ap, arith, ◌∙◌, sym, cond, Option, Some, None, Result, Ok, Err, eqb, leb, length}
use Rattle.std.proofs.lemmas.Bool.{ne_eqb, eq-eqb, eqb-true, eqb-false, leb-true, leb-false, le-leb, lt-leb}
use Rattle.test_lang.specs.declared.op.Action.{Action}
use Rattle.test_lang.specs.declared.op.Action.TheVariants.{Load, Store, Fence}
use Rattle.test_lang.specs.declared.text.form.Form.{Form}
use Rattle.test_lang.specs.declared.text.form.Form.TheVariants.{Thread, Operation, End}
use Rattle.test_lang.specs.declared.text.fault.TestFault.{TestFault}
use Rattle.test_lang.specs.declared.text.fault.TestFault.TheVariants.{BadHead, BadWords, BadLine, WordRange, TooManyThreads, TooManyOps, NoThread, NoEnd, Memory}
use Rattle.test_lang.specs.Actions.{op_of}
use Rattle.test_lang.specs.Program.{Program, op_count, HasWord}
use Rattle.test_lang.specs.Text.Reading.{names_other_word, judged}

-- What is said of a line behind the second, in words.
abbrev pub Judges : Program → ℕ → Option Form → Result Form TestFault → Type 0
Judges p n form (Ok Thread) = (form ≡ Some Thread) × (length p.threads < 16)
Judges p n form (Ok (Operation action)) = (form ≡ Some (Operation action)) × (0 < length p.threads) × HasWord p (op_of action) × (op_count p < 2048)
Judges p n form (Ok End) = (form ≡ Some End) × (0 < length p.threads)
Judges p n form (Err (BadLine number)) = (number ≡ n) × (form ≡ None)
Judges p n form (Err (TooManyThreads number)) = (number ≡ n) × (form ≡ Some Thread) × (16 ≤ length p.threads)
Judges p n form (Err (NoThread number)) = (number ≡ n) × (other : Form) × (form ≡ Some other) × (other ≢ Thread) × (length p.threads ≡ 0)
Judges p n form (Err (WordRange number)) = (number ≡ n) × (action : Action) × (form ≡ Some (Operation action)) × (0 < length p.threads) × ¬ HasWord p (op_of action)
Judges p n form (Err (TooManyOps number)) = (number ≡ n) × (action : Action) × (form ≡ Some (Operation action)) × (0 < length p.threads) × HasWord p (op_of action) × (2048 ≤ op_count p)
Judges p n form (Err (BadHead number)) = ⊥
Judges p n form (Err (BadWords number)) = ⊥
Judges p n form (Err (NoEnd number)) = ⊥
Judges p n form (Err Memory) = ⊥

-- whether the word of an operation is one of the test's

other_word-false : (p : Program) (action : Action) → names_other_word p (Operation action) ≡ false → HasWord p (op_of action)
other_word-false p (Load word) e = leb-false p.words word e
other_word-false p (Store word) e = leb-false p.words word e
other_word-false p (Fence kind) e = tt

other_word-true : (p : Program) (action : Action) → names_other_word p (Operation action) ≡ true → ¬ HasWord p (op_of action)
other_word-true p (Load word) e h = let le = leb-true p.words word e in omega (arith, h)
other_word-true p (Store word) e h = let le = leb-true p.words word e in omega (arith, h)
other_word-true p (Fence kind) e h = absurd cc

has_word-other : (p : Program) (action : Action) → HasWord p (op_of action) → names_other_word p (Operation action) ≡ false
has_word-other p (Load word) h = lt-leb p.words word h
has_word-other p (Store word) h = lt-leb p.words word h
has_word-other p (Fence kind) h = refl

no_word-other : (p : Program) (action : Action) → ¬ HasWord p (op_of action) → names_other_word p (Operation action) ≡ true
no_word-other p (Load word) h = let le : p.words ≤ word = omega (arith, h) in le-leb p.words word le
no_word-other p (Store word) h = let le : p.words ≤ word = omega (arith, h) in le-leb p.words word le
no_word-other p (Fence kind) h = absurd (h tt)

module _ (p : Program) (n : ℕ) where
  -- from the tests to the words

  thread_judges : (full : Bool) → leb 16 (length p.threads) ≡ full → Judges p n (Some Thread) (cond full (Err (TooManyThreads n)) (Ok Thread))
  thread_judges true e = (refl, refl, leb-true 16 (length p.threads) e)
  thread_judges false e = (refl, leb-false 16 (length p.threads) e)

  end_judges : (none : Bool) → eqb (length p.threads) 0 ≡ none → Judges p n (Some End) (cond none (Err (NoThread n)) (Ok End))
  end_judges true e = (refl, End, refl, (λ same. absurd cc), eqb-true (length p.threads) 0 e)
  end_judges false e = let some = eqb-false (length p.threads) 0 e in (refl, omega (arith, some))

  operation_judges : (action : Action) (none other full : Bool) → eqb (length p.threads) 0 ≡ none → names_other_word p (Operation action) ≡ other → leb 2048 (op_count p) ≡ full
      → Judges p n (Some (Operation action)) (cond none (Err (NoThread n)) (cond other (Err (WordRange n)) (cond full (Err (TooManyOps n)) (Ok (Operation action)))))
  operation_judges action true other full e f g = (refl, Operation action, refl, (λ same. absurd cc), eqb-true (length p.threads) 0 e)
  operation_judges action false true full e f g = let some = eqb-false (length p.threads) 0 e in (refl, action, refl, omega (arith, some), other_word-true p action f)
  operation_judges action false false true e f g = let some = eqb-false (length p.threads) 0 e in (refl, action, refl, omega (arith, some), other_word-false p action f, leb-true 2048 (op_count p) g)
  operation_judges action false false false e f g = let some = eqb-false (length p.threads) 0 e in (refl, omega (arith, some), other_word-false p action f, leb-false 2048 (op_count p) g)

  pub judged-judges : (form : Option Form) → Judges p n form (judged p n form)
  judged-judges None = (refl, refl)
  judged-judges (Some Thread) = thread_judges (leb 16 (length p.threads)) refl
  judged-judges (Some (Operation action)) = operation_judges action (eqb (length p.threads) 0) (names_other_word p (Operation action)) (leb 2048 (op_count p)) refl refl refl
  judged-judges (Some End) = end_judges (eqb (length p.threads) 0) refl

  -- from the words to the tests

  pub judged-operation : (action : Action) (none other full : Bool) → eqb (length p.threads) 0 ≡ none → names_other_word p (Operation action) ≡ other → leb 2048 (op_count p) ≡ full
      → judged p n (Some (Operation action)) ≡ cond none (Err (NoThread n)) (cond other (Err (WordRange n)) (cond full (Err (TooManyOps n)) (Ok (Operation action))))
  judged-operation action none other full e f g =
      ap (λ (b : Bool). cond b (Err (NoThread n)) (cond (names_other_word p (Operation action)) (Err (WordRange n)) (cond (leb 2048 (op_count p)) (Err (TooManyOps n)) (Ok (Operation action))))) e
      ∙ ap (λ (b : Bool). cond none (Err (NoThread n)) (cond b (Err (WordRange n)) (cond (leb 2048 (op_count p)) (Err (TooManyOps n)) (Ok (Operation action))))) f
      ∙ ap (λ (b : Bool). cond none (Err (NoThread n)) (cond other (Err (WordRange n)) (cond b (Err (TooManyOps n)) (Ok (Operation action))))) g

  no_thread : (form : Form) → form ≢ Thread → length p.threads ≡ 0 → judged p n (Some form) ≡ Err (NoThread n)
  no_thread Thread other none = absurd (other refl)
  no_thread (Operation action) other none = judged-operation action true (names_other_word p (Operation action)) (leb 2048 (op_count p)) (eq-eqb (length p.threads) 0 none) refl refl
  no_thread End other none = ap (λ (b : Bool). cond b (Err (NoThread n)) (Ok End)) (eq-eqb (length p.threads) 0 none)

  some_thread : 0 < length p.threads → eqb (length p.threads) 0 ≡ false
  some_thread some = let apart : length p.threads ≢ 0 = λ e. absurd (omega arith) in ne_eqb (length p.threads) 0 apart

  pub judges-judged : (form : Option Form) (judgement : Result Form TestFault) → Judges p n form judgement → judged p n form ≡ judgement
  judges-judged form (Ok Thread) h = ap (judged p n) (h.0) ∙ ap (λ (b : Bool). cond b (Err (TooManyThreads n)) (Ok Thread)) (lt-leb 16 (length p.threads) (h.1))
  judges-judged form (Ok (Operation action)) h = ap (judged p n) (h.0) ∙ judged-operation action false false false (some_thread (h.1)) (has_word-other p action (h.2)) (lt-leb 2048 (op_count p) (h.3))
  judges-judged form (Ok End) h = ap (judged p n) (h.0) ∙ ap (λ (b : Bool). cond b (Err (NoThread n)) (Ok End)) (some_thread (h.1))
  judges-judged form (Err (BadLine number)) h = ap (judged p n) (h.1) ∙ ap (λ (k : ℕ). Err (BadLine k)) (sym (h.0))
  judges-judged form (Err (TooManyThreads number)) h =
      ap (judged p n) (h.1) ∙ ap (λ (b : Bool). cond b (Err (TooManyThreads n)) (Ok Thread)) (le-leb 16 (length p.threads) (h.2)) ∙ ap (λ (k : ℕ). Err (TooManyThreads k)) (sym (h.0))
  judges-judged form (Err (NoThread number)) h = ap (judged p n) (h.2) ∙ no_thread (h.1) (h.3) (h.4) ∙ ap (λ (k : ℕ). Err (NoThread k)) (sym (h.0))
  judges-judged form (Err (WordRange number)) h =
      ap (judged p n) (h.2) ∙ judged-operation (h.1) false true (leb 2048 (op_count p)) (some_thread (h.3)) (no_word-other p (h.1) (h.4)) refl ∙ ap (λ (k : ℕ). Err (WordRange k)) (sym (h.0))
  judges-judged form (Err (TooManyOps number)) h =
      ap (judged p n) (h.2) ∙ judged-operation (h.1) false false true (some_thread (h.3)) (has_word-other p (h.1) (h.4)) (le-leb 2048 (op_count p) (h.5)) ∙ ap (λ (k : ℕ). Err (TooManyOps k)) (sym (h.0))
  judges-judged form (Err (BadHead number)) h = absurd h
  judges-judged form (Err (BadWords number)) h = absurd h
  judges-judged form (Err (NoEnd number)) h = absurd h
  judges-judged form (Err Memory) h = absurd h
