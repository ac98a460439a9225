-- What reading an input tells of its meaning.
use Rattle.std.proofs.Common.{◌≡◌, ◌⊎◌, ℕ, ◌+◌, List, length, Ok, Err, refl, sym, subst, inl, inr}
use Rattle.test_lang.specs.Program.{Program}
use Rattle.test_lang.specs.declared.text.fault.TestFault.{TestFault}
use Rattle.test_lang.specs.declared.text.fault.TestFault.TheVariants.{BadHead, BadWords, BadLine, WordRange, TooManyThreads, TooManyOps, NoThread, NoEnd, Memory as MemoryOfTest}
use Rattle.test_lang.specs.Text.Grammar.{StartsWithTest, test_lines}
use Rattle.test_lang.specs.Text.Refusal.{IsRefused as IsRefusedTest}
use Rattle.run_text.specs.declared.fault.RunFault.{RunFault}
use Rattle.run_text.specs.declared.fault.RunFault.TheVariants.{BadRunLine, WrongCount, ValueRange, NoDone, AfterDone, Memory}
use Rattle.run_text.specs.Runs.{reading, IsRefused}
use Rattle.run_text.proofs.Runs.{reading_is_meaning, reading_is_text}
use Rattle.run_count.specs.Counts.{RefusesText, text_of}
use Rattle.mtrace_app.specs.declared.refusal.InputFault.{InputFault}
use Rattle.mtrace_app.specs.declared.refusal.Refusal.{Refusal}
use Rattle.mtrace_app.specs.declared.refusal.Refusal.TheVariants.{Input}
use Rattle.mtrace_app.specs.Failures.{IfRefused, failure_of}
use Rattle.mtrace_app.specs.Inputs.{AreRecordedRuns, AreRefusedRuns, in_test, behind, behind_test, fault_behind_test, fault_in_test}

-- the runs that were read behind a test were recorded
pub recorded_by : (bytes : List ℕ) (p q : Program) (rest : List ℕ) (line : ℕ) (runs : List (List ℕ)) → q ≡ p → StartsWithTest bytes p rest → reading (text_of q line rest) ≡ Ok runs → AreRecordedRuns bytes p runs
recorded_by bytes p q rest line runs same starts e =
    let at_test = subst (λ (t : Program). reading (text_of t line rest) ≡ Ok runs) same e in
    record { rest = rest; test = starts; text = (reading_is_text (text_of p line rest) runs refl).0 at_test }

-- the refusal, if there is one, refuses the input
abbrev pub RefusesBytes : List ℕ → Refusal → Type 0
RefusesBytes bytes refusal = (fault : InputFault) × (refusal ≡ Input fault) × AreRefusedRuns bytes fault

failed_in_test : (bytes : List ℕ) (refusal : TestFault) → IsRefusedTest bytes refusal → IfRefused (RefusesBytes bytes) (failure_of (fault_in_test refusal))
failed_in_test bytes (BadHead line) h = (_, refl, in_test (BadHead line) h refl)
failed_in_test bytes (BadWords line) h = (_, refl, in_test (BadWords line) h refl)
failed_in_test bytes (BadLine line) h = (_, refl, in_test (BadLine line) h refl)
failed_in_test bytes (WordRange line) h = (_, refl, in_test (WordRange line) h refl)
failed_in_test bytes (TooManyThreads line) h = (_, refl, in_test (TooManyThreads line) h refl)
failed_in_test bytes (TooManyOps line) h = (_, refl, in_test (TooManyOps line) h refl)
failed_in_test bytes (NoThread line) h = (_, refl, in_test (NoThread line) h refl)
failed_in_test bytes (NoEnd line) h = (_, refl, in_test (NoEnd line) h refl)
failed_in_test bytes MemoryOfTest h = tt

-- what wasn't read as a test refuses the input
pub failed_in_reading : (bytes : List ℕ) (refusal : TestFault) → (refusal ≡ MemoryOfTest) ⊎ IsRefusedTest bytes refusal → IfRefused (RefusesBytes bytes) (failure_of (fault_in_test refusal))
failed_in_reading bytes refusal h = elim h [
  | inl e ↦ subst (λ (r : TestFault). IfRefused (RefusesBytes bytes) (failure_of (fault_in_test r))) (sym e) tt
  | inr r ↦ failed_in_test bytes refusal r
]

module _ (bytes : List ℕ) (p : Program) (rest : List ℕ) (starts : StartsWithTest bytes p rest) where
  refused_behind : (refusal : RunFault) → (refusal ≡ Memory → ⊥) → (refusal ≡ Memory) ⊎ (reading (behind_test p rest) ≡ Err refusal) → IsRefused (behind_test p rest) refusal
  refused_behind refusal other h = elim h [
    | inl e ↦ absurd (other e)
    | inr e ↦ (reading_is_meaning (behind_test p rest) (Err refusal) refl).0 e
  ]

  failed_behind : (refusal : RunFault) → (refusal ≡ Memory) ⊎ (reading (behind_test p rest) ≡ Err refusal) → IfRefused (RefusesBytes bytes) (failure_of (fault_behind_test refusal))
  failed_behind (BadRunLine line) h = (_, refl, behind p rest (BadRunLine line) starts (refused_behind (BadRunLine line) (λ e. cc) h) refl)
  failed_behind (WrongCount line want got) h = (_, refl, behind p rest (WrongCount line want got) starts (refused_behind (WrongCount line want got) (λ e. cc) h) refl)
  failed_behind (ValueRange line) h = (_, refl, behind p rest (ValueRange line) starts (refused_behind (ValueRange line) (λ e. cc) h) refl)
  failed_behind (NoDone line) h = (_, refl, behind p rest (NoDone line) starts (refused_behind (NoDone line) (λ e. cc) h) refl)
  failed_behind (AfterDone line) h = (_, refl, behind p rest (AfterDone line) starts (refused_behind (AfterDone line) (λ e. cc) h) refl)
  failed_behind Memory h = tt

  -- what wasn't read behind a test refuses the input
  pub failed_by : (q : Program) (line : ℕ) (refusal : RunFault) → q ≡ p → line ≡ length (test_lines p) + 1 → RefusesText (text_of q line rest) refusal → IfRefused (RefusesBytes bytes) (failure_of (fault_behind_test refusal))
  failed_by q line refusal same number h =
      let at_test = subst (λ (t : Program). RefusesText (text_of t line rest) refusal) same h in
      failed_behind refusal (subst (λ (n : ℕ). RefusesText (text_of p n rest) refusal) number at_test)
