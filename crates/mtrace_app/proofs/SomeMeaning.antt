-- A text means a test with runs behind it, or is refused.
use Rattle.std.proofs.Common.{◌⊎◌, ℕ, List, Result, Ok, Err, refl, inl, inr, arith}
use Rattle.test_lang.specs.Program.{Program}
use Rattle.test_lang.specs.declared.text.fault.TestFault.{TestFault}
use Rattle.test_lang.specs.declared.text.fault.TestFault.TheVariants.{BadHead, BadWords, BadLine, WordRange, TooManyThreads, TooManyOps, NoThread, NoEnd, Memory}
use Rattle.test_lang.specs.Text.Grammar.{StartsWithTest}
use Rattle.test_lang.specs.Text.Reading.{reading as reading_of_test}
use Rattle.test_lang.specs.Text.Refusal.{TextMeans, IsRefused as IsRefusedTest}
use Rattle.test_lang.proofs.TextLemmas.Readings.{reading_means}
use Rattle.run_text.specs.declared.fault.RunFault.{RunFault}
use Rattle.run_text.specs.declared.fault.RunFault.TheVariants.{BadRunLine, WrongCount, ValueRange, NoDone, AfterDone, Memory as MemoryOfRuns}
use Rattle.run_text.specs.Runs.{reading, RunsMean, IsRefused}
use Rattle.run_text.proofs.Runs.{reading_is_meaning, reading_is_text}
use Rattle.mtrace_app.specs.declared.refusal.InputFault.{InputFault}
use Rattle.mtrace_app.specs.Inputs.{AreRecordedRuns, AreRefusedRuns, in_test, behind, behind_test}

module _ (bytes : List ℕ) where
  -- want of memory refuses no text
  named_in_test : (refusal : TestFault) → IsRefusedTest bytes refusal → (fault : InputFault) × AreRefusedRuns bytes fault
  named_in_test (BadHead line) h = (_, in_test (BadHead line) h refl)
  named_in_test (BadWords line) h = (_, in_test (BadWords line) h refl)
  named_in_test (BadLine line) h = (_, in_test (BadLine line) h refl)
  named_in_test (WordRange line) h = (_, in_test (WordRange line) h refl)
  named_in_test (TooManyThreads line) h = (_, in_test (TooManyThreads line) h refl)
  named_in_test (TooManyOps line) h = (_, in_test (TooManyOps line) h refl)
  named_in_test (NoThread line) h = (_, in_test (NoThread line) h refl)
  named_in_test (NoEnd line) h = (_, in_test (NoEnd line) h refl)
  named_in_test Memory h = let number = h.number in absurd (omega (arith, number))

  pub named_behind : (p : Program) (rest : List ℕ) (refusal : RunFault) → StartsWithTest bytes p rest → IsRefused (behind_test p rest) refusal → (fault : InputFault) × AreRefusedRuns bytes fault
  named_behind p rest (BadRunLine line) starts h = (_, behind p rest (BadRunLine line) starts h refl)
  named_behind p rest (WrongCount line want got) starts h = (_, behind p rest (WrongCount line want got) starts h refl)
  named_behind p rest (ValueRange line) starts h = (_, behind p rest (ValueRange line) starts h refl)
  named_behind p rest (NoDone line) starts h = (_, behind p rest (NoDone line) starts h refl)
  named_behind p rest (AfterDone line) starts h = (_, behind p rest (AfterDone line) starts h refl)
  named_behind p rest MemoryOfRuns starts h = absurd h.bad

  behind_a_test : (p : Program) (rest : List ℕ) (read : Result (List (List ℕ)) RunFault) → StartsWithTest bytes p rest → RunsMean (behind_test p rest) read
      → ((q : Program) × (runs : List (List ℕ)) × AreRecordedRuns bytes q runs) ⊎ ((fault : InputFault) × AreRefusedRuns bytes fault)
  behind_a_test p rest (Ok runs) starts h = inl (p, runs, record { rest = rest; test = starts; text = (reading_is_text (behind_test p rest) runs refl).0 ((reading_is_meaning (behind_test p rest) (Ok runs) refl).1 h) })
  behind_a_test p rest (Err refusal) starts h = inr (named_behind p rest refusal starts h)

  by_test : (read : Result Program TestFault) → TextMeans bytes read → ((q : Program) × (runs : List (List ℕ)) × AreRecordedRuns bytes q runs) ⊎ ((fault : InputFault) × AreRefusedRuns bytes fault)
  by_test (Ok p) h =
      let reader = behind_test p h.0 in
      behind_a_test p h.0 (reading reader) h.1 ((reading_is_meaning reader (reading reader) refl).0 refl)
  by_test (Err refusal) h = inr (named_in_test refusal h)

  pub some_meaning : ((p : Program) × (runs : List (List ℕ)) × AreRecordedRuns bytes p runs) ⊎ ((fault : InputFault) × AreRefusedRuns bytes fault)
  some_meaning = by_test (reading_of_test bytes) (reading_means bytes)
