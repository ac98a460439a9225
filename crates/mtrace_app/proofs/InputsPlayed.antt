-- What reading and playing the schedules of an input tells of its meaning.
use Rattle.std.proofs.Common.{◌≡◌, ◌⊎◌, ℕ, ◌+◌, List, length, refl, sym, subst, inl, inr}
use Rattle.test_lang.specs.Program.{Program}
use Rattle.test_lang.specs.declared.text.fault.TestFault.{TestFault}
use Rattle.test_lang.specs.declared.text.fault.TestFault.TheVariants.{BadHead, BadWords, BadLine, WordRange, TooManyThreads, TooManyOps, NoThread, NoEnd, Memory as MemoryOfTest}
use Rattle.test_lang.specs.Text.Grammar.{StartsWithTest, test_lines}
use Rattle.test_lang.specs.Text.Refusal.{IsRefused as IsRefusedTest}
use Rattle.run_text.specs.Items.{IsRefusedText}
use Rattle.command_line.specs.declared.meaning.Settings.{Settings}
use Rattle.mtrace_app.specs.declared.failure.Failure.{Failure}
use Rattle.mtrace_app.specs.declared.failure.Failure.TheVariants.{Refused, Memory}
use Rattle.mtrace_app.specs.declared.refusal.InputFault.{InputFault}
use Rattle.mtrace_app.specs.declared.refusal.Refusal.{Refusal}
use Rattle.mtrace_app.specs.declared.refusal.Refusal.TheVariants.{Input}
use Rattle.mtrace_app.specs.Counted.{RefusesBehind}
use Rattle.mtrace_app.specs.Failures.{IfRefused, failure_of}
use Rattle.mtrace_app.specs.Inputs.{AreRefusedPlays, IsBadForPlays, IsLineOfPlay, in_test, behind, fault_in_test, setup_of}

-- the refusal, if there is one, refuses the input
abbrev pub RefusesPlays : Settings → List ℕ → Refusal → Type 0
RefusesPlays s bytes refusal = (fault : InputFault) × (refusal ≡ Input fault) × AreRefusedPlays s bytes fault

module _ (s : Settings) (bytes : List ℕ) where
  refused_test : (refusal : TestFault) → IsRefusedTest bytes refusal → IfRefused (RefusesPlays s bytes) (failure_of (fault_in_test refusal))
  refused_test (BadHead line) h = (_, refl, in_test (BadHead line) h refl)
  refused_test (BadWords line) h = (_, refl, in_test (BadWords line) h refl)
  refused_test (BadLine line) h = (_, refl, in_test (BadLine line) h refl)
  refused_test (WordRange line) h = (_, refl, in_test (WordRange line) h refl)
  refused_test (TooManyThreads line) h = (_, refl, in_test (TooManyThreads line) h refl)
  refused_test (TooManyOps line) h = (_, refl, in_test (TooManyOps line) h refl)
  refused_test (NoThread line) h = (_, refl, in_test (NoThread line) h refl)
  refused_test (NoEnd line) h = (_, refl, in_test (NoEnd line) h refl)
  refused_test MemoryOfTest h = tt

  -- what wasn't read as a test refuses the input
  pub failed_in_test : (refusal : TestFault) → (refusal ≡ MemoryOfTest) ⊎ IsRefusedTest bytes refusal → IfRefused (RefusesPlays s bytes) (failure_of (fault_in_test refusal))
  failed_in_test refusal h = elim h [
    | inl e ↦ subst (λ (r : TestFault). IfRefused (RefusesPlays s bytes) (failure_of (fault_in_test r))) (sym e) tt
    | inr r ↦ refused_test refusal r
  ]

  -- what wasn't played behind it does so too
  pub failed_behind : (p : Program) (text : List ℕ) (line : ℕ) (failure : Failure) → StartsWithTest bytes p text → line ≡ length (test_lines p) + 1
      → IfRefused (RefusesBehind (IsLineOfPlay (setup_of s p)) (IsBadForPlays (setup_of s p)) line text) failure → IfRefused (RefusesPlays s bytes) failure
  failed_behind p text line (Refused refusal) starts number h =
      (h.0, h.1, behind p text h.0 starts (subst (λ (n : ℕ). IsRefusedText (IsLineOfPlay (setup_of s p)) (IsBadForPlays (setup_of s p)) n text h.0) number h.2) refl)
  failed_behind p text line Memory starts number h = tt
