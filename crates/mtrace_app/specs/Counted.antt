-- Runs that were counted.
use Rattle.std.specs.Prelude.{◌≡◌, ℕ, List, map, length}
use Rattle.std.specs.List.{AllByRecursion}
use Rattle.tally.specs.declared.outcome.Outcome.{Outcome}
use Rattle.tally.specs.Tallies.{IsTally, total_of}
use Rattle.test_lang.specs.Program.{Program}
use Rattle.test_lang.specs.Signatures.{Means}
use Rattle.test_lang.specs.Values.{load_count}
use Rattle.signature_plan.specs.Outcomes.{outcome_of}
use Rattle.verdict_report.specs.Lines.{signatures}
use Rattle.run_text.specs.Items.{IsRefusedText}
use Rattle.mtrace_app.specs.declared.refusal.InputFault.{InputFault}
use Rattle.mtrace_app.specs.declared.refusal.Refusal.{Refusal}
use Rattle.mtrace_app.specs.declared.refusal.Refusal.TheVariants.{Input}
use Rattle.mtrace_app.specs.Limits.{FitLimits}

-- each signature of a tally means a run
abbrev pub AreMeant : Program → List (List ℕ × ℕ) → Type 0
AreMeant p signatures = AllByRecursion (λ signature. (run : List ℕ) × Means p signature.0 run) signatures

-- So many runs, the counts of their outcomes, and each signature among these means a run.
pub record AreCounted (p : Program) (runs : List (List ℕ)) (count : ℕ) (tally : List (Outcome × ℕ)) : Type 0 where
  pub number : count ≡ length runs
  pub counts : IsTally (map (outcome_of p) runs) tally
  pub sum : total_of tally ≡ length runs
  pub meant : AreMeant p (signatures tally)

-- So many runs, and their counts where they are within the limits.
pub record AreCountedWithin (p : Program) (runs : List (List ℕ)) (count : ℕ) (tally : List (Outcome × ℕ)) : Type 0 where
  pub number : count ≡ length runs
  pub counted : FitLimits count (load_count p) → AreCounted p runs count tally

-- a text of items, whose first line has this number, is refused as that of an input is
abbrev pub RefusesBehind : {Item : Type 0} → (Item → List ℕ → Type 0) → (ℕ → List ℕ → InputFault → Type 0) → ℕ → List ℕ → Refusal → Type 0
RefusesBehind IsLineOf IsBad line text refusal = (fault : InputFault) × (refusal ≡ Input fault) × IsRefusedText IsLineOf IsBad line text fault
