-- The verdict on a signature.
use Rattle.std.specs.Prelude.{◌≡◌, ℕ, List}
use Rattle.test_lang.specs.declared.op.MemModel.{MemModel}
use Rattle.test_lang.specs.Edges.{IsRunAcyclic, HasNoRunOrder, IsCanonicalRunCycle}
use Rattle.test_lang.specs.Program.{Program}
use Rattle.test_lang.specs.Signatures.{Means}
use Rattle.verdict_report.specs.declared.report.Judged.{Judged}
use Rattle.verdict_report.specs.declared.report.Judged.TheVariants.{Ok, Cycle}

-- The verdict on a run, by its own edges alone: ok where it has an order, and otherwise its canonical cycle.
abbrev pub IsVerdict : MemModel → Program → List ℕ → Judged → Type 0
IsVerdict model p run Ok = IsRunAcyclic model p run
IsVerdict model p run (Cycle nodes) = HasNoRunOrder model p run × IsCanonicalRunCycle model p run nodes.list

-- The verdict on a signature is that on the one run that it means.
pub record IsJudged (model : MemModel) (p : Program) (words : List ℕ) (judged : Judged) : Type 0 where
  pub run : List ℕ
  pub means : Means p words run
  pub one : (other : List ℕ) → Means p words other → other ≡ run
  pub verdict : IsVerdict model p run judged
