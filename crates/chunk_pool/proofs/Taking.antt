-- What a worker knows of a signature that it has taken.
use Rattle.std.proofs.Common.{◌≡◌, ℕ, List, [], ◌∷◌, refl}
use Rattle.std.specs.Prelude.{◌↔◌, IsTrue, Option, false}
use Rattle.digraph.specs.Roomed.{Roomed}
use Rattle.graph_model.specs.StaticGraph.{StaticGraph}
use Rattle.test_lang.specs.Edges.{HasNoRunOrder, IsCanonicalRunCycle}
use Rattle.test_lang.specs.Signatures.{Means}
use Rattle.verdict_report.specs.declared.report.Judged.TheVariants.{Ok, Cycle}
use Rattle.window_resort.specs.declared.verdicts.Verdict.{Verdict}
use Rattle.window_resort.specs.declared.verdicts.Verdict.TheVariants.{Sorted, Kept, Resorted, Cycle as CycleFound}
use Rattle.window_resort.specs.Walks.{Base, TakesRun, is_cycle}
use Rattle.window_resort.proofs.Walks.{stays_ordered}
use Rattle.chunk_pool.specs.declared.share.Counts.{Counts}
use Rattle.chunk_pool.specs.Shares.{IsOrdered, TakesSignature, counted}
use Rattle.chunk_pool.specs.Verdicts.{IsJudged}
use Rattle.chunk_pool.proofs.Settling.{judged-cycle, judged-ok, taken-acyclic}

-- the run that the words mean is taken, and gets this verdict
pub record Took (s : StaticGraph) (words run : List ℕ) (base after : Option Base) (verdict : Verdict) : Type 0 where
  pub means : Means s.test words run
  pub one : (other : List ℕ) → Means s.test words other → other ≡ run
  pub taken : TakesRun s.model s.test base run verdict after
  pub none : IsTrue (is_cycle verdict) ↔ HasNoRunOrder s.model s.test run

pub not_cycle : (verdict : Verdict) → ((window : Option ℕ) → verdict ≡ CycleFound window → ⊥) → is_cycle verdict ≡ false
not_cycle Sorted other = refl
not_cycle Kept other = refl
not_cycle (Resorted nodes) other = refl
not_cycle (CycleFound window) other = absurd (other window refl)

module _ (s : StaticGraph) (words run : List ℕ) (base after : Option Base) (verdict : Verdict) (ordered : IsOrdered s base) (h : Took s words run base after verdict) where
  pub took-ordered : IsOrdered s after
  took-ordered = stays_ordered s.model s.test base run verdict after ordered h.taken

  pub took-ok : is_cycle verdict ≡ false → IsJudged s.model s.test words Ok
  took-ok isnt = judged-ok s words run h.means h.one (taken-acyclic s base run ordered verdict after h.taken isnt)

  pub took-cycle : (nodes : Roomed ℕ) → IsTrue (is_cycle verdict) → IsCanonicalRunCycle s.model s.test run nodes.list → IsJudged s.model s.test words (Cycle nodes)
  took-cycle nodes is canonical = judged-cycle s words run h.means h.one nodes (h.none.0 is) canonical

  pub took-signature : (old new : Counts) → new ≡ counted old (verdict ∷ []) → TakesSignature s words base after old new
  took-signature old new counts = record { run = run; means = h.means; verdict = verdict; taken = h.taken; counts = counts }
