-- What all workers give is the answer of the whole.
use Rattle.std.proofs.Common.{◌≡◌, ◌∙◌, ℕ, ◌^◌, ◌<◌, ◌≤◌, List, [], ◌∷◌, map, length, get_or, sym, ap, subst, arith}
use Rattle.std.specs.Prelude.{Result, IfOk}
use Rattle.std.specs.Prelude.{Ok as Given, Err as Refused}
use Rattle.std.specs.Int.{div_ceil}
use Rattle.std.specs.List.{AllByRecursion, AllZip}
use Rattle.std.proofs.lemmas.List.{get_or-map, length-map}
use Rattle.std.proofs.lemmas.List.Elements.{recursion_from_All}
use Rattle.test_lang.specs.Program.{Program}
use Rattle.test_lang.specs.Signatures.{Means}
use Rattle.verdict_report.specs.declared.report.Judged.{Judged}
use Rattle.verdict_report.specs.declared.report.Work.{Work}
use Rattle.graph_model.specs.StaticGraph.{StaticGraph}
use Rattle.chunk_pool.specs.declared.checked.Checked.{Checked}
use Rattle.chunk_pool.specs.declared.share.CycleAt.{CycleAt}
use Rattle.chunk_pool.specs.declared.share.Share.{Share}
use Rattle.chunk_pool.specs.declared.task.Task.{Task}
use Rattle.chunk_pool.specs.Chunks.{IsWorkInChunks}
use Rattle.chunk_pool.specs.Gathered.{AreSmall, IsGathered, IsSmall}
use Rattle.chunk_pool.specs.Shares.{AreFound, AreMeant}
use Rattle.chunk_pool.specs.Tasks.{AreShares, IsShareOf, IsTask}
use Rattle.chunk_pool.specs.Verdicts.{IsJudged}
use Rattle.chunk_pool.proofs.Settling.{few-more}
use Rattle.chunk_pool.proofs.Whole.{whole_found, whole_work}

pub if_ok_weaker : {X E : Type 0} (P Q : X → Type 0) (result : Result X E) → ((x : X) → P x → Q x) → IfOk result P → IfOk result Q
if_ok_weaker P Q (Given x) weaker h = weaker x h
if_ok_weaker P Q (Refused e) weaker h = h

places_within : (s : StaticGraph) (signatures : List (List ℕ)) (cycles : List CycleAt) → AreFound s signatures cycles → AllByRecursion (λ (c : CycleAt). c.place < length signatures) cycles
places_within s signatures [] h = tt
places_within s signatures (c ∷ cycles) h = (h.0.0, places_within s signatures cycles h.1)

pub task_is : (task : Task) (p : Program) → task.plan.now ≡ p → task.fixed.now.test ≡ p → ((k : ℕ) (d : List ℕ) → k < length task.signatures.now → (run : List ℕ) × Means p (get_or task.signatures.now k d) run) → length task.signatures.now ≤ 1000000
    → 0 < task.chunk → task.chunk < 2 ^ 32 → 0 < task.workers → task.workers ≤ 64 → IsTask task
task_is task p plan test meant few some_chunk chunk_fits some_worker few_workers = record {
  plan_is = plan ∙ sym test;
  meant = subst (λ (q : Program). AreMeant q task.signatures.now) (sym test) (λ place below. meant place [] below);
  few = few;
  some_chunk = some_chunk;
  chunk_fits = chunk_fits;
  some_worker = some_worker;
  few_workers = few_workers;
}

module _ (task : Task) (is : IsTask task) where
  share_small : (worker : ℕ) (share : Share) → IsShareOf task worker share → IsSmall (length task.signatures.now) share
  share_small worker share h = record {
    within = places_within task.fixed.now task.signatures.now share.cycles.items h.2.sound.found;
    few = few-more share.counts (length task.signatures.now) 1000000 is.few h.2.sound.few;
  }

  pub shares_small : {E : Type 0} (results : List (Result Share E)) → length results ≡ task.workers → AreShares task results → AreSmall (length task.signatures.now) results
  shares_small {E} results long each = recursion_from_All (λ (r : Result Share E). IfOk r (IsSmall (length task.signatures.now))) results
      (λ k d below. if_ok_weaker (IsShareOf task k) (IsSmall (length task.signatures.now)) (get_or results k d) (share_small k) (each k d (subst (λ (n : ℕ). k < n) long below)))

  share_at : {E : Type 0} (shares : List Share) (d : Share) (results : List (Result Share E)) → results ≡ map Given shares → length shares ≡ task.workers → AreShares task results
      → (worker : ℕ) → worker < task.workers → IsShareOf task worker (get_or shares worker d)
  share_at {E} shares d results e long each worker below =
      let read : get_or results worker (Given d) ≡ Given (get_or shares worker d) =
      ap (λ (rs : List (Result Share E)). get_or rs worker (Given d)) e ∙ get_or-map Given shares worker d (Given d) (subst (λ (n : ℕ). worker < n) (sym long) below) in
      subst (λ (r : Result Share E). IfOk r (IsShareOf task worker)) read (each worker (Given d) below)

  some_share : (shares : List Share) → 0 < length shares → Share
  some_share [] some = absurd (omega (arith, some))
  some_share (share ∷ shares) some = share

  module _ {E : Type 0} (results : List (Result Share E)) (checked : Checked) (long : length results ≡ task.workers) (each : AreShares task results)
      (g : IsGathered (length task.signatures.now) (div_ceil (length task.signatures.now) task.chunk) results checked) where
    shares_long : length g.shares ≡ task.workers
    shares_long = sym (length-map {B = Result Share E} g.shares Given) ∙ ap (λ (rs : List (Result Share E)). length rs) (sym g.all) ∙ long

    first_share : Share
    first_share = some_share g.shares (subst (λ (n : ℕ). 0 < n) (sym shares_long) is.some_worker)

    pub answers_found : AllZip (IsJudged task.fixed.now.model task.fixed.now.test) task.signatures.now checked.found.items
    answers_found = subst (λ (found : List Judged). AllZip (IsJudged task.fixed.now.model task.fixed.now.test) task.signatures.now found) (sym g.found)
        (whole_found task.fixed.now task.signatures.now task.chunk task.workers is.some_chunk is.some_worker g.shares first_share shares_long (share_at g.shares first_share results g.all shares_long each))

    pub answers_work : IsWorkInChunks task.fixed.now.model task.fixed.now.test task.chunk task.signatures.now checked.work
    answers_work = subst (λ (work : Work). IsWorkInChunks task.fixed.now.model task.fixed.now.test task.chunk task.signatures.now work) (sym g.work)
        (whole_work task.fixed.now task.signatures.now task.chunk task.workers is.some_chunk is.some_worker g.shares first_share shares_long (share_at g.shares first_share results g.all shares_long each))
