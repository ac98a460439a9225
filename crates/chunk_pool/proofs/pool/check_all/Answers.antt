use Rattle.std.proofs.Common.{◌∙◌, ℕ, [], length, sym, subst}
use Rattle.std.specs.List.{AllZip}
use Rattle.test_lang.specs.declared.op.MemModel.{MemModel}
use Rattle.test_lang.specs.Program.{Program}
use Rattle.chunk_pool.specs.declared.checked.Checked.{Checked}
use Rattle.chunk_pool.specs.declared.task.Task.{Task}
use Rattle.chunk_pool.specs.Chunks.{IsWorkInChunks}
use Rattle.chunk_pool.specs.Gathered.{IsGathered}
use Rattle.chunk_pool.specs.Shares.{AreMeant}
use Rattle.chunk_pool.specs.Verdicts.{IsJudged}
use Rattle.chunk_pool.proofs.Answered.{answers_found, answers_work, if_ok_weaker, shares_small, task_is}
use Rattle.chunk_pool.proofs.pool.check_all.Goals as goal

pub shares_of-requires-after_bounds : goal.shares_of-requires-after_bounds
shares_of-requires-after_bounds g c = λ κs bounds. record {
  plan_is = c.requires.plan ∙ sym c.in_ok-fixed.ensures.test;
  meant = subst (λ (p : Program). AreMeant p c.args.signatures.now) (sym c.in_ok-fixed.ensures.test) (λ place below. c.requires.meant place [] below);
  few = c.requires.few;
  some_chunk = c.requires.chunk;
  chunk_fits = c.ranges.chunk.fits;
  some_worker = c.requires.some_worker;
  few_workers = c.requires.few_workers;
}

pub gather-requires-clause-small : goal.gather-requires-clause-small
gather-requires-clause-small g c =
    let task : Task = record { plan = c.args.plan; fixed = record { ref_ptr = c.args.plan.ref_ptr; now = c.in_ok-fixed.fixed }; signatures = c.args.signatures; chunk = c.args.chunk; workers = c.args.workers } in
    let is = task_is task c.args.test.now c.requires.plan c.in_ok-fixed.ensures.test c.requires.meant c.requires.few c.requires.chunk c.ranges.chunk.fits c.requires.some_worker c.requires.few_workers in
    shares_small task is c.in_ok-shares.shares.items (sym c.in_ok-shares.shares.ok.0 ∙ c.in_ok-shares.ensures.len) c.in_ok-shares.ensures.each

pub returns-clause-found : goal.returns-clause-found
returns-clause-found g c =
    let task : Task = record { plan = c.args.plan; fixed = record { ref_ptr = c.args.plan.ref_ptr; now = c.in_ok-fixed.fixed }; signatures = c.args.signatures; chunk = c.args.chunk; workers = c.args.workers } in
    let is = task_is task c.args.test.now c.requires.plan c.in_ok-fixed.ensures.test c.requires.meant c.requires.few c.requires.chunk c.ranges.chunk.fits c.requires.some_worker c.requires.few_workers in
    let signatures = c.args.signatures.now in
    let results = c.in_ok-shares.shares.items in
    if_ok_weaker (IsGathered (length signatures) c.chunks.result results) (λ (checked : Checked). AllZip (IsJudged c.args.model c.args.test.now) signatures checked.found.items) c.gather.result
    (λ checked gathered.
    let whole = answers_found task is results checked (sym c.in_ok-shares.shares.ok.0 ∙ c.in_ok-shares.ensures.len) c.in_ok-shares.ensures.each (subst (λ (chunks : ℕ). IsGathered (length signatures) chunks results checked) c.chunks.ensures gathered) in
    subst (λ (m : MemModel). AllZip (IsJudged m c.args.test.now) signatures checked.found.items) c.in_ok-fixed.ensures.model
    (subst (λ (p : Program). AllZip (IsJudged c.in_ok-fixed.fixed.model p) signatures checked.found.items) c.in_ok-fixed.ensures.test whole))
    c.gather.ensures

pub returns-clause-work : goal.returns-clause-work
returns-clause-work g c =
    let task : Task = record { plan = c.args.plan; fixed = record { ref_ptr = c.args.plan.ref_ptr; now = c.in_ok-fixed.fixed }; signatures = c.args.signatures; chunk = c.args.chunk; workers = c.args.workers } in
    let is = task_is task c.args.test.now c.requires.plan c.in_ok-fixed.ensures.test c.requires.meant c.requires.few c.requires.chunk c.ranges.chunk.fits c.requires.some_worker c.requires.few_workers in
    let signatures = c.args.signatures.now in
    let results = c.in_ok-shares.shares.items in
    if_ok_weaker (IsGathered (length signatures) c.chunks.result results) (λ (checked : Checked). IsWorkInChunks c.args.model c.args.test.now c.args.chunk signatures checked.work) c.gather.result
    (λ checked gathered.
    let whole = answers_work task is results checked (sym c.in_ok-shares.shares.ok.0 ∙ c.in_ok-shares.ensures.len) c.in_ok-shares.ensures.each (subst (λ (chunks : ℕ). IsGathered (length signatures) chunks results checked) c.chunks.ensures gathered) in
    subst (λ (m : MemModel). IsWorkInChunks m c.args.test.now c.args.chunk signatures checked.work) c.in_ok-fixed.ensures.model
    (subst (λ (p : Program). IsWorkInChunks c.in_ok-fixed.fixed.model p c.args.chunk signatures checked.work) c.in_ok-fixed.ensures.test whole))
    c.gather.ensures
