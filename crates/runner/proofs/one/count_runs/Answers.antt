use Rattle.std.proofs.Common.{◌≡◌, ◌∙◌, List, length, Result, Ok, Err, ap, sym, arith}
use Rattle.std.specs.Prelude.{IfOk}
use Rattle.tally.specs.declared.outcome.Outcome.{Outcome}
use Rattle.tally.specs.Counting.{HasCounted}
use Rattle.tally.specs.Tallies.{IsTally}
use Rattle.test_lang.specs.Values.{load_count}
use Rattle.runner.specs.Jobs.{IsTallyOfJob, setup_of}
use Rattle.runner.proofs.DrawnSoFar.{drawn_length, drawn_now, length_lent, so_far-push, tally_of_job}
use Rattle.runner.proofs.one.count_runs.Goals as goal

pub count_run-requires-clause-loads : goal.count_run-requires-clause-loads
count_run-requires-clause-loads g c =
    let job = c.args.job.now in
    drawn_length (setup_of job) job.seed c.runs.run c.loads.result.now c.keeps_limits.ensures
    (drawn_now (setup_of job) (g.M.Machine.setup c.runs.machine) (g.M.Machine.setup c.play_anew.new.machine) job.seed c.runs.run (g.M.Machine.stands c.play_anew.new.machine) c.loads.result.now c.runs.invariant.setup c.play_anew.ensures.setup
    c.play_anew.ensures.drawn c.loads.ensures)
    ∙ ap load_count (sym c.requires.job.plan)

pub runs-preserved : goal.runs-preserved
runs-preserved g c =
    let job = c.args.job.now in
    let i = c.runs.invariant in
    record {
      setup = c.play_anew.ensures.setup ∙ i.setup;
      counted = so_far-push (setup_of job) job.seed c.runs.run job.plan.now c.loads.result.now c.runs.counter c.count_run.new.counter i.counted c.requires.job.plan
          (drawn_now (setup_of job) (g.M.Machine.setup c.runs.machine) (g.M.Machine.setup c.play_anew.new.machine) job.seed c.runs.run (g.M.Machine.stands c.play_anew.new.machine) c.loads.result.now i.setup c.play_anew.ensures.setup
          c.play_anew.ensures.drawn c.loads.ensures)
          c.in_ok-count_run.ensures.counted c.in_ok-count_run.ensures.total;
      words = length_lent c.runs.words.len c.count_run.new.words c.runs.words.items (c.count_run.auto.words ∙ ap length c.deref_mut.ensures.value) (sym c.deref_mut.ensures.len ∙ ap length c.deref_mut.ensures.value) ∙ i.words;
      width = c.in_ok-count_run.ensures.width ∙ i.width;
    }

-- what comes of two facts on an answer
both_ok : {X Y : Type 0} (P Q R : X → Type 0) (r : Result X Y) → ((x : X) → P x → Q x → R x) → IfOk r P → IfOk r Q → IfOk r R
both_ok P Q R (Ok x) f p q = f x p q
both_ok P Q R (Err y) f p q = tt

pub returns : goal.returns
returns g c =
    let job = c.args.job.now in
    let past = c.runs-test.false in
    let within = c.runs.auto.run-end in
    both_ok (λ pairs. pairs ≡ c.runs.counter.pairs) (λ pairs. (outcomes : List Outcome) → HasCounted outcomes c.runs.counter → IsTally outcomes pairs) (IsTallyOfJob job) c.finish.result
    (λ pairs same tallies. tally_of_job job c.runs.run c.runs.counter pairs c.keeps_limits.ensures c.runs.invariant.counted (omega (arith, past, within)) tallies same) c.finish.ensures.pairs c.finish.ensures.counted
