-- Jobs, and what is counted of them.
use Rattle.std.specs.Prelude.{◌≡◌, ℕ, ◌≤◌, List, map, IsTrue}
use Rattle.std.specs.List.{AllByRecursion}
use Rattle.tally.specs.declared.outcome.Outcome.{Outcome}
use Rattle.tally.specs.Tallies.{IsTally, total_of}
use Rattle.test_lang.specs.Runs.{IsRun}
use Rattle.test_lang.specs.Targets.{fits}
use Rattle.signature_plan.specs.Outcomes.{outcome_of}
use Rattle.sim_core.specs.Drawn.{AreDrawnRuns}
use Rattle.sim_core.specs.Setup.{Setup}
use Rattle.runner.specs.declared.job.Job.{Job}

-- what the job's test is played on
abbrev pub setup_of : Job → Setup
setup_of job = record { target = job.target; fault = job.fault; test = job.test.now }

-- The plan is of the test, the machine can carry the fault, and there are at most a million runs.
pub record IsJob (job : Job) : Type 0 where
  pub plan : job.plan.now ≡ job.test.now
  pub fits : IsTrue (fits job.target job.fault)
  pub few : job.runs ≤ 1000000

-- The pairs are the tally of the outcomes of the job's drawn runs.
pub record IsTallyOfJob (job : Job) (pairs : List (Outcome × ℕ)) : Type 0 where
  pub runs : List (List ℕ)
  pub drawn : AreDrawnRuns (setup_of job) job.seed job.runs runs
  pub each : AllByRecursion (IsRun job.test.now) runs
  pub counts : IsTally (map (outcome_of job.test.now) runs) pairs
  pub total : total_of pairs ≡ job.runs
