use Rattle.std.proofs.Common.{sym, subst, ℕ}
use Rattle.mtrace_app.specs.Limits.{FitLimits}
use Rattle.mtrace_app.proofs.Counts.{if_ok_more}
use Rattle.mtrace_app.proofs.RunsSoFar.{counted_within}
use Rattle.mtrace_app.proofs.recorded.count_within.Goals as goal

pub returns-clause-ok : goal.returns-clause-ok
returns-clause-ok g c = if_ok_more c.count_runs.result _ _ (λ counted h. (
  h.0,
  h.1,
  counted_within c.args.plan.now c.most_runs-most.result h.0 counted.0 counted.1 (λ fit. (c.most_runs-most.ensures counted.0).0 (subst (λ (n : ℕ). FitLimits counted.0 n) (sym c.loads.ensures.count) fit)) h.2,
)) c.count_runs.ensures.ok
