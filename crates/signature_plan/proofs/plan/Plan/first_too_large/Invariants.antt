use Rattle.std.proofs.Common.{◌<◌, ℕ, get_or}
use Rattle.signature_plan.specs.Fitting.{product_at}
use Rattle.signature_plan.proofs.plan.Plan.first_too_large.Given as goal

abbrev pub invariant-loop-place : goal.invariant-loop-place
invariant-loop-place l = (k : ℕ) → k < l.place → get_or l.words k 0 < product_at l.self k
