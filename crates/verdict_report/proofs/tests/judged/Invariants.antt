use Rattle.std.proofs.Common.{◌≡◌}
use Rattle.verdict_report.proofs.tests.judged.Given as goal

abbrev pub invariant-loop-node : goal.invariant-loop-node
invariant-loop-node l = l.nodes.room ≡ 8
