use Rattle.std.proofs.Common.{length}
use Rattle.test_lang.proofs.TextLemmas.SoFar.{SoFar}
use Rattle.test_lang.proofs.text.read.read_body.Given as goal

-- The lines so far are those of the test, and the walk over the rest gives what the walk over all gives.
abbrev pub invariant-body : goal.invariant-body
invariant-body l = SoFar l.version l.words l.text l.test l.line l.left

abbrev pub decreases-body : goal.decreases-body
decreases-body l = length l.left
