use Rattle.std.proofs.Common.{length}
use Rattle.run_text.specs.Found.{SoFar}
use Rattle.run_text.proofs.parts.read_parts.Given as goal

-- The values so far, whichever they are, and then those of what is left.
abbrev pub invariant-parts : goal.invariant-parts
invariant-parts l = (vs : _) × SoFar l.want l.bytes l.left l.fn.values.items l.found l.values.items vs

abbrev pub decreases-parts : goal.decreases-parts
decreases-parts l = length l.left
