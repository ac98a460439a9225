use Rattle.std.proofs.Common.{length, map}
use Rattle.run_text.proofs.Cutting.{IsCutting}
use Rattle.run_text.proofs.pieces.cut_pieces.Given as goal

abbrev pub invariant-cuts : goal.invariant-cuts
invariant-cuts l = IsCutting l.text l.size (map (λ piece. piece.now) l.pieces.items) l.left

abbrev pub decreases-cuts : goal.decreases-cuts
decreases-cuts l = length l.left
