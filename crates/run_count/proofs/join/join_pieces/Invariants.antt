use Rattle.std.proofs.Common.{ℕ, List}
use Rattle.test_lang.specs.Program.{Program}
use Rattle.run_count.specs.Pieces.{AreReadFrom}
use Rattle.run_count.proofs.Joining.{IsJoinedTo}
use Rattle.run_count.proofs.join.join_pieces.Given as goal

-- Whatever texts the pieces have, those before the rest are joined.
abbrev pub invariant-loop-next : goal.invariant-loop-next
invariant-loop-next l = record {
  so_far : (p : Program) (texts : List (List ℕ)) → AreReadFrom l.fn.most p l.fn.line texts l.fn.counts.items → IsJoinedTo l.fn.most p l.fn.line texts l.next-iterator.rest.items l.all;
}
