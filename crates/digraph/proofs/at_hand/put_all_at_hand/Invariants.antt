-- The first edges are counted.
use Rattle.std.proofs.Common.{◌≡◌, ◌≤◌, ◌<◌, ◌+◌, ◌++◌, ℕ, List, length, take, get_or}
use Rattle.digraph.specs.AtHand.{TellAtHand}
use Rattle.digraph.proofs.at_hand.put_all_at_hand.Given as goal

abbrev pub invariant-loop-edge : goal.invariant-loop-edge
invariant-loop-edge l = record {
  at_hand : (before : List (ℕ × ℕ)) → TellAtHand (length l.initial.out_degrees) before l.initial.near l.initial.out_degrees l.initial.in_degrees →
      TellAtHand (length l.initial.out_degrees) (before ++ take l.edge-index l.edges) l.near l.out_degrees l.in_degrees;
  near : length l.near ≡ length l.initial.near;
  outs : length l.out_degrees ≡ length l.initial.out_degrees;
  ins : length l.in_degrees ≡ length l.initial.in_degrees;
  few_out : (node : ℕ) → node < length l.initial.out_degrees → get_or l.out_degrees node 0 ≤ get_or l.initial.out_degrees node 0 + l.edge-index;
  few_in : (node : ℕ) → node < length l.initial.out_degrees → get_or l.in_degrees node 0 ≤ get_or l.initial.in_degrees node 0 + l.edge-index;
}
