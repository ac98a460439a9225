use Rattle.std.proofs.Common.{◌≡◌, ◌≤◌, [], pred}
use Rattle.std.specs.Vec.{vec_capacity}
use Rattle.turn_set.specs.Rule.{maker_of}
use Rattle.turn_set.specs.Passes.{fresh_others}
use Rattle.turn_set.proofs.set.deal.Given as goal

abbrev pub invariant-loop-k : goal.invariant-loop-k
invariant-loop-k l = record {
  same : l.first.table_id ≡ l.initial.first.table_id;
  first : l.first.me ≡ (maker_of l.k, []);
  all : l.all.items ≡ fresh_others l.table.table_id (pred l.k);
  room : l.passes ≤ vec_capacity l.all;
}
