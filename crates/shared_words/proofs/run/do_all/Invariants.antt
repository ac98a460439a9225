use Rattle.std.proofs.Common.{◌≡◌, ◌+◌, ◌-◌, ◌≤◌, length}
use Rattle.std.specs.Vec.{vec_capacity}
use Rattle.test_lang.specs.Program.{thread_length}
use Rattle.shared_words.specs.Steps.{own, IsAlone}
use Rattle.shared_words.proofs.run.do_all.Given as goal

abbrev pub invariant-loop-place : goal.invariant-loop-place
invariant-loop-place l = record {
  table : l.seat.table_id ≡ l.initial.seat.table_id;
  made : l.seat.me.0.made ≡ l.initial.seat.me.0.made;
  alone : IsAlone l.seat.me;
  number : (own l.seat.me.0).number ≡ l.number;
  arrived : (own l.seat.me.0).arrived ≡ (own l.initial.seat.me.0).arrived;
  passed : (own l.seat.me.0).passed ≡ l.place;
  values : (own l.seat.me.0).values ≡ l.values.items;
  room : length l.values.items + (thread_length l.test l.number - l.place) ≤ vec_capacity l.values;
}
