use Rattle.std.proofs.Common.{◌≡◌, ◌++◌, List}
use Rattle.std.specs.List.{flat_map}
use Rattle.shared_words.specs.declared.racer.Task.{Task}
use Rattle.shared_words.specs.Tasks.{HasEach}
use Rattle.shared_words.proofs.racing.gather.Given as goal

abbrev pub invariant-loop-task : goal.invariant-loop-task
invariant-loop-task l = record {
  table : l.seat.table_id ≡ l.initial.seat.table_id;
  has : (done : List Task) × (done ++ l.task-iterator.rest.items ≡ l.fn.tasks.items) × HasEach l.seat.me.0 done;
  run : l.run.items ++ flat_map (λ (task : Task). task.values.items) l.task-iterator.rest.items ≡ flat_map (λ (task : Task). task.values.items) l.fn.tasks.items;
}
