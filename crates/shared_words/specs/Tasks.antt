-- What the threads of a race begin with and give back.
use Rattle.std.specs.Prelude.{◌≡◌, ℕ, ◌<◌, ◌≤◌, List, [], length, slice_index_or}
use Rattle.std.specs.Vec.{vec_capacity}
use mathlib.Core.Option.{some}
use lib.ListN.{get_elem?}
use Rattle.atomic_table.specs.Seated.{TableId}
use Rattle.test_lang.specs.Program.{Program, thread_length}
use Rattle.shared_words.specs.declared.racer.Task.{Task}
use Rattle.shared_words.specs.declared.rule.View.{View}
use Rattle.shared_words.specs.Racers.{fresh, finished, part_of}

-- the thread k of the test has done nothing, and has room for its values
pub record IsReady (z : TableId) (p : Program) (k : ℕ) (task : Task) : Type 0 where
  pub racer : task.racer ≡ fresh z (length p.threads) k
  pub values : task.values.items ≡ []
  pub room : thread_length p k ≤ vec_capacity task.values

-- it has passed all its operations, and these are the values that it found
abbrev pub HasRun : TableId → Program → ℕ → Task → Type 0
HasRun z p k task = task.racer ≡ finished z p k task.values.items

-- the tasks of the first threads, by rising number
abbrev pub AreReady : TableId → Program → List Task → Type 0
AreReady z p tasks = (k : ℕ) (d : Task) → k < length tasks → IsReady z p k (slice_index_or tasks k d)

abbrev pub HaveRun : TableId → Program → List Task → Type 0
HaveRun z p tasks = (k : ℕ) (d : Task) → k < length tasks → HasRun z p k (slice_index_or tasks k d)

-- the seat has the part of each of these threads
abbrev pub HasEach : View → List Task → Type 0
HasEach v tasks = (k : ℕ) (d : Task) → k < length tasks → (i : ℕ) × (get_elem? v.parts i ≡ some (part_of (slice_index_or tasks k d).racer))
