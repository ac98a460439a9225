-- The buffers of all threads, and how they stand in one list of nodes.
use Rattle.std.specs.Prelude.{ℕ, ◌+◌, ◌-◌, ◌≤◌, List, [], ◌∷◌, ◌++◌, map, length, slice_index, slice_index_or, slice_set, slice_range, All, AllPairs}
use Rattle.std.specs.List.{remove}
use Rattle.orders.specs.Orders.{nodes_below}
use Rattle.test_lang.specs.Program.{Program, first_node, thread_length}
use Rattle.tso_machine.specs.declared.buffers.Range.{Range}

-- Each list is by thread.
pub record Queues : Type 0 where
  -- the entries of its buffer, the oldest first
  pub entries : List (List ℕ)
  -- how many were pushed since the buffers were cleared
  pub pushed : List ℕ
  -- how many may be
  pub rooms : List ℕ

-- the buffer of a thread
abbrev pub entries_at : Queues → ℕ → List ℕ
entries_at queues thread = slice_index_or queues.entries thread []

-- with one more entry at the end of the thread's buffer
abbrev pub with_entry : Queues → ℕ → ℕ → Queues
with_entry queues thread node = record {
  entries = slice_set queues.entries thread (entries_at queues thread ++ node ∷ []);
  pushed = slice_set queues.pushed thread (slice_index queues.pushed thread + 1);
  rooms = queues.rooms;
}

-- without the entry at this place
abbrev pub without_entry : Queues → ℕ → ℕ → Queues
without_entry queues thread place = record {
  entries = slice_set queues.entries thread (remove (entries_at queues thread) place);
  pushed = queues.pushed;
  rooms = queues.rooms;
}

-- empty buffers for as many threads, with the same room
abbrev pub cleared : Queues → Queues
cleared queues = record { entries = map (λ entries. []) queues.entries; pushed = map (λ pushed. 0) queues.pushed; rooms = queues.rooms }

-- empty buffers for the threads of a test, with room for an entry for each operation
abbrev pub empty_queues : Program → Queues
empty_queues p = record {
  entries = map (λ thread. []) (nodes_below (length p.threads));
  pushed = map (λ thread. 0) (nodes_below (length p.threads));
  rooms = map (thread_length p) (nodes_below (length p.threads));
}

-- what the list of nodes and the ranges of the threads show
abbrev pub queues_of : List ℕ → List Range → Queues
queues_of nodes ranges = record {
  entries = map (λ range. slice_range nodes range.begin range.end) ranges;
  pushed = map (λ range. range.end - range.first) ranges;
  rooms = map (λ range. range.limit - range.first) ranges;
}

-- the range in front of which nothing was pushed
abbrev pub empty_range : Program → ℕ → Range
empty_range p thread = record { first = first_node p thread; begin = first_node p thread; end = first_node p thread; limit = first_node p thread + thread_length p thread }

-- A range stands in the list.
pub record IsRange (room : ℕ) (range : Range) : Type 0 where
  pub front : range.first ≤ range.begin
  pub forward : range.begin ≤ range.end
  pub within : range.end ≤ range.limit
  pub inside : range.limit ≤ room

-- The ranges stand in the list, one behind the other.
pub record AreRanges (room : ℕ) (ranges : List Range) : Type 0 where
  pub each : All (IsRange room) ranges
  pub apart : AllPairs (λ a b. a.limit ≤ b.first) ranges
