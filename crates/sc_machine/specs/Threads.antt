-- The threads of a machine: where each stands, and where it ends.
use Rattle.std.specs.Prelude.{ℕ, ◌+◌, List, length, filter, Bool, nat_lt, slice_index_or}
use Rattle.orders.specs.Orders.{nodes_below}
use Rattle.test_lang.specs.Program.{Program, first_node, thread_length}
use Rattle.sc_machine.specs.declared.threads.Thread.{Thread}

-- the node behind the thread's last operation
abbrev pub thread_end : Program → ℕ → ℕ
thread_end p thread = first_node p thread + thread_length p thread

-- a thread that stands at its beginning
abbrev pub opening_thread : Program → ℕ → Thread
opening_thread p thread = record { next = first_node p thread; end = thread_end p thread }

-- an operation is left
abbrev pub is_open : Thread → Bool
is_open thread = nat_lt thread.next thread.end

-- the same of the thread with this number
abbrev pub open_at : List Thread → ℕ → Bool
open_at threads number = is_open (slice_index_or threads number (record { next = 0; end = 0 }))

-- the numbers of those that have one, rising
abbrev pub open_numbers : List Thread → List ℕ
open_numbers threads = filter (open_at threads) (nodes_below (length threads))
