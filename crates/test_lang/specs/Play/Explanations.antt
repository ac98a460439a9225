-- Explanations of a run: an order in which the operations of all threads may have taken effect, so that each load gives what it does.
use Rattle.std.specs.Prelude.{◌≡◌, ℕ, ◌<◌, List, take, length, slice_index, if◌then◌else◌, IsTrue}
use Rattle.orders.specs.Orders.{IsOrder}
use Rattle.test_lang.specs.Program.{Program, all_nodes}
use Rattle.test_lang.specs.Values.{is_load_at, is_store_at, same_thread, one_word, word_at, load_count}
use Rattle.test_lang.specs.Runs.{value_read, base}
use Rattle.test_lang.specs.Play.States.{value_now}
use Rattle.test_lang.specs.Play.Machines.{base_waits}

-- What a load gives after these nodes took effect: its base while that waits, and otherwise what memory has.
abbrev pub given : Program → List ℕ → ℕ → ℕ
given p effects load = if base_waits p effects load then base p load else value_now p effects (word_at p load)

-- Each operation takes effect once, each kept pair in its order, and each load gives what it does where it stands.
pub record Explains (Kept : ℕ → ℕ → Type 0) (p : Program) (run order : List ℕ) : Type 0 where
  pub is_order : IsOrder Kept (all_nodes p) order
  pub whole : length run ≡ load_count p
  pub gives : (k : ℕ) → k < length order → IsTrue (is_load_at p (slice_index order k)) → value_read p run (slice_index order k) ≡ given p (take k order) (slice_index order k)

-- All that is asked of kept pairs: a load or a store is kept before each later store of its thread to the same word.
abbrev pub KeepsOneWord : (ℕ → ℕ → Type 0) → Program → Type 0
KeepsOneWord Kept p = (a b : ℕ) → a < b → IsTrue (same_thread p a b) → IsTrue (one_word p a b) → IsTrue (is_store_at p b) → Kept a b

-- the first pairs are among the second
abbrev pub IsWeaker : (ℕ → ℕ → Type 0) → (ℕ → ℕ → Type 0) → Type 0
IsWeaker Weaker Kept = (a b : ℕ) → Weaker a b → Kept a b
