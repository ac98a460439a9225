use Rattle.std.proofs.Common.{◌≡◌, ℕ, ◌+◌, ◌*◌, ◌<◌, ◌≤◌, length, get_or}
use Rattle.std.specs.Prelude.{slice_range}
use Rattle.graph_model.specs.FirstLists.{first_stores_to}
use Rattle.graph_model.proofs.first_stores.FirstStores.of.Given as goal

abbrev pub invariant-loop-word : goal.invariant-loop-word
invariant-loop-word l = record {
  room : length l.starts.items ≡ l.word + 1;
  last : get_or l.starts.items l.word 0 ≡ length l.stores.items;
  few : length l.stores.items ≤ l.word * length l.test.threads;
  rising : (w : ℕ) → w < l.word → get_or l.starts.items w 0 ≤ get_or l.starts.items (w + 1) 0;
  within : (w : ℕ) → w < l.word → get_or l.starts.items (w + 1) 0 ≤ length l.stores.items;
  each : (w : ℕ) → w < l.word → slice_range l.stores.items (get_or l.starts.items w 0) (get_or l.starts.items (w + 1) 0) ≡ first_stores_to l.test w;
}
