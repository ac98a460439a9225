use Rattle.std.proofs.Common.{◌≡◌, ◌≤◌, ◌+◌, ◌-◌, ◌*◌, ◌++◌, ◌∷◌, length}
use Rattle.test_lang.specs.Runs.{base}
use Rattle.test_lang.specs.Values.{store_count}
use Rattle.candidates.specs.ByRank.{load_at}
use Rattle.candidates.specs.Tables.{TellsPlaces}
use Rattle.candidates.proofs.LoadCandidates.{others_below}
use Rattle.candidates.proofs.candidate_lists.CandidateLists.push_load.Given as goal

abbrev pub invariant-loop-value : goal.invariant-loop-value
invariant-loop-value l = record {
  some : 1 ≤ l.value;
  loads : l.self.loads.items ≡ l.fn.self.loads.items;
  values : l.self.values.items ≡ l.fn.self.values.items ++ base l.test (load_at l.test l.rank) ∷ others_below l.test (load_at l.test l.rank) (l.value - 1);
  long : length l.self.places.items ≡ l.rank * (store_count l.test + 1) + l.value;
  places : TellsPlaces l.test l.self.places.items;
}
