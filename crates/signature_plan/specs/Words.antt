-- Words as numbers in a mixed radix, and the run that words mean.
use Rattle.std.specs.Prelude.{ℕ, ◌+◌, ◌-◌, ◌*◌, ◌/◌, ◌%◌, ◌<◌, ◌≤◌, List, Contains, [], ◌∷◌, ◌++◌, take, drop, slice_index}
use Rattle.candidates.specs.ByRank.{candidates_at}
use Rattle.test_lang.specs.Program.{Program}
use Rattle.test_lang.specs.Runs.{candidates}
use Rattle.test_lang.specs.Values.{load_nodes}
use Rattle.test_lang.specs.Signatures.{candidate_count, groups}

-- The number whose digits are the places of the loads, the first load's the lowest, each to the base of the load's count.
abbrev pub mixed_radix : (ℕ → ℕ) → (ℕ → ℕ) → List ℕ → ℕ
mixed_radix count place [] = 0
mixed_radix count place (load ∷ loads) = place load + count load * mixed_radix count place loads

-- the loads of the ranks from first to before end
abbrev pub loads_between : Program → ℕ → ℕ → List ℕ
loads_between p first end = take (end - first) (drop first (load_nodes p))

-- The loads of these ranks give candidates' values.
pub record ReadCandidates (p : Program) (run : List ℕ) (first end : ℕ) : Type 0 where
  pub each : (rank : ℕ) → first ≤ rank → rank < end → Contains (candidates_at p rank) (slice_index run rank)

-- The values that a word gives the loads of its group: the candidates at its digits.
abbrev pub group_values : Program → ℕ → List ℕ → List ℕ
group_values p word [] = []
group_values p word (load ∷ loads) = slice_index (candidates p load) (word % candidate_count p load) ∷ group_values p (word / candidate_count p load) loads

abbrev pub values_of_groups : Program → List (List ℕ) → List ℕ → List ℕ
values_of_groups p [] words = []
values_of_groups p (group ∷ more) [] = []
values_of_groups p (group ∷ more) (word ∷ words) = group_values p word group ++ values_of_groups p more words

-- The run that the words mean, where each is below its group's product.
abbrev pub run_of : Program → List ℕ → List ℕ
run_of p words = values_of_groups p (groups p) words
