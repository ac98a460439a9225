-- The rows of groups: what a plan keeps of each group of loads.
use Rattle.std.specs.Prelude.{◌≡◌, ℕ, ◌-◌, ◌/◌, ◌^◌, ◌<◌, List, length, map, slice_index}
use Rattle.signature_plan.specs.declared.group_rows.Group.{Group}
use Rattle.candidates.specs.ByRank.{candidates_at}
use Rattle.test_lang.specs.Program.{Program, IsWithinLimits}
use Rattle.test_lang.specs.Signatures.{groups, group_product}
use Rattle.test_lang.specs.Values.{load_count}

abbrev pub row_of : Program → List ℕ → Group
row_of p group = record { loads = length group; product = group_product p group }

-- The rows are those of the test's groups, and the inverses those of the loads' numbers of candidates, by rank.
pub record TabulatesGroups (p : Program) (rows : List Group) (inverses : List ℕ) : Type 0 where
  pub limits : IsWithinLimits p
  pub rows_are : rows ≡ map (row_of p) (groups p)
  pub long : length inverses ≡ load_count p
  pub each : (rank : ℕ) → rank < load_count p → slice_index inverses rank ≡ (2 ^ 64 - 1) / length (candidates_at p rank)
