-- How far a play has come: what was performed, and what each node still waits for.
use Rattle.std.specs.Prelude.{◌≡◌, ℕ, ◌+◌, ◌<◌, List, [], ◌∷◌, Bool, not, ◌&&◌, ◌==◌, count_by, length, slice_index, if◌then◌else◌}
use Rattle.weak_machine.specs.NodeSets.{has_flag}

-- how many lists, counted as often as it stands there, of nodes without a flag have the node; a node behind the flags has none
abbrev pub missing_of : List (List ℕ) → List Bool → ℕ → ℕ
missing_of [] flags b = 0
missing_of (list ∷ lists) [] b = count_by (λ n. n == b) list + missing_of lists [] b
missing_of (list ∷ lists) (flag ∷ flags) b = (if flag then 0 else count_by (λ n. n == b) list) + missing_of lists flags b

-- For each node, whether it was performed, how many of the lists of nodes that weren't have it, and whether it can be performed; and how many are left.
pub record IsProgress (lists : List (List ℕ)) (performed : List Bool) (missing : List ℕ) (ready : List Bool) (left : ℕ) : Type 0 where
  pub one_performed_each : length performed ≡ length lists
  pub one_missing_each : length missing ≡ length lists
  pub one_ready_each : length ready ≡ length lists
  pub missing_are : (n : ℕ) → n < length lists → slice_index missing n ≡ missing_of lists performed n
  pub ready_are : (n : ℕ) → n < length lists → has_flag ready n ≡ (not (has_flag performed n) && (slice_index missing n == 0))
  pub left_is : left ≡ count_by not performed
