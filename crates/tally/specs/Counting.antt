-- What a counter of outcomes stands for.
use Rattle.std.specs.Prelude.{◌≡◌, ℕ, ◌+◌, ◌-◌, ◌^◌, ◌<◌, ◌≤◌, List, [], ◌∷◌, ◌++◌, length, take, map, replicate}
use Rattle.tally.specs.declared.outcome.Outcome.{Outcome}
use Rattle.tally.specs.declared.outcome.Outcome.TheVariants.{Inside}
use Rattle.tally.specs.Tallies.{IsCounts, IsTally, total_of, with_each}

-- how many words each signature has, and what was counted so far: each distinct outcome, rising, with its count
pub record Counting : Type 0 where
  pub width : ℕ
  pub pairs : List (Outcome × ℕ)

-- the counter was given the outcomes of the list, and no others
abbrev pub HasCounted : List Outcome → Counting → Type 0
HasCounted outcomes counter = IsTally outcomes counter.pairs

-- rows of words that wait, all of one width, each with how often it waits
pub record Waiting : Type 0 where
  pub width : ℕ
  pub rows : List (List ℕ × ℕ)

-- each row as often as it waits
abbrev pub all_rows : List (List ℕ × ℕ) → List (List ℕ)
all_rows [] = []
all_rows (entry ∷ entries) = replicate entry.1 entry.0 ++ all_rows entries

-- the rows that wait to be counted now, and those that wait behind them
abbrev pub waiting_rows : Waiting → Waiting → List (List ℕ)
waiting_rows queue batch = all_rows (queue.rows ++ batch.rows)

-- the last row is this one, and it waits so often, once at least
pub record EndsWith (entries : List (List ℕ × ℕ)) (row : List ℕ) (times : ℕ) : Type 0 where
  pub whole : entries ≡ take (length entries - 1) entries ++ (row, times) ∷ []
  pub some : 1 ≤ times

-- the pairs, once the waiting rows are counted too
abbrev pub with_rows : List (Outcome × ℕ) → List (List ℕ) → List (Outcome × ℕ)
with_rows pairs rows = with_each pairs (map Inside rows)

-- the pairs are counts, and with the waiting rows they make a sum of 64 bits
pub record CanCount (pairs : List (Outcome × ℕ)) (rows : List (List ℕ)) : Type 0 where
  pub counts : IsCounts pairs
  pub room : total_of pairs + length rows < 2 ^ 64
