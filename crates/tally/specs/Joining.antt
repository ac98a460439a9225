-- Two tallies made one.
use Rattle.std.specs.Prelude.{◌≡◌, ℕ, ◌+◌, List, [], ◌∷◌, ◌++◌}
use Rattle.tally.specs.declared.outcome.Outcome.{Outcome}
use Rattle.tally.specs.Tallies.{IsCounts, count_of, with_more}

-- each outcome of the second pairs is counted so much more
abbrev pub with_counts : List (Outcome × ℕ) → List (Outcome × ℕ) → List (Outcome × ℕ)
with_counts pairs [] = pairs
with_counts pairs (pair ∷ others) = with_counts (with_more pairs pair.0 pair.1) others

-- The pairs give each outcome the sum of its counts in two others.
pub record IsSum (pairs others sum : List (Outcome × ℕ)) : Type 0 where
  pub counts : IsCounts sum
  pub each : (outcome : Outcome) → count_of sum outcome ≡ count_of pairs outcome + count_of others outcome

-- Of the second pairs those of a front are counted too, and no others.
pub record HasSomeOf (others pairs new : List (Outcome × ℕ)) : Type 0 where
  pub front : List (Outcome × ℕ)
  pub behind : List (Outcome × ℕ)
  pub whole : others ≡ front ++ behind
  pub counted : new ≡ with_counts pairs front
