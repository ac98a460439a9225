-- Distinct numbers below n are at most n.
use Rattle.std.proofs.Common.{◌≢◌, ℕ, ◌<◌, ◌≤◌, List, length, Contains, AllPairs}
use Rattle.std.proofs.lemmas.Bool.Decides.{Decides-eqb}
use Rattle.std.proofs.lemmas.Map.Steps.{length-le_from_distinct_below}
use Rattle.std.proofs.lemmas.Map.Made.{IsDistinct-from_AllPairs}
use Rattle.full_sort.proofs.Sums.{has-any}

pub length-once-le : (n : ℕ) (xs : List ℕ) → AllPairs (λ a b. a ≢ b) xs → ((x : ℕ) → Contains xs x → x < n) → length xs ≤ n
length-once-le n xs once below = length-le_from_distinct_below xs n (IsDistinct-from_AllPairs Decides-eqb xs once) (λ q h. below q (has-any xs q h))
