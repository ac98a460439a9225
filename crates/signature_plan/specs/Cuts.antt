-- What groups of loads are, said of the whole list.
use Rattle.std.specs.Prelude.{◌≡◌, ℕ, ◌+◌, ◌*◌, ◌^◌, ◌<◌, ◌≤◌, List, [], map, length, All, slice_index, slice_index_or}
use Rattle.std.specs.List.{concat}
use Rattle.test_lang.specs.Signatures.{product}

abbrev pub product_of : (ℕ → ℕ) → List ℕ → ℕ
product_of count group = product (map count group)

-- The loads are cut, in order, into groups that aren't empty, each the longest whose product of counts is at most 2^64: with the next load it would be above.
pub record IsLongestCut (count : ℕ → ℕ) (loads : List ℕ) (cut : List (List ℕ)) : Type 0 where
  pub whole : concat cut ≡ loads
  pub none_empty : All (λ group. 0 < length group) cut
  pub fit : All (λ group. product_of count group ≤ 2 ^ 64) cut
  pub longest : (k : ℕ) → k + 1 < length cut → 2 ^ 64 < product_of count (slice_index_or cut k []) * count (slice_index (slice_index_or cut (k + 1) []) 0)
