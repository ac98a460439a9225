-- Words below their groups' products.
use Rattle.std.specs.Prelude.{◌≡◌, ℕ, ◌<◌, ◌≤◌, List, [], length, slice_index, slice_index_or}
use Rattle.std.specs.List.{AllZip}
use Rattle.test_lang.specs.Program.{Program}
use Rattle.test_lang.specs.Signatures.{group_product, groups}

-- the product of the counts of the group at a place of the signature
abbrev pub product_at : Program → ℕ → ℕ
product_at p place = group_product p (slice_index_or (groups p) place [])

-- one word for each group, below the group's product
abbrev pub FitGroups : Program → List ℕ → Type 0
FitGroups p words = AllZip (λ word group. word < group_product p group) words (groups p)

-- The first word that isn't below its group's product: its place, itself and the product.
pub record IsFirstTooLarge (p : Program) (words : List ℕ) (place word limit : ℕ) : Type 0 where
  pub in_range : place < length (groups p)
  pub word_is : slice_index words place ≡ word
  pub limit_is : product_at p place ≡ limit
  pub too_large : limit ≤ word
  pub earlier_fit : (k : ℕ) → k < place → slice_index words k < product_at p k
