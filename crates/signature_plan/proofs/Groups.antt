-- Groups of loads: all loads in order, none empty, each the longest that fits.
use Rattle.std.proofs.Common.{◌≡◌, ◌∙◌, ℕ, ◌*◌, ◌^◌, ◌<◌, ◌≤◌, List, [], ◌∷◌, true, false, refl, ap, ⊎_elim}
use Rattle.std.specs.Prelude.{nat_le}
use Rattle.std.specs.List.{concat}
use Rattle.std.proofs.lemmas.Bool.{cases_lt, le-leb, lt-leb}
use Rattle.test_lang.specs.Signatures.{put_first, groups_after, groups_of}

concat-put_first : (load : ℕ) (cut : List (List ℕ)) → concat (put_first load cut) ≡ load ∷ concat cut
concat-put_first load [] = refl
concat-put_first load (group ∷ more) = refl

module _ (count : ℕ → ℕ) where
  -- the two ways on
  pub groups_after-fits : (opened load : ℕ) (loads : List ℕ) → opened * count load ≤ 2 ^ 64 → groups_after count opened (load ∷ loads) ≡ put_first load (groups_after count (opened * count load) loads)
  groups_after-fits opened load loads h = let is : nat_le (opened * count load) (2 ^ 64) ≡ true = le-leb (opened * count load) (2 ^ 64) h in rw is refl

  pub groups_after-full : (opened load : ℕ) (loads : List ℕ) → 2 ^ 64 < opened * count load → groups_after count opened (load ∷ loads) ≡ [] ∷ put_first load (groups_after count (count load) loads)
  groups_after-full opened load loads h = let is : nat_le (opened * count load) (2 ^ 64) ≡ false = lt-leb (opened * count load) (2 ^ 64) h in rw is refl

  concat-groups_after : (opened : ℕ) (loads : List ℕ) → concat (groups_after count opened loads) ≡ loads
  concat-groups_after opened [] = refl
  concat-groups_after opened (load ∷ loads) = ⊎_elim
      (λ (full : 2 ^ 64 < opened * count load).
      ap concat (groups_after-full opened load loads full) ∙ concat-put_first load (groups_after count (count load) loads) ∙ ap (λ rest. load ∷ rest) (concat-groups_after (count load) loads))
      (λ (fits : opened * count load ≤ 2 ^ 64).
      ap concat (groups_after-fits opened load loads fits) ∙ concat-put_first load (groups_after count (opened * count load) loads) ∙ ap (λ rest. load ∷ rest) (concat-groups_after (opened * count load) loads))
      (cases_lt (2 ^ 64) (opened * count load))

  pub concat-groups_of : (loads : List ℕ) → concat (groups_of count loads) ≡ loads
  concat-groups_of [] = refl
  concat-groups_of (load ∷ loads) = concat-put_first load (groups_after count (count load) loads) ∙ ap (λ rest. load ∷ rest) (concat-groups_after (count load) loads)
