-- A longest cut is the only one: the groups, which are found load by load.
use Rattle.std.proofs.Common.{◌≡◌, ◌∙◌, ℕ, suc, ◌+◌, ◌*◌, ◌^◌, ◌<◌, ◌≤◌, List, [], ◌∷◌, ◌++◌, length, get_or, All, refl, ap, arith, sym, subst}
use Rattle.std.specs.Prelude.{slice_index}
use Rattle.std.specs.List.{concat}
use Rattle.std.proofs.Math.Nat.{le-mul_of_pos_right, mul-le-mul}
use Rattle.std.proofs.lemmas.List.Elements.{All-head, All-tail}
use Rattle.test_lang.specs.Signatures.{groups_after, groups_of, put_first}
use Rattle.signature_plan.specs.Cuts.{IsLongestCut, product_of}
use Rattle.signature_plan.proofs.Groups.{groups_after-fits, groups_after-full}

module _ (count : ℕ → ℕ) (some : (load : ℕ) → 1 ≤ count load) where
  -- each group with the first load of the next is above 2^64, that before the first group counted by its product
  abbrev Behind : ℕ → List (List ℕ) → Type 0
  Behind closed [] = Unit {0}
  Behind closed (group ∷ more) = (2 ^ 64 < closed * count (slice_index group 0)) × Behind (product_of count group) more

  behind : (group : List ℕ) (more : List (List ℕ))
      → ((k : ℕ) → k + 1 < length (group ∷ more) → 2 ^ 64 < product_of count (get_or (group ∷ more) k []) * count (slice_index (get_or (group ∷ more) (k + 1) []) 0))
      → Behind (product_of count group) more
  behind group [] longest = tt
  behind group (next ∷ more) longest = (
    longest 0 (omega arith),
    behind next more (λ k lt.
        let same : suc k + 1 ≡ suc (k + 1) = omega arith in
        subst (λ (j : ℕ). 2 ^ 64 < product_of count (get_or (next ∷ more) k []) * count (slice_index (get_or (group ∷ next ∷ more) j []) 0)) same (longest (suc k) (omega (arith, lt)))),
  )

  product_some : (group : List ℕ) → 1 ≤ product_of count group
  product_some [] = omega arith
  product_some (load ∷ group) =
      let both = mul-le-mul {n₁ = 1} {m₁ = 1} {n₂ = count load} {m₂ = product_of count group} (some load) (product_some group) in
      omega (arith, both)

  -- what an open group takes, where the groups behind it are found
  taken : (more : List (List ℕ)) → ((closed : ℕ) → Behind closed more → groups_after count closed (concat more) ≡ [] ∷ more)
      → (group : List ℕ) (opened : ℕ) → opened * product_of count group ≤ 2 ^ 64 → Behind (opened * product_of count group) more
      → groups_after count opened (group ++ concat more) ≡ group ∷ more
  taken more found [] opened fits above =
      let same : opened * 1 ≡ opened = omega arith in
      found opened (subst (λ (q : ℕ). Behind q more) same above)
  taken more found (load ∷ group) opened fits above =
      let rest = product_some group in
      let same : opened * (count load * product_of count group) ≡ opened * count load * product_of count group = omega arith in
      let below = le-mul_of_pos_right {m = product_of count group} (opened * count load) (omega (arith, rest)) in
      let room : opened * count load ≤ 2 ^ 64 = omega (arith, below, same, fits) in
      groups_after-fits count opened load (group ++ concat more) room
      ∙ ap (put_first load) (taken more found group (opened * count load) (subst (λ (q : ℕ). q ≤ 2 ^ 64) same fits) (subst (λ (q : ℕ). Behind q more) same above))

  found_behind : (more : List (List ℕ)) → All (λ group. 0 < length group) more → All (λ group. product_of count group ≤ 2 ^ 64) more
      → (closed : ℕ) → Behind closed more → groups_after count closed (concat more) ≡ [] ∷ more
  found_behind [] none_empty fit closed above = refl
  found_behind ([] ∷ more) none_empty fit closed above = absurd (omega (arith, All-head (λ group. 0 < length group) [] more none_empty))
  found_behind ((load ∷ group) ∷ more) none_empty fit closed above =
      let others = found_behind more (All-tail (λ group. 0 < length group) (load ∷ group) more none_empty) (All-tail (λ group. product_of count group ≤ 2 ^ 64) (load ∷ group) more fit) in
      let fits = All-head (λ group. product_of count group ≤ 2 ^ 64) (load ∷ group) more fit in
      groups_after-full count closed load (group ++ concat more) above.0
      ∙ ap (λ (cut : List (List ℕ)). [] ∷ put_first load cut) (taken more others group (count load) fits above.1)

  cut_found : (cut : List (List ℕ)) → All (λ group. 0 < length group) cut → All (λ group. product_of count group ≤ 2 ^ 64) cut
      → ((k : ℕ) → k + 1 < length cut → 2 ^ 64 < product_of count (get_or cut k []) * count (slice_index (get_or cut (k + 1) []) 0))
      → cut ≡ groups_of count (concat cut)
  cut_found [] none_empty fit longest = refl
  cut_found ([] ∷ more) none_empty fit longest = absurd (omega (arith, All-head (λ group. 0 < length group) [] more none_empty))
  cut_found ((load ∷ group) ∷ more) none_empty fit longest =
      let others = found_behind more (All-tail (λ group. 0 < length group) (load ∷ group) more none_empty) (All-tail (λ group. product_of count group ≤ 2 ^ 64) (load ∷ group) more fit) in
      let fits = All-head (λ group. product_of count group ≤ 2 ^ 64) (load ∷ group) more fit in
      ap (put_first load) (sym (taken more others group (count load) fits (behind (load ∷ group) more longest)))

  pub one_cut : (loads : List ℕ) (cut : List (List ℕ)) → IsLongestCut count loads cut → cut ≡ groups_of count loads
  one_cut loads cut is = cut_found cut is.none_empty is.fit is.longest ∙ ap (groups_of count) is.whole
