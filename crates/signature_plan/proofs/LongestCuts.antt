-- Each group is the longest that fits a word.
use Rattle.std.proofs.Common.{◌≡◌, ◌∙◌, ℕ, zero, suc, ◌+◌, ◌*◌, ◌^◌, ◌<◌, ◌≤◌, List, [], ◌∷◌, ◌++◌, length, get_or, Contains, All, refl, ap, arith, sym, subst, ⊎_elim, append-nil, length-append}
use Rattle.std.specs.Prelude.{slice_index}
use Rattle.std.proofs.lemmas.Bool.{cases_lt}
use Rattle.std.proofs.lemmas.List.Elements.{All-cons, All-nil}
use Rattle.orders.proofs.Members.{Contains-head, Contains-tail}
use Rattle.test_lang.specs.Signatures.{groups_after, groups_of, put_first}
use Rattle.signature_plan.specs.Cuts.{IsLongestCut, product_of}
use Rattle.signature_plan.proofs.Groups.{concat-groups_of, groups_after-fits, groups_after-full}
use Rattle.signature_plan.proofs.GroupRows.{product_of_push, put_first-front, put_front, put_front-put_first}

module _ (count : ℕ → ℕ) where
  -- each group with the first load of the next is above 2^64
  abbrev Adjacent : List (List ℕ) → Type 0
  Adjacent [] = Unit {0}
  Adjacent (group ∷ []) = Unit {0}
  Adjacent (group ∷ next ∷ more) = (2 ^ 64 < product_of count group * count (slice_index next 0)) × Adjacent (next ∷ more)

  record Cut (cut : List (List ℕ)) : Type 0 where
    none_empty : All (λ group. 0 < length group) cut
    fit : All (λ group. product_of count group ≤ 2 ^ 64) cut
    adjacent : Adjacent cut

  adjacent_at : (cut : List (List ℕ)) → Adjacent cut → (k : ℕ) → k + 1 < length cut → 2 ^ 64 < product_of count (get_or cut k []) * count (slice_index (get_or cut (k + 1) []) 0)
  adjacent_at [] h k lt = absurd (omega (arith, lt))
  adjacent_at (group ∷ []) h k lt = absurd (omega (arith, lt))
  adjacent_at (group ∷ next ∷ more) h zero lt = h.0
  adjacent_at (group ∷ next ∷ more) h (suc k) lt =
      let same : suc k + 1 ≡ suc (k + 1) = omega arith in
      subst (λ (j : ℕ). 2 ^ 64 < product_of count (get_or (next ∷ more) k []) * count (slice_index (get_or (group ∷ next ∷ more) j []) 0)) (sym same) (adjacent_at (next ∷ more) h.1 k (omega (arith, lt)))

  -- the first load of what an open group becomes
  adjacent_front : (group : List ℕ) (load : ℕ) (cut : List (List ℕ)) → 2 ^ 64 < product_of count group * count load → Adjacent (put_front (load ∷ []) cut) → Adjacent (group ∷ put_front (load ∷ []) cut)
  adjacent_front group load [] full h = (full, h)
  adjacent_front group load (next ∷ more) full h = (full, h)

  cut_after : (loads : List ℕ) (front : List ℕ) → 0 < length front → product_of count front ≤ 2 ^ 64 → ((load : ℕ) → Contains loads load → count load ≤ 2 ^ 64) → Cut (put_front front (groups_after count (product_of count front) loads))
  cut_after [] front some fits small =
      let whole = append-nil front in
      record {
        none_empty = All-cons (λ group. 0 < length group) (front ++ []) [] (rw whole some) (All-nil (λ group. 0 < length group));
        fit = All-cons (λ group. product_of count group ≤ 2 ^ 64) (front ++ []) [] (rw whole fits) (All-nil (λ group. product_of count group ≤ 2 ^ 64));
        adjacent = tt;
      }
  cut_after (load ∷ loads) front some fits small =
      let later = λ (l : ℕ) (i : Contains loads l). small l (Contains-tail load loads l i) in
      ⊎_elim
      (λ (full : 2 ^ 64 < product_of count front * count load).
      let alone = small load (Contains-head load loads load refl) in
      let one : product_of count (load ∷ []) ≡ count load = omega arith in
      let rest : Cut (put_front (load ∷ []) (groups_after count (product_of count (load ∷ [])) loads)) = cut_after loads (load ∷ []) (omega arith) (omega (arith, one, alone)) later in
      let here : put_front (load ∷ []) (groups_after count (product_of count (load ∷ [])) loads) ≡ put_front (load ∷ []) (groups_after count (count load) loads) = ap (λ (q : ℕ). put_front (load ∷ []) (groups_after count q loads)) one in
      let behind : Cut (put_front (load ∷ []) (groups_after count (count load) loads)) = subst Cut here rest in
      let cut : put_front front (groups_after count (product_of count front) (load ∷ loads)) ≡ front ∷ put_front (load ∷ []) (groups_after count (count load) loads) =
      ap (put_front front) (groups_after-full count (product_of count front) load loads full)
      ∙ ap (λ group. group ∷ put_first load (groups_after count (count load) loads)) (append-nil front)
      ∙ ap (λ more. front ∷ more) (put_first-front load (groups_after count (count load) loads)) in
      subst Cut (sym cut) (record {
        none_empty = All-cons (λ group. 0 < length group) front (put_front (load ∷ []) (groups_after count (count load) loads)) some behind.none_empty;
        fit = All-cons (λ group. product_of count group ≤ 2 ^ 64) front (put_front (load ∷ []) (groups_after count (count load) loads)) fits behind.fit;
        adjacent = adjacent_front front load (groups_after count (count load) loads) full behind.adjacent;
      }))
      (λ (room : product_of count front * count load ≤ 2 ^ 64).
      let next = product_of_push count front load in
      let long = length-append front (load ∷ []) in
      let cut : put_front front (groups_after count (product_of count front) (load ∷ loads)) ≡ put_front (front ++ load ∷ []) (groups_after count (product_of count (front ++ load ∷ [])) loads) =
      ap (put_front front) (groups_after-fits count (product_of count front) load loads room)
      ∙ put_front-put_first front load (groups_after count (product_of count front * count load) loads)
      ∙ ap (λ (q : ℕ). put_front (front ++ load ∷ []) (groups_after count q loads)) (sym next) in
      subst Cut (sym cut) (cut_after loads (front ++ load ∷ []) (omega (arith, long)) (omega (arith, next, room)) later))
      (cases_lt (2 ^ 64) (product_of count front * count load))

  cut_of : (loads : List ℕ) → ((load : ℕ) → Contains loads load → count load ≤ 2 ^ 64) → Cut (groups_of count loads)
  cut_of [] small = record { none_empty = All-nil (λ group. 0 < length group); fit = All-nil (λ group. product_of count group ≤ 2 ^ 64); adjacent = tt }
  cut_of (load ∷ loads) small =
      let alone = small load (Contains-head load loads load refl) in
      let one : product_of count (load ∷ []) ≡ count load = omega arith in
      let whole : groups_of count (load ∷ loads) ≡ put_front (load ∷ []) (groups_after count (product_of count (load ∷ [])) loads) =
      put_first-front load (groups_after count (count load) loads) ∙ ap (λ (q : ℕ). put_front (load ∷ []) (groups_after count q loads)) (sym one) in
      subst Cut (sym whole) (cut_after loads (load ∷ []) (omega arith) (omega (arith, one, alone)) (λ l i. small l (Contains-tail load loads l i)))

  pub longest_cut : (loads : List ℕ) → ((load : ℕ) → Contains loads load → count load ≤ 2 ^ 64) → IsLongestCut count loads (groups_of count loads)
  longest_cut loads small =
      let cut = cut_of loads small in
      record { whole = concat-groups_of count loads; none_empty = cut.none_empty; fit = cut.fit; longest = adjacent_at (groups_of count loads) cut.adjacent }
