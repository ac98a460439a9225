-- The rows of groups, made load by load.
use Rattle.std.proofs.Common.{◌≡◌, ◌∙◌, ℕ, ◌+◌, ◌*◌, ◌^◌, ◌<◌, ◌≤◌, List, [], ◌∷◌, ◌++◌, true, false, map, length, Contains, refl, ap, arith, sym, subst, ⊎_elim, append-nil, append_assoc, length-append}
use Rattle.std.specs.Prelude.{◌==◌, nat_le, if◌then◌else◌}
use Rattle.std.proofs.lemmas.Bool.{cases_lt, eq-eqb, le-leb, lt-leb, ne_eqb}
use Rattle.std.proofs.lemmas.List.{map-append}
use Rattle.orders.proofs.Members.{Contains-head}
use Rattle.test_lang.specs.Signatures.{product, put_first, groups_after, groups_of}
use Rattle.signature_plan.specs.declared.group_rows.Group.{Group}
use Rattle.signature_plan.specs.Cuts.{product_of}
use Rattle.signature_plan.proofs.Groups.{groups_after-fits, groups_after-full}

abbrev pub empty_group : Group
empty_group = record { loads = 0; product = 1 }

-- the rows of the loads that are left, behind an open group
abbrev pub rows_after : (ℕ → ℕ) → Group → List ℕ → List Group
rows_after count group [] = if group.loads == 0 then [] else group ∷ []
rows_after count group (load ∷ loads) =
    if nat_le (group.product * count load) (2 ^ 64)
    then rows_after count (record { loads = group.loads + 1; product = group.product * count load }) loads
    else group ∷ rows_after count (record { loads = 1; product = count load }) loads

-- the open group, and what it takes of those behind it
abbrev pub put_front : List ℕ → List (List ℕ) → List (List ℕ)
put_front front [] = front ∷ []
put_front front (group ∷ more) = (front ++ group) ∷ more

pub put_front-put_first : (front : List ℕ) (load : ℕ) (cut : List (List ℕ)) → put_front front (put_first load cut) ≡ put_front (front ++ load ∷ []) cut
put_front-put_first front load [] = refl
put_front-put_first front load (group ∷ more) = ap (λ whole. whole ∷ more) (sym (append_assoc front (load ∷ []) group))

pub put_first-front : (load : ℕ) (cut : List (List ℕ)) → put_first load cut ≡ put_front (load ∷ []) cut
put_first-front load [] = refl
put_first-front load (group ∷ more) = refl

product-append : (xs ys : List ℕ) → product (xs ++ ys) ≡ product xs * product ys
product-append [] ys = omega arith
product-append (x ∷ xs) ys = let rest = product-append xs ys in let more = ap (λ (n : ℕ). x * n) rest in omega (arith, more)

module _ (count : ℕ → ℕ) where
  abbrev pub row : List ℕ → Group
  row group = record { loads = length group; product = product_of count group }

  pub product_of_push : (group : List ℕ) (load : ℕ) → product_of count (group ++ load ∷ []) ≡ product_of count group * count load
  product_of_push group load =
      let mapped = ap product (map-append count group (load ∷ [])) in
      let both = product-append (map count group) (count load ∷ []) in
      omega (arith, mapped, both)

  row_push : (group : List ℕ) (load : ℕ) → row (group ++ load ∷ []) ≡ record { loads = length group + 1; product = product_of count group * count load }
  row_push group load =
      let long : length (group ++ load ∷ []) ≡ length group + 1 = length-append group (load ∷ []) in
      ap (λ (n : ℕ). record { loads = n; product = product_of count (group ++ load ∷ []) }) long
      ∙ ap (λ (q : ℕ). record { loads = length group + 1; product = q }) (product_of_push group load)

  rows_after-is : (loads : List ℕ) (front : List ℕ) → 0 < length front → map row (put_front front (groups_after count (product_of count front) loads)) ≡ rows_after count (row front) loads
  rows_after-is [] front some =
      let is : (length front == 0) ≡ false = ne_eqb (length front) 0 (λ e. omega (arith, some, e)) in
      rw is (ap (λ group. row group ∷ []) (append-nil front))
  rows_after-is (load ∷ loads) front some = ⊎_elim
      (λ (full : 2 ^ 64 < product_of count front * count load).
      let is : nat_le (product_of count front * count load) (2 ^ 64) ≡ false = lt-leb (product_of count front * count load) (2 ^ 64) full in
      let one : product_of count (load ∷ []) ≡ count load = omega arith in
      ap (λ cut. map row (put_front front cut)) (groups_after-full count (product_of count front) load loads full)
      ∙ ap (λ group. row group ∷ map row (put_first load (groups_after count (count load) loads))) (append-nil front)
      ∙ ap (λ cut. row front ∷ map row cut) (put_first-front load (groups_after count (count load) loads))
      ∙ ap (λ (q : ℕ). row front ∷ map row (put_front (load ∷ []) (groups_after count q loads))) (sym one)
      ∙ ap (λ rows. row front ∷ rows) (rows_after-is loads (load ∷ []) (omega arith))
      ∙ ap (λ (q : ℕ). row front ∷ rows_after count (record { loads = 1; product = q }) loads) one
      ∙ sym (rw is refl))
      (λ (fits : product_of count front * count load ≤ 2 ^ 64).
      let is : nat_le (product_of count front * count load) (2 ^ 64) ≡ true = le-leb (product_of count front * count load) (2 ^ 64) fits in
      let next = product_of_push front load in
      let long = length-append front (load ∷ []) in
      ap (λ cut. map row (put_front front cut)) (groups_after-fits count (product_of count front) load loads fits)
      ∙ ap (map row) (put_front-put_first front load (groups_after count (product_of count front * count load) loads))
      ∙ ap (λ (q : ℕ). map row (put_front (front ++ load ∷ []) (groups_after count q loads))) (sym next)
      ∙ rows_after-is loads (front ++ load ∷ []) (omega (arith, long))
      ∙ ap (λ group. rows_after count group loads) (row_push front load)
      ∙ sym (rw is refl))
      (cases_lt (2 ^ 64) (product_of count front * count load))

  -- the rows of a thread's groups, where each load fits alone
  pub rows_of_groups : (loads : List ℕ) → ((load : ℕ) → Contains loads load → count load ≤ 2 ^ 64) → rows_after count empty_group loads ≡ map row (groups_of count loads)
  rows_of_groups [] small = refl
  rows_of_groups (load ∷ loads) small =
      let alone = small load (Contains-head load loads load refl) in
      let is : nat_le (1 * count load) (2 ^ 64) ≡ true = le-leb (1 * count load) (2 ^ 64) (omega (arith, alone)) in
      let once : 1 * count load ≡ product_of count (load ∷ []) = omega arith in
      let plain : product_of count (load ∷ []) ≡ count load = omega arith in
      rw is refl
      ∙ ap (λ (q : ℕ). rows_after count (record { loads = 1; product = q }) loads) once
      ∙ sym (rows_after-is loads (load ∷ []) (omega arith))
      ∙ ap (λ (q : ℕ). map row (put_front (load ∷ []) (groups_after count q loads))) plain
      ∙ ap (map row) (sym (put_first-front load (groups_after count (count load) loads)))

  -- the two ways on

  pub rows_after-fits : (group : Group) (load : ℕ) (loads : List ℕ) → group.product * count load ≤ 2 ^ 64
      → rows_after count group (load ∷ loads) ≡ rows_after count (record { loads = group.loads + 1; product = group.product * count load }) loads
  rows_after-fits group load loads fits = let is : nat_le (group.product * count load) (2 ^ 64) ≡ true = le-leb (group.product * count load) (2 ^ 64) fits in rw is refl

  pub rows_after-full : (group : Group) (load : ℕ) (loads : List ℕ) → 2 ^ 64 < group.product * count load → rows_after count group (load ∷ loads) ≡ group ∷ rows_after count (record { loads = 1; product = count load }) loads
  rows_after-full group load loads full = let is : nat_le (group.product * count load) (2 ^ 64) ≡ false = lt-leb (group.product * count load) (2 ^ 64) full in rw is refl

  -- one load more

  pub step_fits : (rows : List Group) (group : Group) (load k : ℕ) (loads : List ℕ) → k ≡ count load → group.product * k ≤ 2 ^ 64
      → rows ++ rows_after count (record { loads = group.loads + 1; product = group.product * k }) loads ≡ rows ++ rows_after count group (load ∷ loads)
  step_fits rows group load k loads is fits =
      let room : group.product * count load ≤ 2 ^ 64 = subst (λ (n : ℕ). group.product * n ≤ 2 ^ 64) is fits in
      ap (λ (n : ℕ). rows ++ rows_after count (record { loads = group.loads + 1; product = group.product * n }) loads) is ∙ ap (λ more. rows ++ more) (sym (rows_after-fits group load loads room))

  pub step_full : (rows : List Group) (group : Group) (load k : ℕ) (loads : List ℕ) → k ≡ count load → 2 ^ 64 < group.product * k
      → (rows ++ group ∷ []) ++ rows_after count (record { loads = 1; product = 1 * k }) loads ≡ rows ++ rows_after count group (load ∷ loads)
  step_full rows group load k loads is full =
      let over : 2 ^ 64 < group.product * count load = subst (λ (n : ℕ). 2 ^ 64 < group.product * n) is full in
      let once : 1 * k ≡ count load = omega (arith, is) in
      append_assoc rows (group ∷ []) (rows_after count (record { loads = 1; product = 1 * k }) loads)
      ∙ ap (λ (q : ℕ). rows ++ group ∷ rows_after count (record { loads = 1; product = q }) loads) once
      ∙ ap (λ more. rows ++ more) (sym (rows_after-full group load loads over))

  -- behind the last load

  pub last_open : (rows old : List Group) (group : Group) (left loads : List ℕ) → ((load : ℕ) → Contains loads load → count load ≤ 2 ^ 64) → left ≡ [] → 0 < group.loads
      → rows ++ rows_after count group left ≡ old ++ rows_after count empty_group loads → rows ++ group ∷ [] ≡ old ++ map row (groups_of count loads)
  last_open rows old group left loads small none some e =
      let is : (group.loads == 0) ≡ false = ne_eqb group.loads 0 (λ same. omega (arith, some, same)) in
      let here : rows_after count group [] ≡ group ∷ [] = rw is refl in
      ap (λ more. rows ++ more) (sym here) ∙ ap (λ ls. rows ++ rows_after count group ls) (sym none) ∙ e ∙ ap (λ more. old ++ more) (rows_of_groups loads small)

  pub none_open : (rows old : List Group) (group : Group) (left loads : List ℕ) → ((load : ℕ) → Contains loads load → count load ≤ 2 ^ 64) → left ≡ [] → group.loads ≡ 0
      → rows ++ rows_after count group left ≡ old ++ rows_after count empty_group loads → rows ≡ old ++ map row (groups_of count loads)
  none_open rows old group left loads small none no_load e =
      let is : (group.loads == 0) ≡ true = eq-eqb group.loads 0 no_load in
      let here : rows_after count group [] ≡ [] = rw is refl in
      sym (append-nil rows) ∙ ap (λ more. rows ++ more) (sym here) ∙ ap (λ ls. rows ++ rows_after count group ls) (sym none) ∙ e ∙ ap (λ more. old ++ more) (rows_of_groups loads small)
