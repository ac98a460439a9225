-- The places of a list at which a test passes, and how many places before a place do.
use Rattle.std.proofs.Common.{◌≡◌, ◌∙◌, ℕ, zero, suc, ◌+◌, ◌<◌, ◌≤◌, ◌⊎◌, List, [], ◌∷◌, ◌++◌, take, length, get_or, Bool, true, false, cond, Some, refl, ap, arith, sym, inl, inr, ⊎_elim, length-append, append-nil}
use Rattle.std.specs.Prelude.{count_by, filter, slice_get}
use Rattle.std.proofs.lemmas.Bool.{cases_lt}
use Rattle.std.proofs.lemmas.List.{take-append-le, take-take, take_all}
use Rattle.std.proofs.lemmas.List.Elements.{filter-append}
use Rattle.std.proofs.lemmas.List.Sums.{sum_by_push, sum_by-take-le}
use Rattle.std.proofs.lemmas.Option.{same_Some, slice_get_past, slice_get_within, slice_get-get_or}
use Rattle.orders.specs.Orders.{nodes_below}
use Rattle.test_lang.specs.declared.op.Op.{Op}
use Rattle.test_lang.specs.declared.op.Op.TheVariants.{Fence}
use Rattle.test_lang.specs.Program.{passes}
use Rattle.test_lang.specs.Values.{is_load, is_store}

-- reads of a list that grew at its end

pub slice_get-append_left : {X : Type 0} (xs ys : List X) (n : ℕ) (x : X) → slice_get xs n ≡ Some x → slice_get (xs ++ ys) n ≡ Some x
slice_get-append_left [] ys n x e = absurd cc
slice_get-append_left (y ∷ xs) ys zero x e = e
slice_get-append_left (y ∷ xs) ys (suc n) x e = slice_get-append_left xs ys n x e

pub slice_get_left : {X : Type 0} (xs ys : List X) (n : ℕ) → n < length xs → slice_get (xs ++ ys) n ≡ slice_get xs n
slice_get_left [] ys n h = absurd (omega (arith, h))
slice_get_left (y ∷ xs) ys zero h = refl
slice_get_left (y ∷ xs) ys (suc n) h = slice_get_left xs ys n (omega (arith, h))

pub slice_get_end : {X : Type 0} (xs : List X) (y : X) (n : ℕ) → n ≡ length xs → slice_get (xs ++ y ∷ []) n ≡ Some y
slice_get_end [] y zero h = refl
slice_get_end [] y (suc n) h = absurd (omega (arith, h))
slice_get_end (x ∷ xs) y zero h = absurd (omega (arith, h))
slice_get_end (x ∷ xs) y (suc n) h = slice_get_end xs y n (omega (arith, h))

pub slice_get_cases_end : {X : Type 0} (xs : List X) (y : X) (n : ℕ) (x : X) → slice_get (xs ++ y ∷ []) n ≡ Some x → (slice_get xs n ≡ Some x) ⊎ ((n ≡ length xs) × (y ≡ x))
slice_get_cases_end [] y zero x e = inr (refl, cc)
slice_get_cases_end [] y (suc n) x e = absurd cc
slice_get_cases_end (z ∷ xs) y zero x e = inl e
slice_get_cases_end (z ∷ xs) y (suc n) x e =
    ⊎_elim (λ (l : slice_get xs n ≡ Some x). inl l) (λ (r : (n ≡ length xs) × (y ≡ x)). inr (ap suc r.0, r.1)) (slice_get_cases_end xs y n x e)

pub take-slice_get : {X : Type 0} (xs : List X) (n : ℕ) (x : X) → slice_get xs n ≡ Some x → take (suc n) xs ≡ take n xs ++ x ∷ []
take-slice_get [] n x e = absurd cc
take-slice_get (y ∷ xs) zero x e = cc
take-slice_get (y ∷ xs) (suc n) x e = ap (λ rest. y ∷ rest) (take-slice_get xs n x e)

length-cond : (b : Bool) (n : ℕ) → length (cond b (n ∷ []) []) ≡ cond b 1 0
length-cond true n = refl
length-cond false n = refl

module _ (test : ℕ × Op → Bool) where
  -- the places below n at which the test passes, rising
  abbrev pub places : List (ℕ × Op) → ℕ → List ℕ
  places xs n = filter (λ k. passes test (slice_get xs k)) (nodes_below n)

  -- how many elements before the place n pass
  abbrev pub passing : List (ℕ × Op) → ℕ → ℕ
  passing xs n = count_by test (take n xs)

  pub passing-suc : (xs : List (ℕ × Op)) (n : ℕ) (x : ℕ × Op) → slice_get xs n ≡ Some x → passing xs (suc n) ≡ passing xs n + cond (test x) 1 0
  passing-suc xs n x e = ap (count_by test) (take-slice_get xs n x e) ∙ sum_by_push (λ y. cond (test y) 1 0) (take n xs) x

  pub places-suc : (xs : List (ℕ × Op)) (n : ℕ) (x : ℕ × Op) → slice_get xs n ≡ Some x → places xs (suc n) ≡ places xs n ++ cond (test x) (n ∷ []) []
  places-suc xs n x e =
      filter-append (λ k. passes test (slice_get xs k)) (nodes_below n) (n ∷ []) ∙ ap (λ found. places xs n ++ cond (passes test found) (n ∷ []) []) e

  -- the element at a place of the list
  element : (xs : List (ℕ × Op)) (n : ℕ) → n < length xs → slice_get xs n ≡ Some (get_or xs n (0, Fence))
  element xs n h = slice_get-get_or xs n (0, Fence) h

  pub length-places : (xs : List (ℕ × Op)) (n : ℕ) → n ≤ length xs → length (places xs n) ≡ passing xs n
  length-places xs zero h = refl
  length-places xs (suc n) h =
      let x = get_or xs n (0, Fence) in
      let e : slice_get xs n ≡ Some x = element xs n (omega (arith, h)) in
      let before : length (places xs n) ≡ passing xs n = length-places xs n (omega (arith, h)) in
      let grown : length (places xs (suc n)) ≡ length (places xs n) + length (cond (test x) (n ∷ []) []) = ap length (places-suc xs n x e) ∙ length-append (places xs n) (cond (test x) (n ∷ []) []) in
      let counted : passing xs (suc n) ≡ passing xs n + cond (test x) 1 0 = passing-suc xs n x e in
      let one : length (cond (test x) (n ∷ []) []) ≡ cond (test x) 1 0 = length-cond (test x) n in
      omega arith

  -- a place that passes stands among the places, behind those before it
  pub places-passing : (xs : List (ℕ × Op)) (n k : ℕ) → n ≤ length xs → k < n → passes test (slice_get xs k) ≡ true → slice_get (places xs n) (passing xs k) ≡ Some k
  places-passing xs zero k h lt p = absurd (omega (arith, lt))
  places-passing xs (suc n) k h lt p =
      let x = get_or xs n (0, Fence) in
      let e : slice_get xs n ≡ Some x = element xs n (omega (arith, h)) in
      let short : n ≤ length xs = omega (arith, h) in
      let old = places xs n in
      let grown : places xs (suc n) ≡ old ++ cond (test x) (n ∷ []) [] = places-suc xs n x e in
      ⊎_elim
      (λ (before : k < n). ap (λ list. slice_get list (passing xs k)) grown ∙ slice_get-append_left old (cond (test x) (n ∷ []) []) (passing xs k) k (places-passing xs n k short before p))
      (λ (after : n ≤ k).
      let same : k ≡ n = omega (arith, lt, after) in
      let yes : test x ≡ true = sym (ap (passes test) e) ∙ ap (λ m. passes test (slice_get xs m)) (sym same) ∙ p in
      let place : passing xs k ≡ length old = ap (passing xs) same ∙ sym (length-places xs n short) in
      let found : slice_get (old ++ n ∷ []) (passing xs k) ≡ Some n = slice_get_end old n (passing xs k) place in
      ap (λ list. slice_get list (passing xs k)) (grown ∙ ap (λ b. old ++ cond b (n ∷ []) []) yes) ∙ found ∙ ap Some (sym same))
      (cases_lt k n)

  -- what stands at a place of the list of places
  pub record IsPlace (xs : List (ℕ × Op)) (n r k : ℕ) : Type 0 where
    pub within : k < n
    pub passed : passes test (slice_get xs k) ≡ true
    pub place_is : passing xs k ≡ r

  -- one step on
  place_at_more : (xs : List (ℕ × Op)) (n r k : ℕ) (b : Bool) → n ≤ length xs → passes test (slice_get xs n) ≡ b → (slice_get (places xs n) r ≡ Some k → IsPlace xs n r k)
      → slice_get (places xs n ++ cond b (n ∷ []) []) r ≡ Some k → IsPlace xs (suc n) r k
  place_at_more xs n r k true h passed below e =
      ⊎_elim
      (λ (l : slice_get (places xs n) r ≡ Some k). let i = below l in record { within = let lt = i.within in omega (arith, lt); passed = i.passed; place_is = i.place_is })
      (λ (l : (r ≡ length (places xs n)) × (n ≡ k)). record {
        within = let same = l.1 in omega (arith, same);
        passed = ap (λ m. passes test (slice_get xs m)) (sym l.1) ∙ passed;
        place_is = ap (passing xs) (sym l.1) ∙ sym (length-places xs n h) ∙ sym l.0;
      })
      (slice_get_cases_end (places xs n) n r k e)
  place_at_more xs n r k false h fails below e =
      let i = below (ap (λ list. slice_get list r) (sym (append-nil (places xs n))) ∙ e) in
      record { within = let lt = i.within in omega (arith, lt); passed = i.passed; place_is = i.place_is }

  pub place_at : (xs : List (ℕ × Op)) (n r k : ℕ) → n ≤ length xs → slice_get (places xs n) r ≡ Some k → IsPlace xs n r k
  place_at xs zero r k h e = absurd cc
  place_at xs (suc n) r k h e =
      let x = get_or xs n (0, Fence) in
      let here : slice_get xs n ≡ Some x = element xs n (omega (arith, h)) in
      let short : n ≤ length xs = omega (arith, h) in
      place_at_more xs n r k (test x) short (ap (passes test) here) (place_at xs n r k short) (ap (λ list. slice_get list r) (sym (places-suc xs n x here)) ∙ e)

  -- a number at which the test passes is a place of the list
  pub passes-below : (xs : List (ℕ × Op)) (n : ℕ) → passes test (slice_get xs n) ≡ true → n < length xs
  passes-below xs n p =
      ⊎_elim (λ (lt : n < length xs). lt) (λ (past : length xs ≤ n). let none = slice_get_past xs n past in let no = ap (passes test) none in absurd (cc (p, no))) (cases_lt n (length xs))

  -- of the whole list

  pub passing_all : (xs : List (ℕ × Op)) → passing xs (length xs) ≡ count_by test xs
  passing_all xs = ap (count_by test) (take_all (length xs) xs (omega arith))

  pub length-places_all : (xs : List (ℕ × Op)) → length (places xs (length xs)) ≡ count_by test xs
  length-places_all xs = length-places xs (length xs) (omega arith) ∙ passing_all xs

  pub places_all-passing : (xs : List (ℕ × Op)) (k : ℕ) → passes test (slice_get xs k) ≡ true → slice_get (places xs (length xs)) (passing xs k) ≡ Some k
  places_all-passing xs k p = places-passing xs (length xs) k (omega arith) (passes-below xs k p) p

  pub passing-lt : (xs : List (ℕ × Op)) (k : ℕ) → passes test (slice_get xs k) ≡ true → passing xs k < count_by test xs
  passing-lt xs k p =
      let lt = slice_get_within (places xs (length xs)) (passing xs k) k (places_all-passing xs k p) in
      let all = length-places_all xs in
      omega (arith, lt, all)

  -- two places that pass behind equally many are one
  pub passing_same : (xs : List (ℕ × Op)) (a b : ℕ) → passes test (slice_get xs a) ≡ true → passes test (slice_get xs b) ≡ true → passing xs a ≡ passing xs b → a ≡ b
  passing_same xs a b p q e =
      same_Some a b (sym (places_all-passing xs a p) ∙ ap (slice_get (places xs (length xs))) e ∙ places_all-passing xs b q)

  pub passing-le : (xs : List (ℕ × Op)) (k : ℕ) → passing xs k ≤ count_by test xs
  passing-le xs k = sum_by-take-le (λ x. cond (test x) 1 0) xs k

  -- a place that passes counts for those behind it
  pub passing-rises : (xs : List (ℕ × Op)) (a b : ℕ) → passes test (slice_get xs a) ≡ true → a < b → passing xs a < passing xs b
  passing-rises xs a b p lt =
      let x = get_or xs a (0, Fence) in
      let here : slice_get xs a ≡ Some x = element xs a (passes-below xs a p) in
      let one : cond {A = ℕ} (test x) 1 0 ≡ 1 = ap (λ b. cond {A = ℕ} b 1 0) (sym (ap (passes test) here) ∙ p) in
      let next = passing-suc xs a x here in
      let shorter = sum_by-take-le (λ y. cond (test y) 1 0) (take b xs) (suc a) in
      let same = ap (count_by test) (take-take (suc a) b xs (omega (arith, lt))) in
      omega (arith, one, next, shorter, same)

  -- of a list that grew at its end

  pub passing-append : (xs ys : List (ℕ × Op)) (n : ℕ) → n ≤ length xs → passing (xs ++ ys) n ≡ passing xs n
  passing-append xs ys n h = ap (count_by test) (take-append-le n xs ys h)

  pub places-append : (xs ys : List (ℕ × Op)) (n : ℕ) → n ≤ length xs → places (xs ++ ys) n ≡ places xs n
  places-append xs ys zero h = refl
  places-append xs ys (suc n) h =
      let x = get_or xs n (0, Fence) in
      let here : slice_get xs n ≡ Some x = element xs n (omega (arith, h)) in
      places-suc (xs ++ ys) n x (slice_get-append_left xs ys n x here)
      ∙ ap (λ list. list ++ cond (test x) (n ∷ []) []) (places-append xs ys n (omega (arith, h)))
      ∙ sym (places-suc xs n x here)

  pub places_push : (xs : List (ℕ × Op)) (x : ℕ × Op) → places (xs ++ x ∷ []) (length (xs ++ x ∷ [])) ≡ places xs (length xs) ++ cond (test x) (length xs ∷ []) []
  places_push xs x =
      let long : length (xs ++ x ∷ []) ≡ suc (length xs) = let e = length-append xs (x ∷ []) in omega (arith, e) in
      ap (places (xs ++ x ∷ [])) long
      ∙ places-suc (xs ++ x ∷ []) (length xs) x (slice_get_end xs x (length xs) refl)
      ∙ ap (λ list. list ++ cond (test x) (length xs ∷ []) []) (places-append xs (x ∷ []) (length xs) (omega arith))

-- loads and stores
abbrev pub load_node : ℕ × Op → Bool
load_node node = is_load node.1

abbrev pub store_node : ℕ × Op → Bool
store_node node = is_store node.1
