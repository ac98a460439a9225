-- The numbers below one, and what tests keep of them.
use Rattle.std.proofs.Common.{◌≡◌, ◌≢◌, ◌∙◌, ℕ, zero, suc, ◌+◌, ◌<◌, ◌≤◌, List, [], ◌∷◌, ◌++◌, map, length, Bool, true, false, cond, inl, inr, arith, refl, sym, ap}
use Rattle.std.specs.Prelude.{filter}
use Rattle.std.proofs.lemmas.Bool.{cases_eq}
use Rattle.std.proofs.lemmas.List.{append-nil, append_assoc, map-append}
use Rattle.std.proofs.lemmas.List.Elements.{filter-append}
use Rattle.orders.specs.Orders.{nodes_below}

-- the numbers below a sum

pub below-add : (a b : ℕ) → nodes_below (a + b) ≡ nodes_below a ++ map (λ i. a + i) (nodes_below b)
below-add a zero = let same : a + 0 ≡ a = omega arith in ap nodes_below same ∙ sym (append-nil (nodes_below a))
below-add a (suc b) =
    let more : a + suc b ≡ suc (a + b) = omega arith in
    let shifted : List ℕ = map (λ i. a + i) (nodes_below b) in
    ap nodes_below more
    ∙ ap (λ (xs : List ℕ). xs ++ (a + b) ∷ []) (below-add a b)
    ∙ append_assoc (nodes_below a) shifted ((a + b) ∷ [])
    ∙ ap (λ (xs : List ℕ). nodes_below a ++ xs) (sym (map-append (λ i. a + i) (nodes_below b) (b ∷ [])))

-- what a test keeps

pub filter-same_below : (f g : ℕ → Bool) (n : ℕ) → ((k : ℕ) → k < n → f k ≡ g k) → filter f (nodes_below n) ≡ filter g (nodes_below n)
filter-same_below f g zero same = refl
filter-same_below f g (suc n) same =
    filter-append f (nodes_below n) (n ∷ [])
    ∙ ap (λ (xs : List ℕ). xs ++ filter f (n ∷ [])) (filter-same_below f g n (λ k lt. same k (omega (arith, lt))))
    ∙ ap (λ b. filter g (nodes_below n) ++ cond b (n ∷ []) []) (same n (omega arith))
    ∙ sym (filter-append g (nodes_below n) (n ∷ []))

pub filter-none_below : (f : ℕ → Bool) (n : ℕ) → ((k : ℕ) → k < n → f k ≡ false) → filter f (nodes_below n) ≡ []
filter-none_below f zero none = refl
filter-none_below f (suc n) none =
    filter-append f (nodes_below n) (n ∷ [])
    ∙ ap (λ (xs : List ℕ). xs ++ filter f (n ∷ [])) (filter-none_below f n (λ k lt. none k (omega (arith, lt))))
    ∙ ap (λ b. cond b (n ∷ []) []) (none n (omega arith))

-- none passes from one number on
pub filter-longer : (f : ℕ → Bool) (n d : ℕ) → ((k : ℕ) → n ≤ k → f k ≡ false) → filter f (nodes_below (n + d)) ≡ filter f (nodes_below n)
filter-longer f n zero none = let same : n + 0 ≡ n = omega arith in ap (λ (m : ℕ). filter f (nodes_below m)) same
filter-longer f n (suc d) none =
    let more : n + suc d ≡ suc (n + d) = omega arith in
    ap (λ (m : ℕ). filter f (nodes_below m)) more
    ∙ filter-append f (nodes_below (n + d)) ((n + d) ∷ [])
    ∙ ap (λ b. filter f (nodes_below (n + d)) ++ cond b ((n + d) ∷ []) []) (none (n + d) (omega arith))
    ∙ append-nil (filter f (nodes_below (n + d)))
    ∙ filter-longer f n d none

-- the least number that passes one test doesn't pass the other, and they agree elsewhere
pub filter-first : (f g : ℕ → Bool) (n t : ℕ) → t < n → f t ≡ true → g t ≡ false → ((j : ℕ) → j < t → f j ≡ false) → ((j : ℕ) → j < n → j ≢ t → g j ≡ f j)
    → filter f (nodes_below n) ≡ t ∷ filter g (nodes_below n)
filter-first f g zero t lt holds fails before same = absurd (omega (arith, lt))
filter-first f g (suc n) t lt holds fails before same = elim (cases_eq t n) [
  | inl is ↦
      let none_f : filter f (nodes_below n) ≡ [] = filter-none_below f n (λ j below. before j (omega (arith, below, is))) in
      let none_g : filter g (nodes_below n) ≡ [] =
      filter-none_below g n (λ j below. same j (omega (arith, below)) (λ e. omega (arith, below, e, is)) ∙ before j (omega (arith, below, is))) in
      let here_f : f n ≡ true = ap f (sym is) ∙ holds in
      let here_g : g n ≡ false = ap g (sym is) ∙ fails in
      filter-append f (nodes_below n) (n ∷ [])
      ∙ ap (λ (xs : List ℕ). xs ++ filter f (n ∷ [])) none_f
      ∙ ap (λ b. cond b (n ∷ []) []) here_f
      ∙ ap (λ (m : ℕ). m ∷ []) (sym is)
      ∙ ap (λ (xs : List ℕ). t ∷ xs)
      (sym (filter-append g (nodes_below n) (n ∷ []) ∙ ap (λ (xs : List ℕ). xs ++ filter g (n ∷ [])) none_g ∙ ap (λ b. cond b (n ∷ []) []) here_g))
  | inr other ↦
      let below : t < n = omega (arith, lt, other) in
      filter-append f (nodes_below n) (n ∷ [])
      ∙ ap (λ (xs : List ℕ). xs ++ filter f (n ∷ [])) (filter-first f g n t below holds fails before (λ j l apart. same j (omega (arith, l)) apart))
      ∙ ap (λ b. t ∷ (filter g (nodes_below n) ++ cond b (n ∷ []) [])) (sym (same n (omega arith) (λ e. other (sym e))))
      ∙ ap (λ (xs : List ℕ). t ∷ xs) (sym (filter-append g (nodes_below n) (n ∷ [])))
]

-- tests that agree but at one number, which passes the second alone
pub filter-one_more : (f g : ℕ → Bool) (n t : ℕ) → t < n → f t ≡ false → g t ≡ true → ((j : ℕ) → j < n → j ≢ t → g j ≡ f j) → length (filter g (nodes_below n)) ≡ length (filter f (nodes_below n)) + 1
filter-one_more f g zero t lt fails holds same = absurd (omega (arith, lt))
filter-one_more f g (suc n) t lt fails holds same =
    let long_f = ap length (filter-append f (nodes_below n) (n ∷ [])) ∙ length-push_if (filter f (nodes_below n)) n (f n) in
    let long_g = ap length (filter-append g (nodes_below n) (n ∷ [])) ∙ length-push_if (filter g (nodes_below n)) n (g n) in
    elim (cases_eq t n) [
      | inl is ↦
          let rest : length (filter g (nodes_below n)) ≡ length (filter f (nodes_below n)) = ap length (filter-same_below g f n (λ j below. same j (omega (arith, below)) (λ e. omega (arith, below, e, is)))) in
          let here_f : cond {A = ℕ} (f n) 1 0 ≡ 0 = ap (λ b. cond {A = ℕ} b 1 0) (ap f (sym is) ∙ fails) in
          let here_g : cond {A = ℕ} (g n) 1 0 ≡ 1 = ap (λ b. cond {A = ℕ} b 1 0) (ap g (sym is) ∙ holds) in
          omega (arith, long_f, long_g, rest, here_f, here_g)
      | inr other ↦
          let rest = filter-one_more f g n t (omega (arith, lt, other)) fails holds (λ j l apart. same j (omega (arith, l)) apart) in
          let here : cond {A = ℕ} (g n) 1 0 ≡ cond {A = ℕ} (f n) 1 0 = ap (λ b. cond {A = ℕ} b 1 0) (same n (omega arith) (λ e. other (sym e))) in
          omega (arith, long_f, long_g, rest, here)
    ] where
      length-push_if : (xs : List ℕ) (x : ℕ) (b : Bool) → length (xs ++ cond b (x ∷ []) []) ≡ length xs + cond b 1 0
      length-push_if [] x true = refl
      length-push_if [] x false = refl
      length-push_if (y ∷ xs) x b = let rest = length-push_if xs x b in omega (arith, rest)
