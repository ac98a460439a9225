-- Numbers in a mixed radix.
use Rattle.std.proofs.Common.{◌≡◌, ◌∙◌, ℕ, zero, suc, ◌+◌, ◌*◌, ◌/◌, ◌%◌, ◌<◌, ◌≤◌, List, [], ◌∷◌, map, take, length, Contains, refl, arith}
use Rattle.std.specs.Prelude.{sum_by, slice_index}
use Rattle.std.proofs.Math.Nat.{mul-le-mul_left, add-mul-mod_self_left, add-mul-div_left, mod-eq_of_lt, div-eq_of_lt, div-lt_iff_lt-mul}
use Rattle.std.proofs.lemmas.List.Sums.{sum_by-cons, sum_by_push}
use Rattle.orders.specs.Orders.{nodes_below}
use Rattle.orders.proofs.Members.{Contains-head, Contains-tail}
use Rattle.test_lang.specs.Signatures.{product}
use Rattle.signature_plan.specs.Words.{mixed_radix}

-- one digit

pub digit-lt : (digit base rest limit : ℕ) → digit < base → rest < limit → digit + base * rest < base * limit
digit-lt digit base rest limit here below =
    let more : base * suc rest ≤ base * limit = mul-le-mul_left base (omega (arith, below)) in
    omega (arith, here, more)

pub digit-mod : (digit base rest : ℕ) → digit < base → (digit + base * rest) % base ≡ digit
digit-mod digit base rest lt = add-mul-mod_self_left digit base rest ∙ mod-eq_of_lt lt

pub digit-div : (digit base rest : ℕ) → digit < base → (digit + base * rest) / base ≡ rest
digit-div digit base rest lt =
    let none = div-eq_of_lt lt in
    let split = add-mul-div_left digit rest {y = base} (omega (arith, lt)) in
    omega (arith, none, split)

pub rest-lt : (word base limit : ℕ) → 0 < base → word < base * limit → word / base < limit
rest-lt word base limit some lt = (div-lt_iff_lt-mul {k = base} {x = word} {y = limit} some).1 (omega (arith, lt))

-- sums over the numbers below n

pub sum_below-suc : (f : ℕ → ℕ) (n : ℕ) → sum_by f (nodes_below (suc n)) ≡ f 0 + sum_by (λ k. f (suc k)) (nodes_below n)
sum_below-suc f zero = let one = sum_by_push f [] 0 in omega (arith, one)
sum_below-suc f (suc n) =
    let long = sum_by_push f (nodes_below (suc n)) (suc n) in
    let before = sum_below-suc f n in
    let short = sum_by_push (λ k. f (suc k)) (nodes_below n) n in
    omega (arith, long, before, short)

pub sum_by-same : (f g : ℕ → ℕ) → ((k : ℕ) → f k ≡ g k) → (xs : List ℕ) → sum_by f xs ≡ sum_by g xs
sum_by-same f g same [] = refl
sum_by-same f g same (x ∷ xs) =
    let left = sum_by-cons f x xs in
    let right = sum_by-cons g x xs in
    let here = same x in
    let rest = sum_by-same f g same xs in
    omega (arith, left, right, here, rest)

-- numbers

module _ (count place : ℕ → ℕ) where
  pub mixed_radix-lt : (loads : List ℕ) → ((load : ℕ) → Contains loads load → place load < count load) → mixed_radix count place loads < product (map count loads)
  mixed_radix-lt [] h = omega arith
  mixed_radix-lt (load ∷ loads) h =
      digit-lt (place load) (count load) (mixed_radix count place loads) (product (map count loads)) (h load (Contains-head load loads load refl))
      (mixed_radix-lt loads (λ l i. h l (Contains-tail load loads l i)))

  -- as the sum of places times weights
  mixed_radix-scaled : (scale : ℕ) (loads : List ℕ)
      → sum_by (λ k. place (slice_index loads k) * (scale * product (map count (take k loads)))) (nodes_below (length loads)) ≡ scale * mixed_radix count place loads
  mixed_radix-scaled scale [] = omega arith
  mixed_radix-scaled scale (load ∷ loads) =
      let split = sum_below-suc (λ k. place (slice_index (load ∷ loads) k) * (scale * product (map count (take k (load ∷ loads))))) (length loads) in
      let same = sum_by-same (λ k. place (slice_index loads k) * (scale * (count load * product (map count (take k loads))))) (λ k. place (slice_index loads k) * (scale * count load * product (map count (take k loads))))
      (λ k. omega arith) (nodes_below (length loads)) in
      let rest = mixed_radix-scaled (scale * count load) loads in
      omega (arith, split, same, rest)

  pub mixed_radix-sum : (loads : List ℕ) → sum_by (λ k. place (slice_index loads k) * product (map count (take k loads))) (nodes_below (length loads)) ≡ mixed_radix count place loads
  mixed_radix-sum loads =
      let same = sum_by-same (λ k. place (slice_index loads k) * product (map count (take k loads))) (λ k. place (slice_index loads k) * (1 * product (map count (take k loads)))) (λ k. omega arith) (nodes_below (length loads)) in
      let scaled = mixed_radix-scaled 1 loads in
      omega (arith, same, scaled)
