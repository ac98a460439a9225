-- The product of a word and the inverse of a number, over 2^64, is the quotient or one less.
use Rattle.std.proofs.Common.{◌≡◌, ◌∙◌, ℕ, ◌+◌, ◌-◌, ◌*◌, ◌/◌, ◌%◌, ◌^◌, ◌<◌, ◌≤◌, sym, ap, subst, arith}
use Rattle.std.proofs.Math.Nat.{mul_comm, mul_assoc, mul_right_comm, mul-add, add-mul, mul-le-mul_left, mul-le-mul_right, div-mul-le_self, lt-div-mul-add}
use Rattle.signature_plan.proofs.Radix.{digit-mod, digit-div}

low-step : (w guessed pd : ℕ) → guessed * 18446744073709551616 ≤ pd → pd ≤ w * 18446744073709551615 → guessed ≤ w
low-step w guessed pd floor most = omega (arith, floor, most)

high-step : (w d guessed pd wd : ℕ) → pd + d ≤ guessed * 18446744073709551616 + 18446744073709551616 * d → w * 18446744073709551616 ≤ pd + wd → wd ≤ 18446744073709551615 * d → 1 ≤ d → w < guessed + d + d
high-step w d guessed pd wd ceiling least most some = omega (arith, ceiling, least, most, some)

nearer : (pd d guessed scaled s t : ℕ) → s ≤ t → s ≡ pd + 1 * d → t ≡ scaled + 18446744073709551616 * d → scaled ≡ guessed * 18446744073709551616 → pd + d ≤ guessed * 18446744073709551616 + 18446744073709551616 * d
nearer pd d guessed scaled s t le front back swap = omega (arith, le, front, back, swap)

least-of : (w pd wvd wd s : ℕ) → w * 18446744073709551616 ≤ s → s ≡ wvd + wd → pd ≡ wvd → w * 18446744073709551616 ≤ pd + wd
least-of w pd wvd wd s least parts right = omega (arith, least, parts, right)

-- the inverse times the number
module _ (d v : ℕ) (some : 1 ≤ d) (inverse : v ≡ (2 ^ 64 - 1) / d) where
  v-most : v * d ≤ 18446744073709551615
  v-most = subst (λ (u : ℕ). u * d ≤ 18446744073709551615) (sym inverse) (div-mul-le_self 18446744073709551615 d)

  v-least : 18446744073709551616 ≤ v * d + d
  v-least =
      let lt = lt-div-mul-add {a = 18446744073709551615} {b = d} (omega (arith, some)) in
      subst (λ (u : ℕ). 18446744073709551616 ≤ u * d + d) (sym inverse) (omega (arith, lt))

-- the guess, and what it is too small by
module _ (w d v : ℕ) (some : 1 ≤ d) (fits : w < 2 ^ 64) (inverse : v ≡ (2 ^ 64 - 1) / d) (g : ℕ) (is : g ≡ w * v / 2 ^ 64) where
  floor : g * 18446744073709551616 ≤ w * v
  floor = subst (λ (u : ℕ). u * 18446744073709551616 ≤ w * v) (sym is) (div-mul-le_self (w * v) 18446744073709551616)

  ceiling : w * v + 1 ≤ g * 18446744073709551616 + 18446744073709551616
  ceiling =
      let lt = lt-div-mul-add {a = w * v} {b = 18446744073709551616} (omega arith) in
      subst (λ (u : ℕ). w * v + 1 ≤ u * 18446744073709551616 + 18446744073709551616) (sym is) (omega (arith, lt))

  pub guess-low : g * d ≤ w
  guess-low =
      let scaled = mul-le-mul_right d floor in
      let left = mul_right_comm g 18446744073709551616 d in
      let right = mul_assoc w v d in
      let most = mul-le-mul_left w (v-most d v some inverse) in
      low-step w (g * d) (w * v * d)
      (subst (λ (u : ℕ). u ≤ w * v * d) left scaled)
      (subst (λ (u : ℕ). u ≤ w * 18446744073709551615) (sym right) most)

  pub guess-near : w < g * d + d + d
  guess-near =
      let scaled = mul-le-mul_right d ceiling in
      let front = add-mul (w * v) 1 d in
      let back = add-mul (g * 18446744073709551616) 18446744073709551616 d in
      let swap = mul_right_comm g 18446744073709551616 d in
      let least = mul-le-mul_left w (v-least d v some inverse) in
      let parts = mul-add w (v * d) d in
      let right = mul_assoc w v d in
      let most : w * d ≤ 18446744073709551615 * d = mul-le-mul_right d (omega (arith, fits)) in
      high-step w d (g * d) (w * v * d) (w * d)
      (nearer (w * v * d) d (g * d) (g * 18446744073709551616 * d) ((w * v + 1) * d) ((g * 18446744073709551616 + 18446744073709551616) * d) scaled front back swap)
      (least-of w (w * v * d) (w * (v * d)) (w * d) (w * (v * d + d)) least parts right)
      most some

  pub right-guess : w - g * d < d → (g ≡ w / d) × (w - g * d ≡ w % d)
  right-guess lt =
      let low = guess-low in
      let swap = mul_comm g d in
      let split : w ≡ w - g * d + d * g = omega (arith, low, swap) in
      (sym (ap (λ (n : ℕ). n / d) split ∙ digit-div (w - g * d) d g lt), sym (ap (λ (n : ℕ). n % d) split ∙ digit-mod (w - g * d) d g lt))

  pub low-guess : d ≤ w - g * d → (g + 1 ≡ w / d) × (w - g * d - d ≡ w % d)
  low-guess ge =
      let low = guess-low in
      let near = guess-near in
      let swap = mul_comm g d in
      let more = mul-add d g 1 in
      let split : w ≡ w - g * d - d + d * (g + 1) = omega (arith, low, ge, swap, more) in
      let lt : w - g * d - d < d = omega (arith, low, ge, near) in
      (sym (ap (λ (n : ℕ). n / d) split ∙ digit-div (w - g * d - d) d (g + 1) lt), sym (ap (λ (n : ℕ). n % d) split ∙ digit-mod (w - g * d - d) d (g + 1) lt))
