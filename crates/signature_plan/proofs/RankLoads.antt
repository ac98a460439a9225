-- The loads of a range of ranks, one by one.
use Rattle.std.proofs.Common.{◌≡◌, ◌∙◌, ℕ, zero, suc, ◌+◌, ◌-◌, ◌*◌, ◌^◌, ◌<◌, ◌≤◌, List, [], ◌∷◌, take, drop, Contains, Option, Some, ap, arith, sym, subst, inl, inr, add-one}
use Rattle.std.specs.Prelude.{◌==◌, position, unwrap_or, slice_index}
use Rattle.std.proofs.Math.Nat.{mul-le-mul}
use Rattle.std.proofs.Math.Seq.{drop-cons}
use Rattle.orders.proofs.Members.{Contains-cons_cases, Contains-nil}
use Rattle.test_lang.specs.Program.{Program}
use Rattle.test_lang.specs.Values.{load_count, load_nodes}
use Rattle.test_lang.specs.Runs.{IsInside}
use Rattle.test_lang.specs.Signatures.{candidate_count, group_product, place}
use Rattle.test_lang.proofs.Ranks.{length-load_nodes}
use Rattle.candidates.specs.ByRank.{candidates_at, load_at}
use Rattle.candidates.proofs.RunLemmas.{inside_gives, value_read-at}
use Rattle.signature_plan.specs.Words.{loads_between, mixed_radix}
use Rattle.signature_plan.proofs.Radix.{mixed_radix-lt}
use Rattle.signature_plan.proofs.Reading.{place_within}

module _ (p : Program) where
  pub between_none : (rank : ℕ) → loads_between p rank rank ≡ []
  between_none rank = let gap : rank - rank ≡ 0 = omega arith in ap (λ (n : ℕ). take n (drop rank (load_nodes p))) gap

  pub between_more : (rank end : ℕ) → rank < end → end ≤ load_count p → loads_between p rank end ≡ load_at p rank ∷ loads_between p (rank + 1) end
  between_more rank end lt within =
      let long = length-load_nodes p in
      let gap : end - rank ≡ suc (end - (rank + 1)) = omega (arith, lt) in
      ap (λ (n : ℕ). take n (drop rank (load_nodes p))) gap
      ∙ ap (take (suc (end - (rank + 1)))) (drop-cons (load_nodes p) rank 0 (omega (arith, long, lt, within)))
      ∙ ap (λ (n : ℕ). load_at p rank ∷ take (end - (rank + 1)) (drop n (load_nodes p))) (sym (add-one rank))

  -- fewer loads have no greater product
  pub product_between-le : (first end d : ℕ) → first + d ≤ end → end ≤ load_count p → group_product p (loads_between p (first + d) end) ≤ group_product p (loads_between p first end)
  product_between-le first end zero le within = let same : first + 0 ≡ first = omega arith in subst (λ (n : ℕ). group_product p (loads_between p n end) ≤ group_product p (loads_between p first end)) (sym same) (omega arith)
  product_between-le first end (suc d) le within =
      let next : first + suc d ≡ first + d + 1 = omega arith in
      let before = product_between-le first end d (omega (arith, le)) within in
      let here = ap (group_product p) (between_more (first + d) end (omega (arith, le)) within) in
      let some : 1 ≤ candidate_count p (load_at p (first + d)) = omega arith in
      let both = mul-le-mul {n₁ = 1} {m₁ = group_product p (loads_between p (first + d + 1) end)} {n₂ = candidate_count p (load_at p (first + d))} {m₂ = group_product p (loads_between p (first + d + 1) end)} some (omega arith) in
      subst (λ (n : ℕ). group_product p (loads_between p n end) ≤ group_product p (loads_between p first end)) (sym next) (omega (arith, before, here, both))

  -- a load of a range
  between_has : (d rank end : ℕ) → rank + d ≡ end → end ≤ load_count p → (load : ℕ) → Contains (loads_between p rank end) load → (k : ℕ) × (k < load_count p) × (load_at p k ≡ load)
  between_has zero rank end e within load h =
      let same : rank ≡ end = omega (arith, e) in
      absurd (Contains-nil load (subst (λ loads. Contains loads load) (ap (λ (n : ℕ). loads_between p n end) same ∙ between_none end) h))
  between_has (suc d) rank end e within load h =
      elim (Contains-cons_cases (load_at p rank) (loads_between p (rank + 1) end) load (subst (λ loads. Contains loads load) (between_more rank end (omega (arith, e)) within) h)) [
        | inl same ↦ (rank, omega (arith, e, within), same)
        | inr other ↦ between_has d (rank + 1) end (omega (arith, e)) within load other
      ]

module _ (p : Program) (run : List ℕ) (inside : IsInside p run) where
  -- the value of each load is a candidate's
  pub rank_contains : (rank : ℕ) → rank < load_count p → Contains (candidates_at p rank) (slice_index run rank)
  rank_contains rank lt = (inside_gives p run inside.none_outside).each rank lt

  place_at-rank : (rank : ℕ) → rank < load_count p → place p run (load_at p rank) ≡ unwrap_or (position (λ candidate. candidate == slice_index run rank) (candidates_at p rank)) 0
  place_at-rank rank lt = ap (λ (v : ℕ). unwrap_or (position (λ candidate. candidate == v) (candidates_at p rank)) 0) (value_read-at p run rank lt)

  -- at its place
  pub rank_place : (rank k : ℕ) → rank < load_count p → position (λ candidate. candidate == slice_index run rank) (candidates_at p rank) ≡ Some k → place p run (load_at p rank) ≡ k
  rank_place rank k lt e = place_at-rank rank lt ∙ ap (λ (o : Option ℕ). unwrap_or o 0) e

  place_below : (rank : ℕ) → rank < load_count p → place p run (load_at p rank) < candidate_count p (load_at p rank)
  place_below rank lt =
      let is = place_at-rank rank lt in
      let below = place_within (candidates_at p rank) (slice_index run rank) (rank_contains rank lt) in
      omega (arith, is, below)

  -- the word of a range stays below its product
  pub between_lt : (rank end : ℕ) → rank ≤ end → end ≤ load_count p → mixed_radix (candidate_count p) (place p run) (loads_between p rank end) < group_product p (loads_between p rank end)
  between_lt rank end le within =
      mixed_radix-lt (candidate_count p) (place p run) (loads_between p rank end) (λ load h.
      let at = between_has p (end - rank) rank end (omega (arith, le)) within load h in
      subst (λ l. place p run l < candidate_count p l) at.2 (place_below at.0 at.1))

  -- one load more
  pub word_more : (rank end : ℕ) → rank < end → end ≤ load_count p → mixed_radix (candidate_count p) (place p run) (loads_between p rank end)
      ≡ place p run (load_at p rank) + candidate_count p (load_at p rank) * mixed_radix (candidate_count p) (place p run) (loads_between p (rank + 1) end)
  word_more rank end lt within = ap (mixed_radix (candidate_count p) (place p run)) (between_more p rank end lt within)

  -- it fits
  pub word_fits : (first rank end : ℕ) → first ≤ rank → rank < end → end ≤ load_count p → group_product p (loads_between p first end) ≤ 2 ^ 64
      → place p run (load_at p rank) + candidate_count p (load_at p rank) * mixed_radix (candidate_count p) (place p run) (loads_between p (rank + 1) end) < 2 ^ 64
  word_fits first rank end from lt within fits =
      let whole : first + (rank - first) ≡ rank = omega (arith, from) in
      let less : group_product p (loads_between p rank end) ≤ group_product p (loads_between p first end) =
      subst (λ (n : ℕ). group_product p (loads_between p n end) ≤ group_product p (loads_between p first end)) whole (product_between-le p first end (rank - first) (omega (arith, from, lt)) within) in
      let below = between_lt rank end (omega (arith, lt)) within in
      let more = word_more rank end lt within in
      omega (arith, less, below, more, fits)

  -- what the code makes of the next load
  pub next_word : (rank end word count digit : ℕ) → rank < end → end ≤ load_count p → word ≡ mixed_radix (candidate_count p) (place p run) (loads_between p (rank + 1) end) → count ≡ candidate_count p (load_at p rank)
      → digit ≡ place p run (load_at p rank) → word * count + digit ≡ mixed_radix (candidate_count p) (place p run) (loads_between p rank end)
  next_word rank end word count digit lt within word_is count_is digit_is =
      let rest = mixed_radix (candidate_count p) (place p run) (loads_between p (rank + 1) end) in
      ap (λ (n : ℕ). n * count + digit) word_is
      ∙ ap (λ (n : ℕ). rest * n + digit) count_is
      ∙ ap (λ (n : ℕ). rest * candidate_count p (load_at p rank) + n) digit_is
      ∙ omega arith
      ∙ sym (word_more rank end lt within)

  pub next_fits : (first rank end word count digit : ℕ) → first ≤ rank → rank < end → end ≤ load_count p → group_product p (loads_between p first end) ≤ 2 ^ 64
      → word ≡ mixed_radix (candidate_count p) (place p run) (loads_between p (rank + 1) end) → count ≡ candidate_count p (load_at p rank) → digit ≡ place p run (load_at p rank) → word * count + digit < 2 ^ 64
  next_fits first rank end word count digit from lt within fits word_is count_is digit_is =
      let is = next_word rank end word count digit lt within word_is count_is digit_is in
      let more = word_more rank end lt within in
      let below = word_fits first rank end from lt within fits in
      omega (arith, is, more, below)
