-- The words of a seed and a stream, one after another.
use Rattle.std.proofs.Common.{◌≡◌, ◌∙◌, ℕ, zero, suc, ◌+◌, ap, add-one, refl, sym}
use Rattle.rand_pcg.specs.Lcg.{Lcg, advance, increment_of, next, started}
use Rattle.rand_pcg.specs.Pcg.{multiplier_64, pcg32}
use Rattle.rand_pcg.proofs.LcgLemmas.{advance_more, advance_zero}
use Rattle.mt_base.specs.Words.{draws_after, word}

-- no word is drawn at first
pub draws_after_none : (seed stream : ℕ) → started 64 multiplier_64 seed (increment_of 64 stream) ≡ draws_after seed stream 0
unfolding draws_after
draws_after_none seed stream = sym (advance_zero 64 multiplier_64 (started 64 multiplier_64 seed (increment_of 64 stream)))

-- a jump and then one step are one step and then the jump
next-advance : (n : ℕ) (g : Lcg) → next 64 multiplier_64 (advance 64 multiplier_64 n g) ≡ advance 64 multiplier_64 n (next 64 multiplier_64 g)
next-advance zero g = ap (next 64 multiplier_64) (advance_zero 64 multiplier_64 g) ∙ sym (advance_zero 64 multiplier_64 (next 64 multiplier_64 g))
next-advance (suc n) g =
    let more = λ (h : Lcg). advance_more 64 multiplier_64 n h ∙ ap (λ (k : ℕ). advance 64 multiplier_64 k h) (add-one n) in
    ap (next 64 multiplier_64) (sym (more g)) ∙ next-advance n (next 64 multiplier_64 g) ∙ more (next 64 multiplier_64 g)

-- the generator gives the word that comes next
pub next_word : (seed stream j : ℕ) → (pcg32 (draws_after seed stream j)).0 ≡ word seed stream j
unfolding word
next_word seed stream j = refl

-- and has drawn one more then
pub next_draws : (seed stream j : ℕ) → (pcg32 (draws_after seed stream j)).1 ≡ draws_after seed stream (j + 1)
unfolding draws_after
next_draws seed stream j =
    let first = started 64 multiplier_64 seed (increment_of 64 stream) in
    next-advance j first ∙ advance_more 64 multiplier_64 j first
