-- The words that are drawn. Word j of a seed and a stream is the j-th 32-bit word, counted from 0, of the generator `Pcg32` of this seed and stream.
use Rattle.std.specs.Prelude.{ℕ}
use Rattle.rand_pcg.specs.Lcg.{Lcg, advance, increment_of, started}
use Rattle.rand_pcg.specs.Pcg.{multiplier_64, pcg32}

-- the generator of a seed and a stream, behind its first j words
unfoldable pub draws_after : ℕ → ℕ → ℕ → Lcg
draws_after seed stream j = advance 64 multiplier_64 j (started 64 multiplier_64 seed (increment_of 64 stream))

-- word j
unfoldable pub word : ℕ → ℕ → ℕ → ℕ
word seed stream j = (pcg32 (draws_after seed stream j)).0
