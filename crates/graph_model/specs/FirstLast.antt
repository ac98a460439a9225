-- The last number that passes a test, and the first.
use Rattle.std.specs.Prelude.{ℕ, zero, suc, Bool, Option, Some, None, if◌then◌else◌}

-- the last number below n
abbrev pub last_below : (ℕ → Bool) → ℕ → Option ℕ
last_below test zero = None
last_below test (suc n) = if test n then Some n else last_below test n

-- the first of n numbers from k on
abbrev pub first_from : (ℕ → Bool) → ℕ → ℕ → Option ℕ
first_from test zero k = None
first_from test (suc n) k = if test k then Some k else first_from test n (suc k)
