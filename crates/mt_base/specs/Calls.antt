-- The calls of a source or a sink in memory.
use Rattle.std.specs.Prelude.{ℕ, Bool, ◌==◌, List, if◌then◌else◌}
use Rattle.std.specs.List.{list_any}
use Rattle.mt_base.specs.Faults.{counted}

pub record CallCounts : Type 0 where
  -- the numbers, from 0, of the calls that are to fail
  pub fails : List ℕ
  -- how many calls were made, up to 2^64 - 1
  pub made : ℕ
  -- how many calls failed, up to 2^64 - 1
  pub faults : ℕ

-- no call was made yet
abbrev pub no_calls : List ℕ → CallCounts
no_calls fails = record { fails = fails; made = 0; faults = 0 }

-- the call that comes next is listed
abbrev pub is_next_listed : CallCounts → Bool
is_next_listed calls = list_any (λ n. n == calls.made) calls.fails

-- one call more, which failed or not
abbrev pub after_call : Bool → CallCounts → CallCounts
after_call failed calls = record calls { made = counted calls.made; faults = if failed then counted calls.faults else calls.faults }
