-- A reader of run lines, and what a call of it gives.
use Rattle.std.specs.Prelude.{◌≡◌, ℕ, ◌+◌, List, [], ◌∷◌, ◌++◌, Bool, true, false, Option, Some, None, Result, Ok, Err, if◌then◌else◌, codes}
use Rattle.std.specs.Str.{bytes_eq}
use Rattle.test_lang.specs.Text.Line.{first_line}
use Rattle.run_text.specs.declared.fault.RunFault.{RunFault}
use Rattle.run_text.specs.declared.fault.RunFault.TheVariants.{NoDone, AfterDone}
use Rattle.run_text.specs.RunLine.{run_of, Refuses}

-- The bytes that are left, the number of the next line, how many values a line has, and whether `done` was read.
pub record Reader : Type 0 where
  pub left : List ℕ
  pub line : ℕ
  pub loads : ℕ
  pub is_done : Bool

-- Whether a run line was read, its values, and the reader behind it.
pub record Turn : Type 0 where
  pub more : Bool
  pub values : List ℕ
  pub reader : Reader

-- the reader behind a line
abbrev pub behind : Reader → List ℕ → Bool → Reader
behind r rest is_done = record { left = rest; line = r.line + 1; loads = r.loads; is_done = is_done }

-- `done` was read
abbrev pub end_at : Reader → List ℕ → Result Turn RunFault
end_at r [] = Ok (record { more = false; values = []; reader = behind r [] true })
end_at r (c ∷ cs) = Err (AfterDone (r.line + 1))

-- a run line was read
abbrev pub run_at : Reader → List ℕ → Result (List ℕ) RunFault → Result Turn RunFault
run_at r rest (Ok vs) = Ok (record { more = true; values = vs; reader = behind r rest false })
run_at r rest (Err fault) = Err fault

abbrev pub line_at : Reader → Option (List ℕ × List ℕ) → Result Turn RunFault
line_at r None = Err (NoDone r.line)
line_at r (Some l) = if bytes_eq l.0 (codes "done") then end_at r l.1 else run_at r l.1 (run_of r.line r.loads l.0)

-- What the next call gives.
abbrev pub turn : Reader → Result Turn RunFault
turn r = if r.is_done then Ok (record { more = false; values = []; reader = r }) else line_at r (first_line r.left)

-- A call gives a turn: its answer, the values behind the old ones, and the reader behind it.
pub record Takes (t : Turn) (more : Bool) (old new : List ℕ) (after : Reader) : Type 0 where
  pub answer : more ≡ t.more
  pub values_added : new ≡ old ++ t.values
  pub reader_moved : after ≡ t.reader

-- A call refuses, and changes nothing.
pub record Stays (fault : RunFault) (read : Result Turn RunFault) (old new : List ℕ) (before after : Reader) : Type 0 where
  pub refusal : Refuses fault read
  pub values_kept : new ≡ old
  pub reader_kept : after ≡ before

-- A call gives what the definition gives, unless memory ran out.
abbrev pub Gives : Result Bool RunFault → List ℕ → List ℕ → Reader → Reader → Result Turn RunFault → Type 0
Gives (Ok more) old new before after (Ok t) = Takes t more old new after
Gives (Ok more) old new before after (Err fault) = ⊥
Gives (Err fault) old new before after read = Stays fault read old new before after
