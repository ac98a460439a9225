-- The line of a run, and reading it back.
use Rattle.std.specs.Prelude.{◌≡◌, ℕ, List, ◌++◌, length, true, false, Ok}
use Rattle.run_text.specs.Reader.{Reader, behind, turn}

-- a reader of runs of so many values that stands before these bytes, in the line of this number
abbrev pub runs_reader : ℕ → ℕ → List ℕ → Reader
runs_reader loads line bytes = record { left = bytes; line = line; loads = loads; is_done = false }

-- Wherever the bytes stand in a text of runs with as many values, the next call of its reader gives these values and stands behind the bytes.
abbrev pub IsReadAs : List ℕ → List ℕ → Type 0
IsReadAs values bytes = (line : ℕ) (rest : List ℕ) → let reader = runs_reader (length values) line (bytes ++ rest) in
    turn reader ≡ Ok (record { more = true; values = values; reader = behind reader rest false })
