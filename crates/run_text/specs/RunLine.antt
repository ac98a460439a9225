-- What reading one line as a run line gives.
use Rattle.std.specs.Prelude.{◌≡◌, ℕ, List, ◌++◌, Option, Some, None, Result, Ok, Err, ◌==◌, nat_eq, if◌then◌else◌, length, drop, codes}
use Rattle.std.specs.List.{starts_with}
use Rattle.run_text.specs.declared.fault.RunFault.{RunFault}
use Rattle.run_text.specs.declared.fault.RunFault.TheVariants.{BadRunLine, WrongCount, ValueRange, Memory}
use Rattle.run_text.specs.Parts.{parts, gap, all_fit}

-- the values of a run line, if the line has its form
abbrev pub run_values : List ℕ → Option (List ℕ)
run_values line = if starts_with nat_eq line (codes "run") then parts gap (drop 3 line) else None

-- the values, if they are as many as wanted and each fits
abbrev pub judged : ℕ → ℕ → Option (List ℕ) → Result (List ℕ) RunFault
judged number want None = Err (BadRunLine number)
judged number want (Some vs) = if length vs == want then if all_fit vs then Ok vs else Err (ValueRange number) else Err (WrongCount number want (length vs))

-- What reading a line as a run line gives.
abbrev pub run_of : ℕ → ℕ → List ℕ → Result (List ℕ) RunFault
run_of number want line = judged number want (run_values line)

-- a refusal is that of the definition, unless memory ran out
abbrev pub Refuses : {X : Type 0} → RunFault → Result X RunFault → Type 0
Refuses Memory read = Unit {0}
Refuses fault read = read ≡ Err fault

-- The values are appended that reading gives, or nothing is changed and the refusal is that of reading.
abbrev pub Appends : {X : Type 0} → List ℕ → Result X RunFault → List ℕ → Result (List ℕ) RunFault → Type 0
Appends old (Ok x) new (Ok vs) = new ≡ old ++ vs
Appends old (Ok x) new (Err fault) = ⊥
Appends old (Err fault) new read = (new ≡ old) × Refuses fault read
