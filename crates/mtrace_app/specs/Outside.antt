-- What a call does to a source and to sinks. The bytes that a source has left, and those that a sink holds, are `None` where it doesn't tell them.
use Rattle.std.specs.Prelude.{◌≡◌, ℕ, ◌+◌, ◌^◌, ◌<◌, ◌≤◌, List, ◌++◌, length, Option, Some, None, ⊤}
use Rattle.std.specs.Io.KnownBytes.{Appends, Consumes}
use Rattle.mt_base.specs.Faults.{Rose}

-- The bytes and the count of faults before a call and after it.
pub record Change : Type 0 where
  pub before : Option (List ℕ)
  pub now : Option (List ℕ)
  pub faults_before : ℕ
  pub faults : ℕ

abbrev pub change : Option (List ℕ) → Option (List ℕ) → ℕ → ℕ → Change
change before now faults_before faults = record { before = before; now = now; faults_before = faults_before; faults = faults }

-- its count of faults rose
abbrev pub HadFault : Change → Type 0
HadFault c = Rose c.faults_before c.faults

-- What is left now is what was left before without a front, which was taken: no more than an input may have, and than is asked for at once.
abbrev pub IsRestOf : Option (List ℕ) → Option (List ℕ) → Type 0
IsRestOf before now = (taken : List ℕ) × Consumes before now taken × (length taken ≤ 2 ^ 30 + 2 ^ 16)

-- a fact about what was left before and what is left now, where both are told
abbrev pub WhereTold : Option (List ℕ) → Option (List ℕ) → (List ℕ → List ℕ → Type 0) → Type 0
WhereTold None now P = ⊤
WhereTold (Some xs) None P = ⊤
WhereTold (Some xs) (Some ys) P = P xs ys

-- more bytes were taken than an input may have
abbrev pub IsPastLimit : List ℕ → List ℕ → Type 0
IsPastLimit before now = 2 ^ 30 + length now < length before

-- no more were taken
abbrev pub IsWithinLimit : List ℕ → List ℕ → Type 0
IsWithinLimit before now = length before ≤ 2 ^ 30 + length now

-- a front of these bytes was appended, and nothing else
pub record AppendsFront (before now : Option (List ℕ)) (bytes : List ℕ) : Type 0 where
  pub front : List ℕ
  pub rest : List ℕ
  pub whole : bytes ≡ front ++ rest
  pub appended : Appends before now front

-- The line was put to the errors: the whole of it where they had no fault, and otherwise a front of it.
pub record IsTold (line : List ℕ) (errs : Change) : Type 0 where
  pub whole : ¬ HadFault errs → Appends errs.before errs.now line
  pub front : AppendsFront errs.before errs.now line
