-- What a call of a reader of run lines gives, by the forms of lines.
use Rattle.std.specs.Prelude.{◌≡◌, ◌≢◌, ℕ, ◌+◌, ◌^◌, ◌<◌, ◌≤◌, ◌⊎◌, List, [], ◌∷◌, ◌++◌, map, length, true, false, Result, Ok, Err, codes}
use Rattle.std.specs.List.{AllByRecursion, flat_map}
use Rattle.test_lang.specs.Text.Line.{IsLine, StartsWithLine}
use Rattle.test_lang.specs.Text.Numeral.{IsNumeral, value, part}
use Rattle.run_text.specs.declared.fault.RunFault.{RunFault}
use Rattle.run_text.specs.declared.fault.RunFault.TheVariants.{BadRunLine, WrongCount, ValueRange, NoDone, AfterDone, Memory}
use Rattle.run_text.specs.Reader.{Reader, Turn, behind}

abbrev pub AreNumerals : List (List ℕ) → Type 0
AreNumerals ns = AllByRecursion IsNumeral ns

-- the run line with these numerals
abbrev pub run_line : List (List ℕ) → List ℕ
run_line ns = codes "run" ++ flat_map part ns

abbrev pub values_of : List (List ℕ) → List ℕ
values_of ns = map value ns

-- each value is below 2^32
abbrev pub AllFit : List (List ℕ) → Type 0
AllFit [] = Unit {0}
AllFit (n ∷ ns) = (value n < 2 ^ 32) × AllFit ns

-- some value isn't
abbrev pub HasLarge : List (List ℕ) → Type 0
HasLarge [] = ⊥
HasLarge (n ∷ ns) = (2 ^ 32 ≤ value n) ⊎ HasLarge ns

-- The text begins with the run line of these numerals.
pub record StartsWithRun (text : List ℕ) (ns : List (List ℕ)) (rest : List ℕ) : Type 0 where
  pub numerals : AreNumerals ns
  pub whole : text ≡ run_line ns ++ 10 ∷ rest

abbrev pub IsNoRunLine : List ℕ → Type 0
IsNoRunLine line = (ns : List (List ℕ)) → AreNumerals ns → line ≢ run_line ns

-- a run line with the values wanted
pub record ReadsRun (r : Reader) (t : Turn) (ns : List (List ℕ)) (rest : List ℕ) : Type 0 where
  pub line : StartsWithRun r.left ns rest
  pub count : length ns ≡ r.loads
  pub fit : AllFit ns
  pub turn : t ≡ record { more = true; values = values_of ns; reader = behind r rest false }

-- `done`, and nothing behind it
pub record ReadsDone (r : Reader) (t : Turn) : Type 0 where
  pub line : r.left ≡ codes "done" ++ 10 ∷ []
  pub turn : t ≡ record { more = false; values = []; reader = behind r [] true }

-- neither `done` nor a run line
pub record IsBadLine (text line rest : List ℕ) : Type 0 where
  pub starts : StartsWithLine text line rest
  pub not_done : line ≢ codes "done"
  pub not_run : IsNoRunLine line

-- What a call gives, where `done` was not read before.
abbrev pub CallMeans : Reader → Result Turn RunFault → Type 0
CallMeans r (Ok t) = ReadsDone r t ⊎ ((ns : List (List ℕ)) × (rest : List ℕ) × ReadsRun r t ns rest)
CallMeans r (Err (NoDone line)) = (line ≡ r.line) × IsLine r.left
CallMeans r (Err (BadRunLine line)) = (line ≡ r.line) × (form : List ℕ) × (rest : List ℕ) × IsBadLine r.left form rest
CallMeans r (Err (WrongCount line want got)) = (line ≡ r.line) × (want ≡ r.loads) × (ns : List (List ℕ)) × (rest : List ℕ)
    × StartsWithRun r.left ns rest × (got ≡ length ns) × (length ns ≢ r.loads)
CallMeans r (Err (ValueRange line)) = (line ≡ r.line) × (ns : List (List ℕ)) × (rest : List ℕ) × StartsWithRun r.left ns rest × (length ns ≡ r.loads) × HasLarge ns
CallMeans r (Err (AfterDone line)) = (line ≡ r.line + 1) × (c : ℕ) × (rest : List ℕ) × (r.left ≡ codes "done" ++ 10 ∷ c ∷ rest)
CallMeans r (Err Memory) = ⊥
