-- The rule of racing words: what holds between any two steps, of the words and of what the seats know.
-- The first words are the test's. One more counts the arrivals.
use Rattle.std.specs.Prelude.{◌≡◌, ◌≢◌, ℕ, ◌+◌, ◌<◌, ◌≤◌, List, [], ◌∷◌, ◌++◌, Bool, false, length, slice_index, count_by}
use mathlib.Core.Option.{some}
use lib.ListN.{get_elem?}
use Rattle.orders.specs.Orders.{nodes_below}
use Rattle.atomic_table.specs.Table.{State}
use Rattle.test_lang.specs.Program.{Program}
use Rattle.shared_words.specs.declared.rule.Part.{Part}
use Rattle.shared_words.specs.declared.rule.View.{View}
use Rattle.shared_words.specs.Reached.{Progress, Reached}

-- the part of a thread that has done nothing
abbrev pub blank : ℕ → Part
blank k = record { number = k; arrived = false; passed = 0; values = [] }

-- a thread that was just made
abbrev pub newcomer : ℕ → View
newcomer k = record { made = 0; parts = blank k ∷ [] }

-- the thread 0 before it does anything, with so many threads made
abbrev pub maker_of : ℕ → View
maker_of n = record { made = n; parts = blank 0 ∷ [] }

-- the first seat, that of the thread 0
abbrev pub first_view : View
first_view = maker_of 1

-- the seat of a thread that was taken in
abbrev pub spent : View
spent = record { made = 0; parts = [] }

-- the thread 0, with one more thread made
abbrev pub maker_after : View → View
maker_after v = record { made = v.made + 1; parts = v.parts }

-- a thread that took another one in keeps its parts
abbrev pub keeper_after : View → View → View
keeper_after v w = record { made = v.made; parts = v.parts ++ w.parts }

-- what a part says of its thread is so
pub record IsTrueOf (s : Progress) (arrived : ℕ → Bool) (part : Part) : Type 0 where
  pub arrival : arrived part.number ≡ part.arrived
  pub passed : s.done part.number ≡ part.passed
  pub values : s.values part.number ≡ part.values

-- What holds of a part, where so many threads were made, and `owner` says of each number in which seat its part stands, and at which place there:
-- what it says is so, and it is the one part with its number.
pub record Stands (s : Progress) (arrived : ℕ → Bool) (made : ℕ) (owner : ℕ → ℕ × ℕ) (by i : ℕ) (part : Part) : Type 0 where
  pub says : IsTrueOf s arrived part
  pub low : part.number < made
  pub place : owner part.number ≡ (by, i)

-- what holds of a seat: each of its parts stands, and if it makes threads, it alone does and knows how many were made
abbrev pub Fits : Progress → (ℕ → Bool) → ℕ → (ℕ → ℕ × ℕ) → ℕ → ℕ → View → Type 0
Fits s arrived made owner maker by v =
    ((i : ℕ) (part : Part) → get_elem? v.parts i ≡ some part → Stands s arrived made owner by i part)
    × (v.made ≢ 0 → (by ≡ maker) × (v.made ≡ made))

-- Of threads: each seat fits, no two threads, live or ended, have one number, each number is below the number of threads made, and the others have done nothing.
pub record Seated (s : Progress) (arrived : ℕ → Bool) (views : List View) : Type 0 where
  pub made : ℕ
  pub owner : ℕ → ℕ × ℕ
  pub maker : ℕ
  pub each : (by : ℕ) (v : View) → get_elem? views by ≡ some v → Fits s arrived made owner maker by v
  pub none_else : (k : ℕ) → made ≤ k → IsTrueOf s arrived (blank k)

-- The rule: some play of the sequential machine leads to what the threads have passed, to the values that they keep, and to the test's words.
-- The last word is the number of threads that have arrived.
pub record Holds (p : Program) (s : State ℕ View) : Type 0 where
  pub progress : Progress
  pub arrived : ℕ → Bool
  pub reached : Reached p progress
  pub seats : Seated progress arrived s.views
  pub size : length s.words ≡ p.words + 1
  pub words : (word : ℕ) → word < p.words → slice_index s.words word ≡ progress.now word
  pub arrivals : slice_index s.words p.words ≡ count_by arrived (nodes_below (length p.threads))

-- some play leads to what the parts of a seat say
pub record IsReachedBy (p : Program) (v : View) : Type 0 where
  pub progress : Progress
  pub arrived : ℕ → Bool
  pub reached : Reached p progress
  pub parts : (i : ℕ) (part : Part) → get_elem? v.parts i ≡ some part → IsTrueOf progress arrived part
