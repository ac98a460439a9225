-- What each kind of step tells the seat that makes it.
use Rattle.std.specs.Prelude.{◌≡◌, ℕ, ◌+◌, ◌^◌, ◌<◌, List, [], ◌∷◌, ◌++◌, true, Some, length}
use Rattle.atomic_table.specs.Table.{Me, Step}
use Rattle.test_lang.specs.declared.op.Op.{Op}
use Rattle.test_lang.specs.Program.{Program, op_at, first_node, thread_length}
use Rattle.shared_words.specs.declared.rule.Part.{Part}
use Rattle.shared_words.specs.declared.rule.View.{View}
use Rattle.shared_words.specs.Rule.{blank}

abbrev pub first_part : List Part → Part
first_part [] = blank 0
first_part (part ∷ parts) = part

-- the part of the seat's own thread
abbrev pub own : View → Part
own v = first_part v.parts

-- it has its own part alone, and no slot
abbrev pub IsAlone : Me ℕ View → Type 0
IsAlone me = (me.0.parts ≡ own me.0 ∷ []) × (me.1 ≡ [])

-- the node of the thread's next operation, if it has one
abbrev pub next_node : Program → Part → ℕ
next_node p part = first_node p part.number + part.passed

-- the thread's next operation is this one
pub record IsNext (p : Program) (part : Part) (op : Op) : Type 0 where
  pub thread : part.number < length p.threads
  pub left : part.passed < thread_length p part.number
  pub is : op_at p (next_node p part) ≡ Some op

-- it has passed its next operation, and found these values
abbrev pub passing : Part → List ℕ → Part
passing part found = record { number = part.number; arrived = part.arrived; passed = part.passed + 1; values = part.values ++ found }

abbrev pub passer : View → List ℕ → View
passer v found = record { made = v.made; parts = passing (own v) found ∷ [] }

-- it has arrived
abbrev pub arriving : Part → Part
arriving part = record { number = part.number; arrived = true; passed = part.passed; values = part.values }

abbrev pub arriver : View → View
arriver v = record { made = v.made; parts = arriving (own v) ∷ [] }

-- a load: the value is kept
abbrev pub Loaded : Step ℕ → Me ℕ View → ℕ → Me ℕ View → Type 0
Loaded step before found after = (after ≡ (passer before.0 (found ∷ []), before.1)) × (found < 2 ^ 32)

-- a store, or a fence: nothing is kept
abbrev pub Passed : Step ℕ → Me ℕ View → ℕ → Me ℕ View → Type 0
Passed step before found after = after ≡ (passer before.0 [], before.1)

abbrev pub Arrived : Step ℕ → Me ℕ View → ℕ → Me ℕ View → Type 0
Arrived step before found after = after ≡ (arriver before.0, before.1)

-- a look at the arrivals tells nothing
abbrev pub Looked : Step ℕ → Me ℕ View → ℕ → Me ℕ View → Type 0
Looked step before found after = after ≡ before
