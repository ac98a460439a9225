-- Sets, passes and finished sets as contracts see them.
use Rattle.std.specs.Prelude.{◌≡◌, ◌≢◌, ℕ, zero, suc, ◌+◌, ◌⊎◌, List, [], ◌∷◌, ◌++◌, length, slice_get, Some, false}
use mathlib.Core.Option.{some}
use lib.ListN.{get_elem?}
use Rattle.atomic_table.specs.Seated.{TableId}
use Rattle.tally.specs.declared.entered.Entered.{Entered}
use Rattle.tally.specs.declared.outcome.Outcome.{Outcome}
use Rattle.tally.specs.Histories.{added_by, entries, BeginsWith}
use Rattle.turn_set.specs.declared.fault.AddFault.{AddFault}
use Rattle.turn_set.specs.declared.fault.AddFault.TheVariants.{Busy, Memory}
use Rattle.turn_set.specs.declared.rule.Part.{Part}
use Rattle.turn_set.specs.declared.rule.View.{View}
use Rattle.turn_set.specs.Steps.{own}

-- which set it is, and for how many passes it was made
pub record SetIdentity : Type 0 where
  pub table : TableId
  pub passes : ℕ

pub record PassState : Type 0 where
  -- of which set it is
  pub table : TableId
  -- how many passes the set has, in the pass 0; otherwise 0
  pub made : ℕ
  pub number : ℕ
  -- the outcomes that it added, in order
  pub list : List Outcome
  -- the history as it left it when it last added some; empty before that
  pub front : List Entered
  -- how many turns it won
  pub turns : ℕ
  -- how often it was told that the turn was taken
  pub busy : ℕ

abbrev pub pass_state : TableId → View → PassState
pass_state z v = record { table = z; made = v.made; number = (own v).number; list = (own v).list; front = (own v).front; turns = v.turns; busy = v.busy }

-- a pass of this set; the pass 0 knows how many there are
pub record IsPassOf (w : SetIdentity) (p : PassState) : Type 0 where
  pub same : p.table ≡ w.table
  pub first : p.number ≡ 0 → p.made ≡ w.passes
  pub other : p.number ≢ 0 → p.made ≡ 0

-- all passes of this set, by rising number from 0
pub record AreAllOf (w : SetIdentity) (ps : List PassState) : Type 0 where
  pub length : length ps ≡ w.passes
  pub each : (k : ℕ) (p : PassState) → slice_get ps k ≡ Some p → (p.number ≡ k) × IsPassOf w p

-- it has added nothing, and made no try
pub record IsFresh (p : PassState) : Type 0 where
  pub list : p.list ≡ []
  pub front : p.front ≡ []
  pub turns : p.turns ≡ 0
  pub busy : p.busy ≡ 0

-- The pass added the batch: it won a turn, and found a history that begins with its front and has of the pass just what it had added.
-- The batch stands at the end of its list, and that history with the batch at its end is its front.
pub record IsAdded (p : PassState) (batch : List Outcome) (q : PassState) : Type 0 where
  pub found : List Entered
  pub after : BeginsWith found p.front
  pub known : added_by found p.number ≡ p.list
  pub is : q ≡ record { table = p.table; made = p.made; number = p.number; list = p.list ++ batch; front = found ++ entries p.number batch; turns = p.turns + 1; busy = p.busy }

-- one more turn won, and nothing added
abbrev pub turned : PassState → PassState
turned p = record { table = p.table; made = p.made; number = p.number; list = p.list; front = p.front; turns = p.turns + 1; busy = p.busy }

-- told so many more times that the turn was taken
abbrev pub missed_often : PassState → ℕ → PassState
missed_often p n = record { table = p.table; made = p.made; number = p.number; list = p.list; front = p.front; turns = p.turns; busy = p.busy + n }

-- told once more that the turn was taken
abbrev pub missed : PassState → PassState
missed p = missed_often p 1

-- what a refusal leaves of the pass: `Busy` one more such answer and no turn won, want of memory at most a turn won
abbrev pub IsRefused : AddFault → PassState → PassState → Type 0
IsRefused Busy p q = q ≡ missed p
IsRefused Memory p q = (q ≡ p) ⊎ (q ≡ turned p)

-- a pass that was just made
abbrev pub fresh : TableId → ℕ → PassState
fresh z k = record { table = z; made = 0; number = k; list = []; front = []; turns = 0; busy = 0 }

abbrev pub fresh_first : SetIdentity → PassState
fresh_first w = record { table = w.table; made = w.passes; number = 0; list = []; front = []; turns = 0; busy = 0 }

-- those with the numbers from 1 to n
abbrev pub fresh_others : TableId → ℕ → List PassState
fresh_others z zero = []
fresh_others z (suc n) = fresh_others z n ++ fresh z (suc n) ∷ []

abbrev pub part_of : PassState → Part
part_of p = record { number = p.number; list = p.list; front = p.front }

-- a seat has taken in these passes, and kept its own parts
pub record HasTakenIn (v : View) (ps : List PassState) (w : View) : Type 0 where
  pub made : w.made ≡ v.made
  pub free : w.holds ≡ false
  pub was : (i : ℕ) (p : Part) → get_elem? v.parts i ≡ some p → get_elem? w.parts i ≡ some p
  pub came : (k : ℕ) (p : PassState) → slice_get ps k ≡ Some p → (i : ℕ) × (get_elem? w.parts i ≡ some (part_of p))

-- what contracts see of a finished set
pub record FinishedState : Type 0 where
  pub history : List Entered
  -- how long the history was when the set was finished: entries from there on are late
  pub finished_length : ℕ
  -- how often each pass was told that the turn was taken
  pub busy : List ℕ
