-- The rule of the turn: what holds between any two steps, of the turn word, of the book at home and of what the seats know.
-- The turn word is 0 where the turn is free, and otherwise one more than the number of the pass that holds it.
use Rattle.std.specs.Prelude.{◌≡◌, ◌≢◌, ℕ, suc, ◌+◌, ◌<◌, ◌≤◌, ◌⊎◌, List, [], ◌∷◌, ◌++◌, true, false, Option, Some}
use mathlib.Core.Option.{some, none}
use lib.ListN.{get_elem?}
use Rattle.atomic_table.specs.Table.{State}
use Rattle.tally.specs.declared.entered.Entered.{Entered}
use Rattle.tally.specs.Histories.{added_by, BeginsWith}
use Rattle.turn_set.specs.declared.rule.Part.{Part}
use Rattle.turn_set.specs.declared.rule.View.{View}

-- what the slot of the book contains: the book, seen as its history, or nothing while it is taken out
abbrev pub Slot : Type 0
Slot = Option (List Entered)

-- the part of a pass that has added nothing
abbrev pub blank : ℕ → Part
blank k = record { number = k; list = []; front = [] }

-- a pass that was just made
abbrev pub newcomer : ℕ → View
newcomer k = record { made = 0; holds = false; found = []; turns = 0; busy = 0; parts = blank k ∷ [] }

-- the pass 0 before it adds, with so many passes made
abbrev pub maker_of : ℕ → View
maker_of n = record { made = n; holds = false; found = []; turns = 0; busy = 0; parts = blank 0 ∷ [] }

-- the first seat, that of the pass 0
abbrev pub first_view : View
first_view = maker_of 1

-- the seat of a pass that was taken in
abbrev pub spent : View
spent = record { made = 0; holds = false; found = []; turns = 0; busy = 0; parts = [] }

-- the pass 0, with one more pass made
abbrev pub maker_after : View → View
maker_after v = record { made = v.made + 1; holds = v.holds; found = v.found; turns = v.turns; busy = v.busy; parts = v.parts }

-- a pass that took another one in keeps its parts
abbrev pub keeper_after : View → View → View
keeper_after v w = record { made = v.made; holds = v.holds; found = v.found; turns = v.turns; busy = v.busy; parts = v.parts ++ w.parts }

-- What holds of a part, where so many passes were made, and `owner` says of each number in which seat its part stands, and at which place there:
-- its list is what the history has of its pass, its front begins the history, and it is the one part with its number.
pub record Stands (h : List Entered) (made : ℕ) (owner : ℕ → ℕ × ℕ) (by i : ℕ) (p : Part) : Type 0 where
  pub list : added_by h p.number ≡ p.list
  pub front : BeginsWith h p.front
  pub low : p.number < made
  pub place : owner p.number ≡ (by, i)

-- what holds of a seat: each of its parts stands, and if it makes passes, it alone does and knows how many were made
abbrev pub Fits : List Entered → ℕ → (ℕ → ℕ × ℕ) → ℕ → ℕ → View → Type 0
Fits h made owner maker by v =
    ((i : ℕ) (p : Part) → get_elem? v.parts i ≡ some p → Stands h made owner by i p)
    × (v.made ≢ 0 → (by ≡ maker) × (v.made ≡ made))

-- Of passes: each seat fits the history, no two passes, live or ended, have one number, each number is below the number of passes made, and the others have no entry.
pub record Kept (h : List Entered) (views : List View) : Type 0 where
  pub made : ℕ
  pub owner : ℕ → ℕ × ℕ
  pub maker : ℕ
  pub each : (by : ℕ) (v : View) → get_elem? views by ≡ some v → Fits h made owner maker by v
  pub none_else : (k : ℕ) → made ≤ k → added_by h k ≡ []

-- Of the turn, while it is free: the word is 0, no seat holds the turn, and the book is home.
pub record IsHome (h : List Entered) (s : State Slot View) : Type 0 where
  pub word : s.words ≡ 0 ∷ []
  pub home : s.homes ≡ some (Some h) ∷ []
  pub nobody : (by : ℕ) (v : View) → get_elem? s.views by ≡ some v → v.holds ≡ false

-- Of the turn, while it is held: the word is one more than the number of the pass whose seat alone holds it, the book is with that seat, and the history is the one that it found.
pub record IsOut (h : List Entered) (s : State Slot View) : Type 0 where
  pub by : ℕ
  pub view : View
  pub part : Part
  pub holder : get_elem? s.views by ≡ some view
  pub own : get_elem? view.parts 0 ≡ some part
  pub word : s.words ≡ suc part.number ∷ []
  pub home : s.homes ≡ none ∷ []
  pub held : view.holds ≡ true
  pub found : view.found ≡ h
  pub others : (j : ℕ) (v : View) → get_elem? s.views j ≡ some v → j ≢ by → v.holds ≡ false

-- the rule: there is one history for all
abbrev pub Holds : State Slot View → Type 0
Holds s = (h : List Entered) × Kept h s.views × (IsHome h s ⊎ IsOut h s)

-- the seat has a part of each pass that was made
abbrev pub HasEach : View → Type 0
HasEach v = (k : ℕ) → k < v.made → (i : ℕ) × (p : Part) × (get_elem? v.parts i ≡ some p) × (p.number ≡ k)

-- each part of the seat stands in the history, and that has no other pass's entries
pub record IsHistoryOf (v : View) (history : List Entered) : Type 0 where
  pub parts : (i : ℕ) (p : Part) → get_elem? v.parts i ≡ some p → (added_by history p.number ≡ p.list) × BeginsWith history p.front
  pub none_else : (k : ℕ) → v.made ≤ k → added_by history k ≡ []
