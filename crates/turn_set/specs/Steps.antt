-- What each kind of step tells the seat that makes it.
use Rattle.std.specs.Prelude.{◌≡◌, ◌≢◌, ℕ, ◌+◌, List, [], ◌∷◌, true, false, Some, None}
use Rattle.atomic_table.specs.Table.{Me, Step}
use Rattle.tally.specs.declared.entered.Entered.{Entered}
use Rattle.tally.specs.Histories.{added_by, BeginsWith}
use Rattle.turn_set.specs.declared.rule.Part.{Part}
use Rattle.turn_set.specs.declared.rule.View.{View}
use Rattle.turn_set.specs.Rule.{Slot, blank}

abbrev pub first_part : List Part → Part
first_part [] = blank 0
first_part (p ∷ ps) = p

-- the part of the seat's own pass
abbrev pub own : View → Part
own v = first_part v.parts

-- it has its own part alone, doesn't hold the turn, and has no slot
abbrev pub IsFree : Me Slot View → Type 0
IsFree me = (me.0.holds ≡ false) × (me.0.found ≡ []) × (me.0.parts ≡ own me.0 ∷ []) × (me.1 ≡ [])

-- it won the turn, and found this history
abbrev pub winner : View → List Entered → View
winner v h = record { made = v.made; holds = true; found = h; turns = v.turns + 1; busy = v.busy; parts = v.parts }

-- it was told that the turn is taken
abbrev pub loser : View → View
loser v = record { made = v.made; holds = v.holds; found = v.found; turns = v.turns; busy = v.busy + 1; parts = v.parts }

-- a try: the word was 0, and the book went with the seat, with a history that begins with its front and has what it added; or the word was another
abbrev pub Tried : Step Slot → Me Slot View → ℕ → Me Slot View → Type 0
Tried step before found after =
    (found ≡ 0 → (h : List Entered) × BeginsWith h (own before.0).front × (added_by h (own before.0).number ≡ (own before.0).list) × (after ≡ (winner before.0 h, (0, Some h) ∷ [])))
    × (found ≢ 0 → after ≡ (loser before.0, before.1))

-- the history of the book in the slot that was taken last
abbrev pub book_in : List (ℕ × Slot) → List Entered
book_in [] = []
book_in ((k, Some h) ∷ rest) = h
book_in ((k, None) ∷ rest) = []

-- it gave the turn back, and left this history
abbrev pub added : View → List Entered → View
added v h = record { made = v.made; holds = false; found = []; turns = v.turns; busy = v.busy; parts = record { number = (own v).number; list = added_by h (own v).number; front = h } ∷ [] }

-- it gave the turn back, and added nothing
abbrev pub returned : View → View
returned v = record { made = v.made; holds = false; found = []; turns = v.turns; busy = v.busy; parts = v.parts }

abbrev pub GaveBack : Step Slot → Me Slot View → ℕ → Me Slot View → Type 0
GaveBack step before stored after = after ≡ (added before.0 (book_in before.1), [])

abbrev pub Returned : Step Slot → Me Slot View → ℕ → Me Slot View → Type 0
Returned step before stored after = after ≡ (returned before.0, [])
