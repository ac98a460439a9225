-- Texts of items: one line for each, and behind them the line `done`. Which lines an item may have is any relation, so an item may have more than one.
use Rattle.std.specs.Prelude.{◌≡◌, ℕ, ◌+◌, List, [], ◌∷◌, ◌++◌, length, codes}
use Rattle.test_lang.specs.Text.Line.{closed}

-- a line of each item, in order
abbrev pub AreLinesOf : {Item : Type 0} → (Item → List ℕ → Type 0) → List Item → List (List ℕ) → Type 0
AreLinesOf IsLineOf [] [] = Unit {0}
AreLinesOf IsLineOf [] (line ∷ lines) = ⊥
AreLinesOf IsLineOf (item ∷ items) [] = ⊥
AreLinesOf IsLineOf (item ∷ items) (line ∷ lines) = IsLineOf item line × AreLinesOf IsLineOf items lines

-- The text is the lines of these items and then the line `done`, and the rest stands behind it.
pub record IsTextOf {Item : Type 0} (IsLineOf : Item → List ℕ → Type 0) (items : List Item) (text rest : List ℕ) : Type 0 where
  pub lines : List (List ℕ)
  pub each : AreLinesOf IsLineOf items lines
  pub whole : text ≡ closed (lines ++ codes "done" ∷ []) ++ rest

-- The text, whose first line has the number `start`, is refused at its first bad line: lines of items stand in front, and the bytes behind them are bad from their first line on.
pub record IsRefusedText {Item Fault : Type 0} (IsLineOf : Item → List ℕ → Type 0) (IsBad : ℕ → List ℕ → Fault → Type 0) (start : ℕ) (text : List ℕ) (fault : Fault) : Type 0 where
  pub items : List Item
  pub lines : List (List ℕ)
  pub bytes : List ℕ
  pub each : AreLinesOf IsLineOf items lines
  pub whole : text ≡ closed lines ++ bytes
  pub bad : IsBad (start + length items) bytes fault
