-- A list with the room that was made for it.
use Rattle.std.specs.Prelude.{ℕ, List}

pub record Roomed (X : Type 0) : Type 0 where
  pub list : List X
  pub room : ℕ
