use Rattle.std.proofs.Common.{◌<◌, [], ◌∷◌, ℕ, List, Some, sym, subst, arith}
use mathlib.Core.Option.{none}
use Rattle.atomic_table.specs.Table.{Allows, step}
use Rattle.tally.specs.declared.entered.Entered.{Entered}
use Rattle.turn_set.specs.Rule.{Slot, Holds}
use Rattle.turn_set.specs.Steps.{book_in, GaveBack}
use Rattle.turn_set.proofs.Moves.{gives_back}
use Rattle.turn_set.proofs.turn.give_back.Goals as goal

pub store-requires : goal.store-requires
store-requires c =
    let seat = c.args.seat.now in
    let z = c.args.table.now.table_id in
    let book : List Entered = book_in seat.me.1 in
    let some : 0 < z.words = rw c.requires.table.1 (omega arith) in
    let P : List (ℕ × Slot) → Type 0 = λ m. Allows Holds z.slots seat.id (seat.me.0, m) 0 (λ _. 0) (λ _. GaveBack (step z.slots 0 0 0 none) (seat.me.0, m) 0) in
    let moves : P ((0, Some book) ∷ []) = rw c.requires.table.2 (gives_back (step z.slots 0 0 0 none) seat.id seat.me.0 c.requires.grown.0 c.requires.holds.0 c.requires.holds.1 book c.requires.grown.1) in
    (c.requires.table.0, some, subst P (sym c.requires.holds.2) moves)
