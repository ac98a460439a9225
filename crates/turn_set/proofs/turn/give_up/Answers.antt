use Rattle.std.proofs.Common.{◌<◌, [], ◌∷◌, ℕ, List, Some, sym, subst, arith}
use mathlib.Core.Option.{none}
use Rattle.atomic_table.specs.Table.{Allows, step}
use Rattle.turn_set.specs.Rule.{Slot, Holds}
use Rattle.turn_set.specs.Steps.{Returned}
use Rattle.turn_set.proofs.Moves.{gives_up}
use Rattle.turn_set.proofs.turn.give_up.Goals as goal

pub store-requires : goal.store-requires
store-requires c =
    let seat = c.args.seat.now in
    let z = c.args.table.now.table_id in
    let some : 0 < z.words = rw c.requires.table.1 (omega arith) in
    let P : List (ℕ × Slot) → Type 0 = λ m. Allows Holds z.slots seat.id (seat.me.0, m) 0 (λ _. 0) (λ _. Returned (step z.slots 0 0 0 none) (seat.me.0, m) 0) in
    let moves : P ((0, Some seat.me.0.found) ∷ []) = rw c.requires.table.2 (gives_up (step z.slots 0 0 0 none) seat.id seat.me.0 c.requires.holds.0) in
    (c.requires.table.0, some, subst P (sym c.requires.holds.1) moves)
