use Rattle.std.proofs.Common.{◌<◌, ◌+◌, [], ℕ, List, sym, subst, arith, eqb}
use prog.Atomic.{either}
use mathlib.Core.Option.{none}
use Rattle.atomic_table.specs.Table.{Allows, step}
use Rattle.turn_set.specs.Rule.{Slot, Holds}
use Rattle.turn_set.specs.Steps.{Tried}
use Rattle.turn_set.proofs.Moves.{wins}
use Rattle.turn_set.proofs.turn.try_win.Goals as goal

pub compare_exchange-found-requires : goal.compare_exchange-found-requires
compare_exchange-found-requires c =
    let seat = c.args.seat.now in
    let z = c.args.table.now.table_id in
    let some : 0 < z.words = rw c.requires.table.1 (omega arith) in
    let P : List (ℕ × Slot) → Type 0 = λ m. Allows Holds z.slots seat.id (seat.me.0, m) 0 (λ n. either (eqb n 0) (c.args.number + 1) n) (Tried (step z.slots 0 0 (c.args.number + 1) none) (seat.me.0, m)) in
    let moves : P [] = rw c.requires.table.2 (wins (step z.slots 0 0 (c.args.number + 1) none) seat.id c.args.number seat.me.0 c.requires.number.0 c.requires.free.0 c.requires.free.2) in
    (c.requires.table.0, some, subst P (sym c.requires.free.3) moves)
