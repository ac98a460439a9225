use Rattle.std.proofs.Common.{arith}
use mathlib.Core.Option.{none}
use Rattle.atomic_table.specs.Table.{step}
use Rattle.shared_words.proofs.Moves.{looks}
use Rattle.shared_words.proofs.steps.look.Goals as goal

pub load-requires : goal.load-requires
load-requires c =
    let seat = c.args.seat.now in
    let words = c.args.words.now in
    let size = c.requires.table.1 in
    let last = c.requires.arrivals in
    (c.requires.table.0, omega (arith, size, last), looks (step 0 0 0 0 none) words.key words.table_id.slots seat.id seat.me.0 seat.me.1 c.args.arrivals)
