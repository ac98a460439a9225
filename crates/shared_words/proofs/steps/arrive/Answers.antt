use Rattle.std.proofs.Common.{◌+◌, ◌%◌, ◌^◌, ℕ, List, sym, subst, arith}
use mathlib.Core.Option.{none}
use Rattle.atomic_table.specs.Table.{Allows, step}
use Rattle.shared_words.specs.Rule.{Holds}
use Rattle.shared_words.specs.Steps.{Arrived}
use Rattle.shared_words.proofs.Moves.{arrives}
use Rattle.shared_words.proofs.steps.arrive.Goals as goal

pub fetch_add-requires : goal.fetch_add-requires
fetch_add-requires c =
    let seat = c.args.seat.now in
    let words = c.args.words.now in
    let z = words.table_id in
    let size = c.requires.table.1 in
    let last = c.requires.arrivals.0 in
    let P : ℕ × List (ℕ × ℕ) → Type 0 = λ y. Allows (Holds words.key) z.slots seat.id (seat.me.0, y.1) y.0 (λ n. (n + 1) % 2 ^ 64) (Arrived (step z.slots y.0 1 0 none) (seat.me.0, y.1)) in (
      c.requires.table.0,
      omega (arith, size, last),
      subst P (λ i. (sym last i, sym c.requires.alone.1 i)) (arrives (step 0 0 0 0 none) words.key z.slots seat.id seat.me.0 c.requires.alone.0 c.requires.thread.0 c.requires.arrivals.1 c.requires.thread.1),
    )
