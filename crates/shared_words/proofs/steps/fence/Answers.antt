use Rattle.std.proofs.Common.{ℕ, List, sym, subst, arith}
use mathlib.Core.Option.{none}
use Rattle.atomic_table.specs.Table.{Allows, step}
use Rattle.shared_words.specs.Rule.{Holds}
use Rattle.shared_words.specs.Steps.{Passed}
use Rattle.shared_words.proofs.Moves.{fences}
use Rattle.shared_words.proofs.steps.fence.Goals as goal

pub load-requires : goal.load-requires
load-requires c =
    let seat = c.args.seat.now in
    let words = c.args.words.now in
    let z = words.table_id in
    let size = c.requires.table.1 in
    let P : List (ℕ × ℕ) → Type 0 = λ m. Allows (Holds words.key) z.slots seat.id (seat.me.0, m) 0 (λ n. n) (Passed (step z.slots 0 0 0 none) (seat.me.0, m)) in
    (c.requires.table.0, omega (arith, size), subst P (sym c.requires.alone.1) (fences (step 0 0 0 0 none) words.key z.slots seat.id seat.me.0 c.requires.alone.0 c.requires.next))
