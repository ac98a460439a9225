use Rattle.std.proofs.Common.{ℕ, List, sym, subst, arith}
use mathlib.Core.Option.{none}
use Rattle.atomic_table.specs.Table.{Allows, step}
use Rattle.shared_words.specs.Rule.{Holds}
use Rattle.shared_words.specs.Steps.{Passed}
use Rattle.shared_words.proofs.Moves.{stores}
use Rattle.shared_words.proofs.steps.store.Goals as goal

pub store-requires : goal.store-requires
store-requires c =
    let seat = c.args.seat.now in
    let words = c.args.words.now in
    let z = words.table_id in
    let size = c.requires.table.1 in
    let low = c.requires.word in
    let P : List (ℕ × ℕ) → Type 0 = λ m. Allows (Holds words.key) z.slots seat.id (seat.me.0, m) c.args.word (λ _. c.args.value) (λ _. Passed (step z.slots c.args.word c.args.value 0 none) (seat.me.0, m) c.args.value) in
    (c.requires.table.0, omega (arith, size, low), subst P (sym c.requires.alone.1) (stores (step 0 0 0 0 none) words.key z.slots seat.id seat.me.0 c.requires.alone.0 c.args.word c.args.value low c.requires.next c.requires.value))
