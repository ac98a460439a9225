use Rattle.std.proofs.Common.{◌∷◌, ◌∙◌, List, ℕ, Some, ap, sym}
use Rattle.atomic_table.specs.Table.{rest}
use Rattle.turn_set.specs.Rule.{Slot}
use Rattle.turn_set.specs.Steps.{book_in}
use Rattle.turn_set.proofs.set.add_to_book.Goals as goal

pub exchange-held-requires : goal.exchange-held-requires
exchange-held-requires c =
    let held = c.args.seat.now.me.1 in
    let book : Slot = Some (book_in held) in
    (c.requires.table, (book, c.requires.holds ∙ ap (λ (others : List (ℕ × Slot)). (0, book) ∷ others) (sym (ap rest c.requires.holds))))
