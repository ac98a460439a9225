use Rattle.std.proofs.Common.{◌∙◌, refl}
use Rattle.turn_set.proofs.Tries.{is_added}
use Rattle.turn_set.proofs.set.SharedSet.try_add.Goals as goal

pub returns-in-Ok-clause-added : goal.returns-in-Ok-clause-added
returns-in-Ok-clause-added g c =
    let seat = c.pass.inside.seat in (
      is_added seat.me.0 c.from.result c.pass.inside.number c.args.batch.now.items c.try_win.new.seat.me c.add_to_book.new.seat.me c.give_back.new.seat.me
          (c.from.ensures ∙ c.pass.invariant.1) c.pass.invariant.1 (c.if-not-try_win.ensures.won refl) c.in-Ok.ensures.added.0 c.give_back.ensures.added
          c.args.pass.now seat.table_id c.give_back.new.seat.table_id c.pass.view_is (c.give_back.ensures.same.0 ∙ c.add_to_book.ensures.same.0 ∙ c.try_win.ensures.same.0),
      c.in-Ok.ensures.added.1,
    )
