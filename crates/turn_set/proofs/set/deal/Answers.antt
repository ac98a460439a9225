use Rattle.std.proofs.Common.{◌≡◌, ◌<◌, pred, sym, ap, ◌∙◌, subst, arith, refl, length}
use Rattle.atomic_table.specs.Table.{Me, Splits}
use Rattle.turn_set.specs.declared.rule.View.{View}
use Rattle.turn_set.specs.Rule.{Slot, Holds, maker_of, maker_after, newcomer}
use Rattle.turn_set.proofs.Moves.{splits}
use Rattle.turn_set.proofs.Dealt.{length_others}
use Rattle.turn_set.proofs.set.deal.Goals as goal

pub split_seat-seat-requires : goal.split_seat-seat-requires
split_seat-seat-requires c =
    let inv = c.loop-k.invariant in
    let z = c.args.table.now.table_id in
    let some : 0 < z.words = rw c.requires.table.1 (omega arith) in
    let view : c.loop-k.first.me.0 ≡ maker_of c.loop-k.k = ap (λ (m : Me Slot View). m.0) inv.first in
    let low = c.loop-k.auto.k in (
      inv.same ∙ c.requires.table.0,
      some,
      subst (λ (v : View). Splits Holds c.loop-k.first.id v (maker_after v) (newcomer v.made)) (sym view) (splits c.loop-k.first.id (maker_of c.loop-k.k) refl (λ e. omega (arith, e, low))),
    )

pub push_reserved-requires : goal.push_reserved-requires
push_reserved-requires c =
    let inv = c.loop-k.invariant in
    let room = inv.room in
    let z = c.args.table.now.table_id in
    let len : length c.loop-k.all.items ≡ pred c.loop-k.k = ap length inv.all ∙ length_others z (pred c.loop-k.k) in
    let low = c.loop-k.auto.k in
    let test = c.loop-k-test.true in
    let ok = c.loop-k.all.ok.0 in
    omega (arith, len, low, test, room, ok)
