use Rattle.std.proofs.Common.{◌≡◌, ◌<◌, ◌++◌, ◌∷◌, [], List, length, sym, ap, ◌∙◌, arith, append_assoc}
use Rattle.std.specs.Prelude.{slice_get}
use Rattle.turn_set.specs.Passes.{PassState}
use Rattle.turn_set.proofs.Moves.{joins}
use Rattle.turn_set.proofs.Dealt.{taken_in_more, get_there}
use Rattle.turn_set.proofs.finished.take_in.Goals as goal

pub join_seat-requires : goal.join_seat-requires
join_seat-requires c =
    let inv = c.loop-pass.invariant in
    let seat = c.loop-pass.seat in
    let other = c.pass.inside.seat in
    let some : 0 < c.args.table.now.table_id.words = rw c.requires.table.1 (omega arith) in
    let whole : c.args.passes.items ≡ (c.pop.new.self.items ++ c.in-Some.pass ∷ []) ++ inv.1.0 = sym inv.1.1 ∙ ap (λ (l : List PassState). l ++ inv.1.0) c.in-Some.ensures.items in
    let there = ap (λ (l : List PassState). slice_get l (length c.pop.new.self.items)) whole ∙ get_there c.pop.new.self.items inv.1.0 c.in-Some.pass in
    let known = c.requires.others (length c.pop.new.self.items) c.in-Some.pass there in
    let free = c.pass.invariant.0 in (
      inv.0 ∙ c.requires.table.0,
      ap (λ (p : PassState). p.table) c.pass.view_is ∙ known.0,
      free.3,
      some,
      joins seat.id seat.me.0 other.id other.me.0 inv.1.2.free free.0 (ap (λ (p : PassState). p.made) c.pass.view_is ∙ known.1),
    )

pub loop-pass-preserved : goal.loop-pass-preserved
loop-pass-preserved c =
    let inv = c.loop-pass.invariant in
    let other = c.pass.inside.seat in
    let free = c.pass.invariant.0 in
    let more = taken_in_more c.args.seat.now.me.0 c.loop-pass.seat.me.0 other.me.0 inv.1.0 other.table_id c.in-Some.pass c.pass.view_is free.2 inv.1.2 in (
      c.join_seat.ensures.0 ∙ inv.0,
      (
        c.in-Some.pass ∷ inv.1.0,
        sym (append_assoc c.pop.new.self.items (c.in-Some.pass ∷ []) inv.1.0) ∙ ap (λ (l : List PassState). l ++ inv.1.0) (sym c.in-Some.ensures.items) ∙ inv.1.1,
        rw c.join_seat.ensures.2 more,
      ),
    )
