use Rattle.std.proofs.Common.{◌∙◌, ◌≡◌, ◌-◌, ◌*◌, ◌+◌, take, drop, ap, arith, subst, sym}
use Rattle.std.proofs.lemmas.Bool.{OnTrue_from, ltb-true}
use Rattle.std.specs.Cmp.Lexicographic.{bytes_decides}
use Rattle.tally.specs.Rows.{HasRoomAt}
use Rattle.tally.proofs.RowsInLine.{has_room}
use Rattle.tally.proofs.batch.Batch.has_room_at.Goals as goal

pub returns-then-eq : goal.returns-then-eq
returns-then-eq c =
    let i = c.self.inside in
    let before = c.if-len-place.false in
    let count = c.len.ensures in
    let len = i.times.ok.0 in
    let width : (c.args.place * i.width + i.width) - c.args.place * i.width ≡ i.width = omega arith in
    let same = (bytes_decides _ c.args.row.now).0 (sym c.eq.ensures ∙ c.if-eq.true) in
    OnTrue_from _ (HasRoomAt c.args.self.now.rows c.args.place c.args.row.now) (λ few.
    let small = ltb-true c.index.result.now 4294967295 few in
    subst (λ b. HasRoomAt b.rows c.args.place c.args.row.now) c.self.view_is
    (has_room i.width i.words.items i.times.items c.args.place c.index.result.now c.args.row.now (omega (arith, before, count, len)) (ap (λ n. take n (drop (c.args.place * i.width) i.words.items)) (sym width) ∙ ap (λ ws. take ((c.args.place * i.width + i.width) - c.args.place * i.width) (drop (c.args.place * i.width) ws)) (sym c.deref.ensures.value) ∙ same) c.index.ensures (omega (arith, small))))
