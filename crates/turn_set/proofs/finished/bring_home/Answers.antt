use Rattle.std.proofs.Common.{◌≡◌, Some, sym, ◌∙◌, subst}
use mathlib.Core.Option.{some-injective}
use Rattle.turn_set.specs.Rule.{IsHistoryOf}
use Rattle.turn_set.proofs.Moves.{closes}
use Rattle.turn_set.proofs.Dealt.{Some-same}
use Rattle.turn_set.proofs.finished.bring_home.Goals as goal

pub unreachable-requires : goal.unreachable-requires
unreachable-requires c =
    let seat = c.args.seat in
    let t = closes seat.id seat.me.0 c.requires.seat.0 c.requires.seat.1 c.requires.seat.2 _ _ c.close_with-closed.ensures.values.2 in
    c.in_default.not-Some t.0 (some-injective c.take.result (Some t.0) (sym c.take.ensures.value ∙ t.1))

pub returns : goal.returns
returns c =
    let seat = c.args.seat in
    let t = closes seat.id seat.me.0 c.requires.seat.0 c.requires.seat.1 c.requires.seat.2 _ _ c.close_with-closed.ensures.values.2 in
    let is : t.0 ≡ c.in-Some.book = Some-same t.0 c.in-Some.book (sym (some-injective c.take.result (Some t.0) (sym c.take.ensures.value ∙ t.1)) ∙ c.in-Some.is) in
    subst (IsHistoryOf seat.me.0) is t.2
