use Rattle.std.proofs.Common.{◌<◌, ◌∷◌, List, ℕ, sym, ap, ◌∙◌, subst, arith}
use Rattle.std.specs.Prelude.{slice_get}
use Rattle.turn_set.specs.Passes.{SetIdentity, PassState, AreAllOf}
use Rattle.turn_set.proofs.Dealt.{taken_first, makes_some, has_each, lists_are, others_none}
use Rattle.turn_set.proofs.finished.finish.Goals as goal

pub bring_home-book-requires-clause-seat : goal.bring_home-book-requires-clause-seat
bring_home-book-requires-clause-seat c =
    let w = c.args.set in
    let some : 0 < w.passes = subst (λ (n : ℕ). 0 < n) (ap (λ (w : SetIdentity). w.passes) c.set.view_is) c.set.invariant.2 in
    let len = c.requires.length in
    let whole = taken_first c.args.passes.items c.remove.new.self.items c.remove.result (omega (arith, some, len)) c.remove.ensures.items c.remove.ensures.value in
    let all : AreAllOf w (c.remove.result ∷ c.remove.new.self.items) = subst (AreAllOf w) whole c.requires in
    let v = c.seat.inside.seat.me.0 in
    let u = c.take_in.new.seat.me.0 in (
      c.take_in.ensures.all.free,
      makes_some w c.remove.result c.remove.new.self.items all some c.seat.inside.seat.table_id v u c.seat.view_is c.seat.invariant.0.2 c.take_in.ensures.all,
      has_each w c.remove.result c.remove.new.self.items all some c.seat.inside.seat.table_id v u c.seat.view_is c.seat.invariant.0.2 c.take_in.ensures.all,
    )

pub returns-clause-lists : goal.returns-clause-lists
returns-clause-lists c = λ k p e.
    let w = c.args.set in
    let some : 0 < w.passes = subst (λ (n : ℕ). 0 < n) (ap (λ (w : SetIdentity). w.passes) c.set.view_is) c.set.invariant.2 in
    let len = c.requires.length in
    let whole = taken_first c.args.passes.items c.remove.new.self.items c.remove.result (omega (arith, some, len)) c.remove.ensures.items c.remove.ensures.value in
    let all : AreAllOf w (c.remove.result ∷ c.remove.new.self.items) = subst (AreAllOf w) whole c.requires in
    let v = c.seat.inside.seat.me.0 in
    let u = c.take_in.new.seat.me.0 in
    lists_are w c.remove.result c.remove.new.self.items all some c.seat.inside.seat.table_id v u c.seat.view_is c.seat.invariant.0.2 c.take_in.ensures.all
    c.bring_home-book.result c.bring_home-book.ensures k p (ap (λ (l : List PassState). slice_get l k) (sym whole) ∙ e)

pub returns-clause-others : goal.returns-clause-others
returns-clause-others c = λ k le.
    let w = c.args.set in
    let some : 0 < w.passes = subst (λ (n : ℕ). 0 < n) (ap (λ (w : SetIdentity). w.passes) c.set.view_is) c.set.invariant.2 in
    let len = c.requires.length in
    let whole = taken_first c.args.passes.items c.remove.new.self.items c.remove.result (omega (arith, some, len)) c.remove.ensures.items c.remove.ensures.value in
    let all : AreAllOf w (c.remove.result ∷ c.remove.new.self.items) = subst (AreAllOf w) whole c.requires in
    let v = c.seat.inside.seat.me.0 in
    let u = c.take_in.new.seat.me.0 in
    others_none w c.remove.result c.remove.new.self.items all some c.seat.inside.seat.table_id v u c.seat.view_is c.seat.invariant.0.2 c.take_in.ensures.all
    c.bring_home-book.result c.bring_home-book.ensures k le
