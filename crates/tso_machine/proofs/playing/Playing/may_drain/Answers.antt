use Rattle.std.proofs.Common.{◌≡◌, ◌∙◌, ℕ, List, [], Bool, ◌||◌, length, get_or, ap, sym, arith}
use Rattle.std.specs.Prelude.{◌==◌}
use Rattle.std.proofs.lemmas.Bool.{ne_eqb}
use Rattle.test_lang.specs.Play.Faults.{drains_any}
use Rattle.tso_machine.specs.declared.playing.StoreOrder.TheVariants.{Total, Partial}
use Rattle.tso_machine.specs.Moments.{Moment, target_of}
use Rattle.tso_machine.specs.Places.{is_free}
use Rattle.tso_machine.proofs.Shown.{drain_none, drain_shown, or_false_left, or_false_right, or_true_left, or_true_right, order_of}
use Rattle.tso_machine.proofs.playing.Playing.may_drain.Goals as goal

pub returns-then-entries-place : goal.returns-then-entries-place
returns-then-entries-place c = λ steps s.
    let m = c.args.self.now in
    let o = order_of m.setup.target s.has_buffers in
    let long = ap length c.entries-entries.ensures.entries in
    let past = c.if-entries-place.true in
    drain_none m o.0 o.1 steps s c.args.thread c.args.place c.requires (omega (arith, long, past))

pub returns-then-place-eq0 : goal.returns-then-place-eq0
returns-then-place-eq0 c = λ steps s.
    let m = c.args.self.now in
    let e : m.setup.target ≡ target_of Total = ap (λ (m : Moment). m.setup.target) (sym c.self.view_is) ∙ ap target_of c.in-Total.is in
    let long = ap length c.entries-entries.ensures.entries in
    let within = c.if-entries-place.false in
    ap (λ (n : ℕ). n == 0) c.if-place-eq0.true
    ∙ sym (drain_shown m Total e steps s c.args.thread c.args.place c.requires (omega (arith, long, within)) ∙ or_true_left (c.args.place == 0) (drains_any m.setup.fault) (ap (λ (n : ℕ). n == 0) c.if-place-eq0.true))

pub returns-else-place-eq0 : goal.returns-else-place-eq0
returns-else-place-eq0 c = λ steps s.
    let m = c.args.self.now in
    let e : m.setup.target ≡ target_of Total = ap (λ (m : Moment). m.setup.target) (sym c.self.view_is) ∙ ap target_of c.in-Total.is in
    let long = ap length c.entries-entries.ensures.entries in
    let within = c.if-entries-place.false in
    let other = c.if-place-eq0.false in
    c.drains_any.ensures
    ∙ ap (λ (m : Moment). drains_any m.setup.fault) c.self.view_is
    ∙ sym (drain_shown m Total e steps s c.args.thread c.args.place c.requires (omega (arith, long, within))
    ∙ or_false_left (c.args.place == 0) (drains_any m.setup.fault) (ne_eqb c.args.place 0 (λ is. omega (arith, is, other))))

pub returns-then-drains_any : goal.returns-then-drains_any
returns-then-drains_any c = λ steps s.
    let m = c.args.self.now in
    let e : m.setup.target ≡ target_of Partial = ap (λ (m : Moment). m.setup.target) (sym c.self.view_is) ∙ ap target_of c.in-Partial.is in
    let long = ap length c.entries-entries.ensures.entries in
    let within = c.if-entries-place.false in
    let any = sym (c.if-drains_any.ensures ∙ ap (λ (m : Moment). drains_any m.setup.fault) c.self.view_is) in
    let free = is_free m.setup.test (get_or m.buffers c.args.thread []) c.args.place in
    c.if-drains_any.true
    ∙ sym (drain_shown m Partial e steps s c.args.thread c.args.place c.requires (omega (arith, long, within)) ∙ ap (λ (b : Bool). free || b) any ∙ or_true_right free)

pub returns-else-drains_any : goal.returns-else-drains_any
returns-else-drains_any c = λ steps s.
    let m = c.args.self.now in
    let e : m.setup.target ≡ target_of Partial = ap (λ (m : Moment). m.setup.target) (sym c.self.view_is) ∙ ap target_of c.in-Partial.is in
    let long = ap length c.entries-entries.ensures.entries in
    let within = c.if-entries-place.false in
    let some = sym (c.if-drains_any.ensures ∙ ap (λ (m : Moment). drains_any m.setup.fault) c.self.view_is) in
    c.is_free.ensures
    ∙ ap (λ (m : Moment). is_free m.setup.test c.entries-entries.result.now c.args.place) c.self.view_is
    ∙ ap (λ (xs : List ℕ). is_free m.setup.test xs c.args.place) c.entries-entries.ensures.entries
    ∙ sym (drain_shown m Partial e steps s c.args.thread c.args.place c.requires (omega (arith, long, within))
    ∙ or_false_right (is_free m.setup.test (get_or m.buffers c.args.thread []) c.args.place) (drains_any m.setup.fault) some)
