use Rattle.std.proofs.Common.{◌≡◌, ◌∙◌, ℕ, List, [], length, get_or, ap, sym, subst, refl, arith}
use Rattle.std.specs.Prelude.{slice_get}
use Rattle.test_lang.specs.Play.Faults.{drains_any}
use Rattle.tso_machine.specs.declared.playing.StoreOrder.TheVariants.{Total, Partial}
use Rattle.tso_machine.specs.Moments.{Moment, target_of}
use Rattle.tso_machine.specs.Moves.{IsPlaying}
use Rattle.tso_machine.specs.Places.{free_places}
use Rattle.tso_machine.proofs.Drains.{drains-free}
use Rattle.tso_machine.proofs.Shown.{any_place, drains_shown, front_place}
use Rattle.tso_machine.proofs.playing.Playing.nth_drain.Goals as goal

pub returns-then-drains_any : goal.returns-then-drains_any
returns-then-drains_any c =
    let m = c.args.self.now in
    let order = c.self.inside.order in
    let e : m.setup.target ≡ target_of order = ap (λ (m : Moment). m.setup.target) (sym c.self.view_is) in
    let any = sym (c.if-drains_any.ensures ∙ ap (λ (m : Moment). drains_any m.setup.fault) c.self.view_is) in
    λ steps s.
    let shown = drains_shown m order e steps s c.args.thread c.requires.thread in
    let lt = c.requires.k steps s in
    let same = ap length shown in
    ap (λ (xs : List ℕ). slice_get xs c.args.k) shown ∙ any_place order m.setup.fault m.setup.test (get_or m.buffers c.args.thread []) c.args.k any (omega (arith, lt, same))

pub nth_free-requires-clause-k : goal.nth_free-requires-clause-k
nth_free-requires-clause-k c =
    let m = c.args.self.now in
    let k = subst (λ (m : Moment). IsPlaying m c.self.inside.buffers) c.self.view_is c.self.invariant in
    let e : m.setup.target ≡ target_of Partial = ap (λ (m : Moment). m.setup.target) (sym c.self.view_is) ∙ ap target_of c.in-Partial.is in
    let some = sym (c.if-drains_any.ensures ∙ ap (λ (m : Moment). drains_any m.setup.fault) c.self.view_is) in
    let free = ap length (drains_shown m Partial e k.steps k.stands c.args.thread c.requires.thread ∙ drains-free m.setup.fault m.setup.test (get_or m.buffers c.args.thread []) some) in
    let same = ap (λ (m : Moment). length (free_places m.setup.test c.entries.result.now)) c.self.view_is ∙ ap (λ (xs : List ℕ). length (free_places m.setup.test xs)) c.entries.ensures.entries in
    let lt = c.requires.k k.steps k.stands in
    omega (arith, free, same, lt)

pub returns-in-Total : goal.returns-in-Total
returns-in-Total c =
    let m = c.args.self.now in
    let e : m.setup.target ≡ target_of Total = ap (λ (m : Moment). m.setup.target) (sym c.self.view_is) ∙ ap target_of c.in-Total.is in
    let some = sym (c.if-drains_any.ensures ∙ ap (λ (m : Moment). drains_any m.setup.fault) c.self.view_is) in
    λ steps s.
    let shown = drains_shown m Total e steps s c.args.thread c.requires.thread in
    let lt = c.requires.k steps s in
    let same = ap length shown in
    ap (λ (xs : List ℕ). slice_get xs c.args.k) shown
    ∙ front_place m.setup.fault m.setup.test (get_or m.buffers c.args.thread []) c.args.k some (length (get_or m.buffers c.args.thread [])) refl (omega (arith, lt, same))

pub returns-in-Partial : goal.returns-in-Partial
returns-in-Partial c =
    let m = c.args.self.now in
    let e : m.setup.target ≡ target_of Partial = ap (λ (m : Moment). m.setup.target) (sym c.self.view_is) ∙ ap target_of c.in-Partial.is in
    let some = sym (c.if-drains_any.ensures ∙ ap (λ (m : Moment). drains_any m.setup.fault) c.self.view_is) in
    λ steps s.
    let free = drains_shown m Partial e steps s c.args.thread c.requires.thread ∙ drains-free m.setup.fault m.setup.test (get_or m.buffers c.args.thread []) some in
    let same = ap (λ (m : Moment). free_places m.setup.test c.entries.result.now) c.self.view_is ∙ ap (free_places m.setup.test) c.entries.ensures.entries in
    ap (λ (xs : List ℕ). slice_get xs c.args.k) (free ∙ sym same) ∙ c.nth_free.ensures

pub nth_free-requires-clause-words : goal.nth_free-requires-clause-words
nth_free-requires-clause-words c = c.self.invariant.stands.limits.words
