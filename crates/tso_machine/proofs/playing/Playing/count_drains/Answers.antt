use Rattle.std.proofs.Common.{◌≡◌, ◌∙◌, ℕ, List, [], Bool, not, cond, length, get_or, ap, sym, arith}
use Rattle.test_lang.specs.Play.Faults.{drains_any}
use Rattle.tso_machine.specs.declared.playing.StoreOrder.TheVariants.{Total, Partial}
use Rattle.tso_machine.specs.Moments.{Moment, target_of}
use Rattle.tso_machine.specs.Places.{free_places, is_free}
use Rattle.tso_machine.proofs.Bytes.{byte_is}
use Rattle.tso_machine.proofs.Drains.{drains-free}
use Rattle.tso_machine.proofs.ListChanges.{few_pass}
use Rattle.tso_machine.proofs.Shown.{any_places, drains_shown, front_places}
use Rattle.tso_machine.proofs.playing.Playing.count_drains.Goals as goal

pub returns-then-drains_any-clause-count : goal.returns-then-drains_any-clause-count
returns-then-drains_any-clause-count c =
    let m = c.args.self.now in
    let order = c.self.inside.order in
    let e : m.setup.target ≡ target_of order = ap (λ (m : Moment). m.setup.target) (sym c.self.view_is) in
    let any = sym (c.if-drains_any.ensures ∙ ap (λ (m : Moment). drains_any m.setup.fault) c.self.view_is) in
    λ steps s. ap length c.entries-entries.ensures.entries
    ∙ any_places order m.setup.fault m.setup.test (get_or m.buffers c.args.thread []) any
    ∙ sym (ap length (drains_shown m order e steps s c.args.thread c.requires))

pub returns-in-Total-clause-count : goal.returns-in-Total-clause-count
returns-in-Total-clause-count c =
    let m = c.args.self.now in
    let e : m.setup.target ≡ target_of Total = ap (λ (m : Moment). m.setup.target) (sym c.self.view_is) ∙ ap target_of c.in-Total.is in
    let some = sym (c.if-drains_any.ensures ∙ ap (λ (m : Moment). drains_any m.setup.fault) c.self.view_is) in
    let long = ap length c.entries-entries.ensures.entries in
    λ steps s. c.from.ensures ∙ byte_is (not c.is_empty.result)
    ∙ ap (λ (b : Bool). cond (not b) 1 0) c.is_empty.ensures
    ∙ front_places m.setup.fault m.setup.test (get_or m.buffers c.args.thread []) some (length c.entries-entries.result.now) (sym long)
    ∙ sym (ap length (drains_shown m Total e steps s c.args.thread c.requires))

pub returns-in-Partial-clause-count : goal.returns-in-Partial-clause-count
returns-in-Partial-clause-count c =
    let m = c.args.self.now in
    let e : m.setup.target ≡ target_of Partial = ap (λ (m : Moment). m.setup.target) (sym c.self.view_is) ∙ ap target_of c.in-Partial.is in
    let some = sym (c.if-drains_any.ensures ∙ ap (λ (m : Moment). drains_any m.setup.fault) c.self.view_is) in
    λ steps s. c.count_free.ensures
    ∙ ap (λ (m : Moment). length (free_places m.setup.test c.entries-entries.result.now)) c.self.view_is
    ∙ ap (λ (xs : List ℕ). length (free_places m.setup.test xs)) c.entries-entries.ensures.entries
    ∙ sym (ap length (drains_shown m Partial e steps s c.args.thread c.requires ∙ drains-free m.setup.fault m.setup.test (get_or m.buffers c.args.thread []) some))

pub returns-in-Partial-clause-few : goal.returns-in-Partial-clause-few
returns-in-Partial-clause-few c =
    let few = few_pass (is_free c.self.inside.test c.entries-entries.result.now) (length c.entries-entries.result.now) in
    let limit = c.entries-entries.ensures.few in
    let count = c.count_free.ensures in
    omega (arith, few, limit, count)

pub count_free-requires-clause-words : goal.count_free-requires-clause-words
count_free-requires-clause-words c = c.self.invariant.stands.limits.words
