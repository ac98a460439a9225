use Rattle.std.proofs.Common.{◌≡◌, ◌∙◌, ℕ, List, None, Some, ap, sym}
use Rattle.std.specs.Prelude.{filter}
use Rattle.std.specs.List.{last_or}
use Rattle.test_lang.specs.Values.{value_of}
use Rattle.test_lang.specs.Play.Faults.{forwards_nothing}
use Rattle.test_lang.specs.Play.States.{stores_to}
use Rattle.tso_machine.specs.Moments.{Moment, target_of}
use Rattle.tso_machine.proofs.Shown.{newest_is_store, value_found}
use Rattle.tso_machine.proofs.playing.Playing.value.Goals as goal

pub value_of-requires : goal.value_of-requires
value_of-requires c = newest_is_store c.self.inside.test c.args.word c.entries.result.now c.in-Some.store c.in-Some.ensures

pub returns-in-Some : goal.returns-in-Some
returns-in-Some c =
    let m = c.args.self.now in
    let order = c.self.inside.order in
    let e : m.setup.target ≡ target_of order = ap (λ (m : Moment). m.setup.target) (sym c.self.view_is) in
    let forwards = sym (c.if-forwards_nothing.ensures ∙ ap (λ (m : Moment). forwards_nothing m.setup.fault) c.self.view_is) in
    let found = c.in-Some.ensures ∙ ap (λ (m : Moment). last_or None (filter (stores_to m.setup.test c.args.word) c.entries.result.now)) c.self.view_is
    ∙ ap (λ (xs : List ℕ). last_or None (filter (stores_to m.setup.test c.args.word) xs)) c.entries.ensures.entries in
    λ steps s. c.value_of.ensures.value
    ∙ ap (λ (m : Moment). value_of m.setup.test c.in-Some.store) c.self.view_is
    ∙ value_found m order e steps s c.args.thread c.args.node c.args.word (Some c.in-Some.store) c.requires.thread c.requires.next c.requires.load forwards found

pub returns-in-None : goal.returns-in-None
returns-in-None c =
    let m = c.args.self.now in
    let order = c.self.inside.order in
    let e : m.setup.target ≡ target_of order = ap (λ (m : Moment). m.setup.target) (sym c.self.view_is) in
    let forwards = sym (c.if-forwards_nothing.ensures ∙ ap (λ (m : Moment). forwards_nothing m.setup.fault) c.self.view_is) in
    let found = c.in-None.ensures ∙ ap (λ (m : Moment). last_or None (filter (stores_to m.setup.test c.args.word) c.entries.result.now)) c.self.view_is
    ∙ ap (λ (xs : List ℕ). last_or None (filter (stores_to m.setup.test c.args.word) xs)) c.entries.ensures.entries in
    λ steps s. c.memory-in-None.ensures steps s
    ∙ value_found m order e steps s c.args.thread c.args.node c.args.word None c.requires.thread c.requires.next c.requires.load forwards found
