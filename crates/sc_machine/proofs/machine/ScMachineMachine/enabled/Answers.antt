use Rattle.std.proofs.Common.{◌∙◌, List, ap, length, refl, sym}
use Rattle.std.specs.Prelude.{slice_get}
use Rattle.std.proofs.lemmas.Option.{slice_get_past, slice_get_read}
use Rattle.sc_machine.specs.declared.threads.Thread.{Thread}
use Rattle.sim_core.specs.Setup.{is_enabled_after}
use Rattle.sc_machine.specs.Standing.{setup_of}
use Rattle.sc_machine.proofs.Choosing.{enabled-none, enabled-open, keeps_threads}
use Rattle.sc_machine.proofs.machine.ScMachineMachine.enabled.Goals as goal

pub returns-in-Some : goal.returns-in-Some
returns-in-Some c = λ steps h.
    let found = c.in-Some.ensures.lookup in
    let there = slice_get_read c.deref.result.now (length c.deref.result.now) c.in-Execute.thread c.in-Some.thread.now refl found.3.0 found.1 in
    c.is_open.ensures
    ∙ sym (ap (is_enabled_after (setup_of c.args.self.now) steps) c.in-Execute.is
    ∙ enabled-open c.args.self.now steps h c.self.inside.threads.items (keeps_threads _ _ _ c.self.invariant.machine refl c.self.view_is) c.in-Execute.thread c.in-Some.thread.now
    (ap (λ (threads : List Thread). slice_get threads c.in-Execute.thread) (sym c.deref.ensures.value) ∙ there))

pub returns-in-None : goal.returns-in-None
returns-in-None c = λ steps h.
    let past = c.in-None.ensures.lookup in
    sym (ap (is_enabled_after (setup_of c.args.self.now) steps) c.in-Execute.is
    ∙ enabled-none c.args.self.now steps h c.self.inside.threads.items (keeps_threads _ _ _ c.self.invariant.machine refl c.self.view_is) c.in-Execute.thread
    (ap (λ (threads : List Thread). slice_get threads c.in-Execute.thread) (sym c.deref.ensures.value) ∙ slice_get_past c.deref.result.now c.in-Execute.thread past.3))
