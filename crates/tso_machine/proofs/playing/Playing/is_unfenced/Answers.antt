use Rattle.std.proofs.Common.{◌≡◌, ◌∙◌, ap, sym, refl, Some}
use Rattle.test_lang.specs.declared.op.FenceKind.{FenceKind}
use Rattle.test_lang.specs.declared.op.FenceKind.TheVariants.{Full}
use Rattle.test_lang.specs.declared.op.Action.TheVariants.{Fence}
use Rattle.test_lang.specs.Program.{action_at}
use Rattle.test_lang.specs.Play.Faults.{frees_fences}
use Rattle.tso_machine.specs.Moments.{Moment, target_of}
use Rattle.tso_machine.proofs.Bounds.{buffer_at}
use Rattle.tso_machine.proofs.Shown.{unfenced_empty}
use Rattle.sim_core.specs.Setup.{state_after}
use Rattle.tso_machine.proofs.playing.Playing.is_unfenced.Goals as goal

pub returns-else-frees_fences : goal.returns-else-frees_fences
returns-else-frees_fences c =
    let m = c.args.self.now in
    let order = c.self.inside.order in
    let e : m.setup.target ≡ target_of order = ap (λ (m : Moment). m.setup.target) (sym c.self.view_is) in
    let freed = sym (c.if-frees_fences.ensures ∙ ap (λ (m : Moment). frees_fences m.setup.fault) c.self.view_is) in
    let is = sym (ap (λ (m : Moment). action_at m.setup.test c.args.node) c.self.view_is) ∙ c.in-Fence-Full.ensures.found ∙ ap (λ (kind : FenceKind). Some (Fence kind)) c.in-Fence-Full.kind-is in
    λ steps s. c.is_empty.ensures
    ∙ unfenced_empty m.setup.fault m.setup.test (state_after m.setup steps) c.args.thread c.args.node (Fence Full) is refl freed c.entries.result.now (c.entries.ensures.entries ∙ buffer_at m order e steps s c.args.thread c.requires.thread)
