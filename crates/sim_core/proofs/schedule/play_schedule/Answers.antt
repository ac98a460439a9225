use Rattle.std.proofs.Common.{◌≡◌, ◌∙◌, List, [], true, false, take, get_or, arith, sym, subst}
use Rattle.test_lang.specs.declared.step.Step.{Step}
use Rattle.test_lang.specs.declared.step.Step.TheVariants.{Execute}
use Rattle.sim_core.specs.Setup.{Setup, is_enabled_after, IsPlayOf}
use Rattle.sim_core.proofs.Playing.{first_not_enabled, left_more, one_more}
use Rattle.sim_core.proofs.schedule.play_schedule.Goals as goal

pub overflow_cast-place : goal.overflow_cast-place
overflow_cast-place g c =
    let setup : Setup = g.M.Machine.setup c.args.machine.now in
    let left = c.loop-place.invariant.left in
    let few = c.steps_left_fall.ensures.few setup.target setup.fault setup.test [] in
    let limits = g.met.M.Machine.limits c.args.machine.now [] c.requires.opening in
    let operations = limits.operations in
    omega (arith, left, few, operations)

pub returns-then-not-enabled-clause-outcome : goal.returns-then-not-enabled-clause-outcome
returns-then-not-enabled-clause-outcome g c =
    let setup : Setup = g.M.Machine.setup c.args.machine.now in
    let i = c.loop-place.invariant in
    let so_far : List Step = take c.loop-place.place c.args.steps.now in
    first_not_enabled setup c.args.steps.now c.loop-place.place (Execute 0) c.loop-place-test.true
    (subst (λ s. IsPlayOf s so_far) i.setup (g.met.M.Machine.is_play c.loop-place.machine so_far i.stands))
    (sym (subst (λ s. false ≡ is_enabled_after s so_far (get_or c.args.steps.now c.loop-place.place (Execute 0))) i.setup (c.if-not-enabled.ensures so_far i.stands)))

pub loop-place-preserved : goal.loop-place-preserved
loop-place-preserved g c =
    let setup : Setup = g.M.Machine.setup c.args.machine.now in
    let i = c.loop-place.invariant in
    let steps : List Step = c.args.steps.now in
    let so_far : List Step = take c.loop-place.place c.args.steps.now in
    let step : Step = get_or c.args.steps.now c.loop-place.place (Execute 0) in
    let within = c.loop-place-test.true in
    let is_play : IsPlayOf setup so_far = subst (λ s. IsPlayOf s so_far) i.setup (g.met.M.Machine.is_play c.loop-place.machine so_far i.stands) in
    let enabled : is_enabled_after setup so_far step ≡ true = subst (λ s. is_enabled_after s so_far step ≡ true) i.setup (sym (c.enabled.ensures so_far i.stands) ∙ c.if-not-enabled.false) in
    record {
      stands = subst (g.M.Machine.stands c.step.new.self) (sym (one_more setup steps c.loop-place.place (Execute 0) within)) (c.step.ensures.stands so_far i.stands);
      setup = c.step.ensures.setup ∙ i.setup;
      left = left_more setup steps c.loop-place.place (Execute 0) within _ i.left (c.steps_left_fall.ensures.falls setup.target setup.fault setup.test so_far step is_play enabled);
    }
