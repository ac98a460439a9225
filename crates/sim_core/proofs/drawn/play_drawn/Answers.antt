use Rattle.std.proofs.Common.{◌≡◌, ◌∙◌, ◌%◌, length, Some, arith, sym, subst}
use Rattle.std.specs.Prelude.{slice_get}
use Rattle.mt_base.specs.Words.{word}
use Rattle.sim_core.specs.Setup.{Setup, choices_after}
use Rattle.sim_core.proofs.DrawnPlays.{choice_enabled, so_far-done, so_far-end, so_far-push, some_choice}
use Rattle.sim_core.proofs.drawn.play_drawn.Goals as goal

pub draw_choice-choice-requires : goal.draw_choice-choice-requires
draw_choice-choice-requires g c =
    let h = c.steps.invariant.drawn in
    let setup : Setup = g.M.Machine.setup c.steps.machine in (
      h.steps,
      h.stands,
      some_choice setup h.steps (g.met.M.Machine.is_play c.steps.machine h.steps h.stands) (sym (c.done.ensures h.steps h.stands) ∙ c.if-done.false),
    )

pub step-requires : goal.step-requires
step-requires g c = λ steps stands.
    let h = c.steps.invariant in
    choice_enabled (g.M.Machine.setup c.steps.machine) steps (g.met.M.Machine.is_play c.steps.machine steps stands) _ c.draw_choice-choice.result
    (c.draw_choice-choice.ensures.drawn c.args.seed c.args.run c.steps.counter steps h.behind stands)

pub steps-preserved : goal.steps-preserved
steps-preserved g c =
    let setup : Setup = g.M.Machine.setup c.args.machine.now in
    let i = c.steps.invariant in
    let h = i.drawn in
    record {
      drawn = so_far-push setup c.args.seed c.args.run (g.M.Machine.stands c.steps.machine) (g.M.Machine.stands c.step.new.self) c.steps.counter c.draw_choice-choice.result h
          (subst (λ (s : Setup). slice_get (choices_after s h.steps) (word c.args.seed c.args.run c.steps.counter % length (choices_after s h.steps)) ≡ Some c.draw_choice-choice.result) i.setup
          (c.draw_choice-choice.ensures.drawn c.args.seed c.args.run c.steps.counter h.steps i.behind h.stands))
          (c.step.ensures.stands h.steps h.stands);
      behind = c.draw_choice-choice.ensures.behind c.args.seed c.args.run c.steps.counter i.behind;
      setup = c.step.ensures.setup ∙ i.setup;
    }

pub returns-clause-drawn : goal.returns-clause-drawn
returns-clause-drawn g c =
    let setup : Setup = g.M.Machine.setup c.args.machine.now in
    let h = c.steps.invariant.drawn in
    let limits = g.met.M.Machine.limits c.args.machine.now _ c.requires.opening in
    let operations = limits.operations in
    let end = c.steps-test.false in
    so_far-done setup c.args.seed c.args.run (g.M.Machine.stands c.steps.machine) c.steps.counter h
    (so_far-end setup c.args.seed c.args.run (g.M.Machine.stands c.steps.machine) c.steps.counter h (omega (arith, operations, end)))
