use Rattle.std.proofs.Common.{◌∙◌, ap, sym, subst}
use Rattle.test_lang.specs.Program.{IsWithinLimits}
use Rattle.test_lang.specs.Values.{load_count}
use Rattle.sim_core.specs.Setup.{Setup}
use Rattle.runner.specs.Jobs.{setup_of}
use Rattle.runner.proofs.DrawnSoFar.{drawn_length, drawn_now}
use Rattle.runner.proofs.work.play_run.Goals as goal

pub encode_into-requires-clause-loads : goal.encode_into-requires-clause-loads
encode_into-requires-clause-loads g c =
    let job = c.args.job.now in
    let drawn = c.play_anew.ensures.drawn in
    let limits = subst (λ (s : Setup). IsWithinLimits s.test) (c.play_anew.ensures.setup ∙ c.requires.setup) (g.met.M.Machine.limits c.play_anew.new.machine drawn.0 drawn.2) in
    drawn_length (setup_of job) job.seed c.args.run c.loads.result.now limits
    (drawn_now (setup_of job) (g.M.Machine.setup c.args.machine.now) (g.M.Machine.setup c.play_anew.new.machine) job.seed c.args.run (g.M.Machine.stands c.play_anew.new.machine) c.loads.result.now c.requires.setup c.play_anew.ensures.setup drawn
    c.loads.ensures)
    ∙ ap load_count (sym c.requires.job.plan)
