use Rattle.std.proofs.Common.{ℕ, ◌+◌, ◌-◌, List, ap, drop, length, map, refl, subst, sym, take}
use Rattle.std.proofs.lemmas.List.{take_rest}
use Rattle.std.proofs.lemmas.Result.{err_from_is_err_and}
use Rattle.test_lang.specs.Text.Grammar.{StartsWithTest}
use Rattle.sim_core.specs.Setup.{run_after}
use Rattle.mtrace_app.specs.Inputs.{setup_of}
use Rattle.mtrace_app.proofs.InputsPlayed.{failed_behind, failed_in_test}
use Rattle.mtrace_app.proofs.played.read_plays.Goals as goal

pub returns-clause-ok : goal.returns-clause-ok
returns-clause-ok c =
    let read = c.in_ok-read.read in
    let input = c.args.input.now in
    let text : List ℕ = take (length input - read.used) (drop read.used input) in
    let starts = subst (StartsWithTest input read.test) (sym (take_rest input read.used)) c.in_ok-read.ensures.found.starts in
    let ok = c.in_ok-runs.ensures.ok in (
      map (run_after (setup_of c.args.settings.now read.test)) ok.0,
      record { schedules = ok.0; text = record { rest = text; test = starts; text = ok.1 }; played = refl },
      ok.2,
    )

pub returns-in_err-read-clause-err : goal.returns-in_err-read-clause-err
returns-in_err-read-clause-err c =
    let p = err_from_is_err_and c.from_residual.result c.from_residual.ensures.1 in
    rw (p.1, p.2) (failed_in_test c.args.settings.now c.args.input.now c.in_err-read.field-0.0 c.in_err-read.ensures.refused)

pub returns-in_err-runs-clause-err : goal.returns-in_err-runs-clause-err
returns-in_err-runs-clause-err c =
    let read = c.in_ok-read.read in
    let input = c.args.input.now in
    let text : List ℕ = take (length input - read.used) (drop read.used input) in
    let starts = subst (StartsWithTest input read.test) (sym (take_rest input read.used)) c.in_ok-read.ensures.found.starts in
    let p = err_from_is_err_and c.from_residual-in_err-runs.result c.from_residual-in_err-runs.ensures.1 in
    rw (p.1, p.2) (failed_behind c.args.settings.now input read.test text (read.lines + 1) c.in_err-runs.field-0.0 starts (ap (λ (n : ℕ). n + 1) c.in_ok-read.ensures.found.lines) c.in_err-runs.ensures.err)
