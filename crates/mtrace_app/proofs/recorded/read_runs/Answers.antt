use Rattle.std.proofs.Common.{ℕ, ◌+◌, ◌-◌, List, ap, drop, length, subst, sym, take}
use Rattle.std.proofs.lemmas.List.{take_rest}
use Rattle.std.proofs.lemmas.Result.{err_from_is_err_and}
use Rattle.test_lang.specs.Program.{Program}
use Rattle.test_lang.specs.Text.Grammar.{StartsWithTest}
use Rattle.mtrace_app.specs.Counted.{AreCountedWithin}
use Rattle.mtrace_app.proofs.InputsRead.{failed_by, failed_in_reading, recorded_by}
use Rattle.mtrace_app.proofs.recorded.read_runs.Goals as goal

pub returns-clause-ok : goal.returns-clause-ok
returns-clause-ok g c =
    let read = c.in_ok-read.read in
    let input = c.args.input.now in
    let text : List ℕ = take (length input - read.used) (drop read.used input) in
    let starts = subst (StartsWithTest input read.test) (sym (take_rest input read.used)) c.in_ok-read.ensures.found.starts in
    let ok = c.in_ok-runs.ensures.ok in
    let same = c.in_ok-plan.ensures in (
      ok.0,
      recorded_by input read.test c.in_ok-plan.plan text (read.lines + 1) ok.0 same starts ok.1,
      subst (λ (q : Program). AreCountedWithin q ok.0 c.in_ok-runs.runs c.in_ok-runs.tally) same ok.2,
    )

pub returns-in_err-read-clause-err : goal.returns-in_err-read-clause-err
returns-in_err-read-clause-err g c =
    let p = err_from_is_err_and c.from_residual.result c.from_residual.ensures.1 in
    rw (p.1, p.2) (failed_in_reading c.args.input.now c.in_err-read.field-0.0 c.in_err-read.ensures.refused)

pub returns-in_err-runs-clause-err : goal.returns-in_err-runs-clause-err
returns-in_err-runs-clause-err g c =
    let read = c.in_ok-read.read in
    let input = c.args.input.now in
    let text : List ℕ = take (length input - read.used) (drop read.used input) in
    let starts = subst (StartsWithTest input read.test) (sym (take_rest input read.used)) c.in_ok-read.ensures.found.starts in
    let p = err_from_is_err_and c.from_residual-in_err-runs.result c.from_residual-in_err-runs.ensures.1 in
    rw (p.1, p.2) (
    failed_by input read.test text starts c.in_ok-plan.plan (read.lines + 1) c.in_err-runs.field-0.0 c.in_ok-plan.ensures (ap (λ (n : ℕ). n + 1) c.in_ok-read.ensures.found.lines)
    c.in_err-runs.ensures.err)
