use Rattle.std.proofs.Common.{refl}
use Rattle.std.proofs.lemmas.Result.{err_from_is_err_and}
use Rattle.run_text.proofs.NextLines.{gives-run_refused}
use Rattle.run_text.proofs.run_lines.RunLines.step.Goals as goal

pub returns-in_err-read_run-clause-exact : goal.returns-in_err-read_run-clause-exact
returns-in_err-read_run-clause-exact c =
    let p = err_from_is_err_and c.from_residual-in_err-read_run.result c.from_residual-in_err-read_run.ensures.1 in
    let found = rw c.in-Some.is at c.in_ok-line.ensures.found in
    rw (p.1, p.2, ← c.self.view_is) (gives-run_refused _ _ _ _ c.if-self.false c.in-Some.line.now c.in-Some.rest.now found c.in_err-read_run.field-0.0 c.in_err-read_run.ensures refl)
