use Rattle.std.proofs.Common.{◌-◌, ℕ, List, drop, length, subst, sym, take}
use Rattle.std.proofs.lemmas.List.{take_rest}
use Rattle.std.proofs.lemmas.Result.{err_from_is_err_and}
use Rattle.test_lang.specs.Text.Grammar.{StartsWithTest}
use Rattle.mtrace_app.proofs.TestAlone.{failed_alone, failed_behind}
use Rattle.mtrace_app.proofs.drawn.read_test.Goals as goal

pub returns-in_err-read-clause-err : goal.returns-in_err-read-clause-err
returns-in_err-read-clause-err c =
    let p = err_from_is_err_and c.from_residual.result c.from_residual.ensures.1 in
    rw (p.1, p.2) (failed_alone c.args.input.now c.in_err-read.field-0.0 c.in_err-read.ensures.refused)

pub returns-in_err-nothing_after-clause-err : goal.returns-in_err-nothing_after-clause-err
returns-in_err-nothing_after-clause-err c =
    let read = c.in_ok-read.read in
    let input = c.args.input.now in
    let text : List ℕ = take (length input - read.used) (drop read.used input) in
    let starts = subst (StartsWithTest input read.test) (sym (take_rest input read.used)) c.in_ok-read.ensures.found.starts in
    let refused = c.in_err-nothing_after.ensures.refused in
    let p = err_from_is_err_and c.from_residual-in_err-nothing_after.result c.from_residual-in_err-nothing_after.ensures.1 in
    rw (p.1, p.2) (failed_behind input read.test text read.lines c.in_err-nothing_after.field-0.0 starts c.in_ok-read.ensures.found.lines refused.0 refused.1)
