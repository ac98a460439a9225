use Rattle.std.proofs.Common.{◌+◌, arith, ap, sym, ◌∙◌, inr, Ok, subst}
use Rattle.std.proofs.lemmas.Result.{err_from_is_err_and}
use Rattle.test_lang.specs.declared.text.form.Form.{Form}
use Rattle.test_lang.specs.Program.{Program}
use Rattle.test_lang.proofs.TextLemmas.SoFar.{SoFar, few_lines, so_far-unclosed, so_far-refused, so_far-ended, so_far-end_line, so_far-thread, so_far-allows, so_far-operation}
use Rattle.test_lang.proofs.text.read.read_body.Goals as goal
use Rattle.test_lang.proofs.text.read.read_body.Goals.{in-Thread+in_ok-add_thread-in-Thread, in-Operation+in_ok-add_action-in-Operation}

pub returns-in_default-clause-fault : goal.returns-in_default-clause-fault
returns-in_default-clause-fault c = inr (so_far-unclosed _ _ _ _ _ _ c.body.invariant c.in_default.ensures.found)

pub returns-in_err-judge-clause-fault : goal.returns-in_err-judge-clause-fault
returns-in_err-judge-clause-fault c =
    let p = err_from_is_err_and c.from_residual.result c.from_residual.ensures.1 in
    rw (p.1, p.2) (inr (so_far-refused _ _ _ _ _ _ c.body.invariant _ _ c.in-Some.ensures.found _ _ c.read_form.ensures c.judge.ensures _ c.in_err-judge.was))

pub returns-in-End-clause-test : goal.returns-in-End-clause-test
returns-in-End-clause-test c =
    so_far-ended _ _ _ _ _ _ c.body.invariant _ _ c.in-Some.ensures.found _ _ c.read_form.ensures c.judge.ensures (c.in_ok-judge.was ∙ ap (λ (f : Form). Ok f) c.in-End.is)

pub returns-in-End-clause-left : goal.returns-in-End-clause-left
returns-in-End-clause-left c =
    so_far-end_line _ _ _ _ _ _ c.body.invariant _ _ c.in-Some.ensures.found _ _ c.read_form.ensures c.judge.ensures (c.in_ok-judge.was ∙ ap (λ (f : Form). Ok f) c.in-End.is)

pub overflow_add-line : goal.overflow_add-line
overflow_add-line c = let few = few_lines c.body.test c.body.invariant.limits in omega (arith, few, c.body.invariant.number)

pub body-preserved : goal.body-preserved
body-preserved c =
    let Goal : Program → Type 0 = λ test. SoFar c.args.version c.args.words c.args.text.now test (c.body.line + 1) c.in-Some.rest.now in
    elim c.match-branch-2.branch [
      | in-Thread+in_ok-add_thread-in-Thread w ↦
          subst Goal (sym (w.test-is ∙ w.in_ok-add_thread-in-Thread.ensures.ok))
          (so_far-thread _ _ _ _ _ _ c.body.invariant _ _ c.in-Some.ensures.found _ _ c.read_form.ensures c.judge.ensures (c.in_ok-judge.was ∙ ap (λ (f : Form). Ok f) w.in-Thread.is))
      | in-Operation+in_ok-add_action-in-Operation w ↦
          subst Goal (sym (w.test-is ∙ w.in_ok-add_action-in-Operation.ensures.ok))
          (so_far-operation _ _ _ _ _ _ c.body.invariant _ _ c.in-Some.ensures.found _ _ c.read_form.ensures c.judge.ensures _ (c.in_ok-judge.was ∙ ap (λ (f : Form). Ok f) w.in-Operation.is))
    ]

pub add_action-requires-clause-kind : goal.add_action-requires-clause-kind
add_action-requires-clause-kind c =
    so_far-allows _ _ _ _ _ _ c.body.invariant _ _ c.in-Some.ensures.found _ _ c.read_form.ensures c.judge.ensures _ (c.in_ok-judge.was ∙ ap (λ (f : Form). Ok f) c.in-Operation.is)
