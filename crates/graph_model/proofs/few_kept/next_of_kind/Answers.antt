use Rattle.std.proofs.Common.{◌<◌, ◌-◌, suc, ℕ, Option, IfSome, arith, sym, ap, subst, ◌∙◌}
use Rattle.test_lang.specs.Program.{op_count}
use Rattle.graph_model.specs.FewKept.{in_thread, is_kind}
use Rattle.graph_model.specs.NearestNodes.{first_passing}
use Rattle.graph_model.proofs.Contiguous.{next_of_kind_told, first_passing-below, in_thread-below}
use Rattle.graph_model.proofs.few_kept.next_of_kind.Goals as goal

pub in_thread-requires-clause-found : goal.in_thread-requires-clause-found
in_thread-requires-clause-found c = λ x e.
    let p = c.args.test.now in
    first_passing-below p (op_count p - suc c.args.node) (is_kind c.args.kind c.args.action) x (omega arith)
    (sym (c.of.ensures (first_passing p (op_count p - suc c.args.node)) c.requires.told) ∙ e)

pub returns-clause-next : goal.returns-clause-next
returns-clause-next c =
    let p = c.args.test.now in
    c.in_thread.ensures
    ∙ ap (in_thread p c.args.node) (c.of.ensures (first_passing p (op_count p - suc c.args.node)) c.requires.told)
    ∙ next_of_kind_told p c.args.kind c.args.node c.args.action c.requires.node c.requires.action

pub returns-clause-below : goal.returns-clause-below
returns-clause-below c =
    let p = c.args.test.now in
    subst (λ (found : Option ℕ). IfSome found (λ k. k < op_count p)) (sym c.in_thread.ensures) (in_thread-below p c.args.node c.of.result (λ x e.
    first_passing-below p (op_count p - suc c.args.node) (is_kind c.args.kind c.args.action) x (omega arith)
    (sym (c.of.ensures (first_passing p (op_count p - suc c.args.node)) c.requires.told) ∙ e)))
