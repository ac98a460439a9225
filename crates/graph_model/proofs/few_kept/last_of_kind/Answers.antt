use Rattle.std.proofs.Common.{◌<◌, ℕ, Option, IfSome, arith, sym, ap, subst, ◌∙◌}
use Rattle.test_lang.specs.Program.{op_count}
use Rattle.graph_model.specs.FewKept.{in_thread, is_kind}
use Rattle.graph_model.specs.NearestNodes.{last_node}
use Rattle.graph_model.proofs.Contiguous.{last_of_kind_told, last_node-below, in_thread-below}
use Rattle.graph_model.proofs.few_kept.last_of_kind.Goals as goal

pub in_thread-requires-clause-found : goal.in_thread-requires-clause-found
in_thread-requires-clause-found c = λ x e.
    let p = c.args.test.now in
    let node = c.requires.node in
    last_node-below p c.args.node (is_kind c.args.kind c.args.action) x (omega (arith, node)) (sym (c.of.ensures (last_node p c.args.node) c.requires.told) ∙ e)

pub returns-clause-last : goal.returns-clause-last
returns-clause-last c =
    let p = c.args.test.now in
    c.in_thread.ensures
    ∙ ap (in_thread p c.args.node) (c.of.ensures (last_node p c.args.node) c.requires.told)
    ∙ last_of_kind_told p c.args.kind c.args.node c.args.action c.requires.action

pub returns-clause-below : goal.returns-clause-below
returns-clause-below c =
    let p = c.args.test.now in
    subst (λ (found : Option ℕ). IfSome found (λ k. k < op_count p)) (sym c.in_thread.ensures) (in_thread-below p c.args.node c.of.result (λ x e.
    let node = c.requires.node in
    last_node-below p c.args.node (is_kind c.args.kind c.args.action) x (omega (arith, node)) (sym (c.of.ensures (last_node p c.args.node) c.requires.told) ∙ e)))
