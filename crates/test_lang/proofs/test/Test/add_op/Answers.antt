use Rattle.std.proofs.Common.{◌≡◌, sym, subst}
use Rattle.std.specs.Prelude.{IsTrue, OnOk}
use Rattle.test_lang.specs.declared.op.Action.{Action}
use Rattle.test_lang.specs.Actions.{op_of, allows}
use Rattle.test_lang.specs.Program.{HasWord, with_action}
use Rattle.test_lang.proofs.ActionNodes.{word_of-op, kind_of-op}
use Rattle.test_lang.proofs.test.Test.add_op.Goals as goal

pub add_action-requires-clause-word : goal.add_action-requires-clause-word
add_action-requires-clause-word c =
    subst (λ (a : Action). HasWord c.args.self.now (op_of a)) (sym c.action.ensures) (word_of-op c.args.self.now.words c.args.op c.requires.word)

pub add_action-requires-clause-kind : goal.add_action-requires-clause-kind
add_action-requires-clause-kind c =
    subst (λ (a : Action). IsTrue (allows c.args.self.now.version a)) (sym c.action.ensures) (kind_of-op c.args.self.now.version c.args.op)

pub returns-clause-ok : goal.returns-clause-ok
returns-clause-ok c =
    subst (λ (a : Action). OnOk c.add_action.result (c.add_action.new.self ≡ with_action c.args.self.now a)) c.action.ensures c.add_action.ensures.ok
