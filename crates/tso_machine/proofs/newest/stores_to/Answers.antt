use Rattle.std.proofs.Common.{◌≡◌, ◌∙◌, ℕ, false, sym, refl}
use Rattle.test_lang.specs.declared.op.Action.{Action}
use Rattle.test_lang.specs.declared.op.Action.TheVariants.{Load, Store, Fence}
use Rattle.test_lang.specs.Actions.{op_of}
use Rattle.test_lang.specs.Values.{is_store_to}
use Rattle.test_lang.proofs.ActionNodes.{op_at-action}
use Rattle.sim_core.proofs.MemoryAfter.{stores_to-op}
use Rattle.tso_machine.proofs.newest.stores_to.Goals as goal

pub returns-in-Store : goal.returns-in-Store
returns-in-Store c =
    sym (stores_to-op c.args.test.now c.args.word c.args.node (op_of (Store c.in-Store.stored)) (op_at-action c.args.test.now c.args.node (Store c.in-Store.stored) c.in-Store.ensures.found))

not_stored : (word : ℕ) (action : Action) → ((x : ℕ) → action ≡ Store x → ⊥) → false ≡ is_store_to word (op_of action)
not_stored word (Load x) other = refl
not_stored word (Store x) other = absurd (other x refl)
not_stored word (Fence kind) other = refl

pub returns-in_default : goal.returns-in_default
returns-in_default c =
    not_stored c.args.word c.action.result c.in_default.not-Store
    ∙ sym (stores_to-op c.args.test.now c.args.word c.args.node (op_of c.action.result) (op_at-action c.args.test.now c.args.node c.action.result c.action.ensures.found))
