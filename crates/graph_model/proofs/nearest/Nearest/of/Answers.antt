use Rattle.std.proofs.Common.{◌≡◌, length, ◌<◌, ℕ, Bool, false, ◌&&◌, Option, None, List, slice_index_or, ap, subst, sym, ◌∙◌}
use Rattle.test_lang.specs.declared.op.Action.{Action}
use Rattle.test_lang.specs.declared.op.Action.TheVariants.{Load, Store, Fence}
use Rattle.test_lang.specs.Actions.{op_of}
use Rattle.test_lang.specs.Program.{HasWordBelow}
use Rattle.test_lang.specs.Values.{is_load, is_store, is_of, same_word}
use Rattle.graph_model.specs.declared.kinds.Kind.{Kind}
use Rattle.graph_model.specs.FewKept.{is_kind}
use Rattle.graph_model.specs.WordTables.{at_word}
use Rattle.graph_model.proofs.nearest.Nearest.of.Goals as goal

-- the entry at the action's word is what is found for it
at_word_told : (f : (Action → Bool) → Option ℕ) (nodes : List (Option ℕ)) (test : Action → Bool) →
    ((word : ℕ) → word < length nodes → slice_index_or nodes word None ≡ f (λ action. is_of word (op_of action) && test action)) → f (λ action. false) ≡ None →
    (action : Action) → HasWordBelow (length nodes) (op_of action) → at_word nodes action ≡ f (λ other. same_word (op_of action) (op_of other) && test other)
at_word_told f nodes test told nothing (Load word) h = told word h
at_word_told f nodes test told nothing (Store word) h = told word h
at_word_told f nodes test told nothing (Fence kind) h = sym nothing

pub returns-in-LoadOfWord : goal.returns-in-LoadOfWord
returns-in-LoadOfWord c = λ f t.
    let table = c.args.self.now in
    c.at_word.ensures
    ∙ ap (λ (nodes : List (Option ℕ)). at_word nodes c.args.action) c.deref.ensures.value
    ∙ at_word_told f table.loads.items (λ action. is_load (op_of action)) t.loads t.nothing c.args.action c.requires
    ∙ ap (λ (kind : Kind). f (is_kind kind c.args.action)) (sym c.in-LoadOfWord.is)

pub returns-in-StoreOfWord : goal.returns-in-StoreOfWord
returns-in-StoreOfWord c = λ f t.
    let table = c.args.self.now in
    c.at_word-in-StoreOfWord.ensures
    ∙ ap (λ (nodes : List (Option ℕ)). at_word nodes c.args.action) c.deref-in-StoreOfWord.ensures.value
    ∙ at_word_told f table.stores.items (λ action. is_store (op_of action)) t.stores t.nothing c.args.action (subst (λ (n : ℕ). HasWordBelow n (op_of c.args.action)) (sym table.same_room) c.requires)
    ∙ ap (λ (kind : Kind). f (is_kind kind c.args.action)) (sym c.in-StoreOfWord.is)
