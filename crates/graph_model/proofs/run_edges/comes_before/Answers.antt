use Rattle.std.proofs.Common.{◌≤◌, sym, ◌∙◌, subst, ℕ}
use Rattle.test_lang.specs.Values.{store_count}
use Rattle.test_lang.proofs.Nodes.{is_load_at-op, is_store_at-op, one_word-op}
use Rattle.graph_model.proofs.LaterStores.{before_of_no_load, before_no_store, before_of_initial, before_of_store, value_read-le}
use Rattle.graph_model.proofs.run_edges.comes_before.Goals as goal

pub returns-then-not-is_load : goal.returns-then-not-is_load
returns-then-not-is_load c =
    let p = c.args.test.now in
    before_of_no_load p c.args.run.now c.args.from c.args.to (is_load_at-op p c.args.from c.op-first.result c.op-first.ensures.found ∙ sym c.is_load.ensures ∙ c.if-not-is_load.true)

pub returns-then-not-is_store : goal.returns-then-not-is_store
returns-then-not-is_store c =
    let p = c.args.test.now in
    before_no_store p c.args.run.now c.args.from c.args.to (is_store_at-op p c.args.to c.op-second.result c.op-second.ensures.found ∙ sym c.is_store.ensures ∙ c.if-not-is_store.true)

pub store_of-requires-clause-few : goal.store_of-requires-clause-few
store_of-requires-clause-few c =
    let p = c.args.test.now in
    let load = is_load_at-op p c.args.from c.op-first.result c.op-first.ensures.found ∙ sym c.is_load.ensures ∙ c.if-not-is_load.false in
    subst (λ (n : ℕ). n ≤ store_count p) (sym c.value_of_load-value.ensures) (value_read-le p c.args.run.now c.args.from c.requires.inside load)

pub returns-then-value-eq0 : goal.returns-then-value-eq0
returns-then-value-eq0 c =
    let p = c.args.test.now in
    let load = is_load_at-op p c.args.from c.op-first.result c.op-first.ensures.found ∙ sym c.is_load.ensures ∙ c.if-not-is_load.false in
    let store = is_store_at-op p c.args.to c.op-second.result c.op-second.ensures.found ∙ sym c.is_store.ensures ∙ c.if-not-is_store.false in
    let word = one_word-op p c.args.from c.args.to c.op-first.result c.op-second.result c.op-first.ensures.found c.op-second.ensures.found in
    c.same_word.ensures ∙ sym word ∙ before_of_initial p c.args.run.now c.args.from c.args.to load store (sym c.value_of_load-value.ensures ∙ c.if-value-eq0.true)

pub returns-else-value-eq0 : goal.returns-else-value-eq0
returns-else-value-eq0 c =
    let p = c.args.test.now in
    let load = is_load_at-op p c.args.from c.op-first.result c.op-first.ensures.found ∙ sym c.is_load.ensures ∙ c.if-not-is_load.false in
    let store = is_store_at-op p c.args.to c.op-second.result c.op-second.ensures.found ∙ sym c.is_store.ensures ∙ c.if-not-is_store.false in
    c.is_later.ensures
    ∙ before_of_store p c.args.run.now c.args.from c.args.to c.store_of.result load store c.store_of.ensures.is_store (sym c.value_of_load-value.ensures ∙ sym c.store_of.ensures.value)
