use Rattle.std.proofs.Common.{◌≤◌, ◌∙◌, ℕ, sym, subst}
use Rattle.test_lang.specs.Values.{store_count}
use Rattle.graph_model.proofs.LaterStores.{value_read-le}
use Rattle.graph_model.proofs.RunSources.{reads_it, reads_own}
use Rattle.graph_model.proofs.run_sources.mark_store_read.Goals as goal

pub store_of-store-requires-clause-few : goal.store_of-store-requires-clause-few
store_of-store-requires-clause-few c =
    let p = c.args.test.now in
    subst (λ (n : ℕ). n ≤ store_count p) (sym c.value_of_load-value.ensures) (value_read-le p c.args.run.now c.args.load c.requires.inside c.requires.load)

pub returns-then-thread_of : goal.returns-then-thread_of
returns-then-thread_of c =
    reads_it c.args.test.now c.args.run.now c.args.load c.store_of-store.result c.thread_of.result c.thread_of-2.result c.store_of-store.ensures.is_store
    (sym c.value_of_load-value.ensures ∙ sym c.store_of-store.ensures.value) c.thread_of.ensures.found c.thread_of-2.ensures.found c.requires.load c.if-thread_of.true
    c.args.mark c.args.marks.now c.mark_node.new.marks c.mark_node.ensures

pub returns-else-thread_of : goal.returns-else-thread_of
returns-else-thread_of c =
    reads_own c.args.test.now c.args.run.now c.args.load c.store_of-store.result c.thread_of.result c.thread_of-2.result c.store_of-store.ensures.is_store
    (sym c.value_of_load-value.ensures ∙ sym c.store_of-store.ensures.value) c.thread_of.ensures.found c.thread_of-2.ensures.found c.if-thread_of.false c.args.mark c.args.marks.now
