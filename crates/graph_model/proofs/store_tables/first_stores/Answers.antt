use Rattle.std.proofs.Common.{◌≡◌, List, Option, Some, None, ℕ, ◌+◌, ◌*◌, length, get_or, cond, sym, ap, ◌∙◌}
use Rattle.std.specs.Option.{option_or}
use Rattle.graph_model.specs.StoreTables.{is_thread_store}
use Rattle.graph_model.proofs.StoreTables.{lent_back, firsts_more}
use Rattle.graph_model.proofs.store_tables.first_stores.Goals as goal

pub loop-node-preserved : goal.loop-node-preserved
loop-node-preserved c =
    let p = c.args.test.now in
    let n = c.loop-node.node in
    let old = c.loop-node.table.items in
    let new = c.note_first_store.new.table in
    let lent = c.deref_mut.ensures.value in
    let same : length new ≡ length old = c.note_first_store.auto.table ∙ ap length lent in
    let all : c.loop-node.table.len ≡ length old = sym c.deref_mut.ensures.len ∙ ap length lent in
    let back = lent_back c.loop-node.table.len new old same all in
    record {
      room = ap length back ∙ same ∙ c.loop-node.invariant.room;
      each = λ word thread in_words in_threads.
          let place : ℕ = word * length p.threads + thread in
          ap (λ (table : List (Option ℕ)). get_or table place None) back
          ∙ firsts_more p n word thread (get_or old place None) (get_or new place None) (c.loop-node.invariant.each word thread in_words in_threads)
          (c.note_first_store.ensures word thread in_words in_threads
          ∙ ap (λ (table : List (Option ℕ)). option_or (get_or table place None) (cond (is_thread_store p word thread n) (Some n) None)) lent);
    }
