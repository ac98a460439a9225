use Rattle.std.proofs.Common.{arith}
use Rattle.graph_model.proofs.StoreTables.{store_noted}
use Rattle.graph_model.proofs.store_tables.note_first_store.Goals as goal

pub returns : goal.returns
returns c = λ word thread in_words in_threads.
    store_noted c.args.test.now c.args.node c.in-Store.word c.thread_of.result c.place_of-place.result c.args.table.now c.or.result c.in-Store.ensures.found c.thread_of.ensures.found
    c.thread_of.ensures.in_range c.place_of-place.ensures.place (omega (arith, c.place_of-place.ensures.inside, c.requires.room)) c.or.ensures word thread in_threads
