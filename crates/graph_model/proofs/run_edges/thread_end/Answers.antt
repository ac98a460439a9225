use Rattle.std.proofs.Common.{◌≡◌, ◌∙◌, ℕ, suc, arith, sym}
use Rattle.std.specs.Prelude.{Option, Some}
use Rattle.test_lang.proofs.Threads.{first_node-suc, first_node_all}
use Rattle.graph_model.proofs.run_edges.thread_end.Goals as goal

pub returns-else-next-threads-clause-end : goal.returns-else-next-threads-clause-end
returns-else-next-threads-clause-end c = λ thread in_thread.
    let p = c.args.test.now in
    let both_threads : ◌≡◌ {A = Option ℕ} (Some thread) (Some c.thread_of-next.result) = sym in_thread ∙ c.thread_of-next.ensures.found in
    let same : thread ≡ c.thread_of-next.result = cc in
    let count = c.threads-threads.ensures.count in
    let past = c.if-next-threads.false in
    let all = first_node_all p (suc thread) (omega (arith, past, count, same)) in
    let more = first_node-suc p thread in
    let ops = c.ops.ensures.count in
    omega (arith, more, all, ops)
