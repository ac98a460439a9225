use Rattle.std.proofs.Common.{◌≡◌, ◌+◌, suc, ap, arith}
use Rattle.test_lang.specs.Program.{first_node, thread_length}
use Rattle.test_lang.proofs.Threads.{first_node-suc, first_node_all}
use Rattle.test_lang.proofs.test.Test.len_of.Goals as goal
use Rattle.test_lang.proofs.test.Test.len_of.Goals.{then-thread-threads, else-thread-threads}

-- the node behind the thread's last
end_is : (c : goal.After-row_known-1) → c.if-thread-threads.end ≡ first_node c.args.self.now c.args.thread + thread_length c.args.self.now c.args.thread
end_is c =
    let more = first_node-suc c.args.self.now c.args.thread in
    let count = c.threads-threads.ensures.count in
    let one : c.args.thread + 1 ≡ suc c.args.thread = omega arith in
    let next = ap (first_node c.args.self.now) one in
    elim c.if-thread-threads.branch [
      | then-thread-threads w ↦ let end = w.end-is in let first = w.first_of-end.ensures.first in omega (arith, more, next, end, first)
      | else-thread-threads w ↦
          let past = w.if-thread-threads.false in
          let all = first_node_all c.args.self.now (suc c.args.thread) (omega (arith, past, count)) in
          let end = w.end-is in
          let ops = w.ops-end.ensures.count in
          omega (arith, more, all, end, ops)
    ]

pub overflow_sub-result : goal.overflow_sub-result
overflow_sub-result c = let end = end_is c in let first = c.first_of.ensures.first in omega (arith, end, first)

pub returns-clause-count : goal.returns-clause-count
returns-clause-count c = let end = end_is c in let first = c.first_of.ensures.first in omega (arith, end, first)
