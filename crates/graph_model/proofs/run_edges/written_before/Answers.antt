use Rattle.std.proofs.Common.{◌≡◌, ◌∙◌, true, false, arith, refl, sym}
use Rattle.test_lang.specs.declared.op.Op.{Op}
use Rattle.test_lang.specs.declared.op.Op.TheVariants.{Load, Store, Fence}
use Rattle.test_lang.specs.Values.{is_load, is_store, is_store_at, same_word}
use Rattle.test_lang.proofs.Nodes.{is_load_at-op, is_store_at-op, one_word-op}
use Rattle.test_lang.proofs.Threads.{thread_at-stands}
use Rattle.graph_model.proofs.WrittenBefore.{not_from_store, not_to_store, of_one_thread, passed_more, written_at, stopped_at, passed_all, apart_from, word_of_base}
use Rattle.graph_model.proofs.run_edges.written_before.Goals as goal
use Rattle.graph_model.proofs.run_edges.written_before.Goals.{then-not-is_store-via-then-not-is_store, then-not-is_store-via-else-not-is_store+then-not-is_store-2, then-same_word+else-is_store+else-value_of_load-value, else-same_word}

pub returns-then-not-is_store : goal.returns-then-not-is_store
returns-then-not-is_store c =
    let p = c.args.test.now in
    elim c.then-not-is_store.branch [
      | then-not-is_store-via-then-not-is_store w ↦
          let is = is_store_at-op p c.args.from _ c.op-first.ensures.found in
          not_from_store p c.args.run.now c.args.from c.args.to (grind (arith, is, c.is_store.ensures, w.if-not-is_store))
      | then-not-is_store-via-else-not-is_store+then-not-is_store-2 w ↦
          let is = is_store_at-op p c.args.to _ w.op.ensures.found in
          not_to_store p c.args.run.now c.args.from c.args.to (grind (arith, is, w.is_store-else-not-is_store.ensures, w.if-not-is_store-2))
    ]

pub returns-then-thread_of : goal.returns-then-thread_of
returns-then-thread_of c =
    of_one_thread c.args.test.now c.args.run.now c.args.from c.args.to c.thread_of.result c.thread_of.ensures.found (grind (arith, c.thread_of-2.ensures.found, c.if-thread_of.true))

pub overflow_step-node : goal.overflow_step-node
overflow_step-node c =
    let stands = thread_at-stands c.args.test.now c.args.from c.thread_of.result c.thread_of.ensures.found in
    let to = stands.to in
    let end = c.thread_end-end.ensures.end c.thread_of.result c.thread_of.ensures.found in
    omega (arith, to, end)

pub returns-then-is_store : goal.returns-then-is_store
returns-then-is_store c =
    let p = c.args.test.now in
    let from_is = is_store_at-op p c.args.from _ c.op-first.ensures.found in
    let node_is = is_store_at-op p c.loop-node.node _ c.op-op.ensures.found in
    let word = one_word-op p c.args.from c.loop-node.node _ _ c.op-first.ensures.found c.op-op.ensures.found in
    let in_thread = c.thread_of.ensures.found in
    let end = c.thread_end-end.ensures.end c.thread_of.result in_thread in
    sym (stopped_at p c.args.run.now c.args.from c.args.to c.thread_of.result c.thread_end-end.result (grind (arith, from_is, c.is_store.ensures, c.if-not-is_store.false)) in_thread end
    c.loop-node.node c.loop-node.invariant c.loop-node-test.true (grind (arith, node_is, c.is_store-then-same_word.ensures, c.if-is_store.true)) (grind (arith, word, c.same_word.ensures, c.if-same_word.true)))

pub returns : goal.returns
returns c =
    let p = c.args.test.now in
    let from_is = is_store_at-op p c.args.from _ c.op-first.ensures.found in
    let in_thread = c.thread_of.ensures.found in
    let end = c.thread_end-end.ensures.end c.thread_of.result in_thread in
    sym (passed_all p c.args.run.now c.args.from c.args.to c.thread_of.result c.thread_end-end.result (grind (arith, from_is, c.is_store.ensures, c.if-not-is_store.false)) in_thread end
    c.loop-node.node c.loop-node.invariant (omega (arith, c.loop-node-test.false)))

load_of : (x y : Op) → same_word x y ≡ true → is_store y ≡ false → is_load y ≡ true
load_of x (Load w) h e = refl
load_of x (Store w) h e = absurd cc
load_of (Load v) Fence h e = absurd cc
load_of (Store v) Fence h e = absurd cc
load_of Fence Fence h e = absurd cc

pub returns-then-value_of_load-value : goal.returns-then-value_of_load-value
returns-then-value_of_load-value c =
    let p = c.args.test.now in
    let n = c.loop-node.node in
    let h = c.loop-node.invariant in
    let from_is = is_store_at-op p c.args.from _ c.op-first.ensures.found in
    let to_is = is_store_at-op p c.args.to _ c.op.ensures.found in
    let word = one_word-op p c.args.from n _ _ c.op-first.ensures.found c.op-op.ensures.found in
    let in_thread = c.thread_of.ensures.found in
    let end = c.thread_end-end.ensures.end c.thread_of.result in_thread in
    let store : is_store_at p c.args.from ≡ true = grind (arith, from_is, c.is_store.ensures, c.if-not-is_store.false) in
    let load = is_load_at-op p n c.op-op.result c.op-op.ensures.found ∙ load_of c.op-first.result c.op-op.result (grind (arith, c.same_word.ensures, c.if-same_word.true)) (grind (arith, c.is_store-then-same_word.ensures, c.if-is_store.false)) in
    let apart = apart_from p c.args.run.now c.args.from c.args.to c.thread_of.result c.thread_end-end.result store in_thread end c.thread_of-2.result c.thread_of-2.ensures.found (λ same. grind (arith, same, c.if-thread_of.false)) n h.above c.loop-node-test.true in
    sym (written_at p c.args.run.now c.args.from c.args.to c.thread_of.result c.thread_end-end.result store in_thread end n h c.loop-node-test.true load
    (grind (arith, word, c.same_word.ensures, c.if-same_word.true)) (grind (arith, to_is, c.is_store-else-not-is_store.ensures, c.if-not-is_store-2.false))
    (grind (arith, c.value_of_load.ensures, c.value_of-value.ensures.value, c.if-value_of_load-value.true)) apart)

pub loop-node-preserved : goal.loop-node-preserved
loop-node-preserved c =
    let p = c.args.test.now in
    let n = c.loop-node.node in
    let node_is = is_store_at-op p n _ c.op-op.ensures.found in
    let word = one_word-op p c.args.from n _ _ c.op-first.ensures.found c.op-op.ensures.found in
    elim c.if-same_word.branch [
      | then-same_word+else-is_store+else-value_of_load-value w ↦
          passed_more p c.args.run.now c.args.from c.args.to n c.loop-node.invariant (λ store one. grind (arith, node_is, store, w.is_store-then-same_word.ensures, w.if-is_store.false))
          (λ h. let value = h.0.1.0 in grind (arith, value, w.value_of_load.ensures, c.value_of-value.ensures.value, w.if-value_of_load-value.false))
      | else-same_word w ↦
          passed_more p c.args.run.now c.args.from c.args.to n c.loop-node.invariant (λ store one. grind (arith, one, word, c.same_word.ensures, w.if-same_word.false))
          (λ h. let one = word_of_base p n c.args.from h.0.0.1 h.1 in grind (arith, one, word, c.same_word.ensures, w.if-same_word.false))
    ]
