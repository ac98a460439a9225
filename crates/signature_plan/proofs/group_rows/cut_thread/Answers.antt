use Rattle.std.proofs.Common.{◌≡◌, ◌∙◌, ℕ, ◌+◌, ◌*◌, ◌^◌, ◌≤◌, [], ◌++◌, refl, ap, sym, arith, Some}
use Rattle.std.proofs.lemmas.Bool.{leb-false, leb-true}
use Rattle.test_lang.specs.declared.op.Op.TheVariants.{Load}
use Rattle.test_lang.specs.Program.{Program, op_at, op_count, first_node, thread_length}
use Rattle.test_lang.specs.Signatures.{candidate_count}
use Rattle.test_lang.specs.Values.{rank_of, thread_loads}
use Rattle.test_lang.proofs.Nodes.{is_load_at-op}
use Rattle.test_lang.proofs.Threads.{StandsIn}
use Rattle.candidates.proofs.ThreadNodes.{thread_node}
use Rattle.signature_plan.proofs.AllLoads.{loads_left, loads_left-first, loads_left-end, loads_left-other, loads_left-load, not_load, count_of_rank, thread_counts}
use Rattle.signature_plan.proofs.GroupRows.{empty_group, rows_after, step_fits, step_full, last_open, none_open}
use Rattle.signature_plan.proofs.group_rows.cut_thread.Goals as goal
use Rattle.signature_plan.proofs.group_rows.cut_thread.Goals.{in-Load, then-not-has_room+in_ok-push, else-not-has_room, in_default}

pub has_room-requires : goal.has_room-requires
has_room-requires c = c.loop-node.invariant.product

pub overflow_add-node-end : goal.overflow_add-node-end
overflow_add-node-end c =
    let within = c.len_of.ensures.within in
    let few = c.test-test.ensures.limits.operations in
    let first = c.first_of-first.ensures.first in
    let ops = ap op_count c.test-test.ensures.test in
    omega (arith, within, few, first, ops)

pub rank_of-requires : goal.rank_of-requires
rank_of-requires c = is_load_at-op c.test-test.result.now c.loop-node.node (Load c.in-Load.word) c.in-Load.ensures.found

pub loop-node-init : goal.loop-node-init
loop-node-init c = record {
  rows = let p = c.args.candidates.now in
      ap (λ loads. c.args.rows.now.items ++ rows_after (candidate_count p) empty_group loads)
      (ap (loads_left p c.args.thread) (c.first_of-first.ensures.first ∙ ap (λ q. first_node q c.args.thread) c.test-test.ensures.test) ∙ loads_left-first p c.args.thread);
  product = omega arith;
  loads = omega arith;
}

pub with-open-requires-clause-loads : goal.with-open-requires-clause-loads
with-open-requires-clause-loads c =
    let loads = c.loop-node.invariant.loads in
    let before = c.loop-node-test.true in
    let within = c.len_of.ensures.within in
    let few = c.test-test.ensures.limits.operations in
    let first = c.first_of-first.ensures.first in
    let ops = ap op_count c.test-test.ensures.test in
    elim c.if-not-has_room.branch [
      | then-not-has_room+in_ok-push w ↦ rw w.open-is (omega arith)
      | else-not-has_room w ↦ rw w.open-is (omega (arith, loads, before, within, few, first, ops))
    ]

pub with-open-requires-clause-product : goal.with-open-requires-clause-product
with-open-requires-clause-product c = elim c.if-not-has_room.branch [
  | then-not-has_room+in_ok-push w ↦ rw w.open-is (omega arith)
  | else-not-has_room w ↦ rw w.open-is c.loop-node.invariant.product
]

-- the loop's node stands in the thread
stands : (c : goal.Joined-op) → StandsIn c.args.candidates.now c.args.thread c.loop-node.node
stands c =
    let same = c.test-test.ensures.test in
    let first = c.first_of-first.ensures.first ∙ ap (λ p. first_node p c.args.thread) same in
    let len = c.len_of.ensures.count ∙ ap (λ p. thread_length p c.args.thread) same in
    let from = c.loop-node.auto.node in
    let to = c.loop-node-test.true in
    record { in_range = c.requires; from = omega (arith, first, from); to = omega (arith, first, len, to) }

pub loop-node-preserved : goal.loop-node-preserved
loop-node-preserved c =
    let p = c.args.candidates.now in
    let t = c.args.thread in
    let n = c.loop-node.node in
    let count = candidate_count p in
    let rows = c.loop-node.rows.items in
    let group = c.loop-node.open in
    let inv = c.loop-node.invariant in
    let same = c.test-test.ensures.test in
    elim c.match-op.branch [
      | in-Load w ↦
          let found : op_at p n ≡ Some (Load w.in-Load.word) = ap (λ q. op_at q n) (sym same) ∙ w.in-Load.ensures.found in
          let node = thread_node p t n (Load w.in-Load.word) (stands c) found in
          let left = loads_left-load p t n (Load w.in-Load.word) node refl in
          let few = w.count-count.ensures.few in
          let loads = inv.loads in
          let rest = loads_left p t (n + 1) in
          let k = w.count-count.result in
          let is : k ≡ count n =
          w.count-count.ensures.count
          ∙ count_of_rank p n w.rank_of.result (is_load_at-op p n (Load w.in-Load.word) found) (w.rank_of.ensures.rank ∙ ap (λ q. rank_of q n) same) in
          let before = ap (λ ls. rows ++ rows_after count group ls) (sym left) ∙ inv.rows in
          elim w.if-not-has_room.branch [
            | then-not-has_room+in_ok-push v ↦
                let full = leb-false (group.product * k) (2 ^ 64) (sym v.if-not-has_room.ensures) in
                rw (w.rows-is, w.open-is, w.with-open.ensures, v.rows-is, v.open-is, v.in_ok-push.ensures.items) (record {
                  rows = step_full count rows group n k rest is full ∙ before;
                  product = omega (arith, few);
                  loads = omega arith;
                })
            | else-not-has_room v ↦
                let fits = leb-true (group.product * k) (2 ^ 64) (sym v.if-not-has_room.ensures) in
                rw (w.rows-is, w.open-is, w.with-open.ensures, v.rows-is, v.open-is) (record {
                  rows = step_fits count rows group n k rest is fits ∙ before;
                  product = fits;
                  loads = omega (arith, loads);
                })
          ]
      | in_default w ↦
          let found : op_at p n ≡ Some c.op.result = ap (λ q. op_at q n) (sym same) ∙ c.op.ensures.found in
          let node = thread_node p t n c.op.result (stands c) found in
          let left = loads_left-other p t n c.op.result node (not_load c.op.result w.in_default.not-Load) in
          let loads = inv.loads in
          rw (w.rows-is, w.open-is) (record {
            rows = ap (λ loads. rows ++ rows_after count group loads) left ∙ inv.rows;
            product = inv.product;
            loads = omega (arith, loads);
          })
    ]

-- behind the loop no load is left
none_left : (p q : Program) (t n first len : ℕ) → q ≡ p → first ≡ first_node q t → len ≡ thread_length q t → first + len ≤ n → n ≤ first + len → loads_left p t n ≡ []
none_left p q t n first len same first_is len_is past until =
    let first_p = first_is ∙ ap (λ r. first_node r t) same in
    let len_p = len_is ∙ ap (λ r. thread_length r t) same in
    let end : n ≡ first_node p t + thread_length p t = omega (arith, first_p, len_p, past, until) in
    ap (loads_left p t) end ∙ loads_left-end p t

pub returns-in_ok-push-2 : goal.returns-in_ok-push-2
returns-in_ok-push-2 c =
    let p = c.args.candidates.now in
    let t = c.args.thread in
    let n = c.loop-node.node in
    let past = c.loop-node-test.false in
    let until = c.loop-node.auto.node-end in
    let none = none_left p c.test-test.result.now t n c.first_of-first.result c.len_of.result c.test-test.ensures.test c.first_of-first.ensures.first c.len_of.ensures.count past (omega (arith, until)) in
    c.in_ok-push-2.ensures.items
    ∙ last_open (candidate_count p) c.loop-node.rows.items c.args.rows.now.items c.loop-node.open (loads_left p t n) (thread_loads p t) (thread_counts p t c.test-test.ensures.limits.operations) none c.if-open-gt0.true c.loop-node.invariant.rows

pub returns-else-open-gt0 : goal.returns-else-open-gt0
returns-else-open-gt0 c =
    let p = c.args.candidates.now in
    let t = c.args.thread in
    let n = c.loop-node.node in
    let past = c.loop-node-test.false in
    let until = c.loop-node.auto.node-end in
    let none = none_left p c.test-test.result.now t n c.first_of-first.result c.len_of.result c.test-test.ensures.test c.first_of-first.ensures.first c.len_of.ensures.count past (omega (arith, until)) in
    let no_load = c.if-open-gt0.false in
    none_open (candidate_count p) c.loop-node.rows.items c.args.rows.now.items c.loop-node.open (loads_left p t n) (thread_loads p t) (thread_counts p t c.test-test.ensures.limits.operations) none (omega (arith, no_load)) c.loop-node.invariant.rows
