use Rattle.std.proofs.Common.{◌≡◌, ◌∙◌, ◌++◌, ℕ, map, length, ap, sym, arith, add-one}
use Rattle.std.specs.List.{flat_map}
use Rattle.std.proofs.lemmas.List.{map-append}
use Rattle.orders.specs.Orders.{nodes_below}
use Rattle.test_lang.specs.Signatures.{candidate_count, groups_of}
use Rattle.test_lang.specs.Values.{thread_loads}
use Rattle.signature_plan.specs.Rows.{row_of}
use Rattle.signature_plan.proofs.AllLoads.{flat_map-below}
use Rattle.signature_plan.proofs.group_rows.cut_loads.Goals as goal

pub cut_thread-requires : goal.cut_thread-requires
cut_thread-requires c =
    let before = c.loop-thread-test.true in
    let all = c.threads-thread-end.ensures.count ∙ ap (λ p. length p.threads) c.test-test.ensures.test in
    omega (arith, before, all)

pub loop-thread-preserved : goal.loop-thread-preserved
loop-thread-preserved c =
    let p = c.args.candidates.now in
    let t = c.loop-thread.thread in
    let of = λ (k : ℕ). groups_of (candidate_count p) (thread_loads p k) in
    c.in_ok-cut_thread.ensures
    ∙ ap (λ rows. rows ++ map (row_of p) (of t)) c.loop-thread.invariant
    ∙ sym (map-append (row_of p) (flat_map of (nodes_below t)) (of t))
    ∙ ap (map (row_of p)) (sym (flat_map-below of t))
    ∙ ap (λ n. map (row_of p) (flat_map of (nodes_below n))) (sym (add-one t))

pub returns : goal.returns
returns c =
    let p = c.args.candidates.now in
    let past = c.loop-thread-test.false in
    let until = c.loop-thread.auto.thread-end in
    let all = c.threads-thread-end.ensures.count ∙ ap (λ q. length q.threads) c.test-test.ensures.test in
    let end : c.loop-thread.thread ≡ length p.threads = omega (arith, past, until, all) in
    c.loop-thread.invariant ∙ ap (λ n. map (row_of p) (flat_map (λ k. groups_of (candidate_count p) (thread_loads p k)) (nodes_below n))) end
