use Rattle.std.proofs.Common.{◌≡◌, ◌∙◌, ◌<◌, ◌-◌, ◌≤◌, ℕ, true, Some, refl, ap, arith, sym, ⊎_elim, rules}
use Rattle.std.specs.Option.{option_map}
use Rattle.std.proofs.lemmas.Bool.{cases_lt, eq-eqb}
use Rattle.test_lang.specs.declared.op.Op.TheVariants.{Store}
use Rattle.test_lang.specs.Program.{thread_at}
use Rattle.test_lang.specs.Runs.{own_earlier}
use Rattle.test_lang.specs.Values.{is_store_to}
use Rattle.candidates.proofs.LoadCandidates.{base_found, base_none, own_earlier-is}
use Rattle.candidates.proofs.ThreadNodes.{earlier_node, not_earlier}
use Rattle.candidates.proofs.load_node.LoadNode.base.Goals as goal

pub returns-then-eq : goal.returns-then-eq
returns-then-eq c =
    let p = c.args.test.now in
    let load = c.args.self in
    let here = c.requires.is_load in
    let n : ℕ = c.loop-node.node - 1 in
    let some = c.loop-node-test.true in
    let first = c.first_of-node-start.ensures.first in
    let end = c.loop-node.auto.node in
    let few = c.requires.is_node in
    let is : c.op.result ≡ Store load.word = search rules in
    let lt : n < load.node = omega (arith, some, end) in
    let thread : thread_at p load.node ≡ Some load.thread = ap (option_map (λ node. node.0)) here in
    let there = earlier_node p load.node load.thread n c.op.result thread c.op.ensures.found (omega (arith, some, first)) lt in
    let own : own_earlier p load.node n ≡ true = own_earlier-is p load.node n load.thread load.word c.op.result here there lt ∙ ap (is_store_to load.word) is ∙ eq-eqb load.word load.word refl in
    c.value_of.ensures.value ∙ sym (base_found p load.node n own (omega (arith, lt, few)) (λ k after before. c.loop-node.invariant k (omega (arith, after)) before))

pub returns : goal.returns
returns c =
    let p = c.args.test.now in
    let load = c.args.self in
    let past = c.loop-node-test.false in
    let first = c.first_of-node-start.ensures.first in
    let thread : thread_at p load.node ≡ Some load.thread = ap (option_map (λ node. node.0)) c.requires.is_load in
    sym (base_none p load.node (λ k lt.
    ⊎_elim
    (λ (before : k < c.loop-node.node). not_earlier p load.node load.thread k thread (omega (arith, before, past, first)))
    (λ (from : c.loop-node.node ≤ k). c.loop-node.invariant k from lt)
    (cases_lt k c.loop-node.node)))
