use Rattle.std.proofs.Common.{◌∙◌, [], ℕ, map, refl, ap, sym, subst, arith, length}
use Rattle.std.specs.Prelude.{replicate}
use Rattle.orders.specs.Orders.{nodes_below}
use Rattle.test_lang.specs.Program.{Program, op_count, IsWithinLimits}
use Rattle.test_lang.specs.Values.{load_count}
use Rattle.weak_machine.specs.NodeSets.{no_flags}
use Rattle.weak_machine.specs.Waiting.{direct_waits, base_stores}
use Rattle.weak_machine.specs.Standing.{Stands}
use Rattle.weak_machine.proofs.Waits.{direct-all_inside, direct-long}
use Rattle.weak_machine.proofs.Performing.{stands-opening}
use Rattle.weak_machine.proofs.machine.WeakMachine.new.Goals as goal

pub new-requires-clause-inside : goal.new-requires-clause-inside
new-requires-clause-inside c = direct-all_inside c.args.fault c.args.test.now c.in_ok-waiting.waiting c.in_ok-waiting.ensures.direct

pub new-requires-clause-nodes : goal.new-requires-clause-nodes
new-requires-clause-nodes c =
    let long = ap length c.in_ok-waiting.ensures.direct ∙ direct-long c.args.fault c.args.test.now in
    let few = c.words-words.ensures.limits.operations in
    omega (arith, long, few)

pub new-requires-2-clause-inside : goal.new-requires-2-clause-inside
new-requires-2-clause-inside c = direct-all_inside c.args.fault c.args.test.now c.in_ok-waiting.waiting c.in_ok-waiting.ensures.direct

pub new-requires-2-clause-nodes : goal.new-requires-2-clause-nodes
new-requires-2-clause-nodes c =
    let long = ap length c.in_ok-waiting.ensures.direct ∙ direct-long c.args.fault c.args.test.now in
    let few = c.words-words.ensures.limits.operations in
    omega (arith, long, few)

-- the machine stands for no step
begun : (c : goal.In_ok-vec) → Stands (record { test = c.in_ok-clone.field-0; fault = c.args.fault; performed = c.in_ok-new-2.field-0.performed.items; values = c.in_ok-new-3.field-0.values.items; values_before = c.in_ok-new-3.field-0.values_before.items; loads = c.in_ok-vec.field-0.items }) []
begun c =
    let p = c.in_ok-clone.field-0 in
    let same = sym c.in_ok-clone.ensures.cases in
    let nodes = ap length c.in_ok-waiting.ensures.direct ∙ direct-long c.args.fault c.args.test.now ∙ ap op_count same in
    let words = c.words-words.ensures.count ∙ ap (λ (q : Program). q.words) same in
    stands-opening p c.args.fault c.in_ok-new-2.field-0.performed.items c.in_ok-new-3.field-0.values.items c.in_ok-new-3.field-0.values_before.items c.in_ok-vec.field-0.items
    (subst IsWithinLimits same c.words-words.ensures.limits)
    (c.in_ok-new-2.ensures.none ∙ ap no_flags nodes)
    (c.in_ok-new-3.ensures.now ∙ ap (λ (n : ℕ). map (λ word. 0) (nodes_below n)) words)
    (c.in_ok-new-3.ensures.before ∙ ap (λ (n : ℕ). map (λ word. 0) (nodes_below n)) words)
    (c.in_ok-vec.ensures.items_if_clones_equal (λ y h. h) ∙ ap (λ (n : ℕ). replicate n 0) (c.loads.ensures.count ∙ ap load_count same))

pub invariant_of-result : goal.invariant_of-result
invariant_of-result c =
    let same = sym c.in_ok-clone.ensures.cases in
    let nodes = ap length c.in_ok-waiting.ensures.direct ∙ direct-long c.args.fault c.args.test.now ∙ ap op_count same in
    record {
      waiting_is = c.in_ok-waiting.ensures.direct ∙ ap (direct_waits c.args.fault) same;
      bases_are = c.in_ok-base_stores.ensures ∙ ap base_stores same;
      current_told = c.in_ok-new-2.ensures.progress;
      opening_told = c.in_ok-new.ensures.progress;
      current_is = refl;
      opening_is = c.in_ok-new.ensures.none ∙ ap no_flags nodes;
      stands_for = ([], begun c);
    }

pub returns-clause-stands : goal.returns-clause-stands
returns-clause-stands c = begun c
