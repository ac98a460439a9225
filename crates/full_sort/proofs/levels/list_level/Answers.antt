use Rattle.std.proofs.Common.{◌≡◌, ◌+◌, ℕ, List, take, arith, subst, sym}
use Rattle.full_sort.proofs.LevelLists.{Lists, lists_push, lists_skip}
use Rattle.full_sort.proofs.levels.list_level.Goals as goal
use Rattle.full_sort.proofs.levels.list_level.Goals.{then-levels-node, else-levels-node}

pub loop-node-preserved : goal.loop-node-preserved
loop-node-preserved c =
    let levels = c.args.levels.now in
    elim c.if-levels-node.branch [
      | then-levels-node w ↦
          let few = c.loop-node.invariant.few in
          let count = w.count-is in
          record {
            few = omega (arith, few, count);
            lists = subst (λ (n : ℕ). Lists levels c.args.level (take n c.if-levels-node.list) (c.loop-node.node + 1)) (sym w.count-is)
                (subst (λ (xs : List ℕ). Lists levels c.args.level (take (c.loop-node.count + 1) xs) (c.loop-node.node + 1)) (sym w.list-is)
                (lists_push levels c.loop-node.list c.args.level c.loop-node.count c.loop-node.node (omega arith) w.if-levels-node.true c.loop-node.invariant.lists));
          }
      | else-levels-node w ↦
          let few = c.loop-node.invariant.few in
          let count = w.count-is in
          record {
            few = omega (arith, few, count);
            lists = subst (λ (n : ℕ). Lists levels c.args.level (take n c.if-levels-node.list) (c.loop-node.node + 1)) (sym w.count-is)
                (subst (λ (xs : List ℕ). Lists levels c.args.level (take c.loop-node.count xs) (c.loop-node.node + 1)) (sym w.list-is)
                (lists_skip levels (take c.loop-node.count c.loop-node.list) c.args.level c.loop-node.node w.if-levels-node.false c.loop-node.invariant.lists));
          }
    ]

pub returns-clause-lists : goal.returns-clause-lists
returns-clause-lists c =
    let all : c.loop-node.node ≡ c.args.nodes = omega arith in
    subst (λ (m : ℕ). Lists c.args.levels.now c.args.level (take c.loop-node.count c.loop-node.list) m) all c.loop-node.invariant.lists
