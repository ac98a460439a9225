use Rattle.std.proofs.Common.{◌≡◌, ◌≤◌, ◌<◌, ◌-◌, ◌∙◌, ℕ, suc, Option, None, get_or, set, arith, subst, sym, length-set}
use Rattle.test_lang.specs.Program.{op_count}
use Rattle.graph_model.specs.LoadEdges.{next_store}
use Rattle.graph_model.specs.NearestNodes.{Tells, first_passing}
use Rattle.graph_model.proofs.Passes.{tells_first}
use Rattle.graph_model.proofs.StoreTables.{nexts_more}
use Rattle.graph_model.proofs.store_tables.next_stores.Goals as goal

pub loop-node-preserved : goal.loop-node-preserved
loop-node-preserved c =
    let p = c.args.test.now in
    let end = c.loop-node.node in
    let i = c.loop-node.invariant in
    record {
      within = omega arith;
      room = length-set c.loop-node.table.items (end - 1) c.next_of_kind.result ∙ i.room;
      each = subst (λ (found : Option ℕ). (n : ℕ) → end - 1 ≤ n → n < op_count p → get_or (set c.loop-node.table.items (end - 1) found) n None ≡ next_store p n) (sym c.next_of_kind.ensures.next)
          (nexts_more p c.loop-node.table.items end c.loop-node-test.true i.within i.room i.each);
      told = tells_first p end c.action-action.result c.meet.new.self c.loop-node-test.true i.within c.action-action.ensures.found (c.meet.ensures.told (first_passing p (op_count p - end)) i.told);
      words = c.meet.ensures.room ∙ i.words;
    }

pub next_of_kind-requires-clause-told : goal.next_of_kind-requires-clause-told
next_of_kind-requires-clause-told c =
    let p = c.args.test.now in
    let end = c.loop-node.node in
    let same : op_count p - suc (end - 1) ≡ op_count p - end = omega (arith, c.loop-node-test.true) in
    subst (λ (k : ℕ). Tells (first_passing p k) c.loop-node.nearest) (sym same) c.loop-node.invariant.told
