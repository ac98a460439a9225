use Rattle.std.proofs.Common.{◌≡◌, ◌<◌, ◌+◌, ◌∙◌, ℕ, Option, None, get_or, set, arith, subst, sym, length-set}
use Rattle.test_lang.specs.Program.{op_count}
use Rattle.test_lang.specs.Runs.{base_store}
use Rattle.graph_model.specs.NearestNodes.{last_node}
use Rattle.graph_model.proofs.Passes.{tells_last}
use Rattle.graph_model.proofs.StoreTables.{bases_more}
use Rattle.graph_model.proofs.store_tables.base_stores.Goals as goal

pub loop-node-preserved : goal.loop-node-preserved
loop-node-preserved c =
    let p = c.args.test.now in
    let n = c.loop-node.node in
    let i = c.loop-node.invariant in
    let lt : n < op_count p = omega (arith, c.loop-node-test.true, c.ops-node-end.ensures.count) in
    record {
      room = length-set c.loop-node.table.items n c.last_of_kind.result ∙ i.room;
      each = subst (λ (found : Option ℕ). (k : ℕ) → k < n + 1 → get_or (set c.loop-node.table.items n found) k None ≡ base_store p k) (sym c.last_of_kind.ensures.last)
          (bases_more p c.loop-node.table.items n lt i.room i.each);
      told = tells_last p n c.action-action.result c.meet.new.self c.action-action.ensures.found (c.meet.ensures.told (last_node p n) i.told);
      words = c.meet.ensures.room ∙ i.words;
    }
