use Rattle.test_lang.proofs.Nodes.{is_load_at-op, is_store_at-op}
use Rattle.test_lang.specs.declared.op.Op.TheVariants.{Load, Store, Fence}
use Rattle.graph_model.proofs.RunSources.{marks_to_load, marks_to_store, marks_to_fence}
use Rattle.graph_model.proofs.run_sources.mark_by_loads.Goals as goal

pub returns-in-Load : goal.returns-in-Load
returns-in-Load c =
    let p = c.args.test.now in
    marks_to_load p c.args.run.now c.args.to c.args.mark c.args.marks.now c.mark_store_read.new.marks (is_store_at-op p c.args.to (Load c.in-Load.word) c.in-Load.ensures.found) c.mark_store_read.ensures

pub returns-in-Store : goal.returns-in-Store
returns-in-Store c =
    let p = c.args.test.now in
    marks_to_store p c.args.run.now c.args.to c.args.mark c.args.marks.now c.mark_loads_before.new.marks c.mark_base_stores.new.marks
    (is_load_at-op p c.args.to (Store c.in-Store.word) c.in-Store.ensures.found) c.mark_loads_before.ensures c.mark_base_stores.ensures

pub returns-in-Fence : goal.returns-in-Fence
returns-in-Fence c =
    let p = c.args.test.now in
    marks_to_fence p c.args.run.now c.args.to c.args.mark c.args.marks.now (is_load_at-op p c.args.to Fence c.in-Fence.ensures.found) (is_store_at-op p c.args.to Fence c.in-Fence.ensures.found)
