use Rattle.graph_model.proofs.RunSources.{all_sources}
use Rattle.graph_model.proofs.run_sources.mark_sources.Goals as goal

pub returns : goal.returns
returns c =
    all_sources c.args.model c.args.test.now c.args.run.now c.args.to c.args.mark c.args.marks.now c.mark_kept.new.marks c.mark_by_loads.new.marks c.mark_kept.ensures c.mark_by_loads.ensures
