use Rattle.std.proofs.Common.{List, ℕ, arith, subst}
use Rattle.std.proofs.lemmas.List.{take_all}
use Rattle.full_sort.specs.Levels.{AddsLevel}
use Rattle.full_sort.proofs.Touching.{adds_more}
use Rattle.full_sort.proofs.levels.add_level.Goals as goal

pub loop-target-preserved : goal.loop-target-preserved
loop-target-preserved g c =
    adds_more (g.P.Pairs.edges c.args.pairs.now) c.args.level c.args.list.now c.loop-target.target-index c.args.levels.now c.loop-target.levels c.mark_sources.new.marks
    (omega arith) c.loop-target.invariant c.mark_sources.ensures

pub returns : goal.returns
returns g c =
    subst (λ (xs : List ℕ). AddsLevel (g.P.Pairs.edges c.args.pairs.now) c.args.level xs c.args.levels.now c.loop-target.levels) (take_all c.loop-target.target-index c.args.list.now (omega arith))
    c.loop-target.invariant
