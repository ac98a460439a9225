use Rattle.std.proofs.Common.{List, ℕ, ap, arith, length, sym, subst}
use Rattle.test_lang.specs.Edges.{HasNoRunOrder}
use Rattle.chunk_pool.proofs.Cycles.{length-cycle}
use Rattle.chunk_pool.proofs.walker.Walker.cycle.Goals as goal

pub cycle_into-requires-clause-none : goal.cycle_into-requires-clause-none
cycle_into-requires-clause-none c =
    let s = c.args.self.now.checker.fixed in
    subst (λ (run : List ℕ). HasNoRunOrder s.model s.test run) (sym c.deref.ensures.value) c.requires.none

pub copy_of-requires : goal.copy_of-requires
copy_of-requires c =
    let s = c.args.self.now.checker.fixed in
    let nodes = length-cycle s.model s.test c.deref.result.now c.cycle_into.new.cycle.list c.cycle_into.ensures.canonical in
    let same = ap (λ (ns : List ℕ). length ns) c.list.ensures in
    let few = c.requires.walker.few in
    omega (arith, nodes, same, few)
