-- The edges of the first loads are kept as far as both runs have the same values.
use Rattle.std.proofs.Common.{◌≡◌, ◌<◌, ℕ, List, arith, refl, subst, get_or}
use Rattle.window_resort.proofs.Holding.{holds_same}
use Rattle.window_resort.proofs.held_graph.HeldGraph.keep_common.Goals as goal

pub returns-then-loads-self-clause-holds : goal.returns-then-loads-self-clause-holds
returns-then-loads-self-clause-holds c =
    let self = c.args.self.now in
    let cut = c.cut_to.new.self in
    let few = c.cut_to.ensures.few in
    let same = subst (λ (held : List ℕ). (rank : ℕ) → rank < c.common_loads-loads.result → get_or held rank 0 ≡ get_or c.args.run.now rank 0) c.deref.ensures.value c.common_loads-loads.ensures.same in
    holds_same c.args.fixed.now self.run.items cut.loads cut.starts.items cut.graph c.cut_to.ensures.holds c.args.run.now cut.loads (λ rank lt. same rank (omega (arith, lt, few))) refl

pub returns-else-loads-self-clause-holds : goal.returns-else-loads-self-clause-holds
returns-else-loads-self-clause-holds c =
    let self = c.args.self.now in
    let h = c.requires.holds in
    let le = c.if-loads-self.false in
    let few = c.common_loads-loads.ensures.few in
    let same = subst (λ (held : List ℕ). (rank : ℕ) → rank < c.common_loads-loads.result → get_or held rank 0 ≡ get_or c.args.run.now rank 0) c.deref.ensures.value c.common_loads-loads.ensures.same in
    holds_same c.args.fixed.now self.run.items self.loads self.starts.items self.graph h c.args.run.now c.common_loads-loads.result same (omega (arith, le, few))
