use Rattle.std.proofs.Common.{◌≡◌, ◌<◌, ℕ}
use Rattle.digraph.specs.Digraph.{source_of, target_of}
use Rattle.full_sort.proofs.cycle_tests.LookedPairs.edge.Given as goal

abbrev pub invariant-loop-number : goal.invariant-loop-number
invariant-loop-number l = (e : ℕ) → e < l.number → source_of l.self.graph.now.edges e ≡ l.from → target_of l.self.graph.now.edges e ≡ l.to → ⊥
