use Rattle.std.proofs.Common.{◌≡◌, ◌≤◌, ◌<◌, ℕ, false}
use Rattle.test_lang.specs.Runs.{own_earlier}
use Rattle.candidates.proofs.load_node.LoadNode.base.Given as goal

abbrev pub invariant-loop-node : goal.invariant-loop-node
invariant-loop-node l = (k : ℕ) → l.node ≤ k → k < l.self.node → own_earlier l.test l.self.node k ≡ false
