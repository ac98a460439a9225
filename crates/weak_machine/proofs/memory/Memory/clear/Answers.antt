use Rattle.std.proofs.Common.{◌∙◌, ap, map, refl, sym}
use Rattle.orders.specs.Orders.{nodes_below}
use Rattle.sim_core.proofs.BelowLists.{map_below-constant}
use Rattle.weak_machine.proofs.memory.Memory.clear.Goals as goal

pub returns-clause-now : goal.returns-clause-now
returns-clause-now c = c.fill.ensures.items (λ y h. h) ∙ sym (map_below-constant (λ k. 0) 0 _ (λ k. refl)) ∙ ap (λ n. map (λ k. 0) (nodes_below n)) c.args.self.now.values.ok.0

pub returns-clause-before : goal.returns-clause-before
returns-clause-before c = c.fill-2.ensures.items (λ y h. h) ∙ sym (map_below-constant (λ k. 0) 0 _ (λ k. refl)) ∙ ap (λ n. map (λ k. 0) (nodes_below n)) c.args.self.now.values_before.ok.0
