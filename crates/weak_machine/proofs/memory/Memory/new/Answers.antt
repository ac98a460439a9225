use Rattle.std.proofs.Common.{◌∙◌, refl, sym}
use Rattle.sim_core.proofs.BelowLists.{map_below-constant}
use Rattle.weak_machine.proofs.memory.Memory.new.Goals as goal

pub returns-clause-now : goal.returns-clause-now
returns-clause-now c = c.in_ok-vec.ensures.items_if_clones_equal (λ y h. h) ∙ sym (map_below-constant (λ k. 0) 0 c.args.words (λ k. refl))

pub returns-clause-before : goal.returns-clause-before
returns-clause-before c = c.in_ok-vec-2.ensures.items_if_clones_equal (λ y h. h) ∙ sym (map_below-constant (λ k. 0) 0 c.args.words (λ k. refl))
