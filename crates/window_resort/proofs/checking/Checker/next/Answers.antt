-- A run has a cycle exactly where it has no order.
use Rattle.std.proofs.Common.{subst}
use Rattle.window_resort.specs.Tables.{Checking}
use Rattle.window_resort.proofs.Bases.{ordered_if}
use Rattle.window_resort.proofs.Walks.{IsOrdered, cycle_iff_none}
use Rattle.window_resort.proofs.checking.Checker.next.Goals as goal

pub returns-then-self-clause-none : goal.returns-then-self-clause-none
returns-then-self-clause-none g c =
    let s = c.args.self.now in
    let ordered = subst (λ (x : Checking). IsOrdered x.fixed.model x.fixed.test x.base) c.self.view_is
    (ordered_if c.self.inside.fixed.now.model c.self.inside.fixed.now.test c.self.inside.has_base c.self.inside.base.run.items c.self.inside.base.order.items (λ has. (c.self.invariant.3 has).is_order)) in
    cycle_iff_none s.fixed.model s.fixed.test s.base c.args.run.now c.next_from_base.result c.next_from_base.new.self.base ordered c.next_from_base.ensures.taken

pub returns-else-self-clause-none : goal.returns-else-self-clause-none
returns-else-self-clause-none g c =
    let s = c.args.self.now in
    let ordered = subst (λ (x : Checking). IsOrdered x.fixed.model x.fixed.test x.base) c.self.view_is
    (ordered_if c.self.inside.fixed.now.model c.self.inside.fixed.now.test c.self.inside.has_base c.self.inside.base.run.items c.self.inside.base.order.items (λ has. (c.self.invariant.3 has).is_order)) in
    cycle_iff_none s.fixed.model s.fixed.test s.base c.args.run.now c.next_from_nothing.result c.next_from_nothing.new.self.base ordered c.next_from_nothing.ensures.taken
