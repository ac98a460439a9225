-- The lists of a base serve for the loads that didn't change.
use Rattle.std.proofs.Common.{ℕ, List, sym, subst}
use Rattle.digraph.specs.Roomed.{Roomed}
use Rattle.window_resort.specs.Tables.{HasUnchanged}
use Rattle.window_resort.proofs.Rows.{unchanged_rows}
use Rattle.window_resort.proofs.cycles.hold_run.Goals as goal

pub take_run-requires-clause-unchanged : goal.take_run-requires-clause-unchanged
take_run-requires-clause-unchanged g c =
    let p = c.args.fixed.now.test in
    let base = c.args.base.now.run.items in
    let rows = c.args.rows.now.base.items in
    subst (λ (x : List ℕ). HasUnchanged p x c.args.run.now c.compare.new.self.base.items) (sym c.deref-then-has_base-2.ensures.value)
    (subst (λ (x : List (Roomed (ℕ × ℕ))). HasUnchanged p base c.args.run.now x) (sym c.compare.ensures.base) (unchanged_rows p base c.args.run.now rows (c.requires.listed c.if-has_base.true)))
