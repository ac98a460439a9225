-- Without a base a run gets the least order of all nodes, or has none.
use Rattle.std.proofs.Common.{◌≡◌, ◌∙◌, ℕ, None, Some, ap, length, refl, sym, subst}
use Rattle.test_lang.specs.Program.{Program}
use Rattle.test_lang.specs.Runs.{IsInside}
use Rattle.graph_model.specs.StaticGraph.{StaticGraph}
use Rattle.window_resort.specs.declared.verdicts.Verdict.TheVariants.{Cycle, Sorted}
use Rattle.window_resort.specs.Tables.{Checking, IsBase}
use Rattle.window_resort.specs.Walks.{TakesRun}
use Rattle.window_resort.specs.Walks.TakesRun.{sorted, unsorted}
use Rattle.window_resort.proofs.Bases.{base_false, base_if, base_is, none_if, room_kept, same_base}
use Rattle.window_resort.proofs.checking.Checker.next_from_nothing.Goals as goal

pub returns-then-not-sort_all-clause-taken : goal.returns-then-not-sort_all-clause-taken
returns-then-not-sort_all-clause-taken g c =
    let has = c.self.inside.has_base in
    let none : base_if has c.self.inside.base.run.items c.self.inside.base.order.items ≡ None = ap (λ (x : Checking). x.base) c.self.view_is ∙ c.requires.none in
    let isnt = none_if has c.self.inside.base.run.items c.self.inside.base.order.items none in
    let lacks = c.take_run.ensures.verdicts.none c.if-not-sort_all.ensures.none in
    subst (λ (f : StaticGraph). TakesRun f.model f.test c.args.self.now.base c.args.run.now (Cycle None) (base_if has c.sort_all.new.self.run.items c.sort_all.new.self.order.items))
    (ap (λ (x : Checking). x.fixed) c.self.view_is)
    (unsorted c.requires.none lacks refl (base_false has c.sort_all.new.self.run.items c.sort_all.new.self.order.items isnt))

pub invariant_of-self-2 : goal.invariant_of-self-2
invariant_of-self-2 g c =
    let s = c.self.inside.fixed.now in
    let old = c.self.invariant.0 in
    let taken = c.take_values.new.self in
    let order = c.sort_all.new.self.order.items in
    let inside = subst (λ (p : Program). IsInside p c.args.run.now) (sym (ap (λ (x : Checking). x.fixed.test) c.self.view_is)) c.requires.inside in
    let least = c.take_run.ensures.verdicts.order order c.if-not-sort_all.ensures.found in
    let base : IsBase s c.args.run.now order c.sort_all.new.self.places.items c.list_all.new.self.base.items = record {
      inside = inside;
      is_order = least.is_order;
      placed = c.if-not-sort_all.ensures.places;
      edges = c.list_all.ensures.listed;
    } in (
      record {
        sound = old.sound;
        few = old.few;
        run_long = ap (length {A = ℕ}) c.take_values.ensures.run ∙ inside.is_run.whole;
        order_room = room_kept c.take_run.new.self.graph.nodes _ order c.sort_all.new.self.places.items c.sort_all.new.self.sorted.items taken.order.items taken.places.items taken.sorted.items
            c.take_run.ensures.verdicts.nodes c.sort_all.ensures.room c.take_values.ensures.order c.take_values.ensures.places c.take_values.ensures.sorted;
        base_rows = c.list_all.ensures.base;
        fresh_rows = c.list_all.ensures.fresh;
        scratch_room = c.sort_all.ensures.scratch ∙ old.scratch_room;
      },
      c.take_run.ensures.room,
      c.take_run.ensures.holds,
      λ has. base_is s c.args.run.now order c.sort_all.new.self.places.items taken.run.items taken.order.items taken.places.items c.list_all.new.self.base.items
          c.take_values.ensures.run c.take_values.ensures.order c.take_values.ensures.places base,
    )

pub returns-clause-taken : goal.returns-clause-taken
returns-clause-taken g c =
    let order = c.sort_all.new.self.order.items in
    let taken = c.take_values.new.self in
    let least = c.take_run.ensures.verdicts.order order c.if-not-sort_all.ensures.found in
    subst (λ (f : StaticGraph). TakesRun f.model f.test c.args.self.now.base c.args.run.now Sorted (Some (record { run = taken.run.items; order = taken.order.items })))
    (ap (λ (x : Checking). x.fixed) c.self.view_is)
    (sorted order c.requires.none least refl (same_base c.args.run.now taken.run.items order taken.order.items c.take_values.ensures.run c.take_values.ensures.order))
