-- From a base, only the window of the loads that changed is sorted again.
use Rattle.std.proofs.Common.{◌∙◌, ℕ, List, None, Some, ap, arith, length, refl, sym, subst}
use Rattle.std.specs.Prelude.{is_some}
use Rattle.test_lang.specs.Edges.{Edge}
use Rattle.test_lang.specs.Program.{Program, op_count}
use Rattle.test_lang.specs.Runs.{IsInside}
use Rattle.window_resort.specs.declared.verdicts.Verdict.TheVariants.{Cycle, Kept, Resorted}
use Rattle.window_resort.specs.Bounds.{HasFewReads}
use Rattle.window_resort.specs.Changes.{HasPlaces}
use Rattle.digraph.specs.Roomed.{Roomed}
use Rattle.window_resort.specs.Tables.{Checking, HasRoom, IsBase}
use Rattle.window_resort.specs.Walks.{TakesRun}
use Rattle.window_resort.specs.Walks.TakesRun.{kept}
use Rattle.window_resort.specs.Windows.{IsWindow, with_window}
use Rattle.window_resort.proofs.Bases.{base_if, base_is, base_of, room_kept, some_if}
use Rattle.window_resort.proofs.Resorts.{base_kept, base_resorted, few_reads_of, nodes_below_count, rows_unchanged, taken_as, taken_cycle, taken_resorted, window_found, window_rises, window_within}
use Rattle.window_resort.proofs.checking.Checker.next_from_base.Goals as goal

pub accept-requires-clause-unchanged : goal.accept-requires-clause-unchanged
accept-requires-clause-unchanged g c =
    let i = c.self.inside in
    let has_it = some_if i.has_base i.base.run.items i.base.order.items (ap (λ (x : Checking). is_some x.base) c.self.view_is ∙ c.requires.some) in
    rows_unchanged i.fixed.now i.base.run.items c.args.run.now i.base.order.items i.base.places.items i.rows.base.items (c.self.invariant.3 has_it)
    c.deref-in_default.result.now c.compare-window.new.self.base.items c.deref-in_default.ensures.value c.compare-window.ensures.base

pub invariant_of-self : goal.invariant_of-self
invariant_of-self g c =
    let i = c.self.inside in
    let s = i.fixed.now in
    let has_it = some_if i.has_base i.base.run.items i.base.order.items (ap (λ (x : Checking). is_some x.base) c.self.view_is ∙ c.requires.some) in
    let b = c.self.invariant.3 has_it in
    let old = c.self.invariant.0 in
    let taken = c.take_values.new.self in
    let inside = subst (λ (p : Program). IsInside p c.args.run.now) (sym (ap (λ (x : Checking). x.fixed.test) c.self.view_is)) c.requires.inside in
    let window : IsWindow (Edge s.model s.test c.args.run.now) i.base.order.items None =
    window_found s i.base.run.items c.args.run.now i.base.order.items i.base.places.items i.rows.base.items b old.sound inside None c.deref.result.now c.deref-2.result.now c.deref.ensures.value
    c.deref-2.ensures.value c.in_default.ensures.window in
    let base : IsBase s c.args.run.now i.base.order.items i.base.places.items c.accept.new.self.base.items =
    base_kept s i.base.run.items c.args.run.now i.base.order.items i.base.places.items i.rows.base.items b old.sound inside window c.accept.new.self.base.items c.accept.ensures.listed in (
      record {
        sound = old.sound;
        few = old.few;
        run_long = ap (length {A = ℕ}) c.take_values.ensures.run ∙ inside.is_run.whole;
        order_room = room_kept (op_count s.test) (op_count s.test) i.base.order.items i.base.places.items i.base.sorted.items taken.order.items taken.places.items taken.sorted.items
            refl old.order_room c.take_values.ensures.order c.take_values.ensures.places c.take_values.ensures.sorted;
        base_rows = c.accept.ensures.base;
        fresh_rows = c.accept.ensures.fresh;
        scratch_room = old.scratch_room;
      },
      c.self.invariant.1,
      c.self.invariant.2,
      λ has. base_is s c.args.run.now i.base.order.items i.base.places.items taken.run.items taken.order.items taken.places.items c.accept.new.self.base.items
          c.take_values.ensures.run c.take_values.ensures.order c.take_values.ensures.places base,
    )

pub returns-in_default-clause-taken : goal.returns-in_default-clause-taken
returns-in_default-clause-taken g c =
    let i = c.self.inside in
    let s = i.fixed.now in
    let has_it = some_if i.has_base i.base.run.items i.base.order.items (ap (λ (x : Checking). is_some x.base) c.self.view_is ∙ c.requires.some) in
    let b = c.self.invariant.3 has_it in
    let taken = c.take_values.new.self in
    let inside = subst (λ (p : Program). IsInside p c.args.run.now) (sym (ap (λ (x : Checking). x.fixed.test) c.self.view_is)) c.requires.inside in
    let window : IsWindow (Edge s.model s.test c.args.run.now) i.base.order.items None =
    window_found s i.base.run.items c.args.run.now i.base.order.items i.base.places.items i.rows.base.items b c.self.invariant.0.sound inside None c.deref.result.now c.deref-2.result.now c.deref.ensures.value
    c.deref-2.ensures.value c.in_default.ensures.window in
    subst (λ (x : Checking). TakesRun x.fixed.model x.fixed.test x.base c.args.run.now Kept (base_if i.has_base taken.run.items taken.order.items)) c.self.view_is
    (taken_as s.model s.test i.has_base has_it c.args.run.now Kept i.base.run.items i.base.order.items taken.run.items taken.order.items c.args.run.now i.base.order.items
    c.take_values.ensures.run c.take_values.ensures.order (kept (base_of i.base.run.items i.base.order.items) refl window refl refl))

pub take_run-requires-clause-unchanged : goal.take_run-requires-clause-unchanged
take_run-requires-clause-unchanged g c =
    let i = c.self.inside in
    let has_it = some_if i.has_base i.base.run.items i.base.order.items (ap (λ (x : Checking). is_some x.base) c.self.view_is ∙ c.requires.some) in
    rows_unchanged i.fixed.now i.base.run.items c.args.run.now i.base.order.items i.base.places.items i.rows.base.items (c.self.invariant.3 has_it)
    c.deref-3.result.now c.compare-window.new.self.base.items c.deref-3.ensures.value c.compare-window.ensures.base

pub nodes-nodes-requires-clause-rising : goal.nodes-nodes-requires-clause-rising
nodes-nodes-requires-clause-rising g c =
    let i = c.self.inside in
    let s = i.fixed.now in
    let has_it = some_if i.has_base i.base.run.items i.base.order.items (ap (λ (x : Checking). is_some x.base) c.self.view_is ∙ c.requires.some) in
    let b = c.self.invariant.3 has_it in
    let inside = subst (λ (p : Program). IsInside p c.args.run.now) (sym (ap (λ (x : Checking). x.fixed.test) c.self.view_is)) c.requires.inside in
    let w = c.in-Some.window in
    let span : IsWindow (Edge s.model s.test c.args.run.now) i.base.order.items (Some w) =
    window_found s i.base.run.items c.args.run.now i.base.order.items i.base.places.items i.rows.base.items b c.self.invariant.0.sound inside (Some w) c.deref.result.now c.deref-2.result.now c.deref.ensures.value
    c.deref-2.ensures.value c.in-Some.ensures.window in
    window_rises s i.base.run.items c.args.run.now i.base.order.items i.base.places.items i.rows.base.items b c.self.invariant.0.sound inside w span

pub nodes-nodes-requires-clause-few : goal.nodes-nodes-requires-clause-few
nodes-nodes-requires-clause-few g c =
    let i = c.self.inside in
    let s = i.fixed.now in
    let has_it = some_if i.has_base i.base.run.items i.base.order.items (ap (λ (x : Checking). is_some x.base) c.self.view_is ∙ c.requires.some) in
    let b = c.self.invariant.3 has_it in
    let inside = subst (λ (p : Program). IsInside p c.args.run.now) (sym (ap (λ (x : Checking). x.fixed.test) c.self.view_is)) c.requires.inside in
    let w = c.in-Some.window in
    let span : IsWindow (Edge s.model s.test c.args.run.now) i.base.order.items (Some w) =
    window_found s i.base.run.items c.args.run.now i.base.order.items i.base.places.items i.rows.base.items b c.self.invariant.0.sound inside (Some w) c.deref.result.now c.deref-2.result.now c.deref.ensures.value
    c.deref-2.ensures.value c.in-Some.ensures.window in
    let within = window_within s i.base.run.items c.args.run.now i.base.order.items i.base.places.items i.rows.base.items b c.self.invariant.0.sound inside w span in
    let long = c.self.invariant.0.order_room.order_long in
    let few = c.self.invariant.0.few in
    omega (arith, within, long, few)

pub sort_window-requires-clause-first : goal.sort_window-requires-clause-first
sort_window-requires-clause-first g c =
    let i = c.self.inside in
    let s = i.fixed.now in
    let has_it = some_if i.has_base i.base.run.items i.base.order.items (ap (λ (x : Checking). is_some x.base) c.self.view_is ∙ c.requires.some) in
    let b = c.self.invariant.3 has_it in
    let inside = subst (λ (p : Program). IsInside p c.args.run.now) (sym (ap (λ (x : Checking). x.fixed.test) c.self.view_is)) c.requires.inside in
    let w = c.in-Some.window in
    let span : IsWindow (Edge s.model s.test c.args.run.now) i.base.order.items (Some w) =
    window_found s i.base.run.items c.args.run.now i.base.order.items i.base.places.items i.rows.base.items b c.self.invariant.0.sound inside (Some w) c.deref.result.now c.deref-2.result.now c.deref.ensures.value
    c.deref-2.ensures.value c.in-Some.ensures.window in
    window_rises s i.base.run.items c.args.run.now i.base.order.items i.base.places.items i.rows.base.items b c.self.invariant.0.sound inside w span

pub sort_window-requires-clause-last : goal.sort_window-requires-clause-last
sort_window-requires-clause-last g c =
    let i = c.self.inside in
    let s = i.fixed.now in
    let has_it = some_if i.has_base i.base.run.items i.base.order.items (ap (λ (x : Checking). is_some x.base) c.self.view_is ∙ c.requires.some) in
    let b = c.self.invariant.3 has_it in
    let inside = subst (λ (p : Program). IsInside p c.args.run.now) (sym (ap (λ (x : Checking). x.fixed.test) c.self.view_is)) c.requires.inside in
    let w = c.in-Some.window in
    let span : IsWindow (Edge s.model s.test c.args.run.now) i.base.order.items (Some w) =
    window_found s i.base.run.items c.args.run.now i.base.order.items i.base.places.items i.rows.base.items b c.self.invariant.0.sound inside (Some w) c.deref.result.now c.deref-2.result.now c.deref.ensures.value
    c.deref-2.ensures.value c.in-Some.ensures.window in
    window_within s i.base.run.items c.args.run.now i.base.order.items i.base.places.items i.rows.base.items b c.self.invariant.0.sound inside w span

pub sort_window-requires-clause-below : goal.sort_window-requires-clause-below
sort_window-requires-clause-below g c =
    let i = c.self.inside in
    let has_it = some_if i.has_base i.base.run.items i.base.order.items (ap (λ (x : Checking). is_some x.base) c.self.view_is ∙ c.requires.some) in
    nodes_below_count i.fixed.now i.base.run.items c.args.run.now i.base.order.items i.base.places.items i.rows.base.items (c.self.invariant.3 has_it) c.take_run.new.self.graph.nodes c.take_run.ensures.verdicts.nodes

pub invariant_of-self-then-not-sort_window : goal.invariant_of-self-then-not-sort_window
invariant_of-self-then-not-sort_window g c =
    let i = c.self.inside in
    let s = i.fixed.now in
    let has_it = some_if i.has_base i.base.run.items i.base.order.items (ap (λ (x : Checking). is_some x.base) c.self.view_is ∙ c.requires.some) in
    let b = c.self.invariant.3 has_it in
    let old = c.self.invariant.0 in
    let sorted = c.sort_window.new.self in
    let same = c.if-not-sort_window.ensures.unchanged in
    let base : IsBase s i.base.run.items i.base.order.items sorted.places.items c.compare-window.new.self.base.items =
    subst (λ (rows : List (Roomed (ℕ × ℕ))). IsBase s i.base.run.items i.base.order.items sorted.places.items rows) (sym c.compare-window.ensures.base)
    (record { inside = b.inside; is_order = b.is_order; placed = subst (λ (x : List ℕ). HasPlaces x sorted.places.items) same c.sort_window.ensures.places; edges = b.edges }) in (
      record {
        sound = old.sound;
        few = old.few;
        run_long = ap (length {A = ℕ}) c.sort_window.ensures.run ∙ old.run_long;
        order_room = room_kept c.take_run.new.self.graph.nodes (op_count s.test) sorted.order.items sorted.places.items sorted.sorted.items sorted.order.items sorted.places.items sorted.sorted.items
            c.take_run.ensures.verdicts.nodes c.sort_window.ensures.room refl refl refl;
        base_rows = subst (λ (rows : List (Roomed (ℕ × ℕ))). HasRoom s.test rows) (sym c.compare-window.ensures.base) old.base_rows;
        fresh_rows = c.compare-window.ensures.fresh;
        scratch_room = c.sort_window.ensures.scratch ∙ old.scratch_room;
      },
      c.take_run.ensures.room,
      c.take_run.ensures.holds,
      λ has. base_is s i.base.run.items i.base.order.items sorted.places.items sorted.run.items sorted.order.items sorted.places.items c.compare-window.new.self.base.items
          c.sort_window.ensures.run same refl base,
    )

pub returns-then-not-sort_window-clause-taken : goal.returns-then-not-sort_window-clause-taken
returns-then-not-sort_window-clause-taken g c =
    let i = c.self.inside in
    let s = i.fixed.now in
    let has_it = some_if i.has_base i.base.run.items i.base.order.items (ap (λ (x : Checking). is_some x.base) c.self.view_is ∙ c.requires.some) in
    let b = c.self.invariant.3 has_it in
    let sound = c.self.invariant.0.sound in
    let w = c.in-Some.window in
    let inside = subst (λ (p : Program). IsInside p c.args.run.now) (sym (ap (λ (x : Checking). x.fixed.test) c.self.view_is)) c.requires.inside in
    let span : IsWindow (Edge s.model s.test c.args.run.now) i.base.order.items (Some w) =
    window_found s i.base.run.items c.args.run.now i.base.order.items i.base.places.items i.rows.base.items b sound inside (Some w) c.deref.result.now c.deref-2.result.now c.deref.ensures.value
    c.deref-2.ensures.value c.in-Some.ensures.window in
    let sorted = c.sort_window.new.self in
    subst (λ (x : Checking). TakesRun x.fixed.model x.fixed.test x.base c.args.run.now (Cycle (Some c.nodes-nodes.result)) (base_if i.has_base sorted.run.items sorted.order.items)) c.self.view_is
    (taken_as s.model s.test i.has_base has_it c.args.run.now (Cycle (Some c.nodes-nodes.result)) i.base.run.items i.base.order.items sorted.run.items sorted.order.items i.base.run.items i.base.order.items
    c.sort_window.ensures.run c.if-not-sort_window.ensures.unchanged
    (taken_cycle s i.base.run.items c.args.run.now i.base.order.items i.base.places.items i.rows.base.items b sound inside w span c.take_run.new.self.graph.edges c.take_run.ensures.edges
    c.nodes-nodes.result c.nodes-nodes.ensures c.if-not-sort_window.ensures.none))

pub returns-then-not-sort_window-clause-few : goal.returns-then-not-sort_window-clause-few
returns-then-not-sort_window-clause-few g c =
    let i = c.self.inside in
    let s = i.fixed.now in
    let has_it = some_if i.has_base i.base.run.items i.base.order.items (ap (λ (x : Checking). is_some x.base) c.self.view_is ∙ c.requires.some) in
    let b = c.self.invariant.3 has_it in
    let inside = subst (λ (p : Program). IsInside p c.args.run.now) (sym (ap (λ (x : Checking). x.fixed.test) c.self.view_is)) c.requires.inside in
    let w = c.in-Some.window in
    let span : IsWindow (Edge s.model s.test c.args.run.now) i.base.order.items (Some w) =
    window_found s i.base.run.items c.args.run.now i.base.order.items i.base.places.items i.rows.base.items b c.self.invariant.0.sound inside (Some w) c.deref.result.now c.deref-2.result.now c.deref.ensures.value
    c.deref-2.ensures.value c.in-Some.ensures.window in
    subst (λ (x : Checking). HasFewReads x.fixed x.base c.args.run.now c.args.steps.now c.sort_window.new.steps) c.self.view_is
    (few_reads_of s i.base.run.items c.args.run.now i.base.order.items i.base.places.items i.rows.base.items b c.self.invariant.0.sound inside w span c.take_run.new.self.graph.edges c.take_run.ensures.edges i.has_base has_it c.deref.result.now c.deref.ensures.value
    c.args.steps.now c.compare-window.new.steps c.sort_window.new.steps c.compare-window.ensures.few c.sort_window.ensures.ticks)

pub accept-requires-2-clause-unchanged : goal.accept-requires-2-clause-unchanged
accept-requires-2-clause-unchanged g c =
    let i = c.self.inside in
    let has_it = some_if i.has_base i.base.run.items i.base.order.items (ap (λ (x : Checking). is_some x.base) c.self.view_is ∙ c.requires.some) in
    rows_unchanged i.fixed.now i.base.run.items c.args.run.now i.base.order.items i.base.places.items i.rows.base.items (c.self.invariant.3 has_it)
    c.deref-4.result.now c.compare-window.new.self.base.items (c.deref-4.ensures.value ∙ c.sort_window.ensures.run) c.compare-window.ensures.base

pub invariant_of-self-2 : goal.invariant_of-self-2
invariant_of-self-2 g c =
    let i = c.self.inside in
    let s = i.fixed.now in
    let has_it = some_if i.has_base i.base.run.items i.base.order.items (ap (λ (x : Checking). is_some x.base) c.self.view_is ∙ c.requires.some) in
    let b = c.self.invariant.3 has_it in
    let old = c.self.invariant.0 in
    let w = c.in-Some.window in
    let inside = subst (λ (p : Program). IsInside p c.args.run.now) (sym (ap (λ (x : Checking). x.fixed.test) c.self.view_is)) c.requires.inside in
    let span : IsWindow (Edge s.model s.test c.args.run.now) i.base.order.items (Some w) =
    window_found s i.base.run.items c.args.run.now i.base.order.items i.base.places.items i.rows.base.items b old.sound inside (Some w) c.deref.result.now c.deref-2.result.now c.deref.ensures.value
    c.deref-2.ensures.value c.in-Some.ensures.window in
    let sorted = c.sort_window.new.self in
    let found = c.if-not-sort_window.ensures.found in
    let taken = c.take_values-2.new.self in
    let base : IsBase s c.args.run.now sorted.order.items sorted.places.items c.accept-2.new.self.base.items =
    base_resorted s i.base.run.items c.args.run.now i.base.order.items i.base.places.items i.rows.base.items b old.sound inside w span c.take_run.new.self.graph.edges c.take_run.ensures.edges
    found.0 found.1 sorted.order.items sorted.places.items found.2 c.sort_window.ensures.places c.accept-2.new.self.base.items c.accept-2.ensures.listed in (
      record {
        sound = old.sound;
        few = old.few;
        run_long = ap (length {A = ℕ}) c.take_values-2.ensures.run ∙ inside.is_run.whole;
        order_room = room_kept c.take_run.new.self.graph.nodes (op_count s.test) sorted.order.items sorted.places.items sorted.sorted.items taken.order.items taken.places.items taken.sorted.items
            c.take_run.ensures.verdicts.nodes c.sort_window.ensures.room c.take_values-2.ensures.order c.take_values-2.ensures.places c.take_values-2.ensures.sorted;
        base_rows = c.accept-2.ensures.base;
        fresh_rows = c.accept-2.ensures.fresh;
        scratch_room = c.sort_window.ensures.scratch ∙ old.scratch_room;
      },
      c.take_run.ensures.room,
      c.take_run.ensures.holds,
      λ has. base_is s c.args.run.now sorted.order.items sorted.places.items taken.run.items taken.order.items taken.places.items c.accept-2.new.self.base.items
          c.take_values-2.ensures.run c.take_values-2.ensures.order c.take_values-2.ensures.places base,
    )

pub returns-clause-taken : goal.returns-clause-taken
returns-clause-taken g c =
    let i = c.self.inside in
    let s = i.fixed.now in
    let has_it = some_if i.has_base i.base.run.items i.base.order.items (ap (λ (x : Checking). is_some x.base) c.self.view_is ∙ c.requires.some) in
    let b = c.self.invariant.3 has_it in
    let sound = c.self.invariant.0.sound in
    let w = c.in-Some.window in
    let inside = subst (λ (p : Program). IsInside p c.args.run.now) (sym (ap (λ (x : Checking). x.fixed.test) c.self.view_is)) c.requires.inside in
    let span : IsWindow (Edge s.model s.test c.args.run.now) i.base.order.items (Some w) =
    window_found s i.base.run.items c.args.run.now i.base.order.items i.base.places.items i.rows.base.items b sound inside (Some w) c.deref.result.now c.deref-2.result.now c.deref.ensures.value
    c.deref-2.ensures.value c.in-Some.ensures.window in
    let found = c.if-not-sort_window.ensures.found in
    let taken = c.take_values-2.new.self in
    subst (λ (x : Checking). TakesRun x.fixed.model x.fixed.test x.base c.args.run.now (Resorted c.nodes-nodes.result) (base_if i.has_base taken.run.items taken.order.items)) c.self.view_is
    (taken_as s.model s.test i.has_base has_it c.args.run.now (Resorted c.nodes-nodes.result) i.base.run.items i.base.order.items taken.run.items taken.order.items c.args.run.now
    (with_window i.base.order.items w found.0) c.take_values-2.ensures.run (c.take_values-2.ensures.order ∙ found.2)
    (taken_resorted s i.base.run.items c.args.run.now i.base.order.items i.base.places.items i.rows.base.items b sound inside w span c.take_run.new.self.graph.edges c.take_run.ensures.edges found.0 found.1
    c.nodes-nodes.result c.nodes-nodes.ensures))

pub returns-clause-few : goal.returns-clause-few
returns-clause-few g c =
    let i = c.self.inside in
    let s = i.fixed.now in
    let has_it = some_if i.has_base i.base.run.items i.base.order.items (ap (λ (x : Checking). is_some x.base) c.self.view_is ∙ c.requires.some) in
    let b = c.self.invariant.3 has_it in
    let inside = subst (λ (p : Program). IsInside p c.args.run.now) (sym (ap (λ (x : Checking). x.fixed.test) c.self.view_is)) c.requires.inside in
    let w = c.in-Some.window in
    let span : IsWindow (Edge s.model s.test c.args.run.now) i.base.order.items (Some w) =
    window_found s i.base.run.items c.args.run.now i.base.order.items i.base.places.items i.rows.base.items b c.self.invariant.0.sound inside (Some w) c.deref.result.now c.deref-2.result.now c.deref.ensures.value
    c.deref-2.ensures.value c.in-Some.ensures.window in
    subst (λ (x : Checking). HasFewReads x.fixed x.base c.args.run.now c.args.steps.now c.sort_window.new.steps) c.self.view_is
    (few_reads_of s i.base.run.items c.args.run.now i.base.order.items i.base.places.items i.rows.base.items b c.self.invariant.0.sound inside w span c.take_run.new.self.graph.edges c.take_run.ensures.edges i.has_base has_it c.deref.result.now c.deref.ensures.value
    c.args.steps.now c.compare-window.new.steps c.sort_window.new.steps c.compare-window.ensures.few c.sort_window.ensures.ticks)
