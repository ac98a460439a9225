-- The edges that the walk has passed tick once each.
use Rattle.std.proofs.Common.{◌≡◌, ℕ, suc, Option, length, true, arith, subst, sym, ap}
use Rattle.std.proofs.lemmas.Grind.{common_steps}
use Rattle.digraph.specs.Digraph.{source_of, target_of}
use Rattle.full_sort.specs.Finishing.{unseen}
use Rattle.full_sort.specs.Waiting.{is_marked}
use Rattle.full_sort.proofs.EdgeWalks.{IsWalkOver, stands_here, walk_begin, walk_on}
use Rattle.full_sort.proofs.SearchTicks.{seen_ticks, seen_walk}
use Rattle.full_sort.proofs.Ticks.{ticks-begin, ticks-on}
use Rattle.full_sort.proofs.finishing.next_unmarked.Goals as goal
use Rattle.full_sort.proofs.finishing.next_unmarked.Goals.{in-None, in-Some}

pub loop-next-init : goal.loop-next-init
loop-next-init g c =
    let es = c.args.graph.now.edges in
    let node = c.args.node in
    let marks = c.args.marks.now in
    let Over : Option ℕ → Type 0 = IsWalkOver (source_of es) node (length es) (λ (e : ℕ). is_marked marks (target_of es e) ≡ true) in
    elim c.match-checked_sub.branch [
      | in-None w ↦
          let h = w.in-None.ensures in
          let none : c.args.seen.now ≡ 0 = omega (arith, h) in
          let first = w.first_out-next in
          let more = first.ensures.ticks in
          let ticked = ticks-begin (λ x. x.0) es node c.args.steps.now first.new.steps (length es) first.result (omega arith) first.ensures.last first.ensures.ticks in
          let all : unseen es node c.args.seen.now ≡ unseen es node 0 = ap (unseen es node) none in
          record {
            walk = subst Over (sym w.next-is) (walk_begin (source_of es) node (length es) (λ (e : ℕ). is_marked marks (target_of es e) ≡ true) first.result first.ensures.last);
            ticked = rw (w.steps-is, w.next-is) (omega (arith, ticked, all));
            later = rw w.steps-is (omega (arith, more));
          }
      | in-Some w ↦
          let h = w.in-Some.ensures in
          let is : c.args.seen.now ≡ suc w.in-Some.edge = omega (arith, h) in
          let next = w.next_out-next in
          let more = next.ensures.ticks in
          record {
            walk = subst Over (sym w.next-is) (seen_walk es marks node c.args.seen.now w.in-Some.edge next.result is c.requires.seen next.ensures.last);
            ticked = rw (w.steps-is, w.next-is) (seen_ticks es marks node c.args.seen.now w.in-Some.edge next.result c.args.steps.now next.new.steps is c.requires.seen next.ensures.last next.ensures.ticks);
            later = rw w.steps-is (omega (arith, more));
          }
    ]

pub loop-next-preserved : goal.loop-next-preserved
loop-next-preserved g c =
    let es = c.args.graph.now.edges in
    let node = c.args.node in
    let edge = c.in-Some-next.edge in
    let l = c.loop-next in
    let Marked : ℕ → Type 0 = λ e. is_marked c.args.marks.now (target_of es e) ≡ true in
    let here = stands_here (source_of es) node (length es) Marked edge l.next c.in-Some-next.is l.invariant.walk in
    let below = here.0 in
    let next = c.next_out-next-in-Some-next.ensures in
    let before = l.invariant.later in
    let more = next.ticks in
    record {
      walk = walk_on (source_of es) node (length es) Marked edge l.next c.next_out-next-in-Some-next.result c.in-Some-next.is next.last (subst (λ (t : ℕ). is_marked c.args.marks.now t ≡ true) c.target-target.ensures.value (grind (arith, common_steps))) l.invariant.walk;
      ticked = ticks-on (λ x. x.0) es node c.args.steps.now l.steps c.next_out-next-in-Some-next.new.steps (unseen es node c.args.seen.now) edge l.next c.next_out-next-in-Some-next.result c.in-Some-next.is (omega (arith, below)) here.1 next.last l.invariant.ticked next.ticks;
      later = omega (arith, before, more);
    }
