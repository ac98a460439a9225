-- The edges that the walk has passed tick once each.
use Rattle.std.proofs.Common.{◌≡◌, ℕ, length, get_or, arith}
use Rattle.std.proofs.lemmas.Grind.{common_steps}
use Rattle.digraph.specs.Digraph.{out_degree, source_of, target_of}
use Rattle.full_sort.proofs.EdgeWalks.{stands_here, walk_begin, walk_on}
use Rattle.full_sort.proofs.Ticks.{ticks-begin, ticks-on, with_key-all}
use Rattle.full_sort.proofs.cyclic.leads_within.Goals as goal

pub loop-next-init : goal.loop-next-init
loop-next-init g c =
    let es = c.args.graph.now.edges in
    let node = c.args.node in
    let first = c.first_out-next.ensures in
    let ticked = ticks-begin (λ x. x.0) es node c.args.steps.now c.first_out-next.new.steps (length es) c.first_out-next.result (omega arith) first.last first.ticks in
    let all = with_key-all (λ x. x.0) es node in
    let more = first.ticks in
    record {
      walk = walk_begin (source_of es) node (length es) (λ (e : ℕ). get_or c.args.numbers.now (target_of es e) 0 ≡ get_or c.args.numbers.now node 0 → ⊥) c.first_out-next.result first.last;
      ticked = omega (arith, ticked, all);
      later = omega (arith, more);
    }

pub loop-next-preserved : goal.loop-next-preserved
loop-next-preserved g c =
    let es = c.args.graph.now.edges in
    let node = c.args.node in
    let edge = c.in-Some.edge in
    let l = c.loop-next in
    let Other : ℕ → Type 0 = λ e. get_or c.args.numbers.now (target_of es e) 0 ≡ get_or c.args.numbers.now node 0 → ⊥ in
    let here = stands_here (source_of es) node (length es) Other edge l.next c.in-Some.is l.invariant.walk in
    let below = here.0 in
    let next = c.next_out-next.ensures in
    let before = l.invariant.later in
    let more = next.ticks in
    let target = c.target.ensures.value in
    record {
      walk = walk_on (source_of es) node (length es) Other edge l.next c.next_out-next.result c.in-Some.is next.last (λ same. grind (arith, common_steps, target, same)) l.invariant.walk;
      ticked = ticks-on (λ x. x.0) es node c.args.steps.now l.steps c.next_out-next.new.steps (out_degree es node) edge l.next c.next_out-next.result c.in-Some.is (omega (arith, below)) here.1 next.last l.invariant.ticked next.ticks;
      later = omega (arith, before, more);
    }
