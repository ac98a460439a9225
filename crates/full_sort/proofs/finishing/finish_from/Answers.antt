use Rattle.std.proofs.Common.{◌≡◌, ◌<◌, ◌∙◌, ℕ, Bool, List, length, set, take, true, false, arith, sym, ap, subst, get_or-set_same}
use Rattle.std.proofs.lemmas.List.{length-set}
use Rattle.digraph.specs.Digraph.{edges_out}
use Rattle.full_sort.specs.Waiting.{is_marked}
use Rattle.full_sort.proofs.Searches.{marked_kept}
use Rattle.full_sort.proofs.SearchArrays.{at_grown_as, at_shrunk, looked_on, room_left, top_below}
use Rattle.full_sort.proofs.SearchTicks.{path_begun, path_ended, path_less, path_more}
use Rattle.full_sort.proofs.finishing.finish_from.Goals as goal

pub loop-top-init : goal.loop-top-init
loop-top-init g c =
    let e = c.enter-top.ensures in
    let place = e.place in
    let n = c.requires.order in
    let m = c.requires.marks in
    let p = c.requires.seen in
    let root = c.requires.root in
    let inside : c.args.root < length c.args.marks.now = omega (arith, m, root) in
    let search = at_grown_as c.args.graph.now.edges c.args.marks.now c.enter-top.new.marks c.args.seen.now c.args.seen.now c.enter-top.new.seen c.args.order.now c.enter-top.new.order c.args.finished
    (length c.args.order.now) c.enter-top.result c.args.root e.place e.marks e.seen e.order c.requires.search (m ∙ sym n) inside c.requires.unmarked
    (λ below. absurd (omega (arith, below))) (omega (arith, place, n, p)) (λ i low high. absurd (omega (arith, low, high))) in
    record {
      search = search;
      bound = path_begun c.args.graph.now.edges c.args.seen.now c.enter-top.new.seen c.args.order.now c.enter-top.new.order c.args.finished c.enter-top.result c.args.root c.args.steps.now e.place (omega (arith, place, n, p)) search.parts e.seen e.order;
      root = subst (λ (xs : List Bool). is_marked xs c.args.root ≡ true) (sym e.marks) (get_or-set_same c.args.marks.now c.args.root true false inside);
      kept = λ t h. subst (λ (xs : List Bool). is_marked xs t ≡ true) (sym e.marks) (marked_kept c.args.marks.now c.args.root t h);
      later = omega arith;
    }

pub next_unmarked-requires-clause-node : goal.next_unmarked-requires-clause-node
next_unmarked-requires-clause-node g c =
    let below = top_below c.args.graph.now.edges c.loop-top.marks c.loop-top.seen c.loop-top.order c.loop-top.done c.loop-top.top c.loop-top.invariant.search c.loop-top-test.true in
    let size = c.loop-top.auto.marks in
    let m = c.requires.marks in
    omega (arith, below, size, m)

pub enter-top-requires-in-Some-clause-some : goal.enter-top-requires-in-Some-clause-some
enter-top-requires-in-Some-clause-some g c =
    let left = room_left c.args.graph.now.edges c.loop-top.marks c.loop-top.seen c.loop-top.order c.loop-top.done c.loop-top.top c.loop-top.invariant.search c.in-Some.node
    (omega arith) (omega (arith, c.in-Some.ensures.inside)) c.in-Some.ensures.unmarked in
    omega (arith, left)

pub loop-top-smaller-in-Some : goal.loop-top-smaller-in-Some
loop-top-smaller-in-Some g c =
    let left = room_left c.args.graph.now.edges c.loop-top.marks c.loop-top.seen c.loop-top.order c.loop-top.done c.loop-top.top c.loop-top.invariant.search c.in-Some.node
    (omega arith) (omega (arith, c.in-Some.ensures.inside)) c.in-Some.ensures.unmarked in
    let place = c.enter-top-in-Some.ensures.place in
    let size : length c.enter-top-in-Some.new.order ≡ length c.loop-top.order =
    ap (length {A = ℕ}) c.enter-top-in-Some.ensures.order ∙ length-set c.loop-top.order c.enter-top-in-Some.result c.in-Some.node in
    omega (arith, left, place, size)

pub loop-top-preserved-in-Some : goal.loop-top-preserved-in-Some
loop-top-preserved-in-Some g c =
    let es = c.args.graph.now.edges in
    let l = c.loop-top in
    let e = c.enter-top-in-Some.ensures in
    let node : ℕ = c.in-Some.node in
    let before = l.invariant.later in
    let more = c.next_unmarked.ensures.later in
    let below = c.in-Some.ensures.inside in
    let place = e.place in
    let looked = looked_on es l.marks l.seen l.order l.done l.top l.invariant.search node c.next_unmarked.new.seen (omega arith) c.in-Some.ensures.seen in
    let search = at_grown_as es l.marks c.enter-top-in-Some.new.marks l.seen (set l.seen l.top c.next_unmarked.new.seen) c.enter-top-in-Some.new.seen l.order c.enter-top-in-Some.new.order l.done l.top
    c.enter-top-in-Some.result node e.place e.marks e.seen e.order l.invariant.search (omega arith) (omega (arith, below)) c.in-Some.ensures.unmarked
    (λ _. c.in-Some.ensures.edge) (omega (arith, place, length-set l.seen l.top c.next_unmarked.new.seen)) looked in
    record {
      search = search;
      bound = path_more es l.seen c.enter-top-in-Some.new.seen l.order c.enter-top-in-Some.new.order l.done l.top c.enter-top-in-Some.result node c.next_unmarked.new.seen
          (edges_out es (take c.args.finished c.args.order.now)) c.args.steps.now l.steps c.next_unmarked.new.steps e.place c.loop-top-test.true (omega arith)
          (omega (arith, place, length-set l.seen l.top c.next_unmarked.new.seen)) search.parts e.seen e.order l.invariant.bound c.in-Some.ensures.fewer;
      root = subst (λ (xs : List Bool). is_marked xs c.args.root ≡ true) (sym e.marks) (marked_kept l.marks node c.args.root l.invariant.root);
      kept = λ t h. subst (λ (xs : List Bool). is_marked xs t ≡ true) (sym e.marks) (marked_kept l.marks node t (l.invariant.kept t h));
      later = omega (arith, before, more);
    }

pub loop-top-preserved : goal.loop-top-preserved
loop-top-preserved g c =
    let l = c.loop-top in
    let before = l.invariant.later in
    let more = c.next_unmarked.ensures.later in
    record {
      search = at_shrunk c.args.graph.now.edges l.marks l.seen l.order l.done l.top l.invariant.search c.next_unmarked.new.seen c.loop-top-test.true c.in-None.ensures.none;
      bound = path_less c.args.graph.now.edges l.seen l.order l.done l.top c.next_unmarked.new.seen (edges_out c.args.graph.now.edges (take c.args.finished c.args.order.now)) c.args.steps.now l.steps
          c.next_unmarked.new.steps l.invariant.search.parts c.loop-top-test.true (omega arith) l.invariant.bound c.next_unmarked.ensures.bound;
      root = l.invariant.root;
      kept = l.invariant.kept;
      later = omega (arith, before, more);
    }

pub returns-clause-bound : goal.returns-clause-bound
returns-clause-bound g c =
    let l = c.loop-top in
    path_ended c.args.graph.now.edges l.seen l.order l.done l.top (edges_out c.args.graph.now.edges (take c.args.finished c.args.order.now)) c.args.steps.now l.steps c.loop-top-test.false l.invariant.bound
