-- Each turn places the next node, and where none is free the search is stuck.
use Rattle.std.proofs.Common.{◌≡◌, ◌∙◌, ℕ, ◌+◌, ◌<◌, List, Bool, [], ◌∷◌, ◌++◌, length, set, take, ap, subst, arith, refl, false, Some, None, Contains}
use Rattle.std.specs.Prelude.{sum_by}
use Rattle.std.proofs.lemmas.List.{length-set, length-take-le, take_more_set, take_all}
use Rattle.std.proofs.lemmas.List.Elements.{All-contains, Contains-get_or}
use Rattle.orders.proofs.NextNodes.{next-least, stuck-none}
use Rattle.digraph.specs.Digraph.{HasEdge, out_degree}
use Rattle.full_sort.proofs.Marked.{marked-all, sum-marked-less}
use Rattle.full_sort.proofs.State.{state-begin, state-next, state-stuck, state-whole, state-enough, state-more}
use Rattle.full_sort.proofs.Holding.{held-empty, held-taken, holds-begin, holds-marked, least-held, mark-within, none-held}
use Rattle.full_sort.proofs.Placing.{next-more}
use Rattle.full_sort.proofs.window.place_window.Goals as goal

pub loop-k-init : goal.loop-k-init
loop-k-init g c =
    let state = state-begin c.args.graph.now.edges c.args.window.now c.args.graph.now.nodes c.args.waiting.now c.args.marks.now c.requires.counted c.requires.marked in
    record {
      state = state;
      next = λ i lt. absurd (omega (arith, lt));
      free = holds-begin c.args.ready.now c.args.waiting.now c.args.marks.now c.requires.free;
      kept = tt;
      room = refl;
      ticked = ap (λ (xs : List ℕ). c.args.steps.now + sum_by (out_degree c.args.graph.now.edges) xs) (marked-all c.args.marks.now c.args.window.now (λ z h. state.marked z h (λ none. let at = none.1 in omega (arith, at))));
    }

pub returns-in-None-clause-none : goal.returns-in-None-clause-none
returns-in-None-clause-none g c =
    let p : List ℕ = take c.loop-k.k c.loop-k.placed in
    let taken = length-take-le c.loop-k.k c.loop-k.placed (omega arith) in
    stuck-none (HasEdge c.args.graph.now.edges) c.args.window.now p
    (state-stuck c.args.graph.now.edges c.args.window.now p c.args.graph.now.nodes c.loop-k.waiting c.loop-k.marks c.loop-k.invariant.state
    (λ z h. All-contains (λ (n : ℕ). n < c.args.graph.now.nodes) c.args.window.now z c.requires.window h)
    (omega (arith, taken))
    (least-held c.loop-k.ready c.loop-k.kept c.loop-k.waiting c.loop-k.marks c.args.window.now c.loop-k.invariant.free c.loop-k.invariant.state.waits.only c.take_ready.new.ready None c.in-None.ensures))

pub returns-in-None-clause-empty : goal.returns-in-None-clause-empty
returns-in-None-clause-empty g c = none-held c.loop-k.ready c.loop-k.kept c.take_ready.new.ready c.in-None.ensures

pub release_all-kept-requires-clause-enough : goal.release_all-kept-requires-clause-enough
release_all-kept-requires-clause-enough g c =
    state-enough c.args.graph.now.edges c.args.window.now (take c.loop-k.k c.loop-k.placed) c.args.graph.now.nodes c.loop-k.waiting c.loop-k.marks c.loop-k.invariant.state
    (λ z h. All-contains (λ (n : ℕ). n < c.args.graph.now.nodes) c.args.window.now z c.requires.window h)
    c.in-Some.node (least-held c.loop-k.ready c.loop-k.kept c.loop-k.waiting c.loop-k.marks c.args.window.now c.loop-k.invariant.free c.loop-k.invariant.state.waits.only c.take_ready.new.ready (Some c.in-Some.node) c.in-Some.ensures)

pub loop-k-preserved : goal.loop-k-preserved
loop-k-preserved g c =
    let es : List (ℕ × ℕ) = c.args.graph.now.edges in
    let window : List ℕ = c.args.window.now in
    let nodes : ℕ = c.args.graph.now.nodes in
    let k : ℕ = c.loop-k.k in
    let p : List ℕ = take k c.loop-k.placed in
    let x : ℕ = c.in-Some.node in
    let after : List Bool = set c.loop-k.marks x false in
    let room : k < length c.loop-k.placed = omega arith in
    let within : (z : ℕ) → Contains window z → z < nodes = (λ z h. All-contains (λ (n : ℕ). n < nodes) window z c.requires.window h) in
    let least = least-held c.loop-k.ready c.loop-k.kept c.loop-k.waiting c.loop-k.marks window c.loop-k.invariant.free c.loop-k.invariant.state.waits.only c.take_ready.new.ready (Some x) c.in-Some.ensures in
    let inside = within x least.0 in
    let size : length after ≡ nodes = length-set c.loop-k.marks x false ∙ omega arith in
    let longer : take (k + 1) (set c.loop-k.placed k x) ≡ p ++ x ∷ [] = take_more_set c.loop-k.placed k x room in
    record {
      state = rw longer (state-more es window p nodes c.loop-k.waiting c.loop-k.marks c.loop-k.invariant.state within x c.requires.once (omega arith) least c.release_all-kept.new.counts c.release_all-kept.ensures.less);
      next = next-more (HasEdge es) window c.loop-k.placed k x room c.loop-k.invariant.next (state-next es window p nodes c.loop-k.waiting c.loop-k.marks c.loop-k.invariant.state within x least);
      free = holds-marked c.take_ready.new.ready c.release_all-kept.new.ready c.release_all-kept.result nodes c.loop-k.waiting c.release_all-kept.new.counts after
          (held-taken c.loop-k.ready c.loop-k.kept c.loop-k.waiting c.loop-k.marks window c.loop-k.invariant.free c.loop-k.invariant.state.waits.only c.take_ready.new.ready x (omega (arith, inside)) c.in-Some.ensures)
          (λ t mark. let lt = mark-within after t mark in omega (arith, lt, size))
          (λ t lt. let less = c.release_all-kept.ensures.less t lt in omega (arith, less))
          c.release_all-kept.ensures.gained;
      kept = c.release_all-kept.ensures.kept;
      room = c.release_all-kept.ensures.room ∙ c.in-Some.ensures.0 ∙ c.loop-k.invariant.room;
      ticked =
          let so_far = c.loop-k.invariant.ticked in
          let more = sum-marked-less (out_degree es) c.loop-k.marks window x c.requires.once least.0 least.1.1 (omega (arith, inside)) in
          let step = c.release_all-kept.ensures.ticks in
          omega (arith, so_far, more, step);
    }

pub returns-clause-found : goal.returns-clause-found
returns-clause-found g c =
    let es : List (ℕ × ℕ) = c.args.graph.now.edges in
    let window : List ℕ = c.args.window.now in
    let p : List ℕ = take c.loop-k.k c.loop-k.placed in
    let taken = length-take-le c.loop-k.k c.loop-k.placed (omega arith) in
    let all : p ≡ c.loop-k.placed = take_all c.loop-k.k c.loop-k.placed (omega arith) in
    next-least (HasEdge es) window c.loop-k.placed (record {
      next = λ i lt. c.loop-k.invariant.next i (omega (arith, lt));
      whole = λ x h. subst (λ (q : List ℕ). Contains q x) all (state-whole es window p c.args.graph.now.nodes c.loop-k.waiting c.loop-k.marks c.loop-k.invariant.state (omega (arith, taken)) x h);
    })

pub returns-clause-unmarked : goal.returns-clause-unmarked
returns-clause-unmarked g c =
    let p : List ℕ = take c.loop-k.k c.loop-k.placed in
    let taken = length-take-le c.loop-k.k c.loop-k.placed (omega arith) in
    λ i d lt.
    let h = Contains-get_or c.args.window.now i d lt in
    c.loop-k.invariant.state.cleared _ h (state-whole c.args.graph.now.edges c.args.window.now p c.args.graph.now.nodes c.loop-k.waiting c.loop-k.marks c.loop-k.invariant.state (omega (arith, taken)) _ h)

pub returns-clause-empty : goal.returns-clause-empty
returns-clause-empty g c =
    let p : List ℕ = take c.loop-k.k c.loop-k.placed in
    let taken = length-take-le c.loop-k.k c.loop-k.placed (omega arith) in
    held-empty c.loop-k.ready c.loop-k.kept c.loop-k.waiting c.loop-k.marks c.args.window.now c.loop-k.invariant.free c.loop-k.invariant.state.waits.only
    (λ x h. c.loop-k.invariant.state.cleared x h (state-whole c.args.graph.now.edges c.args.window.now p c.args.graph.now.nodes c.loop-k.waiting c.loop-k.marks c.loop-k.invariant.state (omega (arith, taken)) x h))
