-- Each turn places the next node, and where none is ready the search is stuck.
use Rattle.std.proofs.Common.{◌≡◌, ◌∙◌, ℕ, ◌+◌, ◌<◌, List, Bool, [], ◌∷◌, ◌++◌, length, set, take, ap, subst, arith, refl, sym, true, false, Some, None, Contains}
use Rattle.std.specs.Prelude.{sum_by, replicate}
use Rattle.std.proofs.lemmas.List.{length-take-le, length-replicate, take_more_set, take_all}
use Rattle.std.proofs.lemmas.List.Elements.{All-contains, All-push}
use Rattle.orders.specs.Orders.{nodes_below}
use Rattle.orders.proofs.Below.{length-below, all-below, once-below}
use Rattle.orders.proofs.NextNodes.{next-least, stuck-none}
use Rattle.digraph.specs.Digraph.{HasEdge, out_degree}
use Rattle.full_sort.specs.Bits.{bit_of}
use Rattle.full_sort.specs.Ready.{IsHeld}
use Rattle.full_sort.specs.Waiting.{count_between, is_marked, without_marks}
use Rattle.full_sort.proofs.Edges.{degrees-all}
use Rattle.full_sort.proofs.Marked.{marked-none, sum-marked-less}
use Rattle.full_sort.proofs.State.{state-next, state-stuck, state-whole, state-enough, state-more}
use Rattle.full_sort.proofs.Gained.{falls}
use Rattle.full_sort.proofs.Holding.{front-at, front-gained-all, front-less, front-long, held-empty, held-taken, holds-begin, holds-gained, least-held, none-held}
use Rattle.full_sort.proofs.Placing.{next-more}
use Rattle.full_sort.proofs.Without.{length-without, without-push, whole-marked, whole-begin, free-begin, settled-begin, settled-taken, settled-falls}
use Rattle.full_sort.proofs.whole.place_all.Goals as goal

within : (n z : ℕ) → Contains (nodes_below n) z → z < n
within n z h = All-contains (λ (x : ℕ). x < n) (nodes_below n) z (all-below n) h

pub loop-k-init : goal.loop-k-init
loop-k-init g c =
    let nodes : ℕ = c.args.graph.now.nodes in
    let long = c.requires.counts in
    let front : List ℕ = take nodes c.args.counts.now in
    record {
      state = whole-begin nodes c.args.graph.now.edges front (λ t lt. front-at nodes c.args.counts.now long t lt ∙ c.requires.counted t lt) c.edges-edges.ensures.sound.ends;
      next = λ i lt. absurd (omega (arith, lt));
      inside = λ i d lt. absurd (omega (arith, lt));
      free = holds-begin c.args.ready.now front (replicate nodes true) (free-begin nodes c.args.ready.now front (λ t. (
        (λ one. let f = (c.requires.ready t).0 one in (f.0, front-at nodes c.args.counts.now long t f.0 ∙ f.1)),
        (λ f. (c.requires.ready t).1 (f.0, sym (front-at nodes c.args.counts.now long t f.0) ∙ f.1)),
      )));
      settled = settled-begin nodes front (front-long nodes c.args.counts.now long);
      counts_room = long;
      kept = tt;
      room = refl;
      ticked = ap (λ (xs : List ℕ). c.args.steps.now + sum_by (out_degree c.args.graph.now.edges) xs) (whole-marked nodes);
      later = omega arith;
    }

pub returns-in-None-clause-none : goal.returns-in-None-clause-none
returns-in-None-clause-none g c = λ short.
    let es : List (ℕ × ℕ) = c.args.graph.now.edges in
    let nodes : ℕ = c.args.graph.now.nodes in
    let p : List ℕ = take c.loop-k.k c.loop-k.placed in
    let marks : List Bool = without_marks (replicate nodes true) p in
    let taken = length-take-le c.loop-k.k c.loop-k.placed (omega arith) in
    let size = length-below nodes in
    stuck-none (HasEdge es) (nodes_below nodes) p
    (state-stuck es (nodes_below nodes) p nodes (take nodes c.loop-k.counts) marks c.loop-k.invariant.state (within nodes) (omega (arith, taken, size, short))
    (least-held c.loop-k.ready c.loop-k.kept (take c.args.graph.now.nodes c.loop-k.counts) marks (nodes_below nodes) c.loop-k.invariant.free c.loop-k.invariant.state.waits.only c.take_ready.new.ready None c.in-None.ensures))

pub returns-in-None-clause-empty : goal.returns-in-None-clause-empty
returns-in-None-clause-empty g c = none-held c.loop-k.ready c.loop-k.kept c.take_ready.new.ready c.in-None.ensures

pub returns-in-None-clause-bound : goal.returns-in-None-clause-bound
returns-in-None-clause-bound g c =
    let all = degrees-all c.args.graph.now.edges c.args.graph.now.nodes c.edges-edges.ensures.sound.ends in
    let so_far = c.loop-k.invariant.ticked in
    omega (arith, all, so_far)

pub returns-clause-bound : goal.returns-clause-bound
returns-clause-bound g c =
    let all = degrees-all c.args.graph.now.edges c.args.graph.now.nodes c.edges-edges.ensures.sound.ends in
    let so_far = c.loop-k.invariant.ticked in
    omega (arith, all, so_far)

pub returns-clause-ticks : goal.returns-clause-ticks
returns-clause-ticks g c = λ full.
    let nodes : ℕ = c.args.graph.now.nodes in
    let same : c.loop-k.k ≡ length c.args.placed.now = omega arith in
    let p : List ℕ = take c.loop-k.k c.loop-k.placed in
    let marks : List Bool = without_marks (replicate nodes true) p in
    let taken = length-take-le c.loop-k.k c.loop-k.placed (omega arith) in
    let size = length-below nodes in
    let all = degrees-all c.args.graph.now.edges nodes c.edges-edges.ensures.sound.ends in
    let none = ap (λ (xs : List ℕ). sum_by (out_degree c.args.graph.now.edges) xs) (marked-none marks (nodes_below nodes) (λ z h.
    c.loop-k.invariant.state.cleared z h (state-whole c.args.graph.now.edges (nodes_below nodes) p nodes (take nodes c.loop-k.counts) marks c.loop-k.invariant.state (omega (arith, taken, size)) z h))) in
    let so_far = c.loop-k.invariant.ticked in
    omega (arith, all, so_far, none)

pub release_all-kept-requires-clause-node : goal.release_all-kept-requires-clause-node
release_all-kept-requires-clause-node g c =
    let nodes : ℕ = c.args.graph.now.nodes in
    let marks : List Bool = without_marks (replicate nodes true) (take c.loop-k.k c.loop-k.placed) in
    within nodes c.in-Some.node (least-held c.loop-k.ready c.loop-k.kept (take c.args.graph.now.nodes c.loop-k.counts) marks (nodes_below nodes) c.loop-k.invariant.free c.loop-k.invariant.state.waits.only c.take_ready.new.ready (Some c.in-Some.node) c.in-Some.ensures).0

pub release_all-kept-requires-clause-enough : goal.release_all-kept-requires-clause-enough
release_all-kept-requires-clause-enough g c = λ t lt.
    let nodes : ℕ = c.args.graph.now.nodes in
    let p : List ℕ = take c.loop-k.k c.loop-k.placed in
    let marks : List Bool = without_marks (replicate nodes true) p in
    let enough = state-enough c.args.graph.now.edges (nodes_below nodes) p nodes (take nodes c.loop-k.counts) marks c.loop-k.invariant.state (within nodes)
    c.in-Some.node (least-held c.loop-k.ready c.loop-k.kept (take c.args.graph.now.nodes c.loop-k.counts) marks (nodes_below nodes) c.loop-k.invariant.free c.loop-k.invariant.state.waits.only c.take_ready.new.ready (Some c.in-Some.node) c.in-Some.ensures) t lt in
    let at = front-at nodes c.loop-k.counts c.loop-k.invariant.counts_room t lt in
    omega (arith, enough, at)

pub loop-k-preserved : goal.loop-k-preserved
loop-k-preserved g c =
    let es : List (ℕ × ℕ) = c.args.graph.now.edges in
    let nodes : ℕ = c.args.graph.now.nodes in
    let window : List ℕ = nodes_below nodes in
    let k : ℕ = c.loop-k.k in
    let p : List ℕ = take k c.loop-k.placed in
    let x : ℕ = c.in-Some.node in
    let all : List Bool = replicate nodes true in
    let marks : List Bool = without_marks all p in
    let long = c.loop-k.invariant.counts_room in
    let long_after = c.release_all-kept.ensures.counts ∙ long in
    let waiting : List ℕ = take nodes c.loop-k.counts in
    let after : List ℕ = take nodes c.release_all-kept.new.counts in
    let room : k < length c.loop-k.placed = omega arith in
    let least = least-held c.loop-k.ready c.loop-k.kept (take c.args.graph.now.nodes c.loop-k.counts) marks (nodes_below nodes) c.loop-k.invariant.free c.loop-k.invariant.state.waits.only c.take_ready.new.ready (Some x) c.in-Some.ensures in
    let inside = within nodes x least.0 in
    let size : length marks ≡ nodes = length-without all p ∙ length-replicate nodes true in
    let below : x < length marks = omega (arith, inside, size) in
    let longer : take (k + 1) (set c.loop-k.placed k x) ≡ p ++ x ∷ [] = take_more_set c.loop-k.placed k x room in
    let cleared : without_marks all (p ++ x ∷ []) ≡ set marks x false = without-push all p x in
    let settled = settled-taken waiting marks x least.1.0 c.loop-k.invariant.settled in
    let less = front-less nodes c.loop-k.counts c.release_all-kept.new.counts long long_after (count_between es x) c.release_all-kept.ensures.less in
    let fall = falls waiting after nodes (count_between es x) (front-long nodes c.release_all-kept.new.counts long_after) less in
    record {
      state = rw (longer, cleared) (state-more es window p nodes waiting marks c.loop-k.invariant.state (within nodes) x (once-below nodes) size least after less);
      next = next-more (HasEdge es) window c.loop-k.placed k x room c.loop-k.invariant.next (state-next es window p nodes waiting marks c.loop-k.invariant.state (within nodes) x least);
      inside = rw longer (All-push (λ (n : ℕ). n < nodes) p x c.loop-k.invariant.inside inside);
      free = rw (longer, cleared) (holds-gained c.take_ready.new.ready c.release_all-kept.new.ready c.release_all-kept.result waiting after (set marks x false)
          (held-taken c.loop-k.ready c.loop-k.kept waiting marks window c.loop-k.invariant.free c.loop-k.invariant.state.waits.only c.take_ready.new.ready x below c.in-Some.ensures) settled fall
          (front-gained-all nodes c.loop-k.counts c.release_all-kept.new.counts long long_after (IsHeld c.release_all-kept.new.ready c.release_all-kept.result) (λ t. bit_of c.take_ready.new.ready t ≡ 1) (λ t. is_marked c.args.all.now t ≡ true) c.requires.marked c.release_all-kept.ensures.gained));
      settled = rw (longer, cleared) (settled-falls waiting after (set marks x false) settled fall);
      counts_room = long_after;
      kept = c.release_all-kept.ensures.kept;
      room = c.release_all-kept.ensures.room ∙ c.in-Some.ensures.0 ∙ c.loop-k.invariant.room;
      ticked =
          let so_far = c.loop-k.invariant.ticked in
          let more = sum-marked-less (out_degree es) marks window x (once-below nodes) least.0 least.1.1 below in
          let step = c.release_all-kept.ensures.ticks in
          rw (longer, cleared) (omega (arith, so_far, more, step));
      later =
          let so_far = c.loop-k.invariant.later in
          let step = c.release_all-kept.ensures.ticks in
          omega (arith, so_far, step);
    }

pub returns-clause-found : goal.returns-clause-found
returns-clause-found g c = λ full.
    let es : List (ℕ × ℕ) = c.args.graph.now.edges in
    let nodes : ℕ = c.args.graph.now.nodes in
    let p : List ℕ = take c.loop-k.k c.loop-k.placed in
    let taken = length-take-le c.loop-k.k c.loop-k.placed (omega arith) in
    let size = length-below nodes in
    let all : p ≡ c.loop-k.placed = take_all c.loop-k.k c.loop-k.placed (omega arith) in
    next-least (HasEdge es) (nodes_below nodes) c.loop-k.placed (record {
      next = λ i lt. c.loop-k.invariant.next i (omega (arith, lt));
      whole = λ x h. subst (λ (q : List ℕ). Contains q x) all (state-whole es (nodes_below nodes) p nodes (take nodes c.loop-k.counts) (without_marks (replicate nodes true) p) c.loop-k.invariant.state (omega (arith, taken, size)) x h);
    })

pub returns-clause-empty : goal.returns-clause-empty
returns-clause-empty g c =
    let nodes : ℕ = c.args.graph.now.nodes in
    let p : List ℕ = take c.loop-k.k c.loop-k.placed in
    let marks : List Bool = without_marks (replicate nodes true) p in
    let taken = length-take-le c.loop-k.k c.loop-k.placed (omega arith) in
    let size = length-below nodes in
    held-empty c.loop-k.ready c.loop-k.kept (take nodes c.loop-k.counts) marks (nodes_below nodes) c.loop-k.invariant.free c.loop-k.invariant.state.waits.only
    (λ x h. c.loop-k.invariant.state.cleared x h (state-whole c.args.graph.now.edges (nodes_below nodes) p nodes (take nodes c.loop-k.counts) marks c.loop-k.invariant.state (omega (arith, taken, size)) x h))
