-- Each node of the window is marked, and its edges are counted.
use Rattle.std.proofs.Common.{◌≡◌, ◌∙◌, ℕ, ◌<◌, List, Contains, true, length, take, subst, sym, ap, arith}
use Rattle.std.specs.Prelude.{All}
use Rattle.std.proofs.lemmas.List.{take_all}
use Rattle.std.proofs.lemmas.List.Sums.{sum_by_more, sum_by_more_le}
use Rattle.std.proofs.lemmas.List.Elements.{All-get_or, All-contains}
use Rattle.digraph.specs.Digraph.{out_degree}
use Rattle.full_sort.specs.Waiting.{count_between, count_into, is_marked}
use Rattle.full_sort.proofs.Edges.{into-le}
use Rattle.full_sort.proofs.Free.{only-set}
use Rattle.full_sort.proofs.Marked.{marked-all}
use Rattle.full_sort.proofs.State.{marks-more}
use Rattle.full_sort.proofs.window.count_window.Goals as goal

pub raise-requires-clause-room : goal.raise-requires-clause-room
raise-requires-clause-room g c = λ t lt.
    let es : List (ℕ × ℕ) = c.args.graph.now.edges in
    let so_far = c.loop-node.invariant.counted t lt in
    let more = sum_by_more_le (λ (a : ℕ). count_between es a t) c.args.window.now c.loop-node.node-index 0 (omega arith) in
    let most = into-le es c.args.window.now t c.requires.once in
    let few = c.requires.few in
    omega (arith, so_far, more, most, few)

pub loop-node-preserved : goal.loop-node-preserved
loop-node-preserved g c =
    let es : List (ℕ × ℕ) = c.args.graph.now.edges in
    let xs : List ℕ = c.args.window.now in
    let i : ℕ = c.loop-node.node-index in
    let lt : i < length xs = omega arith in
    let node = All-get_or (λ (n : ℕ). n < c.args.graph.now.nodes) xs i 0 lt c.requires.window in
    record {
      counted = λ t below.
          let so_far = c.loop-node.invariant.counted t below in
          let more = sum_by_more (λ (a : ℕ). count_between es a t) xs i 0 lt in
          let step = c.raise.ensures.more t below in
          omega (arith, so_far, more, step);
      marked = marks-more c.loop-node.marks xs i lt (omega (arith, node)) c.loop-node.invariant.marked;
      only = only-set c.loop-node.marks xs i lt (omega (arith, node)) c.loop-node.invariant.only;
      ticked =
          let so_far = c.loop-node.invariant.ticked in
          let more = sum_by_more (out_degree es) xs i 0 lt in
          let step = c.raise.ensures.ticks in
          omega (arith, so_far, more, step);
    }

pub returns-clause-counted : goal.returns-clause-counted
returns-clause-counted g c =
    let xs : List ℕ = c.args.window.now in
    let all : take c.loop-node.node-index xs ≡ xs = take_all c.loop-node.node-index xs (omega arith) in
    let marked : All (λ (z : ℕ). is_marked c.loop-node.marks z ≡ true) xs = subst (All (λ (z : ℕ). is_marked c.loop-node.marks z ≡ true)) all c.loop-node.invariant.marked in
    record {
      only = λ t mark. subst (λ (ys : List ℕ). Contains ys t) all (c.loop-node.invariant.only t mark);
      counted = λ t lt.
          c.loop-node.invariant.counted t lt
          ∙ ap (λ (ys : List ℕ). count_into c.args.graph.now.edges ys t) (all ∙ sym (marked-all c.loop-node.marks xs (λ z h. All-contains (λ (z : ℕ). is_marked c.loop-node.marks z ≡ true) xs z marked h)));
    }
