-- The three targets at hand are raised one after another.
use Rattle.std.proofs.Common.{◌≡◌, ◌∙◌, ℕ, ◌+◌, ◌<◌, List, get_or, set, ap, subst, arith, refl, get_or-set_same, get_or-set_other}
use Rattle.std.proofs.lemmas.List.{length-set, take_all}
use Rattle.digraph.specs.Digraph.{targets_from}
use Rattle.full_sort.specs.Ready.{times_in}
use Rattle.full_sort.proofs.Raises.{list-raised, list-room, near-between, spare-raised}
use Rattle.full_sort.proofs.Releases.{near-inside, targets-inside}
use Rattle.full_sort.proofs.waiting.raise_near.Goals as goal

pub loop-target-init : goal.loop-target-init
loop-target-init g c =
    let n : ℕ = c.args.graph.now.nodes in
    let nodes = c.nodes.ensures.count in
    let long = c.requires.nodes in
    let written : get_or (set c.args.waiting.now c.nodes.result 0) n 0 ≡ 0 =
    subst (λ (m : ℕ). get_or (set c.args.waiting.now c.nodes.result 0) m 0 ≡ 0) nodes (get_or-set_same c.args.waiting.now c.nodes.result 0 0 (omega (arith, nodes, long))) in
    record {
      counted = λ t lt. let kept = get_or-set_other c.args.waiting.now c.nodes.result t 0 0 (λ same. omega (arith, same, lt, nodes)) in omega (arith, kept);
      spare = omega (arith, written);
      long = length-set c.args.waiting.now c.nodes.result 0 ∙ long;
    }

pub bounds-waiting-target : goal.bounds-waiting-target
bounds-waiting-target g c =
    let n : ℕ = c.args.graph.now.nodes in
    let tell = c.near_targets-target-items.ensures in
    let size = tell.long in
    let inside = near-inside (targets_from c.args.graph.now.edges c.args.node) c.near_targets-target-items.result.now n tell.long tell.at
    (targets-inside c.args.graph.now.edges c.args.node n c.nodes.ensures.sound.ends) c.loop-target.target-index (omega (arith, size)) in
    let long = c.loop-target.invariant.long in
    omega (arith, inside, long)

pub bounds-waiting-target-in-loop-target : goal.bounds-waiting-target-in-loop-target
bounds-waiting-target-in-loop-target g c =
    let n : ℕ = c.args.graph.now.nodes in
    let tell = c.near_targets-target-items.ensures in
    let size = tell.long in
    let inside = near-inside (targets_from c.args.graph.now.edges c.args.node) c.near_targets-target-items.result.now n tell.long tell.at
    (targets-inside c.args.graph.now.edges c.args.node n c.nodes.ensures.sound.ends) c.loop-target.target-index (omega (arith, size)) in
    let long = c.loop-target.invariant.long in
    omega (arith, inside, long)

pub overflow_add-waiting : goal.overflow_add-waiting
overflow_add-waiting g c =
    let n : ℕ = c.args.graph.now.nodes in
    let items : List ℕ = c.near_targets-target-items.result.now in
    let i : ℕ = c.loop-target.target-index in
    let tell = c.near_targets-target-items.ensures in
    let long = tell.long in
    let low : i < 3 = omega (arith, long) in
    let inside = near-inside (targets_from c.args.graph.now.edges c.args.node) items n tell.long tell.at (targets-inside c.args.graph.now.edges c.args.node n c.nodes.ensures.sound.ends) i low in
    let fits = list-room items i (get_or items i 0) (omega (arith, long, low)) refl n inside c.args.waiting.now c.loop-target.waiting c.loop-target.invariant.long c.loop-target.invariant.counted low c.loop-target.invariant.spare
    (λ t lt. let same = near-between c.args.graph.now.edges c.args.node n items c.requires.few tell.long tell.at t lt in let most = c.requires.room t lt in omega (arith, same, most)) in
    omega (arith, fits)

pub loop-target-preserved : goal.loop-target-preserved
loop-target-preserved g c =
    let n : ℕ = c.args.graph.now.nodes in
    let items : List ℕ = c.near_targets-target-items.result.now in
    let i : ℕ = c.loop-target.target-index in
    let ws : List ℕ = c.loop-target.waiting in
    let x : ℕ = get_or items i 0 in
    let tell = c.near_targets-target-items.ensures in
    let long = tell.long in
    let low : i < 3 = omega (arith, long) in
    let inside = near-inside (targets_from c.args.graph.now.edges c.args.node) items n tell.long tell.at (targets-inside c.args.graph.now.edges c.args.node n c.nodes.ensures.sound.ends) i low in
    record {
      counted = list-raised items i x (omega (arith, long, low)) refl n inside c.args.waiting.now ws c.loop-target.invariant.long c.loop-target.invariant.counted;
      spare = spare-raised ws i x n c.loop-target.invariant.long inside c.loop-target.invariant.spare;
      long = length-set ws x (get_or ws x 0 + 1) ∙ c.loop-target.invariant.long;
    }

pub returns-clause-more : goal.returns-clause-more
returns-clause-more g c = λ t lt.
    let tell = c.near_targets-target-items.ensures in
    let same = near-between c.args.graph.now.edges c.args.node c.args.graph.now.nodes c.near_targets-target-items.result.now c.requires.few tell.long tell.at t lt in
    let so_far = c.loop-target.invariant.counted t lt in
    let all = ap (λ (xs : List ℕ). times_in xs t) (take_all c.loop-target.target-index c.near_targets-target-items.result.now (omega arith)) in
    omega (arith, same, so_far, all)
