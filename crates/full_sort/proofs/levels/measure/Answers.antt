use Rattle.std.proofs.Common.{◌≡◌, ◌<◌, ◌+◌, ◌-◌, ◌∙◌, ℕ, List, All, take, arith, subst, sym}
use Rattle.full_sort.specs.Levels.{IsLevelled, IsFront}
use Rattle.full_sort.proofs.LevelSteps.{levelled_none}
use Rattle.full_sort.proofs.Measured.{front_start, front_inside, level_more, front_more, cycle_met, still_open, met_in_time}
use Rattle.full_sort.proofs.levels.measure.Goals as goal

pub loop-done-init : goal.loop-done-init
loop-done-init g c =
    let E = g.P.Pairs.edges c.args.pairs.now in
    let nodes = c.nodes-nodes.result in
    record {
      levelled = levelled_none E nodes c.args.end c.nodes-nodes.ensures.inside c.args.levels.now (c.requires.levels ∙ sym c.nodes-nodes.ensures.count) (λ x lt. c.requires.clear x);
      front = front_start E c.args.end c.args.list.now (omega arith);
      few = omega arith;
      open_end = c.requires.clear c.args.end;
    }

-- the nodes of the front are nodes
nodes_of_front : (E : ℕ → ℕ → Type 0) (m n end : ℕ) → m ≡ n → ((a b : ℕ) → E a b → (a < m) × (b < m)) → end < m → (k : ℕ) (list : List ℕ) → IsFront E end k list → All (λ y. y < n) list
nodes_of_front E m n end same inside lt k list front = subst (λ (j : ℕ). All (λ y. y < j) list) same (front_inside E m end inside lt k list front)

pub touches-requires-clause-list : goal.touches-requires-clause-list
touches-requires-clause-list g c =
    nodes_of_front (g.P.Pairs.edges c.args.pairs.now) c.nodes-nodes.result (g.P.Pairs.node_count c.args.pairs.now) c.args.end c.nodes-nodes.ensures.count c.nodes-nodes.ensures.inside
    (omega arith) c.loop-done.done (take c.loop-done.count c.loop-done.list) c.loop-done.invariant.front

pub add_level-requires-clause-list : goal.add_level-requires-clause-list
add_level-requires-clause-list g c =
    nodes_of_front (g.P.Pairs.edges c.args.pairs.now) c.nodes-nodes.result (g.P.Pairs.node_count c.args.pairs.now) c.args.end c.nodes-nodes.ensures.count c.nodes-nodes.ensures.inside
    (omega arith) c.loop-done.done (take c.loop-done.count c.loop-done.list) c.loop-done.invariant.front

pub returns-then-touches-clause-levelled : goal.returns-then-touches-clause-levelled
returns-then-touches-clause-levelled g c =
    let E = g.P.Pairs.edges c.args.pairs.now in
    let done : c.loop-done.done ≡ (c.loop-done.done + 1) - 1 = omega arith in
    subst (λ (n : ℕ). IsLevelled E n c.args.end ((c.loop-done.done + 1) - 1) c.loop-done.levels) c.nodes-nodes.ensures.count
    (subst (λ (m : ℕ). IsLevelled E c.nodes-nodes.result c.args.end m c.loop-done.levels) done c.loop-done.invariant.levelled)

pub returns-then-touches-clause-length : goal.returns-then-touches-clause-length
returns-then-touches-clause-length g c =
    let E = g.P.Pairs.edges c.args.pairs.now in
    cycle_met E c.nodes-nodes.result c.args.end c.nodes-nodes.ensures.inside c.loop-done.done c.loop-done.levels (take c.loop-done.count c.loop-done.list) (omega arith)
    c.loop-done.invariant.levelled c.loop-done.invariant.front c.loop-done.invariant.open_end (c.touches.ensures.0 c.if-touches.true)

pub loop-done-preserved : goal.loop-done-preserved
loop-done-preserved g c =
    let E = g.P.Pairs.edges c.args.pairs.now in
    let nodes = c.nodes-nodes.result in
    let levelled = level_more E nodes c.args.end c.nodes-nodes.ensures.inside c.loop-done.done (take c.loop-done.count c.loop-done.list) c.loop-done.levels c.add_level.new.levels
    c.loop-done.invariant.levelled c.loop-done.invariant.front
    c.add_level.ensures in
    record {
      levelled = levelled;
      front = front_more E nodes c.args.end c.nodes-nodes.ensures.inside c.loop-done.done c.add_level.new.levels (take c.list_level-count.result c.list_level-count.new.list) levelled c.list_level-count.ensures.lists;
      few = c.list_level-count.ensures.few;
      open_end =
          still_open E nodes c.args.end c.nodes-nodes.ensures.inside (c.loop-done.done + 1) (take c.loop-done.count c.loop-done.list) c.loop-done.levels c.add_level.new.levels
          c.loop-done.invariant.open_end (λ t. let yes = c.touches.ensures.1 t in let no = c.if-touches.false in cc) c.add_level.ensures;
    }

pub unreachable-requires : goal.unreachable-requires
unreachable-requires g c =
    let E = g.P.Pairs.edges c.args.pairs.now in
    met_in_time E c.nodes-nodes.result c.args.end c.nodes-nodes.ensures.inside c.loop-done.done c.loop-done.levels c.loop-done-test.false (omega arith) c.loop-done.invariant.levelled c.requires.cycle c.loop-done.invariant.open_end
