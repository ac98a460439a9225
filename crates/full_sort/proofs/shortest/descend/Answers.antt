use Rattle.std.proofs.Common.{◌≡◌, ◌<◌, ◌+◌, ◌-◌, ◌∙◌, ◌++◌, ◌∷◌, [], ℕ, suc, List, length, arith, subst, sym, ap, append_assoc, append-nil}
use Rattle.std.proofs.lemmas.List.{length_push}
use Rattle.full_sort.specs.Levels.{IsShortest}
use Rattle.full_sort.proofs.Descents.{IsDescent, descent_step, distance_of, some_below, last_edge, descent_cycle}
use Rattle.full_sort.proofs.shortest.descend.Goals as goal

-- edges lead between nodes
inside_of : (E : ℕ → ℕ → Type 0) (m n : ℕ) → m ≡ n → ((a b : ℕ) → E a b → (a < m) × (b < m)) → (a b : ℕ) → E a b → (a < n) × (b < n)
inside_of E m n e inside = subst (λ (k : ℕ). (a b : ℕ) → E a b → (a < k) × (b < k)) e inside

pub least_of_level-current-requires-clause-some : goal.least_of_level-current-requires-clause-some
least_of_level-current-requires-clause-some g c =
    let E = g.P.Pairs.edges c.args.pairs.now in
    let n = g.P.Pairs.node_count c.args.pairs.now in
    let level = c.loop-level.level in
    let i = c.loop-level.invariant in
    let few = i.few in
    let one : level ≡ (level - 1) + 1 = omega arith in
    some_below E n c.args.start (c.args.distance - 1) (inside_of E c.nodes-nodes.result n c.nodes-nodes.ensures.count c.nodes-nodes.ensures.inside) c.args.levels.now c.requires.levelled
    c.loop-level.current (level - 1) (subst (λ (m : ℕ). IsShortest E c.loop-level.current c.args.start m) one i.distance_is) (omega arith) (omega (arith, few))

pub loop-level-preserved : goal.loop-level-preserved
loop-level-preserved g c =
    let E = g.P.Pairs.edges c.args.pairs.now in
    let n = g.P.Pairs.node_count c.args.pairs.now in
    let levels = c.args.levels.now in
    let level = c.loop-level.level in
    let y = c.least_of_level-current.result in
    let i = c.loop-level.invariant in
    let few = i.few in
    let count = i.count in
    let next = c.least_of_level-current.ensures in
    let old = i.taken in
    let list : c.push-in-loop-level.new.self.list ≡ c.loop-level.cycle.list ++ y ∷ [] = ap (λ r. r.list) c.push-in-loop-level.ensures in
    let longer : length c.push-in-loop-level.new.self.list ≡ length c.loop-level.cycle.list + 1 = ap length list ∙ length_push c.loop-level.cycle.list y in
    let one : suc (level - 1) ≡ level = omega arith in
    record {
      inside = next.in_range;
      distance_is =
          distance_of E n c.args.start (c.args.distance - 1) (inside_of E c.nodes-nodes.result n c.nodes-nodes.ensures.count c.nodes-nodes.ensures.inside) levels c.requires.levelled
          y (level - 1) next.in_range (omega arith) next.level;
      some = omega arith;
      few = omega (arith, few);
      room = ap (λ r. r.room) c.push-in-loop-level.ensures ∙ i.room;
      count = omega (arith, longer, count);
      taken = (
        old.0 ++ y ∷ [],
        list ∙ ap (λ (xs : List ℕ). xs ++ y ∷ []) old.1,
        (λ tail d.
            subst (IsDescent E n levels c.args.start c.args.start c.args.distance) (sym (append_assoc old.0 (y ∷ []) tail))
            (old.2 (y ∷ tail) (subst (λ (m : ℕ). IsDescent E n levels c.args.start c.loop-level.current m (y ∷ tail)) one
            (descent_step E n levels c.args.start c.loop-level.current y (level - 1) tail (omega arith)
            (record { edge = next.edge; has_level = next.level; inside = next.in_range; least = next.least }) d)))),
      );
    }

pub returns-clause-first : goal.returns-clause-first
returns-clause-first g c =
    let E = g.P.Pairs.edges c.args.pairs.now in
    let n = g.P.Pairs.node_count c.args.pairs.now in
    let levels = c.args.levels.now in
    let i = c.loop-level.invariant in
    let some = i.some in
    let one : 1 ≡ c.loop-level.level = omega (arith, some) in
    let inside = inside_of E c.nodes-nodes.result n c.nodes-nodes.ensures.count c.nodes-nodes.ensures.inside in
    let old = i.taken in
    let edge : E c.loop-level.current c.args.start =
    last_edge E n c.args.start (c.args.distance - 1) inside levels c.requires.levelled c.loop-level.current
    (subst (λ (m : ℕ). IsShortest E c.loop-level.current c.args.start m) (sym one) i.distance_is) in
    let whole = old.2 [] (subst (λ (m : ℕ). IsDescent E n levels c.args.start c.loop-level.current m []) one edge) in (
      old.0,
      old.1,
      descent_cycle E n c.args.start (c.args.distance - 1) inside levels c.requires.levelled old.0 c.args.distance c.requires.start (omega (arith, c.requires.some)) c.requires.length
          (subst (IsDescent E n levels c.args.start c.args.start c.args.distance) (append-nil old.0) whole),
    )
