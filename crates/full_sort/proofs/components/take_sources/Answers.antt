use Rattle.std.proofs.Common.{◌≡◌, ◌≢◌, ◌∙◌, ℕ, List, length, get_or, take, arith, refl, sym, ap, subst}
use Rattle.std.proofs.lemmas.List.{take-take}
use Rattle.digraph.specs.Digraph.{HasEdge, in_degree, source_of, target_of}
use Rattle.full_sort.proofs.EdgeWalks.{edge_at, number_of_edge, stands_here, walk_all, walk_begin, walk_kept, walk_on}
use Rattle.full_sort.proofs.Numbering.{gives_none, gives_more}
use Rattle.full_sort.proofs.Ticks.{ticks-begin, ticks-on, with_key-all}
use Rattle.full_sort.proofs.components.take_sources.Goals as goal

pub loop-next-init : goal.loop-next-init
loop-next-init g c =
    let es = c.args.graph.now.edges in
    let node = c.args.node in
    let first = c.first_in-next.ensures in
    let ticked = ticks-begin (λ x. x.1) es node c.args.steps.now c.first_in-next.new.steps (length es) c.first_in-next.result (omega arith) first.last first.ticks in
    let all = with_key-all (λ x. x.1) es node in
    record {
      walk = walk_begin (target_of es) node (length es) (λ (e : ℕ). get_or c.args.numbers.now (source_of es e) 0 ≢ 0) c.first_in-next.result first.last;
      listed = c.requires.listed;
      few = c.requires.few;
      more = omega arith;
      front = refl;
      given = gives_none (λ (t : ℕ). HasEdge es t node) c.args.number c.args.numbers.now;
      ticked = omega (arith, ticked, all);
    }

pub loop-next-preserved : goal.loop-next-preserved
loop-next-preserved g c =
    let es = c.args.graph.now.edges in
    let node = c.args.node in
    let edge = c.in-Some.edge in
    let i = c.loop-next.invariant in
    let n = c.take_node-taken.ensures in
    let old = c.loop-next.numbers in
    let new = c.take_node-taken.new.numbers in
    let Taken : ℕ → Type 0 = λ e. get_or new (source_of es e) 0 ≢ 0 in
    let more = i.more in
    let ticks = c.next_in-next.ensures.ticks in
    let grown = n.more in
    let source : c.source.result ≡ source_of es edge = c.source.ensures.value in
    let walk = walk_kept (target_of es) node (length es) (λ (e : ℕ). get_or old (source_of es e) 0 ≢ 0) Taken c.loop-next.next
    (λ e some none. some (sym (n.given.kept (source_of es e) some) ∙ none)) i.walk in
    let here = stands_here (target_of es) node (length es) Taken edge c.loop-next.next c.in-Some.is walk in
    record {
      walk = walk_on (target_of es) node (length es) Taken edge c.loop-next.next c.next_in-next.result c.in-Some.is c.next_in-next.ensures.last
          (subst (λ (t : ℕ). get_or new t 0 ≢ 0) source n.taken) walk;
      listed = n.listed;
      few = n.few;
      more = omega (arith, more, grown);
      front =
          sym (take-take c.args.count c.loop-next.taken c.take_node-taken.new.queue more) ∙ ap (λ (xs : List ℕ). take c.args.count xs) n.front
          ∙ take-take c.args.count c.loop-next.taken c.loop-next.queue more ∙ i.front;
      given = gives_more (λ (t : ℕ). HasEdge es t node) (λ (t : ℕ). t ≡ c.source.result) c.args.number c.args.numbers.now old new i.given
          (λ t none same. subst (λ (s : ℕ). HasEdge es s node) (sym (same ∙ source)) (subst (HasEdge es (source_of es edge)) here.1 (edge_at es edge here.0))) n.given;
      ticked = ticks-on (λ x. x.1) es node c.args.steps.now c.loop-next.steps c.next_in-next.new.steps (in_degree es node) edge c.loop-next.next c.next_in-next.result c.in-Some.is (let below = here.0 in omega (arith, below)) here.1
          c.next_in-next.ensures.last i.ticked ticks;
    }

pub returns-clause-taken : goal.returns-clause-taken
returns-clause-taken g c = λ t h.
    let es = c.args.graph.now.edges in
    let e = number_of_edge es t c.args.node h in
    subst (λ (s : ℕ). get_or c.loop-next.numbers s 0 ≢ 0) e.2
    (walk_all (target_of es) c.args.node (length es) (λ (k : ℕ). get_or c.loop-next.numbers (source_of es k) 0 ≢ 0) c.loop-next.next (λ x is. c.in_default.not-Some x is)
    c.loop-next.invariant.walk e.0 e.1 e.3)
