use Rattle.std.proofs.Common.{◌∙◌, ◌+◌, ◌<◌, List, ℕ, [], arith, get_or, length, sym, subst}
use Rattle.graph_model.specs.StaticGraph.{StaticGraph}
use Rattle.chunk_pool.specs.Shares.{AreMeant, IsOrdered, IsSettled, IsSound, IsWalker, StaySettled, TakesSignature}
use Rattle.chunk_pool.proofs.ChunkWalks.{IsWalkedTo, no_base, range-more, range-none, walked-more, walked-none}
use Rattle.chunk_pool.proofs.Settling.{settled-more}
use Rattle.chunk_pool.proofs.walker.Walker.walk.Goals as goal

pub loop-place-init : goal.loop-place-init
loop-place-init g c =
    let s = c.args.self.now.checker.fixed in
    let counts = c.args.share.now.counts in
    let base = c.begin.new.self.checker.base in
    record {
      from = omega arith;
      walker = c.begin.ensures.walker;
      fixed = c.begin.ensures.fixed;
      ordered = λ found is. absurd (no_base found (sym c.begin.ensures.none ∙ is));
      walked = subst (λ (part : List (List ℕ)). IsWalkedTo s part base counts counts) (sym (range-none c.args.signatures.now c.args.first)) (walked-none s base counts c.begin.ensures.none);
      sound = c.requires.sound;
      settled = λ place from below. absurd (omega (arith, from, below));
      kept = λ place h. h;
    }

pub take-requires-clause-meant : goal.take-requires-clause-meant
take-requires-clause-meant g c = subst (λ (s : StaticGraph). AreMeant s.test c.args.signatures.now) (sym c.loop-place.invariant.fixed) c.requires.meant

pub loop-place-preserved : goal.loop-place-preserved
loop-place-preserved g c =
    let s = c.args.self.now.checker.fixed in
    let signatures = c.args.signatures.now in
    let first = c.args.first in
    let l = c.loop-place in
    let now = c.take.new.self in
    let share = c.take.new.share in
    let e = c.in_ok-take.ensures in
    let same = l.invariant.fixed in
    let from = l.invariant.from in
    let below = c.loop-place-test.true in
    let within = c.requires.within in
    let inside : l.place < length signatures = omega (arith, below, within) in
    let words = get_or signatures l.place [] in
    let taken = subst (λ (f : StaticGraph). TakesSignature f words l.self.checker.base now.checker.base l.share.counts share.counts) same e.taken in
    let walked = walked-more s _ words l.self.checker.base now.checker.base c.args.share.now.counts l.share.counts share.counts l.invariant.walked taken in
    let settled = subst (λ (f : StaticGraph). IsSettled f signatures share.cycles.items l.place) same e.settled in
    let kept = subst (λ (f : StaticGraph). StaySettled f signatures l.share.cycles.items share.cycles.items) same e.kept in
    record {
      from = omega (arith, from);
      walker = subst (λ (f : StaticGraph). IsWalker f now.plan.now now.run.items now.cycle) same e.walker;
      fixed = e.fixed ∙ same;
      ordered = subst (λ (f : StaticGraph). IsOrdered f now.checker.base) same e.ordered;
      walked = subst (λ (part : List (List ℕ)). IsWalkedTo s part now.checker.base c.args.share.now.counts share.counts) (sym (range-more signatures first l.place [] from inside)) walked;
      sound = subst (λ (f : StaticGraph). IsSound f signatures share (l.place + 1)) same e.sound;
      settled = settled-more s signatures share.cycles.items first l.place (λ place low high. kept place (l.invariant.settled place low high)) settled;
      kept = λ place h. kept place (l.invariant.kept place h);
    }
