use Rattle.std.proofs.Common.{◌∙◌, ℕ, ◌+◌, ◌*◌, ◌<◌, arith, sym, subst}
use Rattle.std.proofs.Math.Nat.{add-mod_right, mod-eq_of_lt}
use Rattle.graph_model.specs.StaticGraph.{StaticGraph}
use Rattle.chunk_pool.specs.declared.share.Counts.{Counts}
use Rattle.chunk_pool.specs.Shares.{AreMeant, IsFew, IsWalker}
use Rattle.chunk_pool.proofs.Settling.{few-more}
use Rattle.chunk_pool.proofs.Sharing.{few-none, next_first, share-none, share-walked, shares-past}
use Rattle.chunk_pool.proofs.walker.walk_counted.Goals as goal
use Rattle.chunk_pool.proofs.walker.walk_counted.Goals.{else-loop-number-test, then-loop-number-test+in_ok-walk+else-number-step-number-end}

pub loop-number-init : goal.loop-number-init
loop-number-init g c =
    let task = c.args.task.now in
    let worker = c.args.worker in
    record {
      walker = c.in_ok-walker.ensures.room;
      fixed = c.in_ok-walker.ensures.fixed;
      rest = mod-eq_of_lt {n = worker} {m = task.workers} c.requires.worker;
      few = subst (λ (counts : Counts). IsFew (worker * task.chunk) counts) (sym c.new-share.ensures.counts) (few-none (worker * task.chunk));
      share = share-none task.fixed.now task.signatures.now task.chunk task.workers worker c.requires.worker c.new-share.result c.new-share.ensures.cycles c.new-share.ensures.counts;
    }

pub walk-requires-clause-meant : goal.walk-requires-clause-meant
walk-requires-clause-meant g c = subst (λ (s : StaticGraph). AreMeant s.test c.args.task.now.signatures.now) (sym c.loop-number.invariant.fixed) c.requires.task.meant

pub loop-number-preserved : goal.loop-number-preserved
loop-number-preserved g c =
    let task = c.args.task.now in
    let l = c.loop-number in
    let now = c.walk.new.self in
    let e = c.in_ok-walk.ensures in
    let same = l.invariant.fixed in
    let end = c.min-end.ensures in
    let next = next_first l.number task.chunk task.workers c.requires.task.some_worker in
    record {
      walker = subst (λ (f : StaticGraph). IsWalker f now.plan.now now.run.items now.cycle) same e.walker;
      fixed = e.fixed ∙ same;
      rest = add-mod_right l.number task.workers ∙ l.invariant.rest;
      few = few-more c.walk.new.share.counts c.min-end.result ((l.number + task.workers) * task.chunk) (omega (arith, end, next)) e.sound.few;
      share = share-walked task.fixed.now l.walker.checker.fixed same task.signatures.now task.chunk task.workers c.args.worker c.requires.worker l.number c.min-end.result l.share c.walk.new.share l.invariant.share
          l.invariant.rest (subst (λ (n : ℕ). l.number < n) c.chunks-number-end.ensures c.loop-number-test.true) end e.walked e.sound e.settled e.kept;
    }

pub returns : goal.returns
returns g c =
    let task = c.args.task.now in
    let l = c.loop-number in
    let total = c.chunks-number-end.ensures in
    elim c.loop-number-test.branch [
      | else-loop-number-test w ↦
          let past = w.loop-number-test.false in
          shares-past task c.args.worker l.number l.share c.loop-number-test.share (omega (arith, total, past)) (sym w.share-is) l.invariant.share
      | then-loop-number-test+in_ok-walk+else-number-step-number-end w ↦
          let e = w.in_ok-walk.ensures in
          let more = share-walked task.fixed.now l.walker.checker.fixed l.invariant.fixed task.signatures.now task.chunk task.workers c.args.worker c.requires.worker l.number w.min-end.result l.share w.walk.new.share l.invariant.share
          l.invariant.rest (subst (λ (n : ℕ). l.number < n) total w.loop-number-test.true) w.min-end.ensures e.walked e.sound e.settled e.kept in
          let past = w.if-number-step-number-end.false in
          shares-past task c.args.worker (l.number + task.workers) w.walk.new.share c.loop-number-test.share (omega (arith, total, past)) (sym w.share-is) more
    ]
