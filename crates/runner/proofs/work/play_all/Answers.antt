use Rattle.std.proofs.Common.{◌≡◌, ◌∙◌, [], ◌∷◌, ◌++◌, List, length, ap, sym, subst, arith, append_assoc}
use Rattle.std.proofs.lemmas.Result.{on_ok_weaker}
use Rattle.tally.specs.declared.outcome.Outcome.{Outcome}
use Rattle.runner.specs.Runners.{AreOutcomesOf}
use Rattle.runner.proofs.DrawnSoFar.{length_lent}
use Rattle.runner.proofs.Played.{played-all, played-push}
use Rattle.runner.proofs.work.play_all.Goals as goal

pub runs-preserved : goal.runs-preserved
runs-preserved g c =
    let job = c.args.job.now in
    let i = c.runs.invariant in
    let outcome = c.in_ok-outcome.ensures.outcome in
    let offered = c.in_ok-offer_full.ensures in
    let first = c.requires.runners.0 in
    let most = c.requires.runners.1 in
    let low = c.runs-test.true in
    let grown : c.offer_full.new.pass.list ++ c.offer_full.new.batch.items ≡ (c.runs.task.pass.list ++ c.runs.task.batch.items) ++ c.in_ok-outcome.outcome ∷ [] =
    offered.all ∙ ap (λ (l : List Outcome). c.runs.task.pass.list ++ l) c.in_ok-push.ensures.items ∙ sym (append_assoc c.runs.task.pass.list c.runs.task.batch.items (c.in_ok-outcome.outcome ∷ [])) in
    record {
      pass = offered.same.0;
      number = offered.same.1 ∙ i.number;
      setup = c.play_run.ensures.setup ∙ i.setup;
      words = length_lent c.runs.task.words.len c.play_run.new.words c.runs.task.words.items (c.play_run.auto.words ∙ ap length c.deref_mut.ensures.value) (sym c.deref_mut.ensures.len ∙ ap length c.deref_mut.ensures.value) ∙ i.words;
      room = omega (arith, low, most);
      played = played-push job c.args.runners c.args.task.now.pass.number c.runs.run (c.runs.task.pass.list ++ c.runs.task.batch.items) (c.offer_full.new.pass.list ++ c.offer_full.new.batch.items) c.in_ok-outcome.outcome outcome.0 (omega (arith, first)) low i.played
          outcome.1 outcome.2 grown;
    }

pub returns-clause-all : goal.returns-clause-all
returns-clause-all g c =
    let job = c.args.job.now in
    let k = c.args.task.now.pass.number in
    let all = played-all job c.args.runners k c.runs.run (c.runs.task.pass.list ++ c.runs.task.batch.items) c.runs-test.false c.runs.invariant.played in
    on_ok_weaker c.offer.result (λ o. subst (AreOutcomesOf job c.args.runners k) (sym o.all) all) c.offer.ensures.offered
