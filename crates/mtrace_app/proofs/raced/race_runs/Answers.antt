use Rattle.std.proofs.Common.{◌∙◌, ℕ, ◌+◌, List, [], ◌∷◌, ◌++◌, length, sym, ap, subst, arith}
use Rattle.tally.specs.Counting.{HasCounted}
use Rattle.test_lang.specs.Program.{Program}
use Rattle.test_lang.specs.Values.{load_count}
use Rattle.test_lang.specs.Text.Line.{closed}
use Rattle.run_text.specs.Runs.{line_of_run}
use Rattle.signature_plan.specs.Outcomes.{outcome_of}
use Rattle.mtrace_app.specs.Limits.{FitLimits}
use Rattle.mtrace_app.proofs.RacedSoFar.{AreRacedSoFar, fit_fewer, raced-all, raced-push}
use Rattle.mtrace_app.proofs.RunsSoFar.{length_lent}
use Rattle.mtrace_app.proofs.raced.race_runs.Goals as goal

pub races-preserved : goal.races-preserved
races-preserved g c =
    let p = c.args.test.now in
    let q = c.args.plan.now in
    let index = c.races.index in
    let run = c.in_ok-run.run'.items in
    let i = c.races.invariant in
    let before = c.races-test.true in
    let fewer = fit_fewer (index + 1) c.args.count (load_count p) (omega (arith, before)) c.requires.fit in
    let fit = subst (λ (n : ℕ). FitLimits (n + 1) (load_count q)) (sym c.from.ensures) (subst (λ (t : Program). FitLimits (index + 1) (load_count t)) (sym c.requires.plan) fewer) in
    let raced =
    raced-push p index q run c.races.lines.items c.deref-in-races.result.now c.races.counter c.count_run.new.counter i.so_far c.requires.plan c.in_ok-run.ensures.interleaved c.in_ok-run.ensures.inside.is_run
    (c.deref-in-races.ensures.value ∙ c.in_ok-line.ensures.text ∙ ap (λ (r : List ℕ). closed (line_of_run r ∷ [])) c.deref.ensures.value)
    (λ outcomes h. subst (λ (r : List ℕ). HasCounted (outcomes ++ outcome_of q r ∷ []) c.count_run.new.counter) c.deref-in-races-2.ensures.value (c.in_ok-count_run.ensures.counted fit outcomes h))
    (c.in_ok-count_run.ensures.total fit) in
    record {
      so_far = subst (AreRacedSoFar p (index + 1) c.count_run.new.counter) (sym c.in_ok-extend_from_slice.ensures.items) raced;
      words = length_lent c.races.words.len c.count_run.new.words c.races.words.items (c.count_run.auto.words ∙ ap length c.deref_mut.ensures.value) (sym c.deref_mut.ensures.len ∙ ap length c.deref_mut.ensures.value) ∙ i.words;
      width = c.in_ok-count_run.ensures.width ∙ i.width;
    }

pub returns : goal.returns
returns g c =
    let past = c.races-test.false in
    let within = c.races.auto.index-end in
    raced-all c.args.test.now c.races.index c.args.count c.races.counter c.races.lines.items c.in_ok-tally.tally c.races.invariant.so_far (omega (arith, past, within)) c.in_ok-tally.ensures.counted c.in_ok-tally.ensures.pairs
