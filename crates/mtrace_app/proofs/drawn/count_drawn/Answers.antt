use Rattle.std.proofs.Common.{◌∙◌, ℕ, sym, subst}
use Rattle.mtrace_app.specs.Limits.{FitLimits}
use Rattle.mtrace_app.proofs.DrawnCounts.{not_fit, passed, tallied}
use Rattle.test_lang.specs.Values.{load_count}
use Rattle.mtrace_app.proofs.drawn.count_drawn.Goals as goal

pub returns-then-not-fit_limits : goal.returns-then-not-fit_limits
returns-then-not-fit_limits g c =
    let s = c.args.settings.now in
    let p = c.args.test.now in
    passed s p c.new.result
    (λ fit.
    not_fit c.fit_limits.result c.if-not-fit_limits.true
    (c.fit_limits.ensures.1 (subst (λ (n : ℕ). FitLimits c.from.result n) (sym (c.from-2.ensures ∙ c.loads.ensures.count)) (subst (λ (n : ℕ). FitLimits n (load_count p)) (sym c.from.ensures) fit))))

pub returns : goal.returns
returns g c =
    let s = c.args.settings.now in
    let p = c.args.test.now in
    let tally = c.into_tally.result in
    let h = c.in_ok-finished.ensures.tally tally c.into_tally.ensures in
    tallied s p tally record { runs = h.runs; drawn = h.drawn; each = h.each; counts = h.counts; total = h.total }
