use Rattle.std.proofs.Common.{◌≡◌, ◌∙◌, ◌≤◌, ◌<◌, ◌^◌, ◌++◌, ℕ, List, ◌∷◌, [], append_assoc, length, refl, ap, subst, arith}
use Rattle.std.specs.Prelude.{All}
use Rattle.std.proofs.lemmas.List.{take_all}
use Rattle.run_text.specs.Runs.{line_of_run}
use Rattle.run_text.proofs.Turns.{run-turn}
use Rattle.verdict_report.specs.RunLine.{runs_reader}
use Rattle.verdict_report.proofs.run.run_line.Goals as goal

pub returns-clause-read_back : goal.returns-clause-read_back
returns-clause-read_back c = λ line rest.
    let values = c.args.values.now in
    let out = c.push.new.self.items in
    let all : length values ≤ c.loop-value.value-index = omega (arith, c.loop-value-test.false) in
    let every = take_all c.loop-value.value-index values all in
    let whole : out ≡ line_of_run values ++ 10 ∷ [] = c.in_ok-push.ensures.items ∙ ap (λ (ys : List ℕ). ys ++ 10 ∷ []) (c.loop-value.invariant.written ∙ ap (λ (vs : List ℕ). line_of_run vs) every) in
    let small = subst (All (λ value. value < 2 ^ 32)) every c.loop-value.invariant.small in
    run-turn (runs_reader (length values) line (out ++ rest)) values rest refl (record { whole = refl; values = small })
    (ap (λ (ys : List ℕ). ys ++ rest) whole ∙ append_assoc (line_of_run values) (10 ∷ []) rest)
