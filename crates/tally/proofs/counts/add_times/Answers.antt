use Rattle.std.proofs.Common.{rules, ◌≡◌, ◌∙◌, ℕ, ap, sym, arith}
use Rattle.std.specs.Prelude.{Option, unwrap_or}
use Rattle.tally.specs.Tallies.{count_of}
use Rattle.tally.proofs.Growing.{count_at, count_of-le-total}
use Rattle.tally.proofs.counts.add_times.Goals as goal

pub overflow_add-counts : goal.overflow_add-counts
overflow_add-counts c =
    let found : c.or_insert.result.now ≡ count_of c.args.counts.now.entries c.args.outcome
    = c.or_insert.ensures.value ∙ ap (λ (o : Option ℕ). unwrap_or o 0) c.in-Ok.ensures.value ∙ sym (count_at c.args.counts.now.entries c.args.outcome) in
    omega (arith, count_of-le-total c.args.counts.now.entries c.args.outcome)

pub returns-in-Ok-clause-added : goal.returns-in-Ok-clause-added
returns-in-Ok-clause-added c =
    let found : c.or_insert.result.now ≡ count_of c.args.counts.now.entries c.args.outcome
    = c.or_insert.ensures.value ∙ ap (λ (o : Option ℕ). unwrap_or o 0) c.in-Ok.ensures.value ∙ sym (count_at c.args.counts.now.entries c.args.outcome) in
    rw (← found) (search rules)
