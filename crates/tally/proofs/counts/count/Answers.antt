use Rattle.std.proofs.Common.{◌∙◌, ℕ, ap, sym}
use Rattle.std.specs.Prelude.{Option, unwrap_or}
use Rattle.tally.proofs.Growing.{count_at}
use Rattle.tally.proofs.counts.count.Goals as goal

pub returns-in-Some : goal.returns-in-Some
returns-in-Some c = ap (λ (o : Option ℕ). unwrap_or o 0) c.in-Some.ensures.value ∙ sym (count_at c.args.counts.now.entries c.args.outcome.now)

pub returns-in-None : goal.returns-in-None
returns-in-None c = ap (λ (o : Option ℕ). unwrap_or o 0) c.in-None.ensures.value ∙ sym (count_at c.args.counts.now.entries c.args.outcome.now)
