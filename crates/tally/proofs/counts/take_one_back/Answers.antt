use Rattle.std.proofs.Common.{◌∙◌, ◌-◌, ℕ, ap, sym, arith}
use Rattle.std.specs.Prelude.{Option, unwrap_or}
use Rattle.tally.proofs.Growing.{count_at}
use Rattle.tally.proofs.Shrinking.{lowered, removed}
use Rattle.tally.proofs.counts.take_one_back.Goals as goal

pub returns-then-count-eq1 : goal.returns-then-count-eq1
returns-then-count-eq1 c =
    let one = sym c.count.ensures ∙ c.if-count-eq1.true in
    removed c.args.counts.now.entries c.args.outcome.now c.requires.counts c.remove.new.self.entries one c.remove.ensures.entries

pub returns-in-Some : goal.returns-in-Some
returns-in-Some c =
    lowered c.args.counts.now.entries c.args.outcome.now c.requires.counts _ c.in-Some.count.now
    (λ one. c.if-count-eq1.false (c.count.ensures ∙ one)) c.in-Some.ensures.value (c.get_mut.follows.holds (c.in-Some.count.now - 1)).0

pub returns-in_default : goal.returns-in_default
returns-in_default c =
    let none = ap (λ (o : Option ℕ). unwrap_or o 0) c.in_default.ensures.value ∙ sym (count_at c.args.counts.now.entries c.args.outcome.now) in
    absurd (omega (arith, none, c.requires.there))
