use Rattle.std.proofs.Common.{◌≡◌, false, Ok, subst}
use Rattle.std.proofs.lemmas.Bool.{OnTrue_at, OnTrue_from, OnFalse_from}
use Rattle.run_text.specs.Reader.{turn, Gives}
use Rattle.run_text.proofs.Calls.{call-reads_on}
use Rattle.run_text.proofs.Ended.{ended_stays}
use Rattle.run_text.proofs.Meaning.{turn_means, means_turn}
use Rattle.run_text.proofs.run_lines.RunLines.next.Goals as goal

pub returns-clause-found : goal.returns-clause-found
returns-clause-found c =
    OnFalse_from c.args.self.now.is_done _ (λ not_yet. (turn c.args.self.now, turn_means c.args.self.now not_yet, c.step.ensures.exact))

pub returns-clause-only : goal.returns-clause-only
returns-clause-only c =
    OnFalse_from c.args.self.now.is_done _ (λ not_yet o means.
    subst (Gives c.step.result c.args.values.now.items c.step.new.values.items c.args.self.now c.step.new.self) (means_turn c.args.self.now o not_yet means) c.step.ensures.exact)

pub returns-clause-reads_on : goal.returns-clause-reads_on
returns-clause-reads_on c = call-reads_on c.args.self.now c.step.new.self c.args.values.now.items c.step.new.values.items c.step.result c.step.ensures.exact

pub returns-clause-ended : goal.returns-clause-ended
returns-clause-ended c =
    OnTrue_from c.args.self.now.is_done _ (λ done.
    let answer : c.step.result ≡ Ok false = OnTrue_at done c.step.ensures.ended in
    ended_stays _ _ _ _ _ done answer c.step.ensures.exact)
