use Rattle.test_lang.proofs.PlayLaws.Edges.{ordered}
use Rattle.test_lang.proofs.PlayLaws.Inside.{inside}
use Rattle.test_lang.proofs.plays.explained_runs_raise_no_alarm.Goals as goal

pub returns-clause-inside : goal.returns-clause-inside
returns-clause-inside g c = λ p run order limits one e. inside g.Kept.Relation.edges p run order one e limits

pub returns-clause-ordered : goal.returns-clause-ordered
returns-clause-ordered g c = λ p run order one weak e. ordered g.Kept.Relation.edges p run order one e g.Weaker.Relation.edges weak
