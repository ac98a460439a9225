use Rattle.test_lang.proofs.EdgeTests.{decides_edge}
use Rattle.test_lang.proofs.EdgeLists.{edge_is_listed, listed_is_edge}
use Rattle.test_lang.proofs.edges.edges_are_listed.Goals as goal

pub returns-clause-told : goal.returns-clause-told
returns-clause-told c = λ m p run a b. ((decides_edge m p run a b).1, (decides_edge m p run a b).0)

pub returns-clause-listed : goal.returns-clause-listed
returns-clause-listed c = λ m p run a b. (edge_is_listed m p run a b, listed_is_edge m p run a b)
