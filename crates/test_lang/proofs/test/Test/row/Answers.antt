use Rattle.test_lang.proofs.Tabulated.{row_found}
use Rattle.test_lang.proofs.test.Test.row.Goals as goal

pub returns-clause-row : goal.returns-clause-row
returns-clause-row c = (row_found _ _ _ _ _ _ c.self.invariant c.self.view_is _ _ c.requires c.index.ensures).0

pub returns-clause-word : goal.returns-clause-word
returns-clause-word c = (row_found _ _ _ _ _ _ c.self.invariant c.self.view_is _ _ c.requires c.index.ensures).1
