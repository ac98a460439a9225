use Rattle.std.proofs.Common.{sym}
use Rattle.test_lang.proofs.TextLemmas.FirstLine.{first_line-closed, first_line-unclosed}
use Rattle.test_lang.proofs.TextLemmas.Lines.{first_line-starts, first_line-none_is}
use Rattle.test_lang.proofs.text.line.first_line.Goals as goal

pub returns-in-Some-clause-found : goal.returns-in-Some-clause-found
returns-in-Some-clause-found c = first_line-starts _ _ (first_line-closed _ _ c.in-Some.ensures)

pub returns-in-None-clause-found : goal.returns-in-None-clause-found
returns-in-None-clause-found c = first_line-none_is _ (first_line-unclosed _ c.in-None.ensures)

pub returns-in-Some-clause-exact : goal.returns-in-Some-clause-exact
returns-in-Some-clause-exact c = sym (first_line-closed _ _ c.in-Some.ensures)

pub returns-in-None-clause-exact : goal.returns-in-None-clause-exact
returns-in-None-clause-exact c = sym (first_line-unclosed _ c.in-None.ensures)
