use Rattle.test_lang.proofs.TextLemmas.Answering.{answer-found, answer-refused, answer-only, answer-within, answer-few}
use Rattle.test_lang.proofs.test.Test.read.Goals as goal

pub returns-clause-found : goal.returns-clause-found
returns-clause-found c = answer-found c.args.bytes.now c.read_test.result c.read_test.ensures

pub returns-clause-refused : goal.returns-clause-refused
returns-clause-refused c = answer-refused c.args.bytes.now c.read_test.result c.read_test.ensures

pub returns-clause-only : goal.returns-clause-only
returns-clause-only c = λ meant means. answer-only c.args.bytes.now c.read_test.result meant c.read_test.ensures means

pub returns-clause-used_within : goal.returns-clause-used_within
returns-clause-used_within c = answer-within c.args.bytes.now c.read_test.result (answer-found c.args.bytes.now c.read_test.result c.read_test.ensures)

pub returns-clause-few_lines : goal.returns-clause-few_lines
returns-clause-few_lines c = answer-few c.args.bytes.now c.read_test.result (answer-found c.args.bytes.now c.read_test.result c.read_test.ensures)
