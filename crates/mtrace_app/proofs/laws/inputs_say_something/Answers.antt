use Rattle.mtrace_app.proofs.ByCommand.{some_meaning_by}
use Rattle.mtrace_app.proofs.laws.inputs_say_something.Goals as goal

pub returns : goal.returns
returns c = λ s bytes. some_meaning_by s.command s bytes
