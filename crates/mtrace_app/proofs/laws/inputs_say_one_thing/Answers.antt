use Rattle.mtrace_app.proofs.ByCommand.{not_both_by, one_meaning_by}
use Rattle.mtrace_app.proofs.laws.inputs_say_one_thing.Goals as goal

pub returns-clause-one : goal.returns-clause-one
returns-clause-one c = λ s bytes p q runs others h k. let same = one_meaning_by s.command s bytes p q runs others h k in (same.same_test, same.same_count, same.same_runs)

pub returns-clause-not_both : goal.returns-clause-not_both
returns-clause-not_both c = λ s bytes p runs fault h r. not_both_by s.command s bytes p runs fault h r
