use Rattle.std.proofs.Common.{Err}
use Rattle.run_text.proofs.Runs.{reading_is_meaning, reading_is_text}
use Rattle.run_text.proofs.laws.runs_are_read.Goals as goal

pub returns-clause-read : goal.returns-clause-read
returns-clause-read c = λ reader runs not_done. reading_is_text reader runs not_done

pub returns-clause-refused : goal.returns-clause-refused
returns-clause-refused c = λ reader fault not_done. reading_is_meaning reader (Err fault) not_done

pub returns-clause-meant : goal.returns-clause-meant
returns-clause-meant c = λ reader meant not_done. reading_is_meaning reader meant not_done
