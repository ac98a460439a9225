use Rattle.mtrace_app.proofs.OtherCrews.{outputs_of_chunks}
use Rattle.mtrace_app.proofs.laws.chunks_change_the_last_line_alone.Goals as goal

pub returns : goal.returns
returns c = λ s chunk bytes text other is_clean also reported h k.
    let d = outputs_of_chunks s chunk bytes text other is_clean also reported h k in
    (d.front, d.work, d.otherwise, d.one, d.second, d.clean)
