use Rattle.run_text.proofs.ReadParts.{cut_there, not_cut}
use Rattle.run_text.proofs.schedule_line.cut_at_space.Goals as goal

pub returns-in-Some-clause-parts : goal.returns-in-Some-clause-parts
returns-in-Some-clause-parts c = cut_there c.args.text.now c.in-Some.end c.in-Some.ensures _ _ c.split_at.ensures.front c.split_at.ensures.back

pub returns-in-None-clause-parts : goal.returns-in-None-clause-parts
returns-in-None-clause-parts c = not_cut c.args.text.now c.in-None.ensures
