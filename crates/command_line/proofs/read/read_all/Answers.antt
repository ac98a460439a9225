use Rattle.command_line.proofs.read.read_all.Goals as goal

pub returns-in_err-read_gen-clause-says : goal.returns-in_err-read_gen-clause-says
returns-in_err-read_gen-clause-says c = rw c.from_residual-in_err-read_gen.ensures (λ s h. c.in_err-read_gen.ensures.says s.gen_settings h.generated)
