use Rattle.std.proofs.Common.{sym, subst, List}
use Rattle.clap.specs.Words.{Row}
use Rattle.command_line.specs.Settings.{Says}
use Rattle.command_line.proofs.read.settings.Goals as goal

pub returns-in_default-clause-refused : goal.returns-in_default-clause-refused
returns-in_default-clause-refused c = λ refused s h.
    c.in_default.ensures.says s (subst (λ (rows : List Row). Says rows s) (sym c.in_ok-matches.ensures.ok.1) h.says)

pub returns-in_default-clause-known : goal.returns-in_default-clause-known
returns-in_default-clause-known c = λ s h.
    absurd (c.in_default.ensures.says s (subst (λ (rows : List Row). Says rows s) (sym c.in_ok-matches.ensures.ok.1) h.says))
