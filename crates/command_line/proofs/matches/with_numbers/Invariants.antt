use Rattle.std.proofs.Common.{◌≡◌, map, take}
use Rattle.clap.specs.Words.{app_of}
use Rattle.command_line.specs.Options.{with_rules}
use Rattle.command_line.specs.Rows.{number_rule}
use Rattle.command_line.proofs.matches.with_numbers.Given as goal

-- the rules of the rows so far are added
abbrev pub invariant-loop-number : goal.invariant-loop-number
invariant-loop-number l = app_of l.command ≡ with_rules (app_of l.initial.command) (map number_rule (take l.number-index l.numbers))
