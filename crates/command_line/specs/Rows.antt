-- What a row of the program's own tables adds to the command, and the option that it is.
use Rattle.std.specs.Prelude.{ℕ}
use Rattle.clap.specs.Words.{Rule}
use Rattle.command_line.specs.declared.options.OptionRow.{OptionRow}
use Rattle.command_line.specs.declared.options.NumberRow.{NumberRow}
use Rattle.command_line.specs.Options.{OptionOf, number_option, option_rule}

abbrev pub row_rule : OptionRow → Rule
row_rule row = option_rule row.name.now row.default.now

abbrev pub number_rule : NumberRow → Rule
number_rule number = row_rule number.row

abbrev pub option_of_number : NumberRow → OptionOf ℕ
option_of_number number = number_option number.row.name.now number.row.default.now number.least number.most
