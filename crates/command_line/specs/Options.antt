-- The words of the command line: the command's word, and the table of the options.
use Rattle.std.specs.Prelude.{ℕ, ◌&&◌, List, [], ◌∷◌, Option, Some, None, true, if◌then◌else◌, nat_le, nat_eq, codes, drop, option_map, option_and_then}
use Rattle.std.specs.List.{starts_with}
use Rattle.std.specs.Str.{bytes_eq}
use Rattle.clap.specs.declared.parser.matches.ArgMatches.{ArgMatches}
use Rattle.clap.specs.Words.{App, Row, Rule, Text, first_of, found_of, new_app, new_rule, rows_of, with_rule}
use Rattle.test_lang.specs.declared.op.MemModel.{MemModel}
use Rattle.test_lang.specs.declared.op.MemModel.TheVariants as model
use Rattle.test_lang.specs.declared.target.Target.{Target}
use Rattle.test_lang.specs.declared.target.Target.TheVariants as target
use Rattle.test_lang.specs.declared.target.Fault.{Fault}
use Rattle.test_lang.specs.declared.target.Fault.TheVariants as fault
use Rattle.test_lang.specs.Models.{model_name}
use Rattle.test_lang.specs.Text.Numeral.{whole_numeral}
use Rattle.command_line.specs.declared.meaning.Command.{Command}
use Rattle.command_line.specs.declared.meaning.Command.TheVariants as command

-- ---- what a text stands for

-- what a text names in a table
abbrev pub named : {T : Type 0} → List (Text × T) → Text → Option T
named [] text = None
named (row ∷ rows) text = if bytes_eq text row.0 then Some row.1 else named rows text

-- a number from least to most
abbrev pub between : ℕ → ℕ → ℕ → Option ℕ
between least most n = if nat_le least n && nat_le n most then Some n else None

-- the number of a numeral from least to most
abbrev pub number_between : ℕ → ℕ → Text → Option ℕ
number_between least most text = option_and_then (between least most) (whole_numeral text)

abbrev pub command_of : Text → Option Command
command_of = named ((codes "check", command.Check) ∷ (codes "replay", command.Replay) ∷ (codes "run", command.Run)
    ∷ (codes "race", command.Race) ∷ (codes "generate", command.Generate) ∷ (codes "demo", command.Demo) ∷ [])

abbrev pub model_of : Text → Option MemModel
model_of = named ((model_name model.Sc, model.Sc) ∷ (model_name model.Tso, model.Tso) ∷ (model_name model.Pso, model.Pso) ∷ (model_name model.Weak, model.Weak) ∷ [])

-- a machine has the name of its model
abbrev pub target_of : Text → Option Target
target_of = named ((model_name model.Sc, target.Sc) ∷ (model_name model.Tso, target.Tso) ∷ (model_name model.Pso, target.Pso) ∷ (model_name model.Weak, target.Weak) ∷ [])

abbrev pub plain_fault_of : Text → Option Fault
plain_fault_of = named ((codes "none", fault.None) ∷ (codes "nofence", fault.NoFence) ∷ (codes "unordered", fault.Unordered)
    ∷ (codes "noforward", fault.NoForward) ∷ (codes "loadload", fault.LoadLoad) ∷ [])

-- a fault's word, or `stale:` and the numeral of a node from 0 to 2047
abbrev pub fault_of : Text → Option Fault
fault_of text = if starts_with nat_eq text (codes "stale:") then option_map (λ node. fault.Stale node) (number_between 0 2047 (drop 6 text))
    else plain_fault_of text

-- ---- the table

-- An option: its name, its text where the words have none, and what a text of it stands for.
pub record OptionOf (T : Type 0) : Type 0 where
  pub name : Text
  pub default : Text
  pub reads : Text → Option T

abbrev pub option_of : {T : Type 0} → Text → Text → (Text → Option T) → OptionOf T
option_of name default reads = record { name = name; default = default; reads = reads }

abbrev pub number_option : Text → Text → ℕ → ℕ → OptionOf ℕ
number_option name default least most = option_of name default (number_between least most)

abbrev pub model_option : OptionOf MemModel
model_option = option_of (codes "model") (model_name model.Sc) model_of

abbrev pub target_option : OptionOf Target
target_option = option_of (codes "target") (model_name model.Sc) target_of

abbrev pub fault_option : OptionOf Fault
fault_option = option_of (codes "fault") (codes "none") fault_of

abbrev pub chunk_option : OptionOf ℕ
chunk_option = number_option (codes "chunk") (codes "64") 1 1000000

abbrev pub workers_option : OptionOf ℕ
workers_option = number_option (codes "workers") (codes "1") 1 64

abbrev pub runners_option : OptionOf ℕ
runners_option = number_option (codes "runners") (codes "1") 1 64

abbrev pub runs_option : OptionOf ℕ
runs_option = number_option (codes "runs") (codes "100") 0 1000000

abbrev pub seed_option : OptionOf ℕ
seed_option = number_option (codes "seed") (codes "0") 0 18446744073709551615

abbrev pub threads_option : OptionOf ℕ
threads_option = number_option (codes "threads") (codes "2") 1 16

abbrev pub ops_option : OptionOf ℕ
ops_option = number_option (codes "ops") (codes "4") 0 2048

abbrev pub words_option : OptionOf ℕ
words_option = number_option (codes "words") (codes "2") 1 256

abbrev pub stores_option : OptionOf ℕ
stores_option = number_option (codes "stores") (codes "50") 0 100

abbrev pub fences_option : OptionOf ℕ
fences_option = number_option (codes "fences") (codes "0") 0 100

-- ---- the command, as clap takes it

-- an option that takes one text and has a default
abbrev pub option_rule : Text → Text → Rule
option_rule name default = record (new_rule name) { long = Some name; defaults = default ∷ [] }

abbrev pub rule_for : {T : Type 0} → OptionOf T → Rule
rule_for o = option_rule o.name o.default

-- the word that every command line has
abbrev pub command_rule : Rule
command_rule = record (new_rule (codes "COMMAND")) { required = true }

abbrev pub with_rules : App → List Rule → App
with_rules a [] = a
with_rules a (rule ∷ rules) = with_rules (with_rule a rule) rules

abbrev pub the_rules : List Rule
the_rules = command_rule ∷ rule_for model_option ∷ rule_for target_option ∷ rule_for fault_option ∷ rule_for chunk_option
    ∷ rule_for workers_option ∷ rule_for runners_option ∷ rule_for runs_option ∷ rule_for seed_option ∷ rule_for threads_option
    ∷ rule_for ops_option ∷ rule_for words_option ∷ rule_for stores_option ∷ rule_for fences_option ∷ []

-- the command, whose words stand behind the program's name
abbrev pub behind_the_name : App → App
behind_the_name a = record a { top = record a.top { no_binary_name = true } }

abbrev pub the_command : App
the_command = with_rules (behind_the_name (new_app (codes "mtrace"))) the_rules

-- ---- what clap's matches say

-- the rows of all that was found
abbrev pub found_rows : ArgMatches → List Row
found_rows matches = rows_of (found_of matches)

-- what an option's text stands for
abbrev pub value : {T : Type 0} → List Row → OptionOf T → Option T
value rows o = option_and_then o.reads (first_of o.name rows)

-- what the command's word stands for
abbrev pub command_value : List Row → Option Command
command_value rows = option_and_then command_of (first_of (codes "COMMAND") rows)
