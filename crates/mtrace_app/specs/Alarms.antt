-- Where nothing can be found: a machine without a fault plays a test, and what it gives is checked against its own memory model or a weaker one; or a test is raced.
use Rattle.std.specs.Prelude.{◌≡◌, Bool, true, false, IsTrue}
use Rattle.test_lang.specs.declared.target.Fault.TheVariants.{None}
use Rattle.test_lang.specs.Models.{is_no_stronger}
use Rattle.test_lang.specs.Play.Machines.{model_of}
use Rattle.command_line.specs.declared.meaning.Command.{Command}
use Rattle.command_line.specs.declared.meaning.Command.TheVariants.{Check, Replay, Run, Race, Generate, Demo}
use Rattle.command_line.specs.declared.meaning.Settings.{Settings}

-- whether the runs of a command are plays on the machine that its settings name
abbrev pub plays : Command → Bool
plays Check = false
plays Replay = true
plays Run = true
plays Race = false
plays Generate = false
plays Demo = true

-- A race is one interleaving, which no model forbids.
pub data IsAlarmFree (s : Settings) : Type 0 where
  played : IsTrue (plays s.command) → s.fault ≡ None → IsTrue (is_no_stronger s.model (model_of s.target)) → IsAlarmFree s
  raced : s.command ≡ Race → IsAlarmFree s
