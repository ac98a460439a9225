-- Settings that differ in their crew, or in the size of their chunks, mean the same.
use Rattle.std.proofs.Common.{◌≡◌, ℕ, List, Bool, length, sym, subst}
use Rattle.std.specs.Prelude.{IsTrue}
use Rattle.test_lang.specs.Program.{Program}
use Rattle.command_line.specs.declared.meaning.Command.{Command}
use Rattle.command_line.specs.declared.meaning.Command.TheVariants.{Check, Replay, Run, Race, Generate, Demo}
use Rattle.command_line.specs.declared.meaning.Settings.{Settings}
use Rattle.mtrace_app.specs.Inputs.{RecordsBy, fixes_runs}
use Rattle.mtrace_app.specs.OtherSettings.{with_chunk, with_crew}
use Rattle.mtrace_app.specs.Outputs.{IsOutputOf, OutputsBy, form_of, reports}
use Rattle.mtrace_app.specs.Report.{IsReportIn}
use Rattle.mtrace_app.proofs.ByCommand.{one_meaning_by, report_in_output}
use Rattle.mtrace_app.proofs.OneReport.{DifferInWork, same_but_work}

-- ---- by command

recorded_by_crew : (c : Command) (s : Settings) (workers runners : ℕ) (bytes : List ℕ) (p : Program) (runs : List (List ℕ)) → RecordsBy c s bytes p runs → RecordsBy c (with_crew s workers runners) bytes p runs
recorded_by_crew Check s workers runners bytes p runs h = h
recorded_by_crew Replay s workers runners bytes p runs h = record { schedules = h.schedules; text = h.text; played = h.played }
recorded_by_crew Run s workers runners bytes p runs h = h
recorded_by_crew Race s workers runners bytes p runs h = h
recorded_by_crew Generate s workers runners bytes p runs h = h
recorded_by_crew Demo s workers runners bytes p runs h = h

output_by_crew : (c : Command) (s : Settings) (workers runners : ℕ) (p : Program) (runs : List (List ℕ)) (text : List ℕ) (is_clean : Bool) → OutputsBy c s p runs text is_clean → OutputsBy c (with_crew s workers runners) p runs text is_clean
output_by_crew Check s workers runners p runs text is_clean h = h
output_by_crew Replay s workers runners p runs text is_clean h = h
output_by_crew Run s workers runners p runs text is_clean h = h
output_by_crew Race s workers runners p runs text is_clean h = h
output_by_crew Generate s workers runners p runs text is_clean h = h
output_by_crew Demo s workers runners p runs text is_clean h = h

recorded_by_chunk : (c : Command) (s : Settings) (chunk : ℕ) (bytes : List ℕ) (p : Program) (runs : List (List ℕ)) → RecordsBy c (with_chunk s chunk) bytes p runs → RecordsBy c s bytes p runs
recorded_by_chunk Check s chunk bytes p runs h = h
recorded_by_chunk Replay s chunk bytes p runs h = record { schedules = h.schedules; text = h.text; played = h.played }
recorded_by_chunk Run s chunk bytes p runs h = h
recorded_by_chunk Race s chunk bytes p runs h = h
recorded_by_chunk Generate s chunk bytes p runs h = h
recorded_by_chunk Demo s chunk bytes p runs h = h

fixed_by : (c : Command) → IsTrue (reports c) → IsTrue (fixes_runs c)
fixed_by Check h = h
fixed_by Replay h = h
fixed_by Run h = h
fixed_by Race h = h
fixed_by Generate h = absurd cc
fixed_by Demo h = h

-- ---- outputs

pub output_of_crew : (s : Settings) (workers runners : ℕ) (bytes text : List ℕ) (is_clean : Bool) → IsOutputOf s bytes text is_clean → IsOutputOf (with_crew s workers runners) bytes text is_clean
output_of_crew s workers runners bytes text is_clean h = record {
  test = h.test;
  runs = h.runs;
  recorded = recorded_by_crew s.command s workers runners bytes h.test h.runs h.recorded;
  limits = h.limits;
  output = output_by_crew s.command s workers runners h.test h.runs text is_clean h.output;
}

pub outputs_of_chunks : (s : Settings) (chunk : ℕ) (bytes text other : List ℕ) (is_clean also : Bool) → IsTrue (reports s.command) → IsOutputOf s bytes text is_clean → IsOutputOf (with_chunk s chunk) bytes other also → DifferInWork text other is_clean also
outputs_of_chunks s chunk bytes text other is_clean also reported h k =
    let same = one_meaning_by s.command s bytes k.test h.test k.runs h.runs (recorded_by_chunk s.command s chunk bytes k.test k.runs k.recorded) h.recorded in
    let one = report_in_output s.command s h.test h.runs text is_clean reported h.output in
    let second = report_in_output s.command (with_chunk s chunk) k.test k.runs other also reported k.output in
    let there =
    subst (λ (rs : List (List ℕ)). IsReportIn (form_of s.command) s.model chunk h.test rs other also) (same.same_runs (fixed_by s.command reported))
    (subst (λ (q : Program). IsReportIn (form_of s.command) s.model chunk q k.runs other also) same.same_test second) in
    same_but_work (form_of s.command) s.model s.chunk chunk h.test h.runs text other is_clean also one there
