-- A machine without a fault gives nothing that its own memory model, or a weaker one, forbids.
use Rattle.std.proofs.Common.{◌≡◌, ◌≢◌, ◌∙◌, ℕ, List, [], ◌∷◌, map, Bool, true, false, refl, sym, ap, subst, not, ◌&&◌}
use Rattle.std.specs.Prelude.{Option, Some, None, IsTrue, ◌||◌}
use Rattle.std.specs.List.{AllByRecursion}
use Rattle.std.specs.Option.{option_map}
use Rattle.std.specs.Map.{keys_of}
use Rattle.tally.specs.declared.outcome.Outcome.{Outcome}
use Rattle.tally.specs.declared.outcome.Outcome.TheVariants.{Inside, Outside}
use Rattle.test_lang.specs.declared.op.MemModel.{MemModel}
use Rattle.test_lang.specs.declared.op.MemModel.TheVariants as models
use Rattle.test_lang.specs.declared.step.Step.{Step}
use Rattle.test_lang.specs.declared.target.Fault.{Fault}
use Rattle.test_lang.specs.declared.target.Fault.TheVariants as faults
use Rattle.test_lang.specs.declared.target.Target.{Target}
use Rattle.test_lang.specs.declared.target.Target.TheVariants.{Sc}
use Rattle.test_lang.specs.Edges.{IsRunAcyclic, IsRunOrder}
use Rattle.test_lang.specs.Models.{is_no_stronger}
use Rattle.test_lang.specs.Program.{Program, IsWithinLimits}
use Rattle.test_lang.specs.Runs.{IsInside, outside_of, value_read}
use Rattle.test_lang.specs.Signatures.{Means}
use Rattle.test_lang.specs.Play.Machines.{model_of}
use Rattle.test_lang.specs.Play.Plays.{IsDonePlay, effects_of, run_of}
use Rattle.run_text.specs.Items.{AreLinesOf}
use Rattle.shared_words.specs.Interleavings.{IsInterleaved}
use Rattle.sim_core.specs.Drawn.{AreDrawnRuns}
use Rattle.test_gen.specs.Generated.{generated}
use Rattle.signature_plan.specs.Outcomes.{outcome_by}
use Rattle.verdict_report.specs.declared.report.Judged.{Judged}
use Rattle.verdict_report.specs.declared.report.Judged.TheVariants.{Ok, Cycle}
use Rattle.verdict_report.specs.Lines.{has_cycle, has_outside, is_ok, signatures}
use Rattle.chunk_pool.specs.Verdicts.{IsVerdict}
use Rattle.command_line.specs.declared.meaning.Command.{Command}
use Rattle.command_line.specs.declared.meaning.Command.TheVariants.{Replay, Run, Race, Demo}
use Rattle.command_line.specs.declared.meaning.Settings.{Settings}
use Rattle.command_line.specs.Settings.{HasSettings}
use Rattle.mtrace_app.specs.declared.refusal.Refusal.{Refusal}
use Rattle.mtrace_app.specs.declared.refusal.Refusal.TheVariants.{Words, ReadFault, Input, TooLarge}
use Rattle.mtrace_app.specs.declared.status.Status.{Status}
use Rattle.mtrace_app.specs.declared.status.Status.TheVariants.{Found}
use Rattle.mtrace_app.specs.declared.form.Form.{Form}
use Rattle.mtrace_app.specs.declared.form.Form.TheVariants.{Whole}
use Rattle.mtrace_app.specs.Alarms.{IsAlarmFree, played, raced, plays}
use Rattle.mtrace_app.specs.Answers.{IsAnswered, refused, written, cut_off, no_memory}
use Rattle.mtrace_app.specs.Inputs.{ArePlayedRuns, AreRunsDrawn, IsLineOfPlay, RecordsBy}
use Rattle.mtrace_app.specs.Outputs.{IsOfInput, IsOutputOf, OutputsBy, form_of, reports}
use Rattle.mtrace_app.specs.Outside.{Change}
use Rattle.mtrace_app.specs.Refusals.{status_of}
use Rattle.mtrace_app.specs.Status.{output_status}
use Rattle.mtrace_app.specs.Report.{AreJudged, IsReportIn}
use Rattle.mtrace_app.proofs.ByCommand.{report_in_output}
use Rattle.mtrace_app.proofs.GeneratedTests.{generated_limits}
use Rattle.mtrace_app.proofs.OneSettings.{one_settings}
use Rattle.mtrace_app.proofs.Races.{all_by_reads, all_more}
use Rattle.mtrace_app.proofs.Ranges.{ranges_of_words}
use Rattle.mtrace_app.proofs.Meanings.{AreOutcomes, means_by, tallied_outcomes}

-- a run that is inside, and has an order
abbrev pub IsAllowed : MemModel → Program → List ℕ → Type 0
IsAllowed model p run = IsInside p run × IsRunAcyclic model p run

-- ---- allowed runs have a clean report

-- a run that is inside has no outcome outside
not_outside : (p : Program) (run : List ℕ) (found : Option (ℕ × ℕ)) (node value : ℕ) → found ≡ None → outcome_by p run found ≡ Outside node value → ⊥
not_outside p run None node value e out = cc
not_outside p run (Some load) node value e out = cc

none_found : (p : Program) (run : List ℕ) → IsInside p run → outside_of p run ≡ None
none_found p run h = ap (λ (o : Option ℕ). option_map {U = ℕ × ℕ} (λ load. (load, value_read p run load)) o) h.none_outside

module _ (model : MemModel) (p : Program) where
  pub none_outside : (pairs : List (Outcome × ℕ)) → AreOutcomes (IsAllowed model p) p (keys_of pairs) → has_outside pairs ≡ false
  none_outside [] h = refl
  none_outside ((Inside words, count) ∷ more) h = none_outside more h.1
  none_outside ((Outside node value, count) ∷ more) h = absurd (not_outside p h.0.0 (outside_of p h.0.0) node value (none_found p h.0.0 h.0.1.0) h.0.2)

  -- the verdict on an allowed run is no cycle
  ok_or_cycle : (run : List ℕ) (judged : Judged) (rest : Bool) → IsRunAcyclic model p run → IsVerdict model p run judged → rest ≡ false → (not (is_ok judged) || rest) ≡ false
  ok_or_cycle run Ok rest allowed verdict none = none
  ok_or_cycle run (Cycle nodes) rest allowed verdict none = absurd (verdict.0 allowed.0 allowed.1)

  pub none_cycles : (pairs : List (Outcome × ℕ)) (found : List Judged) → AreOutcomes (IsAllowed model p) p (keys_of pairs) → AreJudged model p (signatures pairs) found → has_cycle found ≡ false
  none_cycles [] [] h judged = refl
  none_cycles [] (first ∷ more) h judged = absurd judged
  none_cycles ((Outside node value, count) ∷ pairs) found h judged = none_cycles pairs found h.1 judged
  none_cycles ((Inside words, count) ∷ pairs) [] h judged = absurd judged
  none_cycles ((Inside words, count) ∷ pairs) (first ∷ more) h judged =
      let run = h.0.0 in
      let inside = h.0.1.0 in
      let means : Means p words run = means_by p run words (outside_of p run) inside.is_run refl h.0.2 in
      let same : run ≡ judged.0.run = judged.0.one run means in
      ok_or_cycle judged.0.run first (has_cycle more) (subst (IsRunAcyclic model p) same h.0.1.1) judged.0.verdict (none_cycles pairs more h.1 judged.1)

  pub clean_report : (form : Form) (chunk : ℕ) (runs : List (List ℕ)) (text : List ℕ) (is_clean : Bool) → AllByRecursion (IsAllowed model p) runs → IsReportIn form model chunk p runs text is_clean → is_clean ≡ true
  clean_report form chunk runs text is_clean allowed report =
      let f = report.findings in
      let outcomes = tallied_outcomes (IsAllowed model p) p runs f.tally allowed report.found.counts in
      let cycles = none_cycles f.tally f.verdicts outcomes report.found.judged in
      let outside = none_outside f.tally outcomes in
      report.clean ∙ ap (λ (b : Bool). not b && not (has_outside f.tally)) cycles ∙ ap (λ (b : Bool). not false && not b) outside

-- ---- plays without a fault are allowed

-- what the law on plays says
pub record IsLaw : Type 0 where
  pub inside : (target : Target) (p : Program) (steps : List Step) → IsWithinLimits p → IsDonePlay target faults.None p steps → IsInside p (run_of target faults.None p steps)
  pub ordered : (target : Target) (m : MemModel) (p : Program) (steps : List Step) → IsTrue (is_no_stronger m (model_of target)) → IsDonePlay target faults.None p steps
      → IsRunOrder m p (run_of target faults.None p steps) (effects_of target faults.None p steps)

module _ (law : IsLaw) (target : Target) (model : MemModel) (p : Program) (limits : IsWithinLimits p) (weaker : IsTrue (is_no_stronger model (model_of target))) where
  allowed_play : (steps : List Step) → IsDonePlay target faults.None p steps → IsAllowed model p (run_of target faults.None p steps)
  allowed_play steps done = (law.inside target p steps limits done, (effects_of target faults.None p steps, law.ordered target model p steps weaker done))

  allowed_plays : (plays : List (List Step)) (lines : List (List ℕ)) → AreLinesOf (IsLineOfPlay (record { target = target; fault = faults.None; test = p })) plays lines
      → AllByRecursion (IsAllowed model p) (map (run_of target faults.None p) plays)
  allowed_plays [] [] each = tt
  allowed_plays [] (line ∷ lines) each = absurd each
  allowed_plays (steps ∷ plays) [] each = absurd each
  allowed_plays (steps ∷ plays) (line ∷ lines) each = (allowed_play steps each.0.is_done_play, allowed_plays plays lines each.1)

  allowed_drawn : (seed count : ℕ) (runs : List (List ℕ)) → AreDrawnRuns (record { target = target; fault = faults.None; test = p }) seed count runs → AllByRecursion (IsAllowed model p) runs
  allowed_drawn seed count runs drawn = all_by_reads (IsAllowed model p) runs (λ r values e.
      let play = drawn.each r values e in
      subst (IsAllowed model p) (sym play.gives) (allowed_play play.steps play.is_drawn_play.is_done_play))

-- ---- so nothing is found

plays_report : (c : Command) → IsTrue (plays c) → IsTrue (reports c)
plays_report Replay h = refl
plays_report Run h = refl
plays_report Demo h = refl
plays_report c h = absurd cc

module _ (law : IsLaw) (s : Settings) (no_fault : s.fault ≡ faults.None) (weaker : IsTrue (is_no_stronger s.model (model_of s.target))) where
  allowed_replayed : (bytes : List ℕ) (p : Program) (runs : List (List ℕ)) → ArePlayedRuns s bytes p runs → AllByRecursion (IsAllowed s.model p) runs
  allowed_replayed bytes p runs replayed =
      let each = subst (λ (f : Fault). AreLinesOf (IsLineOfPlay (record { target = s.target; fault = f; test = p })) replayed.schedules replayed.text.text.lines) no_fault replayed.text.text.each in
      let all = allowed_plays law s.target s.model p replayed.text.test.limits weaker replayed.schedules replayed.text.text.lines each in
      let same : map (run_of s.target faults.None p) replayed.schedules ≡ runs =
      ap (λ (f : Fault). map (run_of s.target f p) replayed.schedules) (sym no_fault) ∙ sym replayed.played in
      subst (AllByRecursion (IsAllowed s.model p)) same all

  allowed_of_seed : (p : Program) (runs : List (List ℕ)) → IsWithinLimits p → AreRunsDrawn s p runs → AllByRecursion (IsAllowed s.model p) runs
  allowed_of_seed p runs limits drawn =
      allowed_drawn law s.target s.model p limits weaker s.gen_settings.seed s.runs runs
      (subst (λ (f : Fault). AreDrawnRuns (record { target = s.target; fault = f; test = p }) s.gen_settings.seed s.runs runs) no_fault drawn)

  allowed_by : (c : Command) (bytes : List ℕ) (p : Program) (runs : List (List ℕ)) → IsTrue (plays c) → IsWithinLimits (generated s.gen_settings) → RecordsBy c s bytes p runs → AllByRecursion (IsAllowed s.model p) runs
  allowed_by Replay bytes p runs plays_it limits h = allowed_replayed bytes p runs h
  allowed_by Run bytes p runs plays_it limits h = allowed_of_seed p runs h.0.limits h.1
  allowed_by Demo bytes p runs plays_it limits h = allowed_of_seed p runs (subst IsWithinLimits (sym h.0) limits) h.1
  allowed_by c bytes p runs plays_it limits h = absurd cc

no_stronger_than_sc : (model : MemModel) → IsTrue (is_no_stronger model (model_of Sc))
no_stronger_than_sc models.Sc = refl
no_stronger_than_sc models.Tso = refl
no_stronger_than_sc models.Pso = refl
no_stronger_than_sc models.Weak = refl

-- runs of races are allowed by every model
pub allowed_races : (law : IsLaw) (model : MemModel) (p : Program) (runs : List (List ℕ)) → IsWithinLimits p → AllByRecursion (IsInterleaved p) runs → AllByRecursion (IsAllowed model p) runs
allowed_races law model p runs limits each =
    all_more (IsInterleaved p) (IsAllowed model p) runs
    (λ run is. subst (IsAllowed model p) is.gives (allowed_play law Sc model p limits (no_stronger_than_sc model) is.steps is.is_done_play)) each

raced_clean : (law : IsLaw) (s : Settings) (c : Command) (bytes : List ℕ) (p : Program) (runs : List (List ℕ)) (text : List ℕ) (is_clean : Bool) → c ≡ Race → RecordsBy c s bytes p runs → OutputsBy c s p runs text is_clean → is_clean ≡ true
raced_clean law s c bytes p runs text is_clean e recorded output =
    let races = subst (λ (d : Command). RecordsBy d s bytes p runs) e recorded in
    let written = subst (λ (d : Command). OutputsBy d s p runs text is_clean) e output in
    clean_report s.model p Whole s.chunk runs written.report is_clean (allowed_races law s.model p runs races.0.limits races.1.each) written.reported

pub no_alarm : (law : IsLaw) (words : List (List ℕ)) (s : Settings) (bytes text : List ℕ) (is_clean : Bool) → HasSettings words s → IsAlarmFree s → IsOutputOf s bytes text is_clean → is_clean ≡ true
no_alarm law words s bytes text is_clean settings (played plays_it no_fault model) h =
    let limits = generated_limits s.gen_settings (ranges_of_words words s settings) settings.consistent.operations in
    clean_report s.model h.test (form_of s.command) s.chunk h.runs text is_clean (allowed_by law s no_fault model s.command bytes h.test h.runs plays_it limits h.recorded)
    (report_in_output s.command s h.test h.runs text is_clean (plays_report s.command plays_it) h.output)
no_alarm law words s bytes text is_clean settings (raced races) h = raced_clean law s s.command bytes h.test h.runs text is_clean races h.recorded h.output

-- ---- no call is answered by a finding

refusal_is_no_finding : (refusal : Refusal) → Found ≡ status_of refusal → ⊥
refusal_is_no_finding Words e = cc
refusal_is_no_finding ReadFault e = cc
refusal_is_no_finding (Input fault) e = cc
refusal_is_no_finding (TooLarge size) e = cc

clean_is_no_finding : (is_clean : Bool) → is_clean ≡ true → Found ≡ output_status is_clean → ⊥
clean_is_no_finding true e found = cc
clean_is_no_finding false e found = cc

module _ (words : List (List ℕ)) (s : Settings) (source sink : Change) (status : Status) (line : List ℕ) (settings : HasSettings words s) (clean : (bytes text : List ℕ) (is_clean : Bool) → IsOutputOf s bytes text is_clean → is_clean ≡ true) where
  -- whichever bytes were taken
  clean_output : (t : Settings) (text : List ℕ) (is_clean : Bool) → HasSettings words t → IsOfInput t source (λ b. IsOutputOf t b text is_clean) → is_clean ≡ true
  clean_output t text is_clean there h =
      clean h.bytes text is_clean (subst (λ (x : Settings). IsOutputOf x h.bytes text is_clean) (one_settings words t s there settings) h.holds)

  pub not_found : IsAnswered words source sink status line → status ≢ Found
  not_found (refused refusal cause is kept told) = λ found. refusal_is_no_finding refusal (sym found ∙ is)
  not_found (written text is_clean h is appended told) = λ found. clean_is_no_finding is_clean (clean_output h.0 text is_clean h.1 h.2) (sym found ∙ is)
  not_found (cut_off text is_clean h fault is appended told) = λ found. let both = sym found ∙ is in cc
  not_found (no_memory is kept told) = λ found. let both = sym found ∙ is in cc
