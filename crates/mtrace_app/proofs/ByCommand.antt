-- What bytes mean to a command.
use Rattle.std.proofs.Common.{◌≡◌, ◌∙◌, ◌⊎◌, ℕ, List, [], Bool, length, inl, inr, refl, sym, ap, subst}
use Rattle.std.specs.Prelude.{IsTrue}
use Rattle.test_lang.specs.Program.{Program}
use Rattle.test_gen.specs.Generated.{generated}
use Rattle.sim_core.proofs.DrawnPlays.{one_drawn_runs, some_drawn_runs}
use Rattle.command_line.specs.declared.meaning.Command.{Command}
use Rattle.command_line.specs.declared.meaning.Command.TheVariants.{Check, Replay, Run, Race, Generate, Demo}
use Rattle.command_line.specs.declared.meaning.Settings.{Settings}
use Rattle.mtrace_app.specs.declared.refusal.InputFault.{InputFault}
use Rattle.mtrace_app.specs.Inputs.{AreRunsDrawn, RecordsBy, RefusesBy, fixes_runs, setup_of}
use Rattle.mtrace_app.specs.Outputs.{OutputsBy, form_of, reports}
use Rattle.mtrace_app.specs.Report.{IsReportIn}
use Rattle.mtrace_app.proofs.OneMeaning.{not_both, one_meaning, one_refusal}
use Rattle.mtrace_app.proofs.OnePlay.{not_both_plays, one_meaning_of_plays, one_refusal_of_plays}
use Rattle.mtrace_app.proofs.Races.{some_races}
use Rattle.mtrace_app.proofs.SomeMeaning.{some_meaning}
use Rattle.mtrace_app.proofs.SomePlay.{some_meaning_of_plays}
use Rattle.mtrace_app.proofs.TestAlone.{alone_not_refused, alone_or_refused, one_refusal_alone, one_test}

-- the runs that settings draw of one test are one list
same_drawn : (s : Settings) (p q : Program) (runs others : List (List ℕ)) → p ≡ q → AreRunsDrawn s p runs → AreRunsDrawn s q others → (p ≡ q) × (runs ≡ others)
same_drawn s p q runs others same h k = (same, one_drawn_runs (setup_of s q) s.gen_settings.seed s.runs runs others (subst (λ (t : Program). AreRunsDrawn s t runs) same h) k)

-- The bytes mean one test to a command, and so many runs; and these are one list, unless it races.
pub record MeanTheSame (c : Command) (p q : Program) (runs others : List (List ℕ)) : Type 0 where
  pub same_test : p ≡ q
  pub same_count : length runs ≡ length others
  pub same_runs : IsTrue (fixes_runs c) → runs ≡ others

same_meaning : (c : Command) (p q : Program) (runs others : List (List ℕ)) → (p ≡ q) × (runs ≡ others) → MeanTheSame c p q runs others
same_meaning c p q runs others h = record { same_test = h.0; same_count = ap (length {A = List ℕ}) h.1; same_runs = λ fixed. h.1 }

pub one_meaning_by : (c : Command) (s : Settings) (bytes : List ℕ) (p q : Program) (runs others : List (List ℕ)) → RecordsBy c s bytes p runs → RecordsBy c s bytes q others → MeanTheSame c p q runs others
one_meaning_by Check s bytes p q runs others h k = same_meaning Check p q runs others (one_meaning bytes p q runs others h k)
one_meaning_by Replay s bytes p q runs others h k = same_meaning Replay p q runs others (one_meaning_of_plays s bytes p q runs others h k)
one_meaning_by Run s bytes p q runs others h k = same_meaning Run p q runs others (same_drawn s p q runs others (one_test bytes p q h.0 k.0) h.1 k.1)
one_meaning_by Race s bytes p q runs others h k = record { same_test = one_test bytes p q h.0 k.0; same_count = h.1.number ∙ sym k.1.number; same_runs = λ fixed. absurd cc }
one_meaning_by Generate s bytes p q runs others h k = same_meaning Generate p q runs others (h.0 ∙ sym k.0, h.1 ∙ sym k.1)
one_meaning_by Demo s bytes p q runs others h k = same_meaning Demo p q runs others (same_drawn s p q runs others (h.0 ∙ sym k.0) h.1 k.1)

pub not_both_by : (c : Command) (s : Settings) (bytes : List ℕ) (p : Program) (runs : List (List ℕ)) (fault : InputFault) → RecordsBy c s bytes p runs → RefusesBy c s bytes fault → ⊥
not_both_by Check s bytes p runs fault h r = not_both bytes p runs fault h r
not_both_by Replay s bytes p runs fault h r = not_both_plays s bytes p runs fault h r
not_both_by Run s bytes p runs fault h r = alone_not_refused bytes p fault h.0 r
not_both_by Race s bytes p runs fault h r = alone_not_refused bytes p fault h.0 r
not_both_by Generate s bytes p runs fault h r = absurd r
not_both_by Demo s bytes p runs fault h r = absurd r

-- the output of a command that reports is a report, in its form
pub report_in_output : (c : Command) (s : Settings) (p : Program) (runs : List (List ℕ)) (text : List ℕ) (is_clean : Bool) → IsTrue (reports c) → OutputsBy c s p runs text is_clean → IsReportIn (form_of c) s.model s.chunk p runs text is_clean
report_in_output Check s p runs text is_clean reported h = h
report_in_output Replay s p runs text is_clean reported h = h
report_in_output Run s p runs text is_clean reported h = h
report_in_output Race s p runs text is_clean reported h = absurd cc
report_in_output Generate s p runs text is_clean reported h = absurd cc
report_in_output Demo s p runs text is_clean reported h = h

-- a command that reports writes a report in its form
pub output_by_report : (c : Command) (s : Settings) (p : Program) (runs : List (List ℕ)) (text : List ℕ) (is_clean : Bool) → IsTrue (reports c) → IsReportIn (form_of c) s.model s.chunk p runs text is_clean → OutputsBy c s p runs text is_clean
output_by_report Check s p runs text is_clean reported h = h
output_by_report Replay s p runs text is_clean reported h = h
output_by_report Run s p runs text is_clean reported h = h
output_by_report Race s p runs text is_clean reported h = absurd cc
output_by_report Generate s p runs text is_clean reported h = absurd cc
output_by_report Demo s p runs text is_clean reported h = h

pub one_refusal_by : (c : Command) (s : Settings) (bytes : List ℕ) (fault other : InputFault) → RefusesBy c s bytes fault → RefusesBy c s bytes other → fault ≡ other
one_refusal_by Check s bytes fault other h k = one_refusal bytes fault other h k
one_refusal_by Replay s bytes fault other h k = one_refusal_of_plays s bytes fault other h k
one_refusal_by Run s bytes fault other h k = one_refusal_alone bytes fault other h k
one_refusal_by Race s bytes fault other h k = one_refusal_alone bytes fault other h k
one_refusal_by c s bytes fault other h k = absurd h

abbrev MeansBy : Command → Settings → List ℕ → Type 0
MeansBy c s bytes = ((p : Program) × (runs : List (List ℕ)) × RecordsBy c s bytes p runs) ⊎ ((fault : InputFault) × RefusesBy c s bytes fault)

drawn_or_refused : (s : Settings) (bytes : List ℕ) → MeansBy Run s bytes
drawn_or_refused s bytes = elim (alone_or_refused bytes) [
  | inl alone ↦ let drawn = some_drawn_runs (setup_of s alone.0) s.gen_settings.seed s.runs in inl (alone.0, drawn.0, (alone.1, drawn.1))
  | inr refused ↦ inr refused
]

raced_or_refused : (s : Settings) (bytes : List ℕ) → MeansBy Race s bytes
raced_or_refused s bytes = elim (alone_or_refused bytes) [
  | inl alone ↦ let raced = some_races alone.0 s.runs in inl (alone.0, raced.0, (alone.1, raced.1))
  | inr refused ↦ inr refused
]

pub some_meaning_by : (c : Command) (s : Settings) (bytes : List ℕ) → MeansBy c s bytes
some_meaning_by Check s bytes = some_meaning bytes
some_meaning_by Replay s bytes = some_meaning_of_plays s bytes
some_meaning_by Run s bytes = drawn_or_refused s bytes
some_meaning_by Race s bytes = raced_or_refused s bytes
some_meaning_by Generate s bytes = inl (generated s.gen_settings, [], (refl, refl))
some_meaning_by Demo s bytes =
    let drawn = some_drawn_runs (setup_of s (generated s.gen_settings)) s.gen_settings.seed s.runs in
    inl (generated s.gen_settings, drawn.0, (refl, drawn.1))
