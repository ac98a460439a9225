-- Recorded runs have one report: its text, and whether it is clean.
use Rattle.std.proofs.Common.{◌≡◌, ◌∙◌, ℕ, List, [], ◌∷◌, ◌++◌, Bool, append_assoc, cond, map, length, refl, sym, ap, subst, arith}
use Rattle.std.specs.Prelude.{IsTrue, count_by, codes, filter, not, ◌&&◌}
use Rattle.std.specs.Fmt.{decimal}
use Rattle.std.specs.List.{flat_map, sum_by, zip}
use Rattle.std.proofs.lemmas.List.Elements.{filter-append}
use Rattle.std.proofs.lemmas.List.Sums.{sum_by-cons}
use Rattle.orders.proofs.OneCycle.{one_canonical}
use Rattle.tally.specs.declared.outcome.Outcome.{Outcome}
use Rattle.tally.proofs.OneTally.{one_tally}
use Rattle.test_lang.specs.declared.op.MemModel.{MemModel}
use Rattle.test_lang.specs.Edges.{Edge}
use Rattle.test_lang.specs.Program.{Program}
use Rattle.test_lang.specs.Text.Line.{closed}
use Rattle.test_lang.specs.Text.Numeral.{part}
use Rattle.test_lang.proofs.TextLemmas.Lines.{closed-append}
use Rattle.signature_plan.specs.Outcomes.{outcome_of}
use Rattle.verdict_report.specs.declared.report.Judged.{Judged}
use Rattle.verdict_report.specs.declared.report.Judged.TheVariants.{Ok, Cycle}
use Rattle.verdict_report.specs.declared.report.Work.{Work}
use Rattle.verdict_report.specs.Lines.{head_lines, named, outcome_lines, sum_line_of, signatures, outsides, outside_line, signature_line, cycle_of, verdict_text, is_ok, is_cycle, sum_line, work_line, report_lines_of, tells_outcome, has_cycle, has_outside}
use Rattle.verdict_report.specs.Numbers.{signature_text}
use Rattle.chunk_pool.specs.Verdicts.{IsJudged, IsVerdict}
use Rattle.chunk_pool.proofs.OneWork.{one_work}
use Rattle.mtrace_app.specs.declared.form.Form.{Form}
use Rattle.mtrace_app.specs.declared.form.Form.TheVariants.{Whole, Summary}
use Rattle.mtrace_app.specs.Report.{AreJudged, IsReportIn, IsWork, run_lines, text_in, words_of}
use Rattle.command_line.specs.declared.meaning.Command.{Command}
use Rattle.command_line.specs.declared.meaning.Command.TheVariants.{Check, Replay, Run, Race, Generate, Demo}
use Rattle.command_line.specs.declared.meaning.Settings.{Settings}
use Rattle.mtrace_app.specs.Inputs.{fixes_runs}
use Rattle.mtrace_app.specs.Outputs.{IsOutputOf, OutputsBy}
use Rattle.mtrace_app.proofs.ByCommand.{one_meaning_by}

-- a report shows the same of both verdicts
record LookSame (a b : Judged) : Type 0 where
  text : verdict_text (cycle_of a) ≡ verdict_text (cycle_of b)
  kind : is_ok a ≡ is_ok b

abbrev AllLookSame : List Judged → List Judged → Type 0
AllLookSame [] [] = Unit {0}
AllLookSame [] (other ∷ others) = ⊥
AllLookSame (judged ∷ found) [] = ⊥
AllLookSame (judged ∷ found) (other ∷ others) = LookSame judged other × AllLookSame found others

module _ (model : MemModel) (p : Program) where
  one_verdict : (run : List ℕ) (a b : Judged) → IsVerdict model p run a → IsVerdict model p run b → LookSame a b
  one_verdict run Ok Ok h k = record { text = refl; kind = refl }
  one_verdict run Ok (Cycle nodes) h k = absurd (k.0 h.0 h.1)
  one_verdict run (Cycle nodes) Ok h k = absurd (h.0 k.0 k.1)
  one_verdict run (Cycle nodes) (Cycle others) h k = record {
    text = ap (λ (ns : List ℕ). codes " cycle" ++ flat_map (λ node. part (decimal node)) ns) (one_canonical (Edge model p run) nodes.list others.list h.1 k.1);
    kind = refl;
  }

  one_judged : (words : List ℕ) (a b : Judged) → IsJudged model p words a → IsJudged model p words b → LookSame a b
  one_judged words a b h k = one_verdict h.run a b h.verdict (subst (λ (run : List ℕ). IsVerdict model p run b) (h.one k.run k.means) k.verdict)

  all_judged : (ss : List (List ℕ × ℕ)) (found others : List Judged) → AreJudged model p ss found → AreJudged model p ss others → AllLookSame found others
  all_judged [] [] [] h k = tt
  all_judged [] [] (b ∷ others) h k = absurd k
  all_judged [] (a ∷ found) others h k = absurd h
  all_judged (s ∷ ss) [] others h k = absurd h
  all_judged (s ∷ ss) (a ∷ found) [] h k = absurd k
  all_judged (s ∷ ss) (a ∷ found) (b ∷ others) h k = (one_judged s.0 a b h.0 k.0, all_judged ss found others h.1 k.1)

-- what a report shows of verdicts

same_lines : (ss : List (List ℕ × ℕ)) (found others : List Judged) → AllLookSame found others → map signature_line (zip ss found) ≡ map signature_line (zip ss others)
same_lines [] found others h = refl
same_lines (s ∷ ss) [] [] h = refl
same_lines (s ∷ ss) [] (b ∷ others) h = absurd h
same_lines (s ∷ ss) (a ∷ found) [] h = absurd h
same_lines (s ∷ ss) (a ∷ found) (b ∷ others) h =
    ap (λ (t : List ℕ). (codes "sig " ++ signature_text s.0 ++ named (codes "count") s.1 ++ t) ∷ map signature_line (zip ss found)) h.0.text
    ∙ ap (λ (ls : List (List ℕ)). signature_line (s, b) ∷ ls) (same_lines ss found others h.1)

same_sum : (f : Judged → ℕ) (a b : Judged) (found others : List Judged) → f a ≡ f b → sum_by f found ≡ sum_by f others → sum_by f (a ∷ found) ≡ sum_by f (b ∷ others)
same_sum f a b found others here more = let first = sum_by-cons f a found in let second = sum_by-cons f b others in omega (arith, here, more, first, second)

same_oks : (found others : List Judged) → AllLookSame found others → count_by is_ok found ≡ count_by is_ok others
same_oks [] [] h = refl
same_oks [] (b ∷ others) h = absurd h
same_oks (a ∷ found) [] h = absurd h
same_oks (a ∷ found) (b ∷ others) h =
    same_sum (λ j. cond (is_ok j) 1 0) a b found others (ap (λ (k : Bool). cond {A = ℕ} k 1 0) h.0.kind) (same_oks found others h.1)

same_cycles : (found others : List Judged) → AllLookSame found others → count_by is_cycle found ≡ count_by is_cycle others
same_cycles [] [] h = refl
same_cycles [] (b ∷ others) h = absurd h
same_cycles (a ∷ found) [] h = absurd h
same_cycles (a ∷ found) (b ∷ others) h =
    same_sum (λ j. cond (is_cycle j) 1 0) a b found others (ap (λ (k : Bool). cond {A = ℕ} (not k) 1 0) h.0.kind) (same_cycles found others h.1)

same_any : (found others : List Judged) → AllLookSame found others → has_cycle found ≡ has_cycle others
same_any [] [] h = refl
same_any [] (b ∷ others) h = absurd h
same_any (a ∷ found) [] h = absurd h
same_any (a ∷ found) (b ∷ others) h = let here = ap not h.0.kind in let more = same_any found others h.1 in cc

module _ (model : MemModel) (runs : ℕ) (tally : List (Outcome × ℕ)) (work : Work) where
  lines_with : List (List ℕ) → ℕ → ℕ → List (List ℕ)
  lines_with lines ok cycle =
      head_lines model runs ++ (lines ++ map outside_line (outsides tally)) ++ sum_line (length (signatures tally)) ok cycle (length (outsides tally)) ∷ work_line work ∷ []

  same_report_lines : (found others : List Judged) → AllLookSame found others → report_lines_of model runs tally found work ≡ report_lines_of model runs tally others work
  unfolding lines_with
  same_report_lines found others h =
      let lines = λ (js : List Judged). map signature_line (zip (signatures tally) js) in
      ap (λ (ls : List (List ℕ)). lines_with ls (count_by is_ok found) (count_by is_cycle found)) (same_lines (signatures tally) found others h)
      ∙ ap (λ (n : ℕ). lines_with (lines others) n (count_by is_cycle found)) (same_oks found others h)
      ∙ ap (λ (n : ℕ). lines_with (lines others) (count_by is_ok others) n) (same_cycles found others h)

  same_text : (form : Form) (found others : List Judged) → AllLookSame found others
      → text_in form model runs (record { tally = tally; verdicts = found; work = work }) ≡ text_in form model runs (record { tally = tally; verdicts = others; work = work })
  same_text Whole found others h = ap closed (same_report_lines found others h)
  same_text Summary found others h = ap (λ (ls : List (List ℕ)). closed (filter (λ line. not (tells_outcome line)) ls)) (same_report_lines found others h)

-- ---- the lines before the last, which tells the work

front_lines : MemModel → ℕ → List (Outcome × ℕ) → List Judged → List (List ℕ)
front_lines model runs tally found = head_lines model runs ++ outcome_lines tally found ++ sum_line_of tally found ∷ []

front_in : Form → MemModel → ℕ → List (Outcome × ℕ) → List Judged → List ℕ
front_in Whole model runs tally found = closed (front_lines model runs tally found)
front_in Summary model runs tally found = closed (filter (λ line. not (tells_outcome line)) (front_lines model runs tally found))

lines_split : (model : MemModel) (runs : ℕ) (tally : List (Outcome × ℕ)) (found : List Judged) (work : Work) → report_lines_of model runs tally found work ≡ front_lines model runs tally found ++ work_line work ∷ []
unfolding front_lines
lines_split model runs tally found work =
    ap (λ (ls : List (List ℕ)). head_lines model runs ++ ls) (sym (append_assoc (outcome_lines tally found) (sum_line_of tally found ∷ []) (work_line work ∷ [])))

text_split : (form : Form) (model : MemModel) (runs : ℕ) (tally : List (Outcome × ℕ)) (found : List Judged) (work : Work)
    → text_in form model runs (record { tally = tally; verdicts = found; work = work }) ≡ front_in form model runs tally found ++ closed (work_line work ∷ [])
unfolding front_in
text_split Whole model runs tally found work =
    ap closed (lines_split model runs tally found work) ∙ closed-append (front_lines model runs tally found) (work_line work ∷ [])
text_split Summary model runs tally found work =
    let shown = λ (line : List ℕ). not (tells_outcome line) in
    ap (λ (ls : List (List ℕ)). closed (filter shown ls)) (lines_split model runs tally found work)
    ∙ ap closed (filter-append shown (front_lines model runs tally found) (work_line work ∷ []))
    ∙ closed-append (filter shown (front_lines model runs tally found)) (work_line work ∷ [])

-- reports of the same runs, by chunks of two sizes, differ in the line of the work
pub record DifferInWork (text other : List ℕ) (is_clean also : Bool) : Type 0 where
  pub front : List ℕ
  pub work : Work
  pub otherwise : Work
  pub one : text ≡ front ++ closed (work_line work ∷ [])
  pub second : other ≡ front ++ closed (work_line otherwise ∷ [])
  pub clean : is_clean ≡ also

pub same_but_work : (form : Form) (model : MemModel) (chunk size : ℕ) (p : Program) (runs : List (List ℕ)) (text other : List ℕ) (is_clean also : Bool)
    → IsReportIn form model chunk p runs text is_clean → IsReportIn form model size p runs other also → DifferInWork text other is_clean also
same_but_work form model chunk size p runs text other is_clean also h k =
    let f = h.findings in
    let g = k.findings in
    let same : f.tally ≡ g.tally = one_tally (map (outcome_of p) runs) f.tally g.tally h.found.counts k.found.counts in
    let judged : AreJudged model p (signatures g.tally) f.verdicts = subst (λ (t : List (Outcome × ℕ)). AreJudged model p (signatures t) f.verdicts) same h.found.judged in
    let look : AllLookSame f.verdicts g.verdicts = all_judged model p (signatures g.tally) f.verdicts g.verdicts judged k.found.judged in
    record {
      front = front_in form model (length runs) g.tally g.verdicts;
      work = f.work;
      otherwise = g.work;
      one = h.whole ∙ ap (λ (t : List (Outcome × ℕ)). text_in form model (length runs) (record { tally = t; verdicts = f.verdicts; work = f.work })) same
          ∙ same_text model (length runs) g.tally f.work form f.verdicts g.verdicts look ∙ text_split form model (length runs) g.tally g.verdicts f.work;
      second = k.whole ∙ text_split form model (length runs) g.tally g.verdicts g.work;
      clean = h.clean ∙ ap (λ (t : List (Outcome × ℕ)). not (has_cycle f.verdicts) && not (has_outside t)) same
          ∙ ap (λ (b : Bool). not b && not (has_outside g.tally)) (same_any f.verdicts g.verdicts look) ∙ sym k.clean;
    }

same_report : (form : Form) (model : MemModel) (chunk : ℕ) (p : Program) (runs : List (List ℕ)) (text other : List ℕ) (is_clean also : Bool) → IsReportIn form model chunk p runs text is_clean → IsReportIn form model chunk p runs other also
    → (text ≡ other) × (is_clean ≡ also)
same_report form model chunk p runs text other is_clean also h k =
    let f = h.findings in
    let g = k.findings in
    let same : f.tally ≡ g.tally = one_tally (map (outcome_of p) runs) f.tally g.tally h.found.counts k.found.counts in
    let judged : AreJudged model p (signatures g.tally) f.verdicts = subst (λ (t : List (Outcome × ℕ)). AreJudged model p (signatures t) f.verdicts) same h.found.judged in
    let look : AllLookSame f.verdicts g.verdicts = all_judged model p (signatures g.tally) f.verdicts g.verdicts judged k.found.judged in
    let works : IsWork model p chunk (signatures g.tally) f.work = subst (λ (t : List (Outcome × ℕ)). IsWork model p chunk (signatures t) f.work) same h.found.works in
    let work : f.work ≡ g.work = one_work model p chunk (words_of (signatures g.tally)) f.work g.work works k.found.works in (
      h.whole ∙ ap (λ (t : List (Outcome × ℕ)). text_in form model (length runs) (record { tally = t; verdicts = f.verdicts; work = f.work })) same
          ∙ ap (λ (w : Work). text_in form model (length runs) (record { tally = g.tally; verdicts = f.verdicts; work = w })) work
          ∙ same_text model (length runs) g.tally g.work form f.verdicts g.verdicts look ∙ sym k.whole,
      h.clean ∙ ap (λ (t : List (Outcome × ℕ)). not (has_cycle f.verdicts) && not (has_outside t)) same
          ∙ ap (λ (b : Bool). not b && not (has_outside g.tally)) (same_any f.verdicts g.verdicts look) ∙ sym k.clean,
    )

one_output_by : (c : Command) (s : Settings) (p : Program) (runs : List (List ℕ)) (text other : List ℕ) (is_clean also : Bool) → OutputsBy c s p runs text is_clean → OutputsBy c s p runs other also → (text ≡ other) × (is_clean ≡ also)
one_output_by Check s p runs text other is_clean also h k = same_report Whole s.model s.chunk p runs text other is_clean also h k
one_output_by Replay s p runs text other is_clean also h k = same_report Whole s.model s.chunk p runs text other is_clean also h k
one_output_by Run s p runs text other is_clean also h k = same_report Whole s.model s.chunk p runs text other is_clean also h k
one_output_by Race s p runs text other is_clean also h k =
    let same = same_report Whole s.model s.chunk p runs h.report k.report is_clean also h.reported k.reported in
    (h.whole ∙ ap (λ (r : List ℕ). run_lines runs ++ r) same.0 ∙ sym k.whole, same.1)
one_output_by Generate s p runs text other is_clean also h k = (h.0 ∙ sym k.0, h.1 ∙ sym k.1)
one_output_by Demo s p runs text other is_clean also h k = same_report Summary s.model s.chunk p runs text other is_clean also h k

pub one_output : (s : Settings) (bytes text other : List ℕ) (is_clean also : Bool) → IsTrue (fixes_runs s.command) → IsOutputOf s bytes text is_clean → IsOutputOf s bytes other also → (text ≡ other) × (is_clean ≡ also)
one_output s bytes text other is_clean also fixed h k =
    let same = one_meaning_by s.command s bytes k.test h.test k.runs h.runs k.recorded h.recorded in
    let there =
    subst (λ (rs : List (List ℕ)). OutputsBy s.command s h.test rs other also) (same.same_runs fixed)
    (subst (λ (q : Program). OutputsBy s.command s q k.runs other also) same.same_test k.output) in
    one_output_by s.command s h.test h.runs text other is_clean also h.output there
