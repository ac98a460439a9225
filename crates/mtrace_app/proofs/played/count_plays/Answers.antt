use Rattle.std.proofs.Common.{◌≡◌, ◌∙◌, map, arith, rules, length, refl, sym, ap, subst}
use Rattle.std.proofs.lemmas.Result.{err_from_is_err_and}
use Rattle.test_lang.specs.Program.{Program, IsWithinLimits}
use Rattle.test_lang.specs.Runs.{IsRun}
use Rattle.test_lang.specs.Values.{load_count}
use Rattle.test_lang.proofs.PlayLaws.GivenRuns.{play_gives_run}
use Rattle.sim_core.specs.Setup.{Setup, run_after}
use Rattle.mtrace_app.specs.Counted.{AreCountedWithin}
use Rattle.mtrace_app.specs.Inputs.{schedules_behind}
use Rattle.mtrace_app.specs.Played.{IsPlayRead}
use Rattle.mtrace_app.proofs.PlaysSoFar.{played-counted, played-none, played-push, played-text, plays_end, plays_on, counts_at, read_shorter, refused_by, total_at}
use Rattle.mtrace_app.proofs.RunsSoFar.{length_lent}
use Rattle.mtrace_app.proofs.played.count_plays.Goals as goal

pub plays-init : goal.plays-init
plays-init g c = record {
  setup = refl;
  played = played-none (g.M.Machine.setup c.args.machine.now) (schedules_behind c.args.line c.args.text.now) c.new-lines.result c.new-counter.result c.new-lines.ensures refl c.new-counter.ensures.counted c.new-counter.ensures.empty;
  words = search rules;
  width = search rules;
}

pub count_run-requires-clause-loads : goal.count_run-requires-clause-loads
count_run-requires-clause-loads g c =
    let stands = g.M.Machine.stands c.next_play.new.machine in
    let now : Setup = g.M.Machine.setup c.next_play.new.machine in
    let read = plays_on (g.M.Machine.setup c.plays.machine) stands c.in_ok-next_play.field-0 c.plays.lines c.next_play.new.lines c.if-branch.true c.in_ok-next_play.ensures.played in
    let run : c.loads.result.now ≡ run_after now read.steps = c.loads.ensures read.steps read.stands in
    let limits = g.met.M.Machine.limits c.next_play.new.machine read.steps read.stands in
    let same : now.test ≡ c.args.plan.now = ap (λ (s : Setup). s.test) (c.next_play.ensures.setup ∙ c.plays.invariant.setup) ∙ c.requires.test in
    ap length run ∙ (play_gives_run now.test limits now.target now.fault read.steps).whole ∙ ap load_count same

pub plays-preserved : goal.plays-preserved
plays-preserved g c =
    let setup : Setup = g.M.Machine.setup c.args.machine.now in
    let i = c.plays.invariant in
    let stands = g.M.Machine.stands c.next_play.new.machine in
    let read : IsPlayRead setup stands c.plays.lines c.next_play.new.lines =
    subst (λ (s : Setup). IsPlayRead s stands c.plays.lines c.next_play.new.lines) i.setup
    (plays_on (g.M.Machine.setup c.plays.machine) stands c.in_ok-next_play.field-0 c.plays.lines c.next_play.new.lines c.if-branch.true c.in_ok-next_play.ensures.played) in
    let same : g.M.Machine.setup c.next_play.new.machine ≡ setup = c.next_play.ensures.setup ∙ i.setup in
    let run : c.loads.result.now ≡ run_after setup read.steps = c.loads.ensures read.steps read.stands ∙ ap (λ (s : Setup). run_after s read.steps) same in
    let limits = subst (λ (s : Setup). IsWithinLimits s.test) same (g.met.M.Machine.limits c.next_play.new.machine read.steps read.stands) in
    let is_run = subst (IsRun setup.test) (sym run) (play_gives_run setup.test limits setup.target setup.fault read.steps) in
    let tested : setup.test ≡ c.args.plan.now = c.requires.test in
    record {
      setup = same;
      played = played-push setup stands (schedules_behind c.args.line c.args.text.now) c.plays.lines c.next_play.new.lines c.plays.runs c.plays.counter c.count_run.new.counter c.loads.result.now i.played read run is_run
          (counts_at setup.test c.args.plan.now tested c.plays.runs c.loads.result.now c.plays.counter c.count_run.new.counter c.in_ok-count_run.ensures.counted)
          (total_at setup.test c.args.plan.now tested c.plays.runs c.plays.counter c.count_run.new.counter c.in_ok-count_run.ensures.total)
          c.in_ok-count_run.ensures.most;
      words = length_lent c.plays.words.len c.count_run.new.words c.plays.words.items (c.count_run.auto.words ∙ ap length c.deref_mut.ensures.value) (sym c.deref_mut.ensures.len ∙ ap length c.deref_mut.ensures.value) ∙ i.words;
      width = search rules;
    }

pub plays-smaller : goal.plays-smaller
plays-smaller g c =
    let stands = g.M.Machine.stands c.next_play.new.machine in
    let read = plays_on (g.M.Machine.setup c.plays.machine) stands c.in_ok-next_play.field-0 c.plays.lines c.next_play.new.lines c.if-branch.true c.in_ok-next_play.ensures.played in
    read_shorter (g.M.Machine.setup c.plays.machine) stands c.plays.lines c.next_play.new.lines read

pub returns-clause-ok : goal.returns-clause-ok
returns-clause-ok g c =
    let setup : Setup = g.M.Machine.setup c.args.machine.now in
    let i = c.plays.invariant in
    let h = i.played in
    let start = schedules_behind c.args.line c.args.text.now in
    let end = plays_end (g.M.Machine.setup c.plays.machine) (g.M.Machine.stands c.next_play.new.machine) c.in_ok-next_play.field-0 c.plays.lines c.next_play.new.lines c.if-branch.false c.in_ok-next_play.ensures.played in (
      h.schedules,
      played-text setup start c.plays.lines c.plays.runs c.plays.counter h end,
      subst (λ (p : Program). AreCountedWithin p (map (run_after setup) h.schedules) c.plays.runs c.in_ok-finish.field-0) c.requires.test
          (played-counted setup start c.plays.lines c.plays.runs c.plays.counter c.in_ok-finish.field-0 h c.in_ok-finish.ensures.counted c.in_ok-finish.ensures.pairs),
    )

pub returns-clause-few : goal.returns-clause-few
returns-clause-few g c = let few = c.plays.invariant.played.shorter in omega (arith, few)

pub returns-in_err-next_play-clause-err : goal.returns-in_err-next_play-clause-err
returns-in_err-next_play-clause-err g c =
    let setup : Setup = g.M.Machine.setup c.args.machine.now in
    let i = c.plays.invariant in
    let p = err_from_is_err_and c.from_residual-in_err-next_play.result c.from_residual-in_err-next_play.ensures.1 in
    rw (p.1, p.2)
    (refused_by setup (g.M.Machine.setup c.plays.machine) (schedules_behind c.args.line c.args.text.now) c.plays.lines c.plays.runs c.plays.counter c.in_err-next_play.field-0.0 i.setup i.played c.in_err-next_play.ensures.refused)
