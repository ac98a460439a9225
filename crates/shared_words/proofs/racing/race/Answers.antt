use Rattle.std.proofs.Common.{◌≡◌, true, refl, sym, ◌∙◌, subst}
use Rattle.test_lang.specs.declared.op.MemModel.{MemModel}
use Rattle.test_lang.specs.declared.op.MemModel.TheVariants as models
use Rattle.test_lang.specs.declared.target.Target.TheVariants.{Sc}
use Rattle.test_lang.specs.declared.target.Fault.TheVariants.{None}
use Rattle.test_lang.specs.Edges.{IsRunAcyclic}
use Rattle.test_lang.specs.Models.{is_no_stronger}
use Rattle.test_lang.specs.Program.{Program}
use Rattle.test_lang.specs.Runs.{IsInside}
use Rattle.test_lang.specs.Play.Plays.{effects_of}
use Rattle.shared_words.specs.Rule.{IsReachedBy}
use Rattle.shared_words.proofs.Gathering.{is_interleaved}
use Rattle.shared_words.proofs.racing.race.Goals as goal

-- the sequential model is the strongest
strongest : (m : MemModel) → is_no_stronger m models.Sc ≡ true
strongest models.Sc = refl
strongest models.Tso = refl
strongest models.Pso = refl
strongest models.Weak = refl

pub returns-clause-interleaved : goal.returns-clause-interleaved
returns-clause-interleaved g c =
    let p = c.args.test.now in
    let done = c.in_ok-done.done in
    let reached = subst (λ (q : Program). IsReachedBy q c.in_ok-seat.seat.me.0) c.in_ok-table.ensures.table.2 c.settle.ensures in
    is_interleaved c.in_ok-table.table.shared.table_id p done.items (sym done.ok.0 ∙ c.in_ok-done.ensures.0) c.in_ok-done.ensures.1 c.in_ok-seat.seat.me.0 c.in_ok-seat.ensures.seat.1 reached c.gather.new.run.items c.in_ok-seat.ensures.run

pub returns-clause-inside : goal.returns-clause-inside
returns-clause-inside g c =
    let p = c.args.test.now in
    let played = returns-clause-interleaved g c in
    subst (IsInside p) played.gives (c.done_plays_raise_no_alarm.ensures.inside Sc p played.steps c.words.ensures.limits played.is_done_play)

pub returns-clause-acyclic : goal.returns-clause-acyclic
returns-clause-acyclic g c = λ model.
    let p = c.args.test.now in
    let played = returns-clause-interleaved g c in
    subst (IsRunAcyclic model p) played.gives (effects_of Sc None p played.steps, c.done_plays_raise_no_alarm.ensures.ordered Sc model p played.steps (strongest model) played.is_done_play)
