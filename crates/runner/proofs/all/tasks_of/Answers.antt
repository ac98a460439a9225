use Rattle.std.proofs.Common.{rules, ◌≡◌, ◌∙◌, ◌<◌, ◌≤◌, ◌+◌, ℕ, List, length, suc, sym, ap, subst, arith, length-append}
use Rattle.std.specs.Prelude.{slice_get}
use Rattle.test_lang.specs.declared.target.Target.{Target}
use Rattle.test_lang.specs.Program.{Program}
use Rattle.test_lang.specs.Signatures.{groups}
use Rattle.sim_core.specs.Setup.{Setup}
use Rattle.turn_set.specs.Passes.{PassState}
use Rattle.turn_set.proofs.Dealt.{taken_first}
use Rattle.runner.specs.declared.job.Job.{Job}
use Rattle.runner.specs.Runners.{AreReady, IsReady}
use Rattle.runner.proofs.Puts.{all_push}
use Rattle.runner.proofs.all.tasks_of.Goals as goal

pub passes-init : goal.passes-init
passes-init g c =
    let none : length c.in_ok-tasks.tasks.items ≡ 0 = ap length c.in_ok-tasks.ensures.items in
    let len = c.requires.all.length in
    let cap = c.in_ok-tasks.ensures.capacity in
    let count = c.len.ensures in
    let ok = c.args.passes.ok.0 in
    record {
      sum = omega (arith, none, len);
      room = omega (arith, cap, count, len, ok);
      left = λ j p e. let q = c.requires.all.each j p e in let n = q.0 in (omega (arith, n, none), q.1, c.requires.fresh j p e);
      ready = λ k d low. absurd (omega (arith, none, low));
    }

-- what a job plays on a machine of this kind
abbrev setup_at : Job → Target → Setup
setup_at job kind = record { target = kind; fault = job.fault; test = job.test.now }

pub passes-preserved : goal.passes-preserved
passes-preserved g c =
    let set = c.args.set.now in
    let job = c.args.job.now in
    let i = c.passes.invariant in
    let gone = c.remove.ensures.len in
    let had = c.passes.passes.ok.0 in
    let some : 0 < length c.passes.passes.items = omega (arith, gone, had) in
    let whole = taken_first c.passes.passes.items c.remove.new.self.items c.remove.result some c.remove.ensures.items c.remove.ensures.value in
    let first = i.left 0 c.remove.result (ap (λ (l : List PassState). slice_get l 0) whole) in
    let pushed = c.push_reserved.ensures.items in
    let more : length c.push_reserved.new.self.items ≡ length c.passes.tasks.items + 1 = ap length pushed ∙ length-append c.passes.tasks.items _ in
    let lens : length c.passes.passes.items ≡ suc (length c.remove.new.self.items) = ap length whole in
    let sum = i.sum in
    let number = first.0 in
    let words : length c.in_ok-words.words.items ≡ length (groups job.plan.now) = search rules in
    record {
      sum = omega (arith, more, lens, sum);
      room = subst (λ (k : ℕ). set.passes ≤ k) (sym c.push_reserved.ensures.capacity) i.room;
      left = λ j p e.
          let q = i.left (suc j) p (ap (λ (l : List PassState). slice_get l (suc j)) whole ∙ e) in
          let n = q.0 in
          (omega (arith, n, more), q.1, q.2);
      ready = subst (AreReady g.M.Machine.setup job set) (sym pushed)
          (all_push (IsReady g.M.Machine.setup job set) c.passes.tasks.items _ i.ready
          record {
            pass = first.1;
            number = omega (arith, number);
            fresh = first.2;
            batch = c.new.ensures.items;
            setup = c.in_ok-machine.ensures.setup ∙ ap (setup_at job) c.requires.kind;
            words = words ∙ ap (λ (p : Program). length (groups p)) c.requires.job.plan;
          });
    }
