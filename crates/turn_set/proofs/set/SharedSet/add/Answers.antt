use Rattle.std.proofs.Common.{◌≡◌, ◌+◌, ℕ, ap, ◌∙◌, subst, arith}
use Rattle.turn_set.specs.declared.fault.AddFault.{AddFault}
use Rattle.turn_set.specs.Passes.{PassState, IsRefused, missed, missed_often}
use Rattle.turn_set.proofs.set.SharedSet.add.Goals as goal

missed_more : (p : PassState) (n : ℕ) → missed (missed_often p n) ≡ missed_often p (n + 1)
missed_more p n =
    let e : (p.busy + n) + 1 ≡ p.busy + (n + 1) = omega arith in
    λ i. record { table = p.table; made = p.made; number = p.number; list = p.list; front = p.front; turns = p.turns; busy = e i }

pub loop-preserved : goal.loop-preserved
loop-preserved g c =
    let inv = c.loop.invariant in
    let d = c.in-Err-Busy.ensures.refused in
    let refused = subst (λ (f : AddFault). IsRefused f c.loop.pass c.try_add.new.pass) c.in-Err-Busy.field-0-is d.0 in
    record {
      goes = tt;
      finite = tt;
      pass = (inv.pass.0 + 1, refused ∙ ap missed inv.pass.1 ∙ missed_more c.args.pass.now inv.pass.0);
      batch = d.1 ∙ inv.batch;
    }
