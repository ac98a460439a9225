use Rattle.std.proofs.Common.{◌≡◌, true, arith, sym, subst}
use Rattle.run_text.specs.declared.fault.RunFault.{RunFault}
use Rattle.run_text.specs.RunLine.{run_of, Refuses}
use Rattle.run_text.proofs.Judging.{judged-none, judged-count, judged-range, judged-ok}
use Rattle.run_text.proofs.run_line.read_run.Goals as goal
use Rattle.run_text.proofs.run_line.read_run.Goals.{in-Err, in-Ok-None, in-Ok-Some+then-found-want, in-Ok-Some+else-found-want+then-not-found}

pub returns-else-not-found : goal.returns-else-not-found
returns-else-not-found c =
    let fit : c.in-Ok-Some.found.all_fit ≡ true = grind arith in
    judged-ok c.args.number c.args.want _ _ _ _ (rw c.in-Ok-Some.field-0-is at c.in-Ok-Some.ensures.exact) c.if-found-want.false fit

pub returns : goal.returns
returns c =
    let Goal : RunFault → Type 0 = λ f. Refuses f (run_of c.args.number c.args.want c.args.line.now) in (
      grind (arith, c.truncate.ensures.items, c.find_values.ensures.front, c.len-before.ensures),
      elim c.match-find_values.branch [
        | in-Err w ↦ subst Goal (sym w.fault-is) tt
        | in-Ok-None w ↦ let h = w.in-Ok-None in subst Goal (sym w.fault-is) (judged-none c.args.number c.args.want c.args.values.now.items c.find_values.new.values.items _ (rw h.field-0-is at h.ensures.exact))
        | in-Ok-Some+then-found-want w ↦ let h = w.in-Ok-Some in
            subst Goal (sym w.fault-is) (judged-count c.args.number c.args.want _ _ _ _ (rw h.field-0-is at h.ensures.exact) w.if-found-want.true)
        | in-Ok-Some+else-found-want+then-not-found w ↦ let h = w.in-Ok-Some in
            subst Goal (sym w.fault-is) (judged-range c.args.number c.args.want _ _ _ _ (rw h.field-0-is at h.ensures.exact) w.if-found-want.false (grind (arith, w.if-not-found.true)))
      ],
    )
