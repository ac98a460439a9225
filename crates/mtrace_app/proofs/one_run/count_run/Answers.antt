use Rattle.std.proofs.Common.{◌≡◌, List, [], ◌∷◌, ◌++◌, sym, subst}
use Rattle.std.proofs.lemmas.Result.{on_ok_weaker}
use Rattle.tally.specs.declared.outcome.Outcome.{Outcome}
use Rattle.tally.specs.Counting.{Counting, HasCounted}
use Rattle.mtrace_app.proofs.one_run.count_run.Goals as goal

-- what is counted of an outcome is counted of one that is the same
same_counted : {A : Type 0} (x y : Outcome) (old new : Counting) → x ≡ y → ((outcomes : List Outcome) → HasCounted outcomes old → HasCounted (outcomes ++ y ∷ []) new)
    → A → (outcomes : List Outcome) → HasCounted outcomes old → HasCounted (outcomes ++ x ∷ []) new
same_counted x y old new e counted _ outcomes h = subst (λ (o : Outcome). HasCounted (outcomes ++ o ∷ []) new) (sym e) (counted outcomes h)

pub returns-in-Ok-clause-counted : goal.returns-in-Ok-clause-counted
returns-in-Ok-clause-counted c = on_ok_weaker c.count.result (same_counted _ _ c.args.counter.now c.count.new.self c.in-Ok.ensures.outcome_inside) c.count.ensures.counted

pub returns-in-Err-clause-counted : goal.returns-in-Err-clause-counted
returns-in-Err-clause-counted c = on_ok_weaker c.count_outside.result (same_counted _ _ c.args.counter.now c.count_outside.new.self c.in-Err.ensures.outcome_outside) c.count_outside.ensures.counted
