-- The value from before is put back.
use Rattle.std.proofs.Common.{◌∙◌, ℕ, List, sym, subst}
use Rattle.std.proofs.lemmas.List.{set-get_or, set-set}
use Rattle.test_lang.specs.Runs.{IsInside}
use Rattle.chunk_pool.proofs.comparison.set_if_inside.Goals as goal

pub returns-then-is_err-clause-inside : goal.returns-then-is_err-clause-inside
returns-then-is_err-clause-inside c =
    let run = c.args.run.now in
    subst (λ (back : List ℕ). IsInside c.args.plan.now back) (sym (set-set run c.args.rank c.args.value _ ∙ set-get_or run c.args.rank 0)) c.requires.inside
