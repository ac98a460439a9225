use Rattle.std.proofs.Common.{ℕ, List, All, sym, subst}
use Rattle.test_lang.specs.Program.{Program}
use Rattle.test_lang.specs.Signatures.{Means}
use Rattle.chunk_pool.proofs.tests.checked.Goals as goal

pub check_all-requires-clause-meant : goal.check_all-requires-clause-meant
check_all-requires-clause-meant g c κs within =
    let signatures = c.in_ok-signatures.signatures.items in
    subst (All (λ words. (run : List ℕ) × Means c.in-Ok.read.test words run)) (sym c.deref.ensures.value)
    (subst (λ (p : Program). All (λ words. (run : List ℕ) × Means p words run) signatures) c.in_ok-plan.ensures c.in_ok-signatures.ensures)
