use Rattle.std.proofs.Common.{◌≡◌, ℕ, List, subst}
use Rattle.std.specs.Prelude.{Option, Some, IfSome}
use Rattle.std.proofs.lemmas.List.Elements.{All-push}
use Rattle.test_lang.specs.Program.{Program}
use Rattle.test_lang.specs.Signatures.{Means}
use Rattle.chunk_pool.proofs.tests.signatures_of.Goals as goal
use Rattle.chunk_pool.proofs.tests.signatures_of.Goals.{in-Some+in_ok-push, in_default}

abbrev IsMeant : Program → List ℕ → Type 0
IsMeant p words = (run : List ℕ) × Means p words run

some-meant : (p : Program) (run : List ℕ) (found : Option (List ℕ)) (words : List ℕ) → found ≡ Some words → IfSome found (λ signature. Means p signature run) → IsMeant p words
some-meant p run found words is meant = (run, subst (λ (f : Option (List ℕ)). IfSome f (λ signature. Means p signature run)) is meant)

pub loop-run-preserved : goal.loop-run-preserved
loop-run-preserved c =
    elim c.match-branch-2.branch [
      | in-Some+in_ok-push w ↦
          let p = c.args.plan.now in
          let meant = some-meant p _ c.in_ok-signature.field-0 w.in-Some.signature w.in-Some.is c.in_ok-signature.ensures in
          let all = All-push (IsMeant p) c.loop-run.signatures.items w.in-Some.signature c.loop-run.invariant.meant meant in
          rw (w.signatures-is, w.in_ok-push.ensures.items) (record { meant = all })
      | in_default w ↦ rw w.signatures-is c.loop-run.invariant
    ]
