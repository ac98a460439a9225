use Rattle.std.proofs.Common.{List, ℕ, sym, subst}
use Rattle.std.specs.Prelude.{◌↔◌, IsTrue}
use Rattle.signature_plan.proofs.Meaning.{means-fit}
use Rattle.test_lang.specs.Edges.{HasNoRunOrder}
use Rattle.test_lang.specs.Program.{Program}
use Rattle.test_lang.specs.Signatures.{Means}
use Rattle.window_resort.specs.Walks.{is_cycle}
use Rattle.chunk_pool.proofs.walker.Walker.next.Goals as goal

pub unwrap-requires : goal.unwrap-requires
unwrap-requires g c =
    let plan = c.args.self.now.plan.now in
    let run = c.requires.meant.0 in
    let means = subst (λ (p : Program). Means p c.args.signature.now run) (sym c.requires.walker.plan_is) c.requires.meant.1 in
    c.decode_into.ensures.fit.1 (means-fit plan c.words.result.now run (subst (λ (words : List ℕ). Means plan words run) (sym c.words.ensures) means))

pub returns-clause-none : goal.returns-clause-none
returns-clause-none g c =
    let s = c.args.self.now.checker.fixed in
    subst (λ (run : List ℕ). IsTrue (is_cycle c.next.result) ↔ HasNoRunOrder s.model s.test run) c.deref.ensures.value c.next.ensures.none
