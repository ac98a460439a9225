-- Signatures have one list of verdicts.
use Rattle.std.proofs.Common.{◌≡◌, ◌∙◌, ℕ, List, [], ◌∷◌, map, refl, ap, subst}
use Rattle.std.specs.Prelude.{Option, Some}
use Rattle.std.specs.List.{AllZip}
use Rattle.orders.proofs.OneCycle.{one_canonical}
use Rattle.test_lang.specs.declared.op.MemModel.{MemModel}
use Rattle.test_lang.specs.Edges.{Edge}
use Rattle.test_lang.specs.Program.{Program}
use Rattle.verdict_report.specs.declared.report.Judged.{Judged}
use Rattle.verdict_report.specs.declared.report.Judged.TheVariants.{Ok, Cycle}
use Rattle.verdict_report.specs.Lines.{cycle_of}
use Rattle.chunk_pool.specs.Verdicts.{IsJudged, IsVerdict}

module _ (m : MemModel) (p : Program) where
  one_verdict : (run : List ℕ) (a b : Judged) → IsVerdict m p run a → IsVerdict m p run b → cycle_of a ≡ cycle_of b
  one_verdict run Ok Ok h k = refl
  one_verdict run Ok (Cycle nodes) h k = absurd (k.0 h.0 h.1)
  one_verdict run (Cycle nodes) Ok h k = absurd (h.0 k.0 k.1)
  one_verdict run (Cycle nodes) (Cycle others) h k = ap Some (one_canonical (Edge m p run) nodes.list others.list h.1 k.1)

  one_judged : (words : List ℕ) (a b : Judged) → IsJudged m p words a → IsJudged m p words b → cycle_of a ≡ cycle_of b
  one_judged words a b h k = one_verdict h.run a b h.verdict (subst (λ (run : List ℕ). IsVerdict m p run b) (h.one k.run k.means) k.verdict)

  pub one_list : (signatures : List (List ℕ)) (found others : List Judged) → AllZip (IsJudged m p) signatures found → AllZip (IsJudged m p) signatures others → map cycle_of found ≡ map cycle_of others
  one_list [] [] [] h k = refl
  one_list [] [] (b ∷ others) h k = absurd k
  one_list [] (a ∷ found) others h k = absurd h
  one_list (words ∷ signatures) [] others h k = absurd h
  one_list (words ∷ signatures) (a ∷ found) [] h k = absurd k
  one_list (words ∷ signatures) (a ∷ found) (b ∷ others) h k =
      ap (λ (c : Option (List ℕ)). c ∷ map cycle_of found) (one_judged words a b h.0 k.0)
      ∙ ap (λ (cs : List (Option (List ℕ))). cycle_of b ∷ cs) (one_list signatures found others h.1 k.1)
