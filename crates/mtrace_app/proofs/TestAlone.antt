-- An input that is to be a test alone is one test, or is refused in one way.
use Rattle.std.proofs.Common.{◌≡◌, ◌≢◌, ◌∙◌, ◌⊎◌, ℕ, ◌+◌, List, [], ◌∷◌, length, Result, Ok, Err, refl, sym, ap, subst, arith, inl, inr}
use Rattle.std.specs.Prelude.{Option, Some}
use Rattle.test_lang.specs.Program.{Program}
use Rattle.test_lang.specs.declared.text.fault.TestFault.{TestFault}
use Rattle.test_lang.specs.declared.text.fault.TestFault.TheVariants.{BadHead, BadWords, BadLine, WordRange, TooManyThreads, TooManyOps, NoThread, NoEnd, Memory}
use Rattle.test_lang.specs.Text.Grammar.{StartsWithTest, test_lines}
use Rattle.test_lang.specs.Text.Reading.{reading as reading_of_test}
use Rattle.test_lang.specs.Text.Refusal.{TextMeans, IsRefused as IsRefusedTest}
use Rattle.test_lang.proofs.TextLemmas.Readings.{reading_means}
use Rattle.run_text.specs.declared.fault.RunFault.{RunFault}
use Rattle.run_text.specs.declared.fault.RunFault.TheVariants.{AfterDone as AfterDoneLine}
use Rattle.mtrace_app.specs.declared.refusal.InputFault.{InputFault}
use Rattle.mtrace_app.specs.declared.refusal.Reason.TheVariants.{AfterDone}
use Rattle.mtrace_app.specs.declared.refusal.Refusal.{Refusal}
use Rattle.mtrace_app.specs.declared.refusal.Refusal.TheVariants.{Input}
use Rattle.mtrace_app.specs.Failures.{IfRefused, failure_of}
use Rattle.mtrace_app.specs.Inputs.{IsRefusedTestAlone, IsTestAlone, fault_behind_test, fault_in_test, no_test, not_alone}
use Rattle.mtrace_app.proofs.OneMeaning.{not_a_test, same_refusal_of_test, same_rest, same_test, some_one}

module _ (bytes : List ℕ) where
  -- each refusal of a text of no test is one of an input
  named : (refusal : TestFault) → IsRefusedTest bytes refusal → (fault : InputFault) × (fault_in_test refusal ≡ Some fault)
  named (BadHead line) h = (_, refl)
  named (BadWords line) h = (_, refl)
  named (BadLine line) h = (_, refl)
  named (WordRange line) h = (_, refl)
  named (TooManyThreads line) h = (_, refl)
  named (TooManyOps line) h = (_, refl)
  named (NoThread line) h = (_, refl)
  named (NoEnd line) h = (_, refl)
  named Memory h = let number = h.number in absurd (omega (arith, number))

  pub one_test : (p q : Program) → IsTestAlone bytes p → IsTestAlone bytes q → p ≡ q
  one_test p q h k = same_test bytes p q [] [] h k

  pub alone_not_refused : (p : Program) (fault : InputFault) → IsTestAlone bytes p → IsRefusedTestAlone bytes fault → ⊥
  alone_not_refused p fault h (no_test refusal refused is) = not_a_test bytes p [] refusal h refused
  alone_not_refused p fault h (not_alone q rest starts some is) = some (same_rest bytes q p rest [] starts h)

  pub one_refusal_alone : (fault other : InputFault) → IsRefusedTestAlone bytes fault → IsRefusedTestAlone bytes other → fault ≡ other
  one_refusal_alone fault other (no_test r h is) (no_test t k also) = some_one fault other (sym is ∙ ap fault_in_test (same_refusal_of_test bytes r t h k) ∙ also)
  one_refusal_alone fault other (no_test r h is) (not_alone q rest starts some also) = absurd (not_a_test bytes q rest r starts h)
  one_refusal_alone fault other (not_alone p rest starts some is) (no_test t k also) = absurd (not_a_test bytes p rest t starts k)
  one_refusal_alone fault other (not_alone p rest starts some is) (not_alone q others there also_some also) =
      let number = ap (λ (t : Program). length (test_lines t)) (same_test bytes p q rest others starts there) in
      is ∙ ap (λ (n : ℕ). record { line = n + 1; reason = AfterDone }) number ∙ sym also

  abbrev IsTestOrRefused : Type 0
  IsTestOrRefused = ((p : Program) × IsTestAlone bytes p) ⊎ ((fault : InputFault) × IsRefusedTestAlone bytes fault)

  by_rest : (p : Program) (rest : List ℕ) → StartsWithTest bytes p rest → IsTestOrRefused
  by_rest p [] starts = inl (p, starts)
  by_rest p (c ∷ rest) starts = inr (_, not_alone p (c ∷ rest) starts (λ e. cc) refl)

  by_test : (read : Result Program TestFault) → TextMeans bytes read → IsTestOrRefused
  by_test (Ok p) h = by_rest p h.0 h.1
  by_test (Err refusal) h = let fault = named refusal h in inr (fault.0, no_test refusal h fault.1)

  pub alone_or_refused : IsTestOrRefused
  alone_or_refused = by_test (reading_of_test bytes) (reading_means bytes)

  -- ---- what reading tells

  -- the refusal, if there is one, refuses the input
  abbrev pub RefusesAlone : Refusal → Type 0
  RefusesAlone refusal = (fault : InputFault) × (refusal ≡ Input fault) × IsRefusedTestAlone bytes fault

  pub failed_alone : (refusal : TestFault) → (refusal ≡ Memory) ⊎ IsRefusedTest bytes refusal → IfRefused RefusesAlone (failure_of (fault_in_test refusal))
  failed_alone refusal h = elim h [
    | inl e ↦ subst (λ (r : TestFault). IfRefused RefusesAlone (failure_of (fault_in_test r))) (sym e) tt
    | inr r ↦ let fault = named refusal r in subst (λ (o : Option InputFault). IfRefused RefusesAlone (failure_of o)) (sym fault.1) (fault.0, refl, no_test refusal r fault.1)
  ]

  pub failed_behind : (p : Program) (rest : List ℕ) (line : ℕ) (refusal : RunFault) → StartsWithTest bytes p rest → line ≡ length (test_lines p) → refusal ≡ AfterDoneLine (line + 1) → rest ≢ []
      → IfRefused RefusesAlone (failure_of (fault_behind_test refusal))
  failed_behind p rest line refusal starts number is some =
      subst (λ (r : RunFault). IfRefused RefusesAlone (failure_of (fault_behind_test r))) (sym is)
      (_, refl, not_alone p rest starts some (ap (λ (n : ℕ). record { line = n + 1; reason = AfterDone }) number))
