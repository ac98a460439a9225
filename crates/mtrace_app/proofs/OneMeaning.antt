-- A text of a test with runs behind it means one thing: one test and one list of runs, or a refusal.
use Rattle.std.proofs.Common.{◌≡◌, ◌∙◌, ℕ, List, ◌++◌, Result, Ok, Err, refl, sym, ap}
use Rattle.std.specs.Prelude.{Some}
use Rattle.std.proofs.lemmas.List.{append_cancel_left}
use Rattle.test_lang.specs.Program.{Program}
use Rattle.test_lang.specs.declared.text.fault.TestFault.{TestFault}
use Rattle.test_lang.specs.Text.Grammar.{StartsWithTest, test_text}
use Rattle.test_lang.specs.Text.Refusal.{IsRefused as IsRefusedTest}
use Rattle.test_lang.proofs.TextLemmas.Readings.{means_reading}
use Rattle.run_text.specs.declared.fault.RunFault.{RunFault}
use Rattle.run_text.specs.Runs.{reading, RunsMean}
use Rattle.run_text.proofs.Runs.{reading_is_meaning, reading_is_text}
use Rattle.mtrace_app.specs.declared.refusal.InputFault.{InputFault}
use Rattle.mtrace_app.specs.Inputs.{AreRecordedRuns, AreRefusedRuns, in_test, behind, behind_test, fault_in_test, fault_behind_test}

-- two results that are the same hold the same, and no result is both
pub ok_one : {A B : Type 0} (x y : A) → ◌≡◌ {A = Result A B} (Ok x) (Ok y) → x ≡ y
ok_one x y e = cc

pub err_one : {A B : Type 0} (x y : B) → ◌≡◌ {A = Result A B} (Err x) (Err y) → x ≡ y
err_one x y e = cc

not_both_ends : {A B : Type 0} (x : A) (y : B) → ◌≡◌ {A = Result A B} (Ok x) (Err y) → ⊥
not_both_ends x y e = cc

pub some_one : {A : Type 0} (x y : A) → Some x ≡ Some y → x ≡ y
some_one x y e = cc

module _ (bytes : List ℕ) where
  pub same_test : (p q : Program) (rest others : List ℕ) → StartsWithTest bytes p rest → StartsWithTest bytes q others → p ≡ q
  same_test p q rest others a b =
      ok_one p q (sym (means_reading bytes (Ok p) (rest, a)) ∙ means_reading bytes (Ok q) (others, b))

  pub same_rest : (p q : Program) (rest others : List ℕ) → StartsWithTest bytes p rest → StartsWithTest bytes q others → rest ≡ others
  same_rest p q rest others a b =
      let texts : test_text p ≡ test_text q = ap test_text (same_test p q rest others a b) in
      append_cancel_left (test_text q) rest others (ap (λ (t : List ℕ). t ++ rest) (sym texts) ∙ sym a.whole ∙ b.whole)

  -- what stands behind the one test is read in one way
  same_reading : (p q : Program) (rest others : List ℕ) (read other : Result (List (List ℕ)) RunFault) → StartsWithTest bytes p rest → StartsWithTest bytes q others
      → RunsMean (behind_test p rest) read → RunsMean (behind_test q others) other → read ≡ other
  same_reading p q rest others read other a b h k =
      let tests = same_test p q rest others a b in
      let texts = same_rest p q rest others a b in
      let readers = ap (λ (t : Program). reading (behind_test t rest)) tests ∙ ap (λ (t : List ℕ). reading (behind_test q t)) texts in
      sym ((reading_is_meaning (behind_test p rest) read refl).1 h) ∙ readers ∙ (reading_is_meaning (behind_test q others) other refl).1 k

  runs_mean : (p : Program) (runs : List (List ℕ)) → (h : AreRecordedRuns bytes p runs) → RunsMean (behind_test p h.rest) (Ok runs)
  runs_mean p runs h = (reading_is_meaning (behind_test p h.rest) (Ok runs) refl).0 ((reading_is_text (behind_test p h.rest) runs refl).1 h.text)

  pub one_meaning : (p q : Program) (runs others : List (List ℕ)) → AreRecordedRuns bytes p runs → AreRecordedRuns bytes q others → (p ≡ q) × (runs ≡ others)
  one_meaning p q runs others a b =
      let read = same_reading p q a.rest b.rest (Ok runs) (Ok others) a.test b.test (runs_mean p runs a) (runs_mean q others b) in
      (same_test p q a.rest b.rest a.test b.test, ok_one runs others read)

  -- a text of no test is refused in one way
  pub same_refusal_of_test : (r t : TestFault) → IsRefusedTest bytes r → IsRefusedTest bytes t → r ≡ t
  same_refusal_of_test r t h k = err_one r t (sym (means_reading bytes (Err r) h) ∙ means_reading bytes (Err t) k)

  pub not_a_test : (p : Program) (rest : List ℕ) (refusal : TestFault) → StartsWithTest bytes p rest → IsRefusedTest bytes refusal → ⊥
  not_a_test p rest refusal starts refused =
      not_both_ends p refusal (sym (means_reading bytes (Ok p) (rest, starts)) ∙ means_reading bytes (Err refusal) refused)

  pub not_both : (p : Program) (runs : List (List ℕ)) (fault : InputFault) → AreRecordedRuns bytes p runs → AreRefusedRuns bytes fault → ⊥
  not_both p runs fault a (in_test refusal refused named) = not_a_test p a.rest refusal a.test refused
  not_both p runs fault a (behind q rest refusal starts refused named) =
      not_both_ends runs refusal (same_reading p q a.rest rest (Ok runs) (Err refusal) a.test starts (runs_mean p runs a) refused)

  pub one_refusal : (fault other : InputFault) → AreRefusedRuns bytes fault → AreRefusedRuns bytes other → fault ≡ other
  one_refusal fault other (in_test r h named) (in_test t k also) =
      some_one fault other (sym named ∙ ap fault_in_test (same_refusal_of_test r t h k) ∙ also)
  one_refusal fault other (in_test r h named) (behind q rest t starts k also) = absurd (not_a_test q rest r starts h)
  one_refusal fault other (behind p rest r starts h named) (in_test t k also) = absurd (not_a_test p rest t starts k)
  one_refusal fault other (behind p rest r starts h named) (behind q others t also_starts k also) =
      let same = err_one r t (same_reading p q rest others (Err r) (Err t) starts also_starts h k) in
      some_one fault other (sym named ∙ ap fault_behind_test same ∙ also)
