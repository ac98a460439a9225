-- What is answered is what the bytes mean.
use Rattle.std.proofs.Common.{◌≡◌, ℕ, ◌≤◌, ◌⊎◌, List, [], ◌∷◌, ◌++◌, refl, ap, arith, ◌∙◌, sym, subst, Result, Ok, Err, inl, inr, ⊎_elim, length, drop, length-append}
use Rattle.std.specs.Prelude.{codes, IfOk, IfErr}
use Rattle.test_lang.specs.declared.text.fault.TestFault.{TestFault}
use Rattle.test_lang.specs.declared.text.fault.TestFault.TheVariants.{Memory}
use Rattle.test_lang.specs.declared.text.read.ReadTest.{ReadTest}
use Rattle.test_lang.specs.Program.{Program}
use Rattle.test_lang.specs.Text.Grammar.{body_lines, test_lines, test_text, StartsWithTest}
use Rattle.test_lang.specs.Text.Reading.{reading}
use Rattle.test_lang.specs.Text.Refusal.{IsRefused, TextMeans}
use Rattle.test_lang.specs.Text.Answer.{IsReadAs, IsRead, Answers}
use Rattle.test_lang.proofs.TextLemmas.Readings.{reading_means, means_reading}
use Rattle.test_lang.proofs.TextLemmas.SoFar.{few_lines}

drop-front : (front rest : List ℕ) → drop (length front) (front ++ rest) ≡ rest
drop-front [] rest = refl
drop-front (c ∷ cs) rest = drop-front cs rest

module _ (bytes : List ℕ) where
  read_is : (read : ReadTest) (p : Program) → IsReadAs read p → (rest : List ℕ) × StartsWithTest bytes p rest → IsRead bytes read
  read_is read p as_p h =
      let test = sym as_p.test in
      let left : drop read.used bytes ≡ h.0 = ap (λ (n : ℕ). drop n bytes) as_p.used ∙ ap (drop (length (test_text p))) h.1.whole ∙ drop-front (test_text p) (h.0) in
      let here : StartsWithTest bytes p (drop read.used bytes) = subst (StartsWithTest bytes p) (sym left) (h.1) in
      record {
        starts = subst (λ (q : Program). StartsWithTest bytes q (drop read.used bytes)) test here;
        used = as_p.used ∙ ap (λ (q : Program). length (test_text q)) test;
        lines = as_p.lines ∙ ap (λ (q : Program). length (test_lines q)) test;
      }

  answered : (result : Result ReadTest TestFault) (given : Result Program TestFault) → Answers result given → TextMeans bytes given
      → IfOk result (IsRead bytes) × IfErr result (λ fault. (fault ≡ Memory) ⊎ IsRefused bytes fault)
  answered (Ok read) (Ok p) h means = (read_is read p h means, tt)
  answered (Ok read) (Err fault) h means = absurd h
  answered (Err fault) given h means = (tt, ⊎_elim (λ (e : fault ≡ Memory). inl e) (λ (e : given ≡ Err fault). inr (subst (TextMeans bytes) e means)) h)

  pub answer-found : (result : Result ReadTest TestFault) → Answers result (reading bytes) → IfOk result (IsRead bytes)
  answer-found result h = (answered result (reading bytes) h (reading_means bytes)).0

  pub answer-refused : (result : Result ReadTest TestFault) → Answers result (reading bytes) → IfErr result (λ fault. (fault ≡ Memory) ⊎ IsRefused bytes fault)
  answer-refused result h = (answered result (reading bytes) h (reading_means bytes)).1

  pub answer-only : (result : Result ReadTest TestFault) (meant : Result Program TestFault) → Answers result (reading bytes) → TextMeans bytes meant → Answers result meant
  answer-only result meant h means = subst (Answers result) (means_reading bytes meant means) h

  used_within : (read : ReadTest) → IsRead bytes read → read.used ≤ length bytes
  used_within read h =
      let long = ap length h.starts.whole ∙ length-append (test_text read.test) (drop read.used bytes) in
      omega (arith, h.used, long)

  lines_few : (read : ReadTest) → IsRead bytes read → read.lines ≤ 2067
  lines_few read h =
      let few = few_lines read.test h.starts.limits in
      let ended = length-append (body_lines read.test) (codes "end" ∷ []) in
      omega (arith, h.lines, few, ended)

  pub answer-within : (result : Result ReadTest TestFault) → IfOk result (IsRead bytes) → IfOk result (λ read. read.used ≤ length bytes)
  answer-within (Ok read) h = used_within read h
  answer-within (Err fault) h = tt

  pub answer-few : (result : Result ReadTest TestFault) → IfOk result (IsRead bytes) → IfOk result (λ read. read.lines ≤ 2067)
  answer-few (Ok read) h = lines_few read h
  answer-few (Err fault) h = tt
