-- Where a line is cut, and what stands behind the numeral of a thread.
use Rattle.std.proofs.Common.{◌≡◌, ◌≢◌, ℕ, suc, ◌+◌, ◌<◌, ◌≤◌, List, [], ◌∷◌, Bool, true, false, refl, ap, arith, ◌∙◌, sym, cond, eqb, take, drop, length, Option, Some, None, ⊎_elim}
use Rattle.std.specs.Prelude.{not, nat_lt}
use Rattle.std.specs.List.{onto_first, position, position_or_len}
use Rattle.std.specs.Option.{option_map}
use Rattle.std.proofs.lemmas.Bool.{cases_lt, lt-ltb, le-ltb, ne_eqb}
use Rattle.std.proofs.lemmas.List.{take_all, drop_all}
use Rattle.test_lang.specs.declared.step.Step.TheVariants.{Execute, Drain, Perform}
use Rattle.test_lang.specs.Text.Numeral.{whole_numeral, held}
use Rattle.run_text.specs.declared.step_text.ReadStep.{ReadStep}
use Rattle.run_text.specs.Steps.{drain_of, step_behind, is_space, parts_of, parts_behind}
use Rattle.run_text.specs.ReadSteps.{as_read}

-- how many bytes stand before the first space
abbrev before_space : List ℕ → ℕ
before_space text = position_or_len is_space text

cut : (text : List ℕ) → parts_of text ≡ take (before_space text) text ∷ parts_behind (drop (before_space text) text)
cut [] = refl
cut (c ∷ cs) = go (is_space c) (cut cs)
  where
    go : (b : Bool) → parts_of cs ≡ take (before_space cs) cs ∷ parts_behind (drop (before_space cs) cs)
        → cond b ([] ∷ parts_of cs) (onto_first c (parts_of cs)) ≡ take (cond (not b) (1 + before_space cs) 0) (c ∷ cs) ∷ parts_behind (drop (cond (not b) (1 + before_space cs) 0) (c ∷ cs))
    go true later = refl
    go false later =
        let more : suc (before_space cs) ≡ 1 + before_space cs = omega arith in
        ap (onto_first c) later ∙ ap (λ (n : ℕ). take n (c ∷ cs) ∷ parts_behind (drop n (c ∷ cs))) more

some_place : (n len end : ℕ) → Some end ≡ cond (nat_lt n len) (Some n) None → end ≡ n
some_place n len end e = ⊎_elim
    (λ (lt : n < len). let is : Some end ≡ Some n = e ∙ ap (λ (b : Bool). cond b (Some n) None) (lt-ltb n len lt) in cc)
    (λ (le : len ≤ n). let is : Some end ≡ None = e ∙ ap (λ (b : Bool). cond b (Some n) None) (le-ltb n len le) in absurd cc)
    (cases_lt n len)

no_place : (n len : ℕ) → None ≡ cond (nat_lt n len) (Some n) None → len ≤ n
no_place n len e = ⊎_elim
    (λ (lt : n < len). let is : None ≡ Some n = e ∙ ap (λ (b : Bool). cond b (Some n) None) (lt-ltb n len lt) in absurd cc)
    (λ (le : len ≤ n). le)
    (cases_lt n len)

pub cut_there : (text : List ℕ) (end : ℕ) → Some end ≡ position is_space text → (front back : List ℕ) → front ≡ take end text → back ≡ drop end text → parts_of text ≡ front ∷ parts_behind back
cut_there text end e front back is_front is_back =
    let here = some_place (before_space text) (length text) end e in
    cut text
    ∙ ap (λ (n : ℕ). take n text ∷ parts_behind (drop n text)) (sym here)
    ∙ ap (λ (xs : List ℕ). xs ∷ parts_behind (drop end text)) (sym is_front)
    ∙ ap (λ (xs : List ℕ). front ∷ parts_behind xs) (sym is_back)

pub not_cut : (text : List ℕ) → None ≡ position is_space text → parts_of text ≡ text ∷ parts_behind []
not_cut text e =
    let past = no_place (before_space text) (length text) e in
    cut text
    ∙ ap (λ (xs : List ℕ). xs ∷ parts_behind (drop (before_space text) text)) (take_all (before_space text) text past)
    ∙ ap (λ (xs : List ℕ). text ∷ parts_behind xs) (drop_all (before_space text) text past)

-- What stands behind the numeral of a thread.
module _ (n : ℕ) (rest : List ℕ) where
  pub behind-nothing : rest ≡ [] → step_behind n rest ≡ Some (Execute n)
  behind-nothing e = ap (step_behind n) e

  module _ (mark : ℕ) (second : List ℕ) (is : rest ≡ mark ∷ second) where
    pub behind-drain : mark ≡ 33 → step_behind n rest ≡ drain_of n second
    behind-drain e = ap (step_behind n) is ∙ ap (λ (c : ℕ). step_behind n (c ∷ second)) e

    pub behind-perform : mark ≡ 58 → step_behind n rest ≡ option_map (Perform n) (whole_numeral second)
    behind-perform e = ap (step_behind n) is ∙ ap (λ (c : ℕ). step_behind n (c ∷ second)) e

    pub behind-other : mark ≢ 33 → mark ≢ 58 → step_behind n rest ≡ None
    behind-other a b =
        ap (step_behind n) is
        ∙ ap (λ (t : Bool). cond t (drain_of n second) (cond (eqb mark 58) (option_map (Perform n) (whole_numeral second)) None)) (ne_eqb mark 33 a)
        ∙ ap (λ (t : Bool). cond t (option_map (Perform n) (whole_numeral second)) None) (ne_eqb mark 58 b)

pub drain-first : (n : ℕ) (second : List ℕ) → length second ≡ 0 → drain_of n second ≡ Some (Drain n 0)
drain-first n [] e = refl
drain-first n (c ∷ cs) e = absurd (omega (arith, e))

pub drain-other : (n : ℕ) (second : List ℕ) → length second ≢ 0 → drain_of n second ≡ option_map (Drain n) (whole_numeral second)
drain-other n [] e = absurd (e refl)
drain-other n (c ∷ cs) e = refl

pub held-some : (found : ℕ) (o : Option ℕ) → Some found ≡ option_map held o → (k : ℕ) × (o ≡ Some k) × (found ≡ held k)
held-some found None e = absurd cc
held-some found (Some k) e = (k, refl, cc)

pub held-none : (o : Option ℕ) → None ≡ option_map held o → o ≡ None
held-none None e = refl
held-none (Some k) e = absurd cc

-- A step is read.
module _ (n : ℕ) (rest : List ℕ) (mark : ℕ) (second : List ℕ) (result : ReadStep) (is : rest ≡ mark ∷ second) where
  pub read-drain_first : mark ≡ 33 → length second ≡ 0 → result ≡ as_read (Drain n 0) → Some result ≡ option_map as_read (step_behind n rest)
  read-drain_first e none told = ap Some told ∙ sym (ap (option_map as_read) (behind-drain n rest mark second is e ∙ drain-first n second none))

  pub read-drain : mark ≡ 33 → length second ≢ 0 → (found : ℕ) → Some found ≡ option_map held (whole_numeral second) → ((k : ℕ) → found ≡ held k → result ≡ as_read (Drain n k))
      → Some result ≡ option_map as_read (step_behind n rest)
  read-drain e some found there told =
      let k = held-some found (whole_numeral second) there in
      ap Some (told k.0 k.2) ∙ sym (ap (option_map as_read) (behind-drain n rest mark second is e ∙ drain-other n second some ∙ ap (option_map (Drain n)) k.1))

  pub read-perform : mark ≡ 58 → (found : ℕ) → Some found ≡ option_map held (whole_numeral second) → ((k : ℕ) → found ≡ held k → result ≡ as_read (Perform n k))
      → Some result ≡ option_map as_read (step_behind n rest)
  read-perform e found there told =
      let k = held-some found (whole_numeral second) there in
      ap Some (told k.0 k.2) ∙ sym (ap (option_map as_read) (behind-perform n rest mark second is e ∙ ap (option_map (Perform n)) k.1))
