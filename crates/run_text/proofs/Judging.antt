-- What is said of a line once its values were found.
use Rattle.std.proofs.Common.{◌≡◌, ◌≢◌, ℕ, ◌^◌, ◌<◌, ◌≤◌, List, [], ◌∷◌, ◌++◌, Bool, true, false, length, map, refl, ap, arith, ◌∙◌, sym, subst, cond, Option, Some, None, Ok, Err, eqb}
use Rattle.std.proofs.lemmas.Bool.{ne_eqb, eq-eqb, ltb-true, and_parts}
use Rattle.std.proofs.lemmas.List.{take_all}
use Rattle.run_text.specs.declared.parts.Found.{Found}
use Rattle.run_text.specs.declared.fault.RunFault.TheVariants.{BadRunLine, WrongCount, ValueRange}
use Rattle.run_text.specs.Parts.{fits, all_fit}
use Rattle.run_text.specs.Found.{kept, MayKeep}
use Rattle.run_text.specs.RunLine.{judged, Appends}

-- Values that fit are kept as they are.
kept-all : (vs : List ℕ) → all_fit vs ≡ true → map kept vs ≡ vs
kept-all [] h = refl
kept-all (v ∷ vs) h =
    let parts = and_parts (fits v) (all_fit vs) h in
    let small : v < 2 ^ 32 = ltb-true v (2 ^ 32) parts.0 in
    let same : kept v ≡ v = omega arith in
    ap (λ (n : ℕ). n ∷ map kept vs) same ∙ ap (λ (ys : List ℕ). v ∷ ys) (kept-all vs parts.1)

module _ (number want : ℕ) where
  pub judged-by : (vs : List ℕ) (same fit : Bool) → eqb (length vs) want ≡ same → all_fit vs ≡ fit
      → judged number want (Some vs) ≡ cond same (cond fit (Ok vs) (Err (ValueRange number))) (Err (WrongCount number want (length vs)))
  judged-by vs same fit e f =
      ap (λ (b : Bool). cond b (cond (all_fit vs) (Ok vs) (Err (ValueRange number))) (Err (WrongCount number want (length vs)))) e
      ∙ ap (λ (b : Bool). cond same (cond b (Ok vs) (Err (ValueRange number))) (Err (WrongCount number want (length vs)))) f

  pub judged-none : (old new : List ℕ) (read : Option (List ℕ)) → MayKeep want old None new read → judged number want read ≡ Err (BadRunLine number)
  judged-none old new None h = refl
  judged-none old new (Some vs) h = absurd h

  module _ (old new : List ℕ) (found : Found) where
    pub judged-count : (read : Option (List ℕ)) → MayKeep want old (Some found) new read → found.count ≢ want → judged number want read ≡ Err (WrongCount number want found.count)
    judged-count None h other = absurd h
    judged-count (Some vs) h other =
        let apart : length vs ≢ want = λ e. other (h.count ∙ e) in
        judged-by vs false (all_fit vs) (ne_eqb _ _ apart) refl ∙ ap (λ (n : ℕ). Err (WrongCount number want n)) (sym h.count)

    pub judged-range : (read : Option (List ℕ)) → MayKeep want old (Some found) new read → found.count ≡ want → found.all_fit ≡ false → judged number want read ≡ Err (ValueRange number)
    judged-range None h same large = absurd h
    judged-range (Some vs) h same large = judged-by vs true false (eq-eqb _ _ (sym h.count ∙ same)) (sym h.fit ∙ large)

    pub judged-ok : (read : Option (List ℕ)) → MayKeep want old (Some found) new read → found.count ≡ want → found.all_fit ≡ true
        → Appends {X = Unit {0}} old (Ok tt) new (judged number want read)
    judged-ok None h same fit = absurd h
    judged-ok (Some vs) h same fit =
        let whole : length vs ≤ want = omega (arith, h.count) in
        let all : all_fit vs ≡ true = sym h.fit ∙ fit in
        let appended : new ≡ old ++ vs = h.values ∙ ap (λ (ys : List ℕ). old ++ map kept ys) (take_all want vs whole) ∙ ap (λ (ys : List ℕ). old ++ ys) (kept-all vs all) in
        subst (Appends {X = Unit {0}} old (Ok tt) new) (sym (judged-by vs true true (eq-eqb _ _ (sym h.count ∙ same)) all)) appended
