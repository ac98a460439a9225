-- One step of a reader of parts.
use Rattle.std.proofs.Common.{◌≡◌, ◌≢◌, ℕ, suc, ◌+◌, ◌^◌, ◌<◌, ◌≤◌, List, [], ◌∷◌, ◌++◌, Bool, true, cond, length, refl, ap, arith, ◌∙◌, sym, subst, Option, Some, None}
use Rattle.std.specs.Option.{option_map}
use Rattle.std.proofs.lemmas.Bool.{lt-ltb}
use Rattle.test_lang.specs.Text.Numeral.{numeral_at, held, held_front}
use Rattle.run_text.specs.declared.parts.Found.{Found}
use Rattle.run_text.specs.Parts.{fits, gap, with_front, in_front, parts}
use Rattle.run_text.specs.Found.{add_value, kept, with_value, IsKept, MayKeep, SoFar}
use Rattle.run_text.proofs.Reading.{behind, parts-space, parts-other, found-some, found-none}
use Rattle.run_text.proofs.Keeping.{keeps-more}

in_front-push : (vs : List ℕ) (v : ℕ) (rest : Option (List ℕ)) → in_front (vs ++ v ∷ []) rest ≡ in_front vs (with_front v rest)
in_front-push [] v rest = refl
in_front-push (u ∷ vs) v rest = ap (with_front u) (in_front-push vs v rest)

in_front-none : (vs : List ℕ) → in_front vs None ≡ None
in_front-none [] = refl
in_front-none (v ∷ vs) = ap (with_front v) (in_front-none vs)

in_front-end : (vs : List ℕ) → in_front vs (Some []) ≡ Some vs
in_front-end [] = refl
in_front-end (v ∷ vs) = ap (with_front v) (in_front-end vs)

-- The step over a part whose value is small.
pub so_far-small : (want : ℕ) (bytes left old : List ℕ) (count : ℕ) (new vs : List ℕ) → SoFar want bytes left old (record { count = count; all_fit = true }) new vs → (v : ℕ) (rest : List ℕ)
    → parts gap left ≡ with_front v (parts gap rest) → v < 1000 → length rest + 2 ≤ length left → count < want
    → SoFar want bytes rest old (record { count = count + 1; all_fit = true }) (new ++ v ∷ []) (vs ++ v ∷ [])
so_far-small want bytes left old count new vs h v rest here small shorter room =
    let before : Found = record { count = count; all_fit = true } in
    let as_held : v ≡ held v = omega arith in
    let as_kept : kept v ≡ v = omega arith in
    let fit : fits v ≡ true = lt-ltb v (2 ^ 32) (omega (arith, small)) in
    let found : with_value before v ≡ record { count = count + 1; all_fit = true } = ap (λ (b : Bool). record { count = count + 1; all_fit = b }) fit in
    let next : add_value count want v new ≡ new ++ v ∷ [] =
    ap (λ (b : Bool). cond b (new ++ kept v ∷ []) new) (lt-ltb count want room) ∙ ap (λ (n : ℕ). new ++ n ∷ []) as_kept in
    let keeps = keeps-more want v v old new vs before as_held h.keeps in
    record {
      few = omega (arith, h.few, shorter);
      keeps = subst (λ (f : Found). IsKept want old f (new ++ v ∷ []) (vs ++ v ∷ [])) found (subst (λ (xs : List ℕ). IsKept want old (with_value before v) xs (vs ++ v ∷ [])) next keeps);
      rest = in_front-push vs v (parts gap rest) ∙ ap (in_front vs) (sym here) ∙ h.rest;
    }

module _ (want : ℕ) (bytes left old : List ℕ) (found : Found) (new vs : List ℕ) (h : SoFar want bytes left old found new vs) where
  -- The step over one part: the values so far and one more.
  module _ (c : ℕ) (part : List ℕ) (is : left ≡ c ∷ part) (space : c ≡ 32) where
    pub so_far-step : (number : ℕ × List ℕ) → Some number ≡ option_map held_front (numeral_at part) → length number.1 < length part
        → (next : List ℕ) → next ≡ add_value found.count want number.0 new → (more : Found) → more ≡ with_value found number.0
        → (vs : List ℕ) × SoFar want bytes number.1 old more next vs
    so_far-step number e shorter next next_is more more_is =
        let read = found-some number (numeral_at part) e in
        let n = read.0 in
        let one : length left ≡ suc (length part) = ap length is in
        let here : parts gap left ≡ with_front n.0 (parts gap n.1) = parts-space left part c is space ∙ ap behind read.1 in (
          vs ++ n.0 ∷ [],
          record {
            few = rw more_is (omega (arith, h.few, one, shorter));
            keeps = rw (more_is, next_is) (keeps-more want n.0 number.0 old new vs found read.2 h.keeps);
            rest = ap (λ (xs : List ℕ). in_front (vs ++ n.0 ∷ []) (parts gap xs)) read.3 ∙ in_front-push vs n.0 (parts gap n.1) ∙ ap (in_front vs) (sym here) ∙ h.rest;
          },
        )

  -- Where no part stands next, the bytes have another form.
  stopped : parts gap left ≡ None → MayKeep want old None new (parts gap bytes)
  stopped none = subst (MayKeep want old None new) (sym (sym h.rest ∙ ap (in_front vs) none ∙ in_front-none vs)) tt

  pub so_far-no_space : (c : ℕ) (part : List ℕ) → left ≡ c ∷ part → c ≢ 32 → MayKeep want old None new (parts gap bytes)
  so_far-no_space c part is other = stopped (parts-other left part c is other)

  pub so_far-no_numeral : (c : ℕ) (part : List ℕ) → left ≡ c ∷ part → c ≡ 32 → None ≡ option_map held_front (numeral_at part) → MayKeep want old None new (parts gap bytes)
  so_far-no_numeral c part is space e = stopped (parts-space left part c is space ∙ ap behind (found-none (numeral_at part) e))

  pub so_far-end : left ≡ [] → MayKeep want old (Some found) new (parts gap bytes)
  so_far-end is = subst (MayKeep want old (Some found) new) (sym (in_front-end vs) ∙ ap (λ (xs : List ℕ). in_front vs (parts gap xs)) (sym is) ∙ h.rest) h.keeps
