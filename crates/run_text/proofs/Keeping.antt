-- How the values of a line are counted, tested and kept.
use Rattle.std.proofs.Common.{◌≡◌, ℕ, ◌^◌, ◌<◌, ◌≤◌, List, [], ◌∷◌, ◌++◌, Bool, true, false, ◌&&◌, length, take, map, refl, ap, arith, ◌∙◌, sym, cond, ltb, append_assoc, ⊎_elim, length-append}
use Rattle.std.proofs.lemmas.List.{take-append-le, map-append, take_all}
use Rattle.std.proofs.lemmas.List.Folds.{list_all-append}
use Rattle.std.proofs.lemmas.Bool.{cases_lt, lt-ltb, le-ltb}
use Rattle.std.specs.List.{list_all}
use Rattle.test_lang.specs.Text.Numeral.{held}
use Rattle.run_text.specs.declared.parts.Found.{Found}
use Rattle.run_text.specs.Parts.{fits, all_fit}
use Rattle.run_text.specs.Found.{kept, add_value, with_value, IsKept}

-- Held down, a value still shows whether it fits, and is kept as the same number.
fits-held : (v : ℕ) → fits (held v) ≡ fits v
fits-held v = ⊎_elim
    (λ (small : v < 2 ^ 32). let lt : held v < 2 ^ 32 = omega arith in lt-ltb _ _ lt ∙ sym (lt-ltb _ _ small))
    (λ (large : 2 ^ 32 ≤ v). let le : 2 ^ 32 ≤ held v = omega arith in le-ltb _ _ le ∙ sym (le-ltb _ _ large))
    (cases_lt v (2 ^ 32))

kept-held : (v : ℕ) → kept (held v) ≡ kept v
kept-held v = omega arith

-- the first values, with one more at the end
take-more : (count want v : ℕ) (vs old : List ℕ) → count ≡ length vs
    → add_value count want v (old ++ map kept (take want vs)) ≡ old ++ map kept (take want (vs ++ v ∷ []))
take-more count want v vs old e = ⊎_elim
    (λ (room : count < want).
    let all : length (vs ++ v ∷ []) ≤ want = simp length-append (omega arith) in
    let before : length vs ≤ want = omega arith in
    ap (λ (b : Bool). cond b ((old ++ map kept (take want vs)) ++ kept v ∷ []) (old ++ map kept (take want vs))) (lt-ltb count want room)
    ∙ ap (λ (ys : List ℕ). (old ++ map kept ys) ++ kept v ∷ []) (take_all want vs before)
    ∙ append_assoc old (map kept vs) (kept v ∷ [])
    ∙ ap (λ (ys : List ℕ). old ++ ys) (sym (map-append kept vs (v ∷ [])))
    ∙ ap (λ (ys : List ℕ). old ++ map kept ys) (sym (take_all want (vs ++ v ∷ []) all)))
    (λ (full : want ≤ count).
    let past : want ≤ length vs = omega arith in
    ap (λ (b : Bool). cond b ((old ++ map kept (take want vs)) ++ kept v ∷ []) (old ++ map kept (take want vs))) (le-ltb count want full)
    ∙ ap (λ (ys : List ℕ). old ++ map kept ys) (sym (take-append-le want vs (v ∷ []) past)))
    (cases_lt count want)

-- One more value, held down, keeps what is said of all.
pub keeps-more : (want v m : ℕ) (old new vs : List ℕ) (found : Found) → m ≡ held v → IsKept want old found new vs
    → IsKept want old (with_value found m) (add_value found.count want m new) (vs ++ v ∷ [])
keeps-more want v m old new vs found e h = record {
  count = simp length-append (omega (arith, h.count));
  fit = ap (λ (b : Bool). b && fits m) h.fit ∙ ap (λ (n : ℕ). all_fit vs && fits n) e ∙ ap (λ (b : Bool). all_fit vs && b) (fits-held v) ∙ fit-one ∙ sym (list_all-append fits vs (v ∷ []));
  values = ap (λ (n : ℕ). add_value found.count want n new) e ∙ ap (λ (n : ℕ). cond (ltb found.count want) (new ++ n ∷ []) new) (kept-held v)
      ∙ ap (λ (ys : List ℕ). add_value found.count want v ys) h.values ∙ take-more found.count want v vs old h.count;
}
  where
    fit-one : (all_fit vs && fits v) ≡ (all_fit vs && list_all fits (v ∷ []))
    fit-one = elim (fits v) as (λ b. (all_fit vs && b) ≡ (all_fit vs && (b && true))) [ true ↦ refl | false ↦ refl ]
