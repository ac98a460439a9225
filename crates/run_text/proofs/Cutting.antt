-- Cutting a text into pieces.
use Rattle.std.proofs.Common.{◌≡◌, ◌∙◌, ℕ, ◌+◌, ◌-◌, ◌*◌, ◌<◌, ◌≤◌, List, [], ◌∷◌, ◌++◌, length, refl, sym, ap, subst, arith, take, drop, append_assoc, length-append}
use Rattle.std.specs.List.{AllByRecursion, concat}
use Rattle.std.proofs.Math.Nat.{mul-add, mul-one, mul-zero}
use Rattle.std.proofs.lemmas.List.{take-append-drop, take-append-le, take_all, append-nil}
use Rattle.run_text.specs.Pieces.{AreCut, EndsInFeed, IsSome}

pub feeds : (text line rest : List ℕ) (n : ℕ) → drop n text ≡ line ++ 10 ∷ rest → EndsInFeed (take (length text - length rest) text)
feeds text line rest n e =
    let before : List ℕ = take n text ++ line in
    let front : List ℕ = before ++ 10 ∷ [] in
    let whole : text ≡ front ++ rest =
    sym (take-append-drop n text) ∙ ap (λ (ys : List ℕ). take n text ++ ys) e ∙ sym (append_assoc (take n text) line (10 ∷ rest)) ∙ sym (append_assoc before (10 ∷ []) rest) in
    let long : length text ≡ length front + length rest = ap length whole ∙ length-append front rest in
    let count : length text - length rest ≡ length front = omega (arith, long) in
    (before, ap (λ (k : ℕ). take k text) count ∙ ap (take (length front)) whole ∙ take-append-le (length front) front rest (omega arith) ∙ take_all (length front) front (omega arith))

concat-push : (ps : List (List ℕ)) (p : List ℕ) → concat (ps ++ p ∷ []) ≡ concat ps ++ p
concat-push [] p = append-nil p
concat-push (q ∷ ps) p = ap (λ (xs : List ℕ). q ++ xs) (concat-push ps p) ∙ sym (append_assoc q (concat ps) p)

ends-push : (ps : List (List ℕ)) (p : List ℕ) → AllByRecursion EndsInFeed ps → EndsInFeed p → AllByRecursion EndsInFeed (ps ++ p ∷ [])
ends-push [] p h e = (e, tt)
ends-push (q ∷ ps) p h e = (h.0, ends-push ps p h.1 e)

some-of : (p front : List ℕ) → p ≡ front ++ 10 ∷ [] → IsSome p
some-of p [] e = subst IsSome (sym e) tt
some-of p (c ∷ cs) e = subst IsSome (sym e) tt

cut-all : (ps : List (List ℕ)) → AllByRecursion EndsInFeed ps → AreCut ps
cut-all [] h = tt
cut-all (q ∷ []) h = some-of q h.0.0 h.0.1
cut-all (q ∷ r ∷ rs) h = (h.0, cut-all (r ∷ rs) h.1)

cut-last : (ps : List (List ℕ)) (p : List ℕ) → AllByRecursion EndsInFeed ps → IsSome p → AreCut (ps ++ p ∷ [])
cut-last [] p h s = s
cut-last (q ∷ []) p h s = (h.0, s)
cut-last (q ∷ r ∷ rs) p h s = (h.0, cut-last (r ∷ rs) p h.1 s)

some-by : (xs : List ℕ) → 1 ≤ length xs → IsSome xs
some-by [] h = absurd (omega arith)
some-by (c ∷ cs) h = tt

-- These pieces were cut off, and these bytes are left. Where the text is small nothing was cut off.
pub record IsCutting (text : List ℕ) (size : ℕ) (pieces : List (List ℕ)) (left : List ℕ) : Type 0 where
  pub whole : concat pieces ++ left ≡ text
  pub ends : AllByRecursion EndsInFeed pieces
  pub few : size * length pieces + length left ≤ length text
  pub small : length text ≤ size → pieces ≡ []

one_more : (size : ℕ) (pieces : List (List ℕ)) (piece : List ℕ) → size * length (pieces ++ piece ∷ []) ≡ size * length pieces + size
one_more size pieces piece =
    ap (λ (n : ℕ). size * n) (length-append pieces (piece ∷ []))
    ∙ mul-add size (length pieces) 1
    ∙ ap (λ (n : ℕ). size * length pieces + n) (mul-one size)

pub cutting-none : (text : List ℕ) (size : ℕ) → IsCutting text size [] text
cutting-none text size = record {
  whole = refl;
  ends = tt;
  few = omega (arith, mul-zero size);
  small = λ _. refl;
}

pub cutting-step : (text : List ℕ) (size : ℕ) (pieces : List (List ℕ)) (left front rest : List ℕ) → IsCutting text size pieces left → left ≡ front ++ rest → EndsInFeed front → size ≤ length front → size < length left
    → IsCutting text size (pieces ++ front ∷ []) rest
cutting-step text size pieces left front rest h is ends long some =
    let parts : length left ≡ length front + length rest = ap length is ∙ length-append front rest in
    record {
      whole = ap (λ (xs : List ℕ). xs ++ rest) (concat-push pieces front) ∙ append_assoc (concat pieces) front rest ∙ ap (λ (xs : List ℕ). concat pieces ++ xs) (sym is) ∙ h.whole;
      ends = ends-push pieces front h.ends ends;
      few = omega (arith, h.few, parts, long, one_more size pieces front);
      small = λ few. absurd (omega (arith, few, h.few, some));
    }

-- All pieces.
pub record AreCutFrom (text : List ℕ) (size : ℕ) (pieces : List (List ℕ)) : Type 0 where
  pub whole : concat pieces ≡ text
  pub cut : AreCut pieces
  pub few : size * length pieces < length text + size
  pub small : 1 ≤ length text → length text ≤ size → pieces ≡ text ∷ []

pub cut-none : (text : List ℕ) (size : ℕ) (pieces : List (List ℕ)) (left : List ℕ) → 1 ≤ size → IsCutting text size pieces left → left ≡ [] → AreCutFrom text size pieces
cut-none text size pieces left some h none = record {
  whole = whole;
  cut = cut-all pieces h.ends;
  few = omega (arith, h.few, some);
  small = λ long few.
      let nothing : pieces ≡ [] = h.small few in
      let empty : length text ≡ 0 = ap length (sym whole ∙ ap concat nothing) in
      absurd (omega (arith, long, empty));
}
  where
    whole : concat pieces ≡ text
    whole = sym (append-nil (concat pieces)) ∙ ap (λ (xs : List ℕ). concat pieces ++ xs) (sym none) ∙ h.whole

pub cut-last_piece : (text : List ℕ) (size : ℕ) (pieces : List (List ℕ)) (left : List ℕ) → IsCutting text size pieces left → 1 ≤ length left → AreCutFrom text size (pieces ++ left ∷ [])
cut-last_piece text size pieces left h some = record {
  whole = concat-push pieces left ∙ h.whole;
  cut = cut-last pieces left h.ends (some-by left some);
  few = omega (arith, h.few, some, one_more size pieces left);
  small = λ long few.
      let nothing : pieces ≡ [] = h.small few in
      let same : left ≡ text = sym (ap (λ (ps : List (List ℕ)). concat ps ++ left) nothing) ∙ h.whole in
      ap (λ (ps : List (List ℕ)). ps ++ left ∷ []) nothing ∙ ap (λ (xs : List ℕ). xs ∷ []) same;
}

pub none-by : (xs : List ℕ) → length xs ≤ 0 → xs ≡ []
none-by [] h = refl
none-by (c ∷ cs) h = absurd (omega arith)
