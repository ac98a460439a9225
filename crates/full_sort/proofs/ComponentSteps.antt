-- One component more is numbered.
use Rattle.std.proofs.Common.{◌≡◌, ◌≢◌, ◌∙◌, ℕ, ◌+◌, ◌<◌, ◌≤◌, List, length, get_or, arith, refl, sym, ap, subst, inl, inr}
use Rattle.std.proofs.lemmas.Bool.{cases_eq, cases_lt}
use Rattle.std.proofs.lemmas.List.{get_or_default}
use Rattle.full_sort.specs.Components.{FreeEdge, InOneComponent, NumbersComponents, NumbersSources}
use Rattle.full_sort.specs.Finishing.{IsFinishingOrder}
use Rattle.full_sort.proofs.ComponentLaws.{component_free, one_component, one_joined, one_turned, StandsUpTo}

-- The nodes from a place on are numbered, and with each all of its component. A number is one higher than a node of its component, which has it too.
pub record IsNumberedFrom (E : ℕ → ℕ → Type 0) (order numbers : List ℕ) (place : ℕ) : Type 0 where
  pub reached : (j : ℕ) → place ≤ j → j < length order → get_or numbers (get_or order j 0) 0 ≢ 0
  pub named : (t : ℕ) → get_or numbers t 0 ≢ 0 → (r : ℕ) × (get_or numbers t 0 ≡ r + 1) × InOneComponent E t r × (get_or numbers r 0 ≢ 0)
  pub closed : (a b : ℕ) → get_or numbers a 0 ≢ 0 → InOneComponent E a b → get_or numbers b 0 ≡ get_or numbers a 0

-- no node is numbered yet
pub none_numbered : (E : ℕ → ℕ → Type 0) (order numbers : List ℕ) → ((t : ℕ) → get_or numbers t 0 ≡ 0) → IsNumberedFrom E order numbers (length order)
none_numbered E order numbers clear = record {
  reached = λ j low high. absurd (omega (arith, low, high));
  named = λ t some. absurd (some (clear t));
  closed = λ a b some one. absurd (some (clear a));
}

-- a root that has a number has nothing to add
pub numbered_already : (E : ℕ → ℕ → Type 0) (order numbers : List ℕ) (place : ℕ) → get_or numbers (get_or order place 0) 0 ≢ 0 → IsNumberedFrom E order numbers (place + 1) → IsNumberedFrom E order numbers place
numbered_already E order numbers place some i = record {
  reached = λ j low high. elim (cases_eq j place) [
    | inl same ↦ subst (λ (k : ℕ). get_or numbers (get_or order k 0) 0 ≢ 0) (sym same) some
    | inr other ↦ i.reached j (omega (arith, low, other)) high
  ];
  named = i.named;
  closed = i.closed;
}

module _ (E : ℕ → ℕ → Type 0) (order numbers : List ℕ) (place : ℕ) (i : IsNumberedFrom E order numbers (place + 1)) (free : get_or numbers (get_or order place 0) 0 ≡ 0) where
  -- the number of the root is new
  pub number_fresh : (t : ℕ) → get_or numbers t 0 ≢ get_or order place 0 + 1
  number_fresh t same =
      let named = i.named t (λ none. absurd (omega (arith, none, same))) in
      let at = named.1 in
      let root : named.0 ≡ get_or order place 0 = omega (arith, at, same) in
      named.3 (ap (λ (x : ℕ). get_or numbers x 0) root ∙ free)

  module _ (n : ℕ) (inside : (a b : ℕ) → E a b → (a < n) × (b < n)) (finishing : IsFinishingOrder E n order) (short : place < length order) (new : List ℕ)
      (s : NumbersSources E (get_or order place 0) (get_or order place 0 + 1) numbers new) where
    stands : (t : ℕ) → t < n → get_or numbers t 0 ≡ 0 → StandsUpTo order place t
    stands t lt none =
        let at = (finishing.nodes.same t).0 lt in
        let here : get_or order at.0 0 ≡ t = get_or_default order at.0 0 t at.1 ∙ at.2 in
        elim (cases_lt place at.0) [
          | inl later ↦ absurd (i.reached at.0 (omega (arith, later)) at.1 (ap (λ (x : ℕ). get_or numbers x 0) here ∙ none))
          | inr up_to ↦ (at.0, up_to, here)
        ]

    -- what has the number is of the component of the root
    in_component : (t : ℕ) → get_or new t 0 ≡ get_or order place 0 + 1 → InOneComponent E t (get_or order place 0)
    in_component t has = elim ((s.numbered t).0 has) [
      | inl same ↦ inl same
      | inr path ↦ one_component E (FreeEdge E numbers) order place short finishing.back (λ a b f. (f.0, stands a (inside a b f.0).0 f.1, stands b (inside a b f.0).1 f.2)) t path
    ]

    -- and all of that has it
    component_unnumbered : (t : ℕ) → InOneComponent E t (get_or order place 0) → get_or numbers t 0 ≡ 0
    component_unnumbered t one = elim (cases_eq (get_or numbers t 0) 0) [
      | inl none ↦ none
      | inr some ↦ absurd (some (sym (i.closed t (get_or order place 0) some one) ∙ free))
    ]

    has_component : (t : ℕ) → InOneComponent E t (get_or order place 0) → get_or new t 0 ≡ get_or order place 0 + 1
    has_component t one = (s.numbered t).1 (component_free E numbers (get_or order place 0) component_unnumbered t one)

    -- nodes that have a number keep it
    numbered_kept : (t : ℕ) → get_or numbers t 0 ≢ 0 → get_or new t 0 ≡ get_or numbers t 0
    numbered_kept t some = s.others t (λ has. some (component_unnumbered t (in_component t has)))

    still_numbered : (t : ℕ) → get_or numbers t 0 ≢ 0 → get_or new t 0 ≢ 0
    still_numbered t some none = some (sym (numbered_kept t some) ∙ none)

    pub numbered_on : IsNumberedFrom E order new place
    numbered_on =
        let root : get_or new (get_or order place 0) 0 ≡ get_or order place 0 + 1 = has_component (get_or order place 0) (inl refl) in
        record {
          reached = λ j low high. elim (cases_eq j place) [
            | inl same ↦ subst (λ (k : ℕ). get_or new (get_or order k 0) 0 ≢ 0) (sym same) (λ none. absurd (omega (arith, root, none)))
            | inr other ↦ still_numbered (get_or order j 0) (i.reached j (omega (arith, low, other)) high)
          ];
          named = λ t some. elim (cases_eq (get_or new t 0) (get_or order place 0 + 1)) [
            | inl has ↦ (get_or order place 0, has, in_component t has, λ none. absurd (omega (arith, root, none)))
            | inr other ↦
                let kept = s.others t other in
                let before = i.named t (λ none. some (kept ∙ none)) in
                (before.0, kept ∙ before.1, before.2, still_numbered before.0 before.3)
          ];
          closed = λ a b some one. elim (cases_eq (get_or new a 0) (get_or order place 0 + 1)) [
            | inl has ↦ has_component b (one_joined E b a (get_or order place 0) (one_turned E a b one) (in_component a has)) ∙ sym has
            | inr other ↦
                let kept = s.others a other in
                let had : get_or numbers a 0 ≢ 0 = λ none. some (kept ∙ none) in
                let same = i.closed a b had one in
                numbered_kept b (λ none. had (sym same ∙ none)) ∙ same ∙ sym kept
          ];
        }

-- at the end all nodes are numbered, by their components
pub all_numbered : (E : ℕ → ℕ → Type 0) (n : ℕ) (order numbers : List ℕ) → IsFinishingOrder E n order → IsNumberedFrom E order numbers 0 → NumbersComponents E n numbers
all_numbered E n order numbers finishing i a b la lb = (
  (λ same.
      let first = i.named a (some a la) in
      let second = i.named b (some b lb) in
      let at = first.1 in
      let at' = second.1 in
      let root : second.0 ≡ first.0 = omega (arith, at, at', same) in
      one_joined E a first.0 b first.2 (one_turned E b first.0 (subst (InOneComponent E b) root second.2))),
  (λ one. sym (i.closed a b (some a la) one)),
) where
  some : (t : ℕ) → t < n → get_or numbers t 0 ≢ 0
  some t lt =
      let at = (finishing.nodes.same t).0 lt in
      let here : get_or order at.0 0 ≡ t = get_or_default order at.0 0 t at.1 ∙ at.2 in
      λ none. i.reached at.0 (omega arith) at.1 (ap (λ (x : ℕ). get_or numbers x 0) here ∙ none)
