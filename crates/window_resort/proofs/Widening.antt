-- A window is widened by one edge more.
use Rattle.std.proofs.Common.{◌≡◌, inl, inr, ◌⊎◌, ℕ, ◌<◌, ◌≤◌, List, [], ◌∷◌, ◌++◌, get_or, arith, refl, ap, subst, ◌∙◌}
use Rattle.std.specs.Prelude.{Option, Some, None, max, min}
use Rattle.std.proofs.lemmas.List.Elements.{Contains-append_cases, Contains-append_left, Contains-append_right}
use Rattle.orders.proofs.Members.{Contains-cons_cases, Contains-head, Contains-nil}
use Rattle.window_resort.specs.declared.spans.Window.{Window}
use Rattle.window_resort.specs.Changes.{LeadsBack, widened}
use Rattle.window_resort.specs.Windows.{IsSpan, Spans}
use Rattle.window_resort.proofs.BackwardEdges.{same_span}
use Rattle.window_resort.proofs.Places.{le_or_lt}

-- whatever is spanned, by one pair of places more
module _ (Before After : ℕ → ℕ → Type 0) (source target : ℕ) (old_back : (i j : ℕ) → Before i j → After i j) (old_or_new : (i j : ℕ) → After i j → Before i j ⊎ ((source ≡ i) × (target ≡ j))) (new_back : After source target) where
  pub span_with : (window : Option Window) → IsSpan Before window → Spans After (widened window source target)
  span_with None none = record {
    to_first = (source, new_back);
    first = λ i j k. elim (old_or_new i j k) [ inl old ↦ absurd (none i j old) | inr new ↦ let t = new.1 in omega (arith, t) ];
    from_last = (target, new_back);
    last = λ i j k. elim (old_or_new i j k) [ inl old ↦ absurd (none i j old) | inr new ↦ let s = new.0 in omega (arith, s) ];
  }
  span_with (Some w) h = record {
    to_first = elim (le_or_lt w.first target) [
      | inl le ↦
          let least : w.first ≡ min w.first target = omega (arith, le) in
          (h.to_first.0, subst (After h.to_first.0) least (old_back h.to_first.0 w.first h.to_first.1))
      | inr ge ↦
          let least : target ≡ min w.first target = omega (arith, ge) in
          (source, subst (After source) least new_back)
    ];
    first = λ i j k. elim (old_or_new i j k) [
      | inl old ↦ let le = h.first i j old in omega (arith, le)
      | inr new ↦ let t = new.1 in omega (arith, t)
    ];
    from_last = elim (le_or_lt source w.last) [
      | inl le ↦
          let most : w.last ≡ max w.last source = omega (arith, le) in
          (h.from_last.0, subst (λ (i : ℕ). After i h.from_last.0) most (old_back w.last h.from_last.0 h.from_last.1))
      | inr gt ↦
          let most : source ≡ max w.last source = omega (arith, gt) in
          (target, subst (λ (i : ℕ). After i target) most new_back)
    ];
    last = λ i j k. elim (old_or_new i j k) [
      | inl old ↦ let le = h.last i j old in omega (arith, le)
      | inr new ↦ let s = new.0 in omega (arith, s)
    ];
  }

module _ (places : List ℕ) (before : List (ℕ × ℕ)) (from to : ℕ) where
  abbrev more : List (ℕ × ℕ)
  more = before ++ (from, to) ∷ []

  old_back : (i j : ℕ) → LeadsBack places before i j → LeadsBack places more i j
  old_back i j h = record {
    from = h.from;
    to = h.to;
    edge = Contains-append_left before ((from, to) ∷ []) (h.from, h.to) h.edge;
    source_is = h.source_is;
    target_is = h.target_is;
    earlier = h.earlier;
  }

  new_back : get_or places to 0 < get_or places from 0 → LeadsBack places more (get_or places from 0) (get_or places to 0)
  new_back lt = record {
    from = from;
    to = to;
    edge = Contains-append_right before ((from, to) ∷ []) (from, to) (Contains-head {X = ℕ × ℕ} (from, to) [] (from, to) refl);
    source_is = refl;
    target_is = refl;
    earlier = lt;
  }

  old_or_new : (i j : ℕ) → LeadsBack places more i j → LeadsBack places before i j ⊎ ((get_or places from 0 ≡ i) × (get_or places to 0 ≡ j))
  old_or_new i j h = elim (Contains-append_cases before ((from, to) ∷ []) (h.from, h.to) h.edge) [
    | inl old ↦ inl (record { from = h.from; to = h.to; edge = old; source_is = h.source_is; target_is = h.target_is; earlier = h.earlier })
    | inr last ↦ elim (Contains-cons_cases {X = ℕ × ℕ} (from, to) [] (h.from, h.to) last) [
      | inl same ↦ inr (ap (λ (e : ℕ × ℕ). get_or places e.0 0) same ∙ h.source_is, ap (λ (e : ℕ × ℕ). get_or places e.1 0) same ∙ h.target_is)
      | inr none ↦ absurd (Contains-nil {X = ℕ × ℕ} (h.from, h.to) none)
    ]
  ]

  -- by an edge that doesn't point backward it stays
  pub span_kept : get_or places from 0 ≤ get_or places to 0 → (window : Option Window) → IsSpan (LeadsBack places before) window → IsSpan (LeadsBack places more) window
  span_kept le window h =
      same_span (LeadsBack places before) (LeadsBack places more) old_back
      (λ i j k. elim (old_or_new i j k) [
        | inl old ↦ old
        | inr new ↦ let s = new.0 in let t = new.1 in let lt = k.earlier in absurd (omega (arith, s, t, lt, le))
      ])
      window h

  pub span_widened : get_or places to 0 < get_or places from 0 → (window : Option Window) → IsSpan (LeadsBack places before) window → Spans (LeadsBack places more) (widened window (get_or places from 0) (get_or places to 0))
  span_widened lt = span_with (LeadsBack places before) (LeadsBack places more) (get_or places from 0) (get_or places to 0) old_back old_or_new (new_back lt)
