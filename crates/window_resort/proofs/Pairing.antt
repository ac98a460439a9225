-- The window of an order, by all pairs of its places one after another.
use Rattle.std.proofs.Common.{◌≡◌, inl, inr, ◌⊎◌, ℕ, ◌+◌, ◌<◌, ◌≤◌, List, length, get_or, arith, refl, sym, subst}
use Rattle.std.specs.Prelude.{Option, Some, None}
use Rattle.std.proofs.lemmas.Bool.{cases_lt}
use Rattle.window_resort.specs.declared.spans.Window.{Window}
use Rattle.window_resort.specs.Changes.{widened}
use Rattle.window_resort.specs.Windows.{IsSpan, IsWindow, PointsBackward}
use Rattle.window_resort.proofs.BackwardEdges.{same_span}
use Rattle.window_resort.proofs.Widening.{span_with}

-- an edge that points backward, of the pairs before this one
pub record Met (E : ℕ → ℕ → Type 0) (order : List ℕ) (s t i j : ℕ) : Type 0 where
  pub back : PointsBackward E order i j
  pub before : (i < s) ⊎ ((i ≡ s) × (j < t))

module _ (E : ℕ → ℕ → Type 0) (order : List ℕ) where
  pub met_none : IsSpan (Met E order 0 0) None
  met_none i j m = elim m.before [ inl lt ↦ absurd (omega (arith, lt)) | inr at ↦ let lt = at.1 in absurd (omega (arith, lt)) ]

  module _ (s t : ℕ) where
    met_more : (i j : ℕ) → Met E order s t i j → Met E order s (t + 1) i j
    met_more i j m = record {
      back = m.back;
      before = elim m.before [ inl lt ↦ inl lt | inr at ↦ let lt = at.1 in inr (at.0, omega (arith, lt)) ];
    }

    met_or_this : (i j : ℕ) → Met E order s (t + 1) i j → Met E order s t i j ⊎ ((s ≡ i) × (t ≡ j))
    met_or_this i j m = elim m.before [
      | inl lt ↦ inl (record { back = m.back; before = inl lt })
      | inr at ↦ elim (cases_lt j t) [
        | inl lt ↦ inl (record { back = m.back; before = inr (at.0, lt) })
        | inr ge ↦ let lt = at.1 in inr (sym at.0, omega (arith, lt, ge))
      ]
    ]

    -- by a pair with an edge
    pub met_edge : t < s → s < length order → E (get_or order s 0) (get_or order t 0) → (window : Option Window) → IsSpan (Met E order s t) window →
        IsSpan (Met E order s (t + 1)) (Some (widened window s t))
    met_edge lt below edge = span_with (Met E order s t) (Met E order s (t + 1)) s t met_more met_or_this
        (record { back = record { within = below; earlier = lt; edge = edge }; before = inr (refl, omega arith) })

    -- and by one without
    pub met_no_edge : (E (get_or order s 0) (get_or order t 0) → ⊥) → (window : Option Window) → IsSpan (Met E order s t) window → IsSpan (Met E order s (t + 1)) window
    met_no_edge none = same_span (Met E order s t) (Met E order s (t + 1)) met_more (λ i j m. elim (met_or_this i j m) [
      | inl old ↦ old
      | inr is ↦ absurd (none (subst (λ (a : ℕ). E (get_or order a 0) (get_or order t 0)) (sym is.0) (subst (λ (b : ℕ). E (get_or order i 0) (get_or order b 0)) (sym is.1) m.back.edge)))
    ])

  -- all pairs with a source
  pub met_row : (s : ℕ) (window : Option Window) → IsSpan (Met E order s s) window → IsSpan (Met E order (s + 1) 0) window
  met_row s = same_span (Met E order s s) (Met E order (s + 1) 0)
      (λ i j m. record {
        back = m.back;
        before = inl (elim m.before [ inl lt ↦ omega (arith, lt) | inr at ↦ let is = at.0 in omega (arith, is) ]);
      })
      (λ i j m. record {
        back = m.back;
        before = elim m.before [
          | inl lt ↦ elim (cases_lt i s) [
            | inl less ↦ inl less
            | inr ge ↦ let is : i ≡ s = omega (arith, lt, ge) in let back = m.back.earlier in inr (is, omega (arith, back, is))
          ]
          | inr at ↦ let lt = at.1 in absurd (omega (arith, lt))
        ];
      })

  -- and with all
  pub met_all : (s : ℕ) → length order ≤ s → (window : Option Window) → IsSpan (Met E order s 0) window → IsWindow E order window
  met_all s all = same_span (Met E order s 0) (PointsBackward E order)
      (λ i j m. m.back)
      (λ i j back. let within = back.within in record { back = back; before = inl (omega (arith, within, all)) })
