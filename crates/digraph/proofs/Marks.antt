-- Marks that are given to one set of nodes after another.
use Rattle.std.proofs.Common.{◌≡◌, ◌⊎◌, ◌∙◌, ℕ, ◌<◌, List, length, get_or, set, inl, inr, refl, sym, ap, subst, length-set, get_or-set_same, get_or-set_other}
use Rattle.std.proofs.lemmas.Bool.{cases_eq}
use Rattle.digraph.specs.Marks.{MarksWhere}

-- nothing changes where no node of the set is without a mark
pub marks_idle : (P : ℕ → Type 0) (mark : ℕ) (old : List ℕ) → ((x : ℕ) → get_or old x 0 ≡ 0 → P x → ⊥) → MarksWhere P mark old old
marks_idle P mark old none = record {
  room = refl;
  kept = λ x ne. refl;
  fresh = λ x zero. inr (zero, none x zero);
}

-- the one node of a set that has no mark gets it
pub marks_at : (P : ℕ → Type 0) (mark : ℕ) (old : List ℕ) (n : ℕ) → n < length old → get_or old n 0 ≡ 0 → P n → ((x : ℕ) → P x → x ≡ n) → MarksWhere P mark old (set old n mark)
marks_at P mark old n lt free member only = record {
  room = length-set old n mark;
  kept = λ x ne. get_or-set_other old n x mark 0 (λ (same : x ≡ n). ne (ap (λ (k : ℕ). get_or old k 0) same ∙ free));
  fresh = λ x zero. elim (cases_eq x n) [
    | inl same ↦ inl (ap (λ (k : ℕ). get_or (set old n mark) k 0) same ∙ get_or-set_same old n mark 0 lt, subst P (sym same) member)
    | inr other ↦ inr (get_or-set_other old n x mark 0 other ∙ zero, λ p. other (only x p))
  ];
}

-- the same set in other words
pub marks_like : (P Q : ℕ → Type 0) (mark : ℕ) (old new : List ℕ) → ((x : ℕ) → P x → Q x) → ((x : ℕ) → Q x → P x) → MarksWhere P mark old new → MarksWhere Q mark old new
marks_like P Q mark old new to from marks = record {
  room = marks.room;
  kept = marks.kept;
  fresh = λ x zero. elim (marks.fresh x zero) [ inl h ↦ inl (h.0, to x h.1) | inr h ↦ inr (h.0, λ q. h.1 (from x q)) ];
}

module _ (P Q : ℕ → Type 0) (mark : ℕ) (old mid new : List ℕ) (first : MarksWhere P mark old mid) (second : MarksWhere Q mark mid new) where
  marked_first : (x : ℕ) → get_or mid x 0 ≡ mark → P x → ((get_or new x 0 ≡ mark) × (P x ⊎ Q x)) ⊎ ((get_or new x 0 ≡ 0) × (P x ⊎ Q x → ⊥))
  marked_first x at member = elim (cases_eq (get_or mid x 0) 0) [
    | inl zero ↦ elim (second.fresh x zero) [
      | inl h ↦ inl (h.0, inl member)
      | inr h ↦ inl (h.0 ∙ sym zero ∙ at, inl member)
    ]
    | inr ne ↦ inl (second.kept x ne ∙ at, inl member)
  ]

  -- one set after the other
  pub marks_both : MarksWhere (λ x. P x ⊎ Q x) mark old new
  marks_both = record {
    room = second.room ∙ first.room;
    kept = λ x ne. second.kept x (λ zero. ne (sym (first.kept x ne) ∙ zero)) ∙ first.kept x ne;
    fresh = λ x zero. elim (first.fresh x zero) [
      | inl h ↦ marked_first x h.0 h.1
      | inr h ↦ elim (second.fresh x h.0) [
        | inl k ↦ inl (k.0, inr k.1)
        | inr k ↦ inr (k.0, λ either. elim either [ inl p ↦ h.1 p | inr q ↦ k.1 q ])
      ]
    ];
  }
