-- A search where its path grows by a node, and where the last node of the path is finished.
use Rattle.std.proofs.Common.{◌≡◌, ◌∙◌, ◌⊎◌, ℕ, zero, suc, ◌+◌, ◌-◌, ◌<◌, ◌≤◌, List, [], ◌∷◌, ◌++◌, Bool, true, false, length, get_or, set, Contains, arith, sym, subst, inl, inr, get_or-set_same, get_or-set_other, append_assoc}
use Rattle.std.proofs.lemmas.Bool.{cases_eq, cases_order, cases_lt}
use Rattle.std.proofs.lemmas.List.{get_or_append_left, get_or_at, get_or-append-add, get_or_past, set_past, length-append}
use Rattle.std.proofs.lemmas.List.Elements.{Contains-get_or, Contains-push_cases}
use Rattle.orders.specs.Paths.{Reach}
use Rattle.orders.proofs.FewEdges.{reach_append}
use Rattle.orders.proofs.Members.{Contains-nil}
use Rattle.full_sort.specs.Finishing.{IsListOf, IsSearch, ReachesBack}
use Rattle.full_sort.specs.Waiting.{is_marked}
use Rattle.full_sort.proofs.ListsOf.{listed_inserted}

-- the places of a list with a node put between two parts
module _ (front : List ℕ) (x : ℕ) (back : List ℕ) where
  place_low : (i : ℕ) → i < length front → get_or (front ++ x ∷ back) i 0 ≡ get_or (front ++ back) i 0
  place_low i lt = get_or_append_left front (x ∷ back) 0 i lt ∙ sym (get_or_append_left front back 0 i lt)

  place_here : (i : ℕ) → i ≡ length front → get_or (front ++ x ∷ back) i 0 ≡ x
  place_here i same = get_or_at front x back 0 i (sym same)

  place_high : (i : ℕ) → length front < i → get_or (front ++ x ∷ back) i 0 ≡ get_or back (i - length front - 1) 0
  place_high i lt =
      let m : ℕ = i - length front - 1 in
      let at : length front + suc m ≡ i = omega (arith, lt) in
      subst (λ (k : ℕ). get_or (front ++ x ∷ back) k 0 ≡ get_or back m 0) at (get_or-append-add front (x ∷ back) (suc m) 0)

  place_before : (i : ℕ) → length front < i → get_or (front ++ back) (i - 1) 0 ≡ get_or back (i - length front - 1) 0
  place_before i lt =
      let m : ℕ = i - length front - 1 in
      let at : length front + m ≡ i - 1 = omega (arith, lt) in
      subst (λ (k : ℕ). get_or (front ++ back) k 0 ≡ get_or back m 0) at (get_or-append-add front back m 0)

module _ (E : ℕ → ℕ → Type 0) (front : List ℕ) (x : ℕ) (back : List ℕ) (no_edge : (a : ℕ) → Contains front a → E a x → ⊥)
    (linked : (i j : ℕ) → i < j → j < length back → Reach E (get_or back j 0) (get_or back i 0)) (step : 0 < length back → E (get_or back 0 0) x) where
  -- each node of the path reaches the new one
  reach_new : (m : ℕ) → m < length back → Reach E (get_or back m 0) x
  reach_new zero lt = ([], step lt)
  reach_new (suc m) lt = reach_append E (get_or back (suc m) 0) (get_or back 0 0) x (linked 0 (suc m) (omega arith) lt) ([], step (omega (arith, lt)))

  linked_grown : (i j : ℕ) → i < j → j < length (x ∷ back) → Reach E (get_or (x ∷ back) j 0) (get_or (x ∷ back) i 0)
  linked_grown i zero lt short = absurd (omega (arith, lt))
  linked_grown zero (suc j) lt short = reach_new j (omega (arith, short))
  linked_grown (suc i) (suc j) lt short = linked i j (omega (arith, lt)) (omega (arith, short))

  module _ (old : ReachesBack E (front ++ back)) (i k j : ℕ) (low : i ≤ k) (high : k < j) (short : j < length (front ++ x ∷ back))
      (edge : E (get_or (front ++ x ∷ back) i 0) (get_or (front ++ x ∷ back) j 0)) (longer : length (front ++ x ∷ back) ≡ length front + length back + 1) (whole : length (front ++ back) ≡ length front + length back) where
    back_low : j < length front → Reach E (get_or (front ++ x ∷ back) j 0) (get_or (front ++ x ∷ back) k 0)
    back_low lt =
        let at_i = place_low front x back i (omega (arith, low, high, lt)) in
        let at_k = place_low front x back k (omega (arith, high, lt)) in
        let at_j = place_low front x back j lt in
        subst (λ (v : ℕ). Reach E v (get_or (front ++ x ∷ back) k 0)) (sym at_j) (subst (Reach E (get_or (front ++ back) j 0)) (sym at_k)
        (old i k j low high (omega (arith, lt, whole)) (subst (λ (u : ℕ). E u (get_or (front ++ back) j 0)) at_i (subst (E (get_or (front ++ x ∷ back) i 0)) at_j edge))))

    back_here : j ≡ length front → ⊥
    back_here same =
        let lt : i < length front = omega (arith, low, high, same) in
        let at_i : get_or (front ++ x ∷ back) i 0 ≡ get_or front i 0 = get_or_append_left front (x ∷ back) 0 i lt in
        no_edge (get_or front i 0) (Contains-get_or front i 0 lt) (subst (λ (u : ℕ). E u x) at_i (subst (E (get_or (front ++ x ∷ back) i 0)) (place_here front x back j same) edge))

    back_high : length front < j → Reach E (get_or (front ++ x ∷ back) j 0) (get_or (front ++ x ∷ back) k 0)
    back_high lt =
        let m : ℕ = j - length front - 1 in
        let inside : m < length back = omega (arith, lt, short, longer) in
        let at_j = place_high front x back j lt in
        subst (λ (v : ℕ). Reach E v (get_or (front ++ x ∷ back) k 0)) (sym at_j) (elim (cases_order k (length front)) [
          | inl here ↦ subst (Reach E (get_or back m 0)) (sym (place_here front x back k here)) (reach_new m inside)
          | inr o ↦ elim o [
            | inl lower ↦
                let at_i = place_low front x back i (omega (arith, low, lower)) in
                let at_k = place_low front x back k lower in
                let before = place_before front x back j lt in
                subst (Reach E (get_or back m 0)) (sym at_k) (subst (λ (v : ℕ). Reach E v (get_or (front ++ back) k 0)) before
                (old i k (j - 1) low (omega (arith, lower, lt)) (omega (arith, short, longer, whole, lt))
                (subst (λ (u : ℕ). E u (get_or (front ++ back) (j - 1) 0)) at_i (subst (E (get_or (front ++ x ∷ back) i 0)) (at_j ∙ sym before) edge))))
            | inr higher ↦
                let at_k = place_high front x back k higher in
                subst (Reach E (get_or back m 0)) (sym at_k) (linked (k - length front - 1) m (omega (arith, higher, high)) inside)
          ]
        ])

    back_grown : Reach E (get_or (front ++ x ∷ back) j 0) (get_or (front ++ x ∷ back) k 0)
    back_grown = elim (cases_order j (length front)) [
      | inl here ↦ absurd (back_here here)
      | inr o ↦ elim o [ inl lower ↦ back_low lower | inr higher ↦ back_high higher ]
    ]

-- what a mark more changes
module _ (marks : List Bool) (x : ℕ) where
  pub marked_kept : (t : ℕ) → is_marked marks t ≡ true → is_marked (set marks x true) t ≡ true
  marked_kept t h = elim (cases_eq t x) [
    | inl same ↦ elim (cases_lt x (length marks)) [
      | inl lt ↦ subst (λ (y : ℕ). is_marked (set marks x true) y ≡ true) (sym same) (get_or-set_same marks x true false lt)
      | inr past ↦ subst (λ (ms : List Bool). is_marked ms t ≡ true) (sym (set_past marks x true past)) h
    ]
    | inr other ↦ get_or-set_other marks x t true false other ∙ h
  ]

  pub marked_only : (t : ℕ) → is_marked (set marks x true) t ≡ true → (is_marked marks t ≡ true) ⊎ (t ≡ x)
  marked_only t h = elim (cases_eq t x) [ inl same ↦ inr same | inr other ↦ inl (sym (get_or-set_other marks x t true false other) ∙ h) ]

-- a marked node is one of the array
pub marked_below : (marks : List Bool) (t : ℕ) → is_marked marks t ≡ true → t < length marks
marked_below marks t h = elim (cases_lt t (length marks)) [
  | inl lt ↦ lt
  | inr past ↦ let none = get_or_past marks t false past in absurd cc
]

-- a node joins the end of the path
module _ (E : ℕ → ℕ → Type 0) (marks : List Bool) (finished path : List ℕ) (x : ℕ) (lt : x < length marks) (unmarked : is_marked marks x ≡ false) (s : IsSearch E marks finished path) where
  no_edge_to : (a : ℕ) → Contains finished a → E a x → ⊥
  no_edge_to a at e = let marked = s.closed a x at e in absurd cc

  pub search_grown : (0 < length path → E (get_or path 0 0) x) → IsSearch E (set marks x true) finished (x ∷ path)
  search_grown step = record {
    found = listed_inserted (λ t. is_marked marks t ≡ true) (λ t. is_marked (set marks x true) t ≡ true) finished x path (λ marked. absurd cc)
        (marked_kept marks x) (get_or-set_same marks x true false lt) (marked_only marks x) s.found;
    closed = λ a b at e. marked_kept marks x b (s.closed a b at e);
    linked = linked_grown E finished x path no_edge_to s.linked step;
    back = λ i k j low high short e. back_grown E finished x path no_edge_to s.linked step s.back i k j low high short e (omega (arith, length-append {A = ℕ})) (omega (arith, length-append {A = ℕ}));
  }

-- the last node of the path is finished
pub search_shrunk : (E : ℕ → ℕ → Type 0) (marks : List Bool) (finished : List ℕ) (x : ℕ) (path : List ℕ) → ((b : ℕ) → E x b → is_marked marks b ≡ true) → IsSearch E marks finished (x ∷ path) →
    IsSearch E marks (finished ++ x ∷ []) path
search_shrunk E marks finished x path ends s =
    let same : finished ++ x ∷ path ≡ (finished ++ x ∷ []) ++ path = sym (append_assoc finished (x ∷ []) path) in
    record {
      found = subst (IsListOf (λ t. is_marked marks t ≡ true)) same s.found;
      closed = λ a b at e. elim (Contains-push_cases finished x a at) [
        | inl before ↦ s.closed a b before e
        | inr here ↦ ends b (subst (λ (y : ℕ). E y b) (sym here) e)
      ];
      linked = λ i j lt short. s.linked (suc i) (suc j) (omega (arith, lt)) (omega (arith, short));
      back = subst (ReachesBack E) same s.back;
    }

-- no node is found yet
pub search_begun : (E : ℕ → ℕ → Type 0) (marks : List Bool) → ((t : ℕ) → is_marked marks t ≡ false) → IsSearch E marks [] []
search_begun E marks clear = record {
  found = record {
    once = λ i j d lt short. absurd (omega (arith, short));
    same = λ t. ((λ marked. let none = clear t in absurd cc), (λ at. absurd (Contains-nil t at)));
  };
  closed = λ a b at e. absurd (Contains-nil a at);
  linked = λ i j lt short. absurd (omega (arith, short));
  back = λ i k j low high short e. absurd (omega (arith, short));
}
