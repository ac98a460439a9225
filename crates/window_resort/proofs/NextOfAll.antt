-- The next node, looked for among all nodes one after another.
use Rattle.std.proofs.Common.{◌≡◌, inl, inr, ℕ, ◌+◌, ◌<◌, ◌≤◌, List, length, get_or, Contains, arith, refl, sym, subst, ap, ◌∙◌}
use Rattle.std.specs.Prelude.{Option, Some, None, IfSome, min}
use Rattle.std.proofs.lemmas.Bool.{cases_lt}
use Rattle.orders.specs.Choices.{IsNext, IsReady}
use Rattle.window_resort.proofs.Places.{node_at, place_in}

-- a node that may come next
pub record IsCandidate (E : ℕ → ℕ → Type 0) (nodes placed : List ℕ) (x : ℕ) : Type 0 where
  pub unplaced : Contains placed x → ⊥
  pub ready : IsReady E nodes placed x

-- the least candidate of the first nodes
pub data LeastSoFar (E : ℕ → ℕ → Type 0) (nodes placed : List ℕ) (count : ℕ) (found : Option ℕ) : Type 0 where
  none : found ≡ None → ((i : ℕ) → i < count → IsCandidate E nodes placed (get_or nodes i 0) → ⊥) → LeastSoFar E nodes placed count found
  some : (x : ℕ) → found ≡ Some x → Contains nodes x → IsCandidate E nodes placed x → ((i : ℕ) → i < count → IsCandidate E nodes placed (get_or nodes i 0) → x ≤ get_or nodes i 0) →
      LeastSoFar E nodes placed count found

module _ (E : ℕ → ℕ → Type 0) (nodes placed : List ℕ) where
  -- a node is ready where each of the nodes with an edge to it is placed
  pub ready_by_all : (node : ℕ) → ((i : ℕ) → i < length nodes → E (get_or nodes i 0) node → Contains placed (get_or nodes i 0)) → IsReady E nodes placed node
  ready_by_all node all a has edge =
      let at = place_in nodes a has in
      subst (Contains placed) at.2 (all at.0 at.1 (subst (λ (b : ℕ). E b node) (sym at.2) edge))

  below_or_is : (P : ℕ → Type 0) (count : ℕ) → ((i : ℕ) → i < count → P i) → P count → (i : ℕ) → i < count + 1 → P i
  below_or_is P count old new i below = elim (cases_lt i count) [
    | inl lt ↦ old i lt
    | inr ge ↦ let is : count ≡ i = omega (arith, below, ge) in subst P is new
  ]

  pub so_far_nothing : LeastSoFar E nodes placed 0 None
  so_far_nothing = none refl (λ i below. absurd (omega (arith, below)))

  module _ (count : ℕ) (below : count < length nodes) where
    abbrev pub this : ℕ
    this = get_or nodes count 0

    -- the next one is no candidate
    pub so_far_kept : (found : Option ℕ) → (IsCandidate E nodes placed this → ⊥) → LeastSoFar E nodes placed count found → LeastSoFar E nodes placed (count + 1) found
    so_far_kept found isnt (none is old) = none is (below_or_is (λ i. IsCandidate E nodes placed (get_or nodes i 0) → ⊥) count old isnt)
    so_far_kept found isnt (some x is has may old) =
        some x is has may (below_or_is (λ i. IsCandidate E nodes placed (get_or nodes i 0) → x ≤ get_or nodes i 0) count old (λ h. absurd (isnt h)))

    -- it is the first
    pub so_far_first : IsCandidate E nodes placed this → LeastSoFar E nodes placed count None → LeastSoFar E nodes placed (count + 1) (Some this)
    so_far_first may (none is old) =
        some this refl (node_at nodes count below) may (below_or_is (λ i. IsCandidate E nodes placed (get_or nodes i 0) → this ≤ get_or nodes i 0) count (λ i lt h. absurd (old i lt h)) (λ h. omega arith))
    so_far_first may (some x is has may' old) = absurd (no is) where
      no : None ≡ Some x → ⊥
      no e = grind (arith, e)

    -- or another one
    pub so_far_more : (least : ℕ) → IsCandidate E nodes placed this → LeastSoFar E nodes placed count (Some least) → LeastSoFar E nodes placed (count + 1) (Some (min least this))
    so_far_more least may h = elim (cases_lt this least) [
      | inl lt ↦
          let is : min least this ≡ this = omega (arith, lt) in
          some this (ap Some is) (node_at nodes count below) may (below_or_is (λ i. IsCandidate E nodes placed (get_or nodes i 0) → this ≤ get_or nodes i 0) count
          (λ i less c. let le = bound h i less c in omega (arith, le, lt)) (λ c. omega arith))
      | inr ge ↦
          let is : min least this ≡ least = omega (arith, ge) in
          some least (ap Some is) (inside h) (candidate h) (below_or_is (λ i. IsCandidate E nodes placed (get_or nodes i 0) → least ≤ get_or nodes i 0) count (bound h) (λ c. ge))
    ]
      where
        same : (x : ℕ) → Some least ≡ Some x → x ≡ least
        same x e = grind (arith, e)

        bound : LeastSoFar E nodes placed count (Some least) → (i : ℕ) → i < count → IsCandidate E nodes placed (get_or nodes i 0) → least ≤ get_or nodes i 0
        bound (none is old) i less c = absurd (old i less c)
        bound (some x is has may' old) i less c = let e = same x is in let le = old i less c in omega (arith, e, le)

        inside : LeastSoFar E nodes placed count (Some least) → Contains nodes least
        inside (none is old) = absurd (no is) where
          no : Some least ≡ None → ⊥
          no e = grind (arith, e)
        inside (some x is has may' old) = subst (Contains nodes) (same x is) has

        candidate : LeastSoFar E nodes placed count (Some least) → IsCandidate E nodes placed least
        candidate (none is old) = absurd (no is) where
          no : Some least ≡ None → ⊥
          no e = grind (arith, e)
        candidate (some x is has may' old) = subst (IsCandidate E nodes placed) (same x is) may'

  -- of all nodes
  module _ (count : ℕ) (all : length nodes ≤ count) where
    pub next_found : (found : Option ℕ) → LeastSoFar E nodes placed count found → IfSome found (IsNext E nodes placed)
    next_found found (none is old) = subst (λ (f : Option ℕ). IfSome f (IsNext E nodes placed)) (sym is) tt
    next_found found (some x is has may old) = subst (λ (f : Option ℕ). IfSome f (IsNext E nodes placed)) (sym is) (record {
      inside = has;
      unplaced = may.unplaced;
      ready = may.ready;
      least = λ z in_nodes lacks ready.
          let at = place_in nodes z in_nodes in
          let lt = at.1 in
          let le = old at.0 (omega (arith, all, lt)) (subst (IsCandidate E nodes placed) (sym at.2) (record { unplaced = lacks; ready = ready })) in
          let e = at.2 in omega (arith, le, e);
    })

    pub none_found : (found : Option ℕ) → LeastSoFar E nodes placed count found → found ≡ None → (z : ℕ) → Contains nodes z → (Contains placed z → ⊥) → IsReady E nodes placed z → ⊥
    none_found found (none is old) lacking z in_nodes lacks ready =
        let at = place_in nodes z in_nodes in
        let lt = at.1 in
        old at.0 (omega (arith, all, lt)) (subst (IsCandidate E nodes placed) (sym at.2) (record { unplaced = lacks; ready = ready }))
    none_found found (some x is has may old) lacking z in_nodes lacks ready = absurd (no (sym lacking ∙ is)) where
      no : None ≡ Some x → ⊥
      no e = grind (arith, e)
