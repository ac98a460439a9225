-- One level more of distances from a node.
use Rattle.std.proofs.Common.{◌≡◌, ◌≢◌, ◌∙◌, ◌↔◌, ℕ, zero, suc, ◌+◌, ◌<◌, ◌≤◌, List, [], ◌∷◌, length, get_or, Contains, arith, refl, sym, subst, inl, inr}
use Rattle.std.proofs.lemmas.Bool.{cases_eq}
use Rattle.orders.specs.Paths.{Linked}
use Rattle.full_sort.specs.Levels.{HasPath, IsShortest, IsLevelled, Touches, AddsLevel, IsFront}

-- a path of one edge more, behind an edge to a node of the front
pub path_behind : (E : ℕ → ℕ → Type 0) (end k : ℕ) (list : List ℕ) → IsFront E end k list → (x : ℕ) → Touches E x list → HasPath E x end (suc k)
path_behind E end zero list front x t =
    let same : t.0 ≡ end = (front t.0).0 t.1 in
    ([], subst (E x) same t.2, omega arith)
path_behind E end (suc k) list front x t =
    let s = (front t.0).0 t.1 in
    let e = s.path.2 in
    (t.0 ∷ s.path.0, (t.2, s.path.1), omega (arith, e))

-- a node from which a path of k + 1 edges leads, but no shorter one, has an edge to the front
touches_front : (E : ℕ → ℕ → Type 0) (end k : ℕ) (list : List ℕ) → IsFront E end k list → (x : ℕ) (between : List ℕ) → Linked E x between end → length between ≡ k →
    ((others : List ℕ) → Linked E x others end → k < length others + 1) → Touches E x list
touches_front E end zero list front x [] p e far = (end, (front end).1 refl, p)
touches_front E end zero list front x (y ∷ rest) p e far = absurd (omega (arith, e))
touches_front E end (suc k) list front x [] p e far = absurd (omega (arith, e))
touches_front E end (suc k) list front x (y ∷ rest) p e far = (
  y,
  (front y).1 record {
    path = (rest, p.1, omega (arith, e));
    shortest = λ others o. let more = far (y ∷ others) (p.0, o) in omega (arith, more);
  },
  p.0,
)

-- two shortest paths have as many edges
pub same_distance : (E : ℕ → ℕ → Type 0) (x end a b : ℕ) → IsShortest E x end a → IsShortest E x end b → a ≡ b
same_distance E x end a b s t =
    let one = s.shortest t.path.0 t.path.1 in
    let other = t.shortest s.path.0 s.path.1 in
    let p = s.path.2 in
    let q = t.path.2 in
    omega (arith, one, other, p, q)

pub first_inside : (E : ℕ → ℕ → Type 0) (n : ℕ) → ((a b : ℕ) → E a b → (a < n) × (b < n)) → (x : ℕ) (between : List ℕ) (end : ℕ) → Linked E x between end → x < n
first_inside E n inside x [] end p = (inside x end p).0
first_inside E n inside x (y ∷ between) end p = (inside x y p.0).0

module _ (E : ℕ → ℕ → Type 0) (n end : ℕ) (inside : (a b : ℕ) → E a b → (a < n) × (b < n)) where
  module _ (k : ℕ) (list old new : List ℕ) (levelled : IsLevelled E n end k old) (front : IsFront E end k list) (adds : AddsLevel E (suc k) list old new) where
    level_few : (x : ℕ) → x < n → get_or new x 0 ≤ suc k
    level_few x lt = elim (cases_eq (get_or old x 0) 0) [
      | inl none ↦ elim (adds.fresh x none) [ inl t ↦ let e = t.0 in omega (arith, e) | inr u ↦ let e = u.0 in omega (arith, e) ]
      | inr some ↦ let same = adds.kept x some in let few = levelled.few x lt in omega (arith, same, few)
    ]

    level_reached : (x : ℕ) → x < n → get_or new x 0 ≢ 0 → IsShortest E x end (get_or new x 0)
    level_reached x lt ne = elim (cases_eq (get_or old x 0) 0) [
      | inl none ↦ elim (adds.fresh x none) [
        | inl t ↦ subst (IsShortest E x end) (sym t.0) record {
          path = path_behind E end k list front x t.1;
          shortest = λ others o. let far = levelled.others x lt none others o in omega (arith, far);
        }
        | inr u ↦ absurd (ne u.0)
      ]
      | inr some ↦ subst (IsShortest E x end) (sym (adds.kept x some)) (levelled.reached x lt some)
    ]

    level_others : (x : ℕ) → x < n → get_or new x 0 ≡ 0 → (between : List ℕ) → Linked E x between end → suc k < length between + 1
    level_others x lt zero_now between p = elim (cases_eq (get_or old x 0) 0) [
      | inl none ↦
          let far = levelled.others x lt none between p in
          elim (adds.fresh x none) [
            | inl t ↦ let e = t.0 in absurd (omega (arith, e, zero_now))
            | inr u ↦ elim (cases_eq (length between) k) [
              | inl same ↦ absurd (u.1 (touches_front E end k list front x between p same (levelled.others x lt none)))
              | inr other ↦ omega (arith, far, other)
            ]
          ]
      | inr some ↦ let same = adds.kept x some in absurd (some (sym same ∙ zero_now))
    ]

    pub levelled_more : IsLevelled E n end (suc k) new
    levelled_more = record {
      whole = adds.room ∙ levelled.whole;
      few = level_few;
      reached = level_reached;
      others = level_others;
    }

  -- the nodes of the last level are the front
  pub front_of_level : (k : ℕ) (levels list : List ℕ) → IsLevelled E n end (suc k) levels → ((y : ℕ) → Contains list y ↔ ((y < n) × (get_or levels y 0 ≡ suc k))) → IsFront E end (suc k) list
  front_of_level k levels list levelled lists = λ y. (
    (λ h.
        let at = (lists y).0 h in
        let level = at.1 in
        subst (IsShortest E y end) at.1 (levelled.reached y at.0 (λ z. let none : suc k ≡ 0 = sym level ∙ z in absurd (omega (arith, none))))),
    (λ s.
        let lt = first_inside E n inside y s.path.0 end s.path.1 in
        let e = s.path.2 in
        (lists y).1 (
          lt,
          elim (cases_eq (get_or levels y 0) 0) [
            | inl none ↦ let far = levelled.others y lt none s.path.0 s.path.1 in absurd (omega (arith, far, e))
            | inr some ↦ same_distance E y end (get_or levels y 0) (suc k) (levelled.reached y lt some) s
          ],
        )),
  )

  -- with no level nothing is known
  pub levelled_none : (levels : List ℕ) → length levels ≡ n → ((x : ℕ) → x < n → get_or levels x 0 ≡ 0) → IsLevelled E n end 0 levels
  levelled_none levels whole zeros = record {
    whole = whole;
    few = λ x lt. let z = zeros x lt in omega (arith, z);
    reached = λ x lt ne. absurd (ne (zeros x lt));
    others = λ x lt z between p. omega arith;
  }
