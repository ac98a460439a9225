-- A walk down the levels, which takes the least node each time, is the first shortest cycle.
use Rattle.std.proofs.Common.{◌≡◌, ℕ, zero, suc, ◌+◌, ◌<◌, ◌≤◌, List, [], ◌∷◌, length, get_or, Contains, arith, sym, subst, inl, inr, add-one}
use Rattle.std.proofs.lemmas.Bool.{cases_eq, cases_order}
use Rattle.orders.specs.Paths.{Linked}
use Rattle.orders.specs.Orders.{NotAfter}
use Rattle.orders.specs.Cycles.{IsFirstShortestCycle}
use Rattle.orders.proofs.Members.{Contains-nil, Contains-cons_cases}
use Rattle.orders.proofs.Distinct.{IsDistinct, pairs_of_distinct}
use Rattle.full_sort.specs.Levels.{IsShortest, IsLevelled}
use Rattle.full_sort.proofs.LevelSteps.{same_distance, first_inside}

-- y is the least node of the level to which an edge leads from c
pub record IsNextDown (E : ℕ → ℕ → Type 0) (n : ℕ) (levels : List ℕ) (c y level : ℕ) : Type 0 where
  pub edge : E c y
  pub has_level : get_or levels y 0 ≡ level
  pub inside : y < n
  pub least : (z : ℕ) → z < y → get_or levels z 0 ≡ level → E c z → ⊥

-- from c, of the level l, down to the end
abbrev pub IsDescent : (ℕ → ℕ → Type 0) → ℕ → List ℕ → ℕ → ℕ → ℕ → List ℕ → Type 0
IsDescent E n levels end c zero rest = ⊥
IsDescent E n levels end c (suc zero) [] = E c end
IsDescent E n levels end c (suc zero) (y ∷ rest) = ⊥
IsDescent E n levels end c (suc (suc l)) [] = ⊥
IsDescent E n levels end c (suc (suc l)) (y ∷ rest) = IsNextDown E n levels c y (suc l) × IsDescent E n levels end y (suc l) rest

-- one step in front of a descent
pub descent_step : (E : ℕ → ℕ → Type 0) (n : ℕ) (levels : List ℕ) (end c y level : ℕ) (rest : List ℕ) → 1 ≤ level → IsNextDown E n levels c y level → IsDescent E n levels end y level rest →
    IsDescent E n levels end c (suc level) (y ∷ rest)
descent_step E n levels end c y zero rest some next d = absurd (omega (arith, some))
descent_step E n levels end c y (suc l) rest some next d = (next, d)

descent_linked : (E : ℕ → ℕ → Type 0) (n : ℕ) (levels : List ℕ) (end c l : ℕ) (rest : List ℕ) → IsDescent E n levels end c l rest → Linked E c rest end × (length rest + 1 ≡ l)
descent_linked E n levels end c zero rest d = absurd d
descent_linked E n levels end c (suc zero) [] d = (d, omega arith)
descent_linked E n levels end c (suc zero) (y ∷ rest) d = absurd d
descent_linked E n levels end c (suc (suc l)) [] d = absurd d
descent_linked E n levels end c (suc (suc l)) (y ∷ rest) d =
    let more = descent_linked E n levels end y (suc l) rest d.1 in
    let count = more.1 in
    ((d.0.edge, more.0), omega (arith, count))

descent_below : (E : ℕ → ℕ → Type 0) (n : ℕ) (levels : List ℕ) (end c l : ℕ) (rest : List ℕ) → IsDescent E n levels end c l rest → (z : ℕ) → Contains rest z → get_or levels z 0 < l
descent_below E n levels end c zero rest d z h = absurd d
descent_below E n levels end c (suc zero) [] d z h = absurd (Contains-nil z h)
descent_below E n levels end c (suc zero) (y ∷ rest) d z h = absurd d
descent_below E n levels end c (suc (suc l)) [] d z h = absurd d
descent_below E n levels end c (suc (suc l)) (y ∷ rest) d z h = elim (Contains-cons_cases y rest z h) [
  | inl same ↦ let level : get_or levels z 0 ≡ suc l = subst (λ (x : ℕ). get_or levels x 0 ≡ suc l) same d.0.has_level in omega (arith, level)
  | inr r ↦ let below = descent_below E n levels end y (suc l) rest d.1 z r in omega (arith, below)
]

descent_distinct : (E : ℕ → ℕ → Type 0) (n : ℕ) (levels : List ℕ) (end c l : ℕ) (rest : List ℕ) → get_or levels c 0 ≡ l → IsDescent E n levels end c l rest → IsDistinct (c ∷ rest)
descent_distinct E n levels end c zero rest e d = absurd d
descent_distinct E n levels end c (suc zero) [] e d = (Contains-nil c, tt)
descent_distinct E n levels end c (suc zero) (y ∷ rest) e d = absurd d
descent_distinct E n levels end c (suc (suc l)) [] e d = absurd d
descent_distinct E n levels end c (suc (suc l)) (y ∷ rest) e d = (
  (λ h. let below = descent_below E n levels end c (suc (suc l)) (y ∷ rest) d c h in omega (arith, below, e)),
  descent_distinct E n levels end y (suc l) rest d.0.has_level d.1,
)

-- so the nodes behind the first one are distinct, and each has a level
descent_rest : (E : ℕ → ℕ → Type 0) (n : ℕ) (levels : List ℕ) (end c l : ℕ) (rest : List ℕ) → IsDescent E n levels end c l rest → IsDistinct rest
descent_rest E n levels end c zero rest d = absurd d
descent_rest E n levels end c (suc zero) [] d = tt
descent_rest E n levels end c (suc zero) (y ∷ rest) d = absurd d
descent_rest E n levels end c (suc (suc l)) [] d = absurd d
descent_rest E n levels end c (suc (suc l)) (y ∷ rest) d = descent_distinct E n levels end y (suc l) rest d.0.has_level d.1

descent_some : (E : ℕ → ℕ → Type 0) (n : ℕ) (levels : List ℕ) (end c l : ℕ) (rest : List ℕ) → IsDescent E n levels end c l rest → (z : ℕ) → Contains rest z → 1 ≤ get_or levels z 0
descent_some E n levels end c zero rest d z h = absurd d
descent_some E n levels end c (suc zero) [] d z h = absurd (Contains-nil z h)
descent_some E n levels end c (suc zero) (y ∷ rest) d z h = absurd d
descent_some E n levels end c (suc (suc l)) [] d z h = absurd d
descent_some E n levels end c (suc (suc l)) (y ∷ rest) d z h = elim (Contains-cons_cases y rest z h) [
  | inl same ↦ let level : get_or levels z 0 ≡ suc l = subst (λ (x : ℕ). get_or levels x 0 ≡ suc l) same d.0.has_level in omega (arith, level)
  | inr r ↦ descent_some E n levels end y (suc l) rest d.1 z r
]

module _ (E : ℕ → ℕ → Type 0) (n end most : ℕ) (inside : (a b : ℕ) → E a b → (a < n) × (b < n)) (levels : List ℕ) (levelled : IsLevelled E n end most levels) where
  -- the level of a node is its distance, where that is small enough
  level_of : (x level : ℕ) → IsShortest E x end level → level ≤ most → get_or levels x 0 ≡ level
  level_of x level s few =
      let lt = first_inside E n inside x s.path.0 end s.path.1 in
      elim (cases_eq (get_or levels x 0) 0) [
        | inl none ↦ let far = levelled.others x lt none s.path.0 s.path.1 in let e = s.path.2 in absurd (omega (arith, far, e, few))
        | inr some ↦ same_distance E x end (get_or levels x 0) level (levelled.reached x lt some) s
      ]

  pub distance_of : (c l : ℕ) → c < n → 1 ≤ l → get_or levels c 0 ≡ l → IsShortest E c end l
  distance_of c l lt some e = subst (IsShortest E c end) e (levelled.reached c lt (λ z. omega (arith, some, e, z)))

  -- behind the first edge of a shortest path stands a node of the level below
  below_first : (c l : ℕ) → IsShortest E c end (suc l) → (y : ℕ) → E c y → (rest : List ℕ) → Linked E y rest end → length rest + 1 ≡ l → l ≤ most → get_or levels y 0 ≡ l
  below_first c l s y edge rest path count few =
      level_of y l record {
        path = (rest, path, count);
        shortest = λ others o. let far = s.shortest (y ∷ others) (edge, o) in omega (arith, far);
      } few

  some_behind : (c l : ℕ) → IsShortest E c end (suc l) → 1 ≤ l → l ≤ most → (between : List ℕ) → Linked E c between end → length between + 1 ≡ suc l → (y : ℕ) × (y < n) × (get_or levels y 0 ≡ l) × E c y
  some_behind c l s some few [] p count = absurd (omega (arith, count, some))
  some_behind c l s some few (y ∷ rest) p count = (y, (inside c y p.0).1, below_first c l s y p.0 rest p.1 (omega (arith, count)) few, p.0)

  -- so there is a node to go down to
  pub some_below : (c l : ℕ) → IsShortest E c end (l + 1) → 1 ≤ l → l ≤ most → (y : ℕ) × (y < n) × (get_or levels y 0 ≡ l) × E c y
  some_below c l s some few =
      let t : IsShortest E c end (suc l) = subst (λ (m : ℕ). IsShortest E c end m) (add-one l) s in
      some_behind c l t some few t.path.0 t.path.1 t.path.2

  -- and from the lowest level an edge leads to the end
  pub last_edge : (c : ℕ) → IsShortest E c end 1 → E c end
  last_edge c s = of_path s.path.0 s.path.1 s.path.2 where
    of_path : (between : List ℕ) → Linked E c between end → length between + 1 ≡ 1 → E c end
    of_path [] p count = p
    of_path (y ∷ between) p count = absurd (omega (arith, count))

  descent_first : (c l : ℕ) (rest : List ℕ) → l ≤ most + 1 → IsShortest E c end l → IsDescent E n levels end c l rest → (others : List ℕ) → Linked E c others end → length others ≡ length rest → NotAfter rest others
  descent_first c zero rest few s d others p same = absurd d
  descent_first c (suc zero) [] few s d others p same = tt
  descent_first c (suc zero) (y ∷ rest) few s d others p same = absurd d
  descent_first c (suc (suc l)) [] few s d others p same = absurd d
  descent_first c (suc (suc l)) (y ∷ rest) few s d [] p same = absurd (omega (arith, same))
  descent_first c (suc (suc l)) (y ∷ rest) few s d (z ∷ others) p same =
      let count = (descent_linked E n levels end y (suc l) rest d.1).1 in
      let level = below_first c (suc l) s z p.0 others p.1 (omega (arith, same, count)) (omega (arith, few)) in
      let next = distance_of y (suc l) d.0.inside (omega arith) d.0.has_level in
      elim (cases_order y z) [
        | inl equal ↦ inr (equal, descent_first y (suc l) rest (omega (arith, few)) next d.1 others (subst (λ (x : ℕ). Linked E x others end) (sym equal) p.1) (omega (arith, same)))
        | inr r ↦ elim r [
          | inl lower ↦ inl lower
          | inr higher ↦ absurd (d.0.least z higher level p.0)
        ]
      ]

  -- the end itself has no level
  end_open : (l : ℕ) → end < n → l ≡ most + 1 → IsShortest E end end l → get_or levels end 0 ≡ 0
  end_open l lt e s = elim (cases_eq (get_or levels end 0) 0) [
    | inl none ↦ none
    | inr some ↦
        let same = same_distance E end end (get_or levels end 0) l (levelled.reached end lt some) s in
        let few = levelled.few end lt in
        absurd (omega (arith, same, few, e))
  ]

  -- the descent from the end, down to it again
  pub descent_cycle : (more : List ℕ) (l : ℕ) → end < n → l ≡ most + 1 → IsShortest E end end l → IsDescent E n levels end end l more → IsFirstShortestCycle E end more
  descent_cycle more l lt e s d =
      let linked = descent_linked E n levels end end l more d in
      let count = linked.1 in
      let none = end_open l lt e s in
      let once : IsDistinct (end ∷ more) = (
        (λ h. let some = descent_some E n levels end end l more d end h in omega (arith, some, none)),
        descent_rest E n levels end end l more d,
      ) in
      record {
        is_cycle = (linked.0, pairs_of_distinct (end ∷ more) once);
        shortest = λ others c. let far = s.shortest others c.0 in omega (arith, far, count);
        first = λ others c same. descent_first end l more (omega (arith, e)) s d others c.0 same;
      }
