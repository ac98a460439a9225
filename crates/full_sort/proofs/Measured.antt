-- What the loop over levels keeps.
use Rattle.std.proofs.Common.{◌≡◌, ℕ, zero, suc, ◌+◌, ◌<◌, ◌≤◌, List, [], ◌∷◌, length, get_or, set, take, Contains, All, arith, sym, subst, inl, inr, add-one}
use Rattle.std.proofs.lemmas.List.{take_more_set}
use Rattle.std.proofs.lemmas.List.Elements.{Contains-get_or}
use Rattle.orders.specs.Paths.{Linked}
use Rattle.orders.specs.Cycles.{IsOnCycle}
use Rattle.orders.proofs.Members.{Contains-nil, Contains-head, Contains-cons_cases}
use Rattle.full_sort.specs.Levels.{IsShortest, IsLevelled, Touches, AddsLevel, IsFront}
use Rattle.full_sort.proofs.LevelSteps.{path_behind, levelled_more, front_of_level, first_inside}
use Rattle.full_sort.proofs.LevelLists.{Lists}
use Rattle.full_sort.proofs.Pigeons.{length-once-le}

front_single : (E : ℕ → ℕ → Type 0) (end : ℕ) → IsFront E end 0 (end ∷ [])
front_single E end = λ y. (
  (λ h. elim (Contains-cons_cases end [] y h) [ inl same ↦ sym same | inr r ↦ absurd (Contains-nil y r) ]),
  (λ same. Contains-head end [] y (sym same)),
)

pub front_start : (E : ℕ → ℕ → Type 0) (end : ℕ) (list : List ℕ) → 0 < length list → IsFront E end 0 (take 1 (set list 0 end))
front_start E end list some = subst (IsFront E end 0) (sym (take_more_set list 0 end some)) (front_single E end)

front_below : (E : ℕ → ℕ → Type 0) (n end : ℕ) → ((a b : ℕ) → E a b → (a < n) × (b < n)) → end < n → (k : ℕ) (list : List ℕ) → IsFront E end k list → (y : ℕ) → Contains list y → y < n
front_below E n end inside lt zero list front y h = let same = (front y).0 h in omega (arith, same, lt)
front_below E n end inside lt (suc k) list front y h = let s = (front y).0 h in first_inside E n inside y s.path.0 end s.path.1

pub front_inside : (E : ℕ → ℕ → Type 0) (n end : ℕ) → ((a b : ℕ) → E a b → (a < n) × (b < n)) → end < n → (k : ℕ) (list : List ℕ) → IsFront E end k list → All (λ y. y < n) list
front_inside E n end inside lt k list front = λ i d below. front_below E n end inside lt k list front (get_or list i d) (Contains-get_or list i d below)

module _ (E : ℕ → ℕ → Type 0) (n end : ℕ) (inside : (a b : ℕ) → E a b → (a < n) × (b < n)) where
  pub level_more : (k : ℕ) (list old new : List ℕ) → IsLevelled E n end k old → IsFront E end k list → AddsLevel E (k + 1) list old new → IsLevelled E n end (k + 1) new
  level_more k list old new levelled front adds =
      subst (λ (m : ℕ). IsLevelled E n end m new) (sym (add-one k))
      (levelled_more E n end inside k list old new levelled front (subst (λ (m : ℕ). AddsLevel E m list old new) (add-one k) adds))

  pub front_more : (k : ℕ) (levels list : List ℕ) → IsLevelled E n end (k + 1) levels → Lists levels (k + 1) list n → IsFront E end (k + 1) list
  front_more k levels list levelled lists =
      subst (λ (m : ℕ). IsFront E end m list) (sym (add-one k))
      (front_of_level E n end inside k levels list (subst (λ (m : ℕ). IsLevelled E n end m levels) (add-one k) levelled) (subst (λ (m : ℕ). Lists levels m list n) (add-one k) lists))

  -- where an edge leads from the end to the front, the shortest cycle through the end has one edge more
  pub cycle_met : (k : ℕ) (levels list : List ℕ) → end < n → IsLevelled E n end k levels → IsFront E end k list → get_or levels end 0 ≡ 0 → Touches E end list → IsShortest E end end (k + 1)
  cycle_met k levels list lt levelled front none t =
      subst (λ (m : ℕ). IsShortest E end end m) (sym (add-one k)) record {
        path = path_behind E end k list front end t;
        shortest = λ others o. let far = levelled.others end lt none others o in omega (arith, far);
      }

  -- and where none does, the end gets no level
  pub still_open : (level : ℕ) (list old new : List ℕ) → get_or old end 0 ≡ 0 → (Touches E end list → ⊥) → AddsLevel E level list old new → get_or new end 0 ≡ 0
  still_open level list old new none apart adds = elim (adds.fresh end none) [ inl t ↦ absurd (apart t.1) | inr u ↦ u.0 ]

  linked_below : (x : ℕ) (between : List ℕ) (last : ℕ) → Linked E x between last → (y : ℕ) → Contains (x ∷ between) y → y < n
  linked_below x [] last p y h = elim (Contains-cons_cases x [] y h) [
    | inl same ↦ let lt = (inside x last p).0 in omega (arith, same, lt)
    | inr r ↦ absurd (Contains-nil y r)
  ]
  linked_below x (z ∷ more) last p y h = elim (Contains-cons_cases x (z ∷ more) y h) [
    | inl same ↦ let lt = (inside x z p.0).0 in omega (arith, same, lt)
    | inr r ↦ linked_below z more last p.1 y r
  ]

  -- a cycle through the end has at most n nodes, so it is met
  pub met_in_time : (done : ℕ) (levels : List ℕ) → n ≤ done → end < n → IsLevelled E n end done levels → IsOnCycle E end → get_or levels end 0 ≡ 0 → ⊥
  met_in_time done levels enough lt levelled cycle none =
      let far = levelled.others end lt none cycle.0 cycle.1.0 in
      let few = length-once-le n (end ∷ cycle.0) cycle.1.1 (linked_below end cycle.0 end cycle.1.0) in
      omega (arith, far, few, enough)
