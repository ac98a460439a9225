-- Canonical cycles of literals, by a test that computes.
use Rattle.std.proofs.Common.{◌≡◌, ℕ, zero, suc, ◌≤◌, List, [], ◌∷◌, Bool, true, false, not, ◌&&◌, ◌||◌, length, arith, Contains, inl, inr, sym, subst, refl}
use Rattle.std.specs.Prelude.{filter, nat_lt}
use Rattle.std.specs.Bool.{Decides}
use Rattle.std.specs.List.{list_all}
use Rattle.std.proofs.lemmas.Bool.{cases_lt, cases_order, or_cases}
use Rattle.std.proofs.lemmas.Bool.Decides.{Decides-ltb}
use Rattle.orders.specs.Paths.{Linked}
use Rattle.orders.specs.Orders.{NotAfter, nodes_below}
use Rattle.orders.specs.Cycles.{IsCycle, IsOnCycle, IsCanonicalCycle}
use Rattle.orders.specs.Reductions.{IsWithin}
use Rattle.orders.proofs.Below.{has-below}
use Rattle.orders.proofs.Members.{Contains-filter}
use Rattle.test_lang.proofs.ListTests.{and_true, not_true, all_true, is_distinct, distinct_pairs}

abbrev pub is_linked : (ℕ → ℕ → Bool) → ℕ → List ℕ → ℕ → Bool
is_linked edge from [] to = edge from to
is_linked edge from (next ∷ more) to = edge from next && is_linked edge next more to

-- no path of so many nodes in between leads from a node to a node
abbrev pub has_no_path : (ℕ → ℕ → Bool) → List ℕ → ℕ → ℕ → ℕ → Bool
has_no_path edge nodes zero from to = not (edge from to)
has_no_path edge nodes (suc count) from to = list_all (λ next. has_no_path edge nodes count next to) (filter (edge from) nodes)

-- among the paths with as many nodes in between none is before this one
abbrev pub is_first_path : (ℕ → ℕ → Bool) → List ℕ → ℕ → List ℕ → ℕ → Bool
is_first_path edge nodes from [] to = true
is_first_path edge nodes from (x ∷ xs) to =
    list_all (λ y. not (nat_lt y x) || has_no_path edge nodes (length xs) y to) (filter (edge from) nodes) && is_first_path edge nodes x xs to

-- no edge leads to the node
abbrev pub is_source : (ℕ → ℕ → Bool) → List ℕ → ℕ → Bool
is_source edge nodes x = list_all (λ a. not (edge a x)) nodes

-- the nodes before the first are sources, and so lie on no cycle
abbrev pub is_canonical : (ℕ → ℕ → Bool) → List ℕ → List ℕ → Bool
is_canonical edge nodes [] = false
is_canonical edge nodes (start ∷ more) =
    ((is_linked edge start more start && is_distinct (start ∷ more)) && list_all (is_source edge nodes) (nodes_below start))
    && (list_all (λ count. has_no_path edge nodes count start start) (nodes_below (length more)) && is_first_path edge nodes start more start)

module _ (E : ℕ → ℕ → Type 0) (edge : ℕ → ℕ → Bool) (told : (a b : ℕ) → Decides (edge a b) (E a b)) (nodes : List ℕ) (within : IsWithin E nodes) where
  linked_of : (from : ℕ) (between : List ℕ) (to : ℕ) → is_linked edge from between to ≡ true → Linked E from between to
  linked_of from [] to h = (told from to).0 h
  linked_of from (next ∷ more) to h =
      let parts = and_true (edge from next) (is_linked edge next more to) h in
      ((told from next).0 parts.0, linked_of next more to parts.1)

  cycle_of : (start : ℕ) (more : List ℕ) → (is_linked edge start more start && is_distinct (start ∷ more)) ≡ true → IsCycle E (start ∷ more)
  cycle_of start more h =
      let parts = and_true (is_linked edge start more start) (is_distinct (start ∷ more)) h in
      (linked_of start more start parts.0, distinct_pairs (start ∷ more) parts.1)

  follows : (from next : ℕ) → E from next → Contains (filter (edge from) nodes) next
  follows from next e = Contains-filter (edge from) nodes next (within from next e).1 ((told from next).1 e)

  no_path : (count from to : ℕ) → has_no_path edge nodes count from to ≡ true → (between : List ℕ) → length between ≡ count → Linked E from between to → ⊥
  no_path zero from to h [] e l = let there : edge from to ≡ true = (told from to).1 l in let none = not_true (edge from to) h in absurd cc
  no_path zero from to h (x ∷ xs) e l = omega (arith, e)
  no_path (suc count) from to h [] e l = omega (arith, e)
  no_path (suc count) from to h (x ∷ xs) e l =
      no_path count x to (all_true (λ next. has_no_path edge nodes count next to) (filter (edge from) nodes) h x (follows from x l.0)) xs (omega (arith, e)) l.1

  first_path : (from : ℕ) (more : List ℕ) (to : ℕ) → is_first_path edge nodes from more to ≡ true → (others : List ℕ) → Linked E from others to → length others ≡ length more → NotAfter more others
  first_path from [] to h others l e = tt
  first_path from (x ∷ xs) to h [] l e = omega (arith, e)
  first_path from (x ∷ xs) to h (y ∷ ys) l e =
      let none : ℕ → Bool = λ z. not (nat_lt z x) || has_no_path edge nodes (length xs) z to in
      let parts = and_true (list_all none (filter (edge from) nodes)) (is_first_path edge nodes x xs to) h in
      elim (cases_order x y) [
        | inl same ↦ inr (same, first_path x xs to parts.1 ys (subst (λ z. Linked E z ys to) (sym same) l.1) (omega (arith, e)))
        | inr other ↦ elim other [
          | inl lt ↦ inl lt
          | inr gt ↦ absurd (elim (or_cases (not (nat_lt y x)) (has_no_path edge nodes (length xs) y to) (all_true none (filter (edge from) nodes) parts.0 y (follows from y l.0))) [
            | inl later ↦ let earlier : nat_lt y x ≡ true = (Decides-ltb y x).1 gt in let not_earlier = not_true (nat_lt y x) later in absurd cc
            | inr lacks ↦ no_path (length xs) y to lacks ys (omega (arith, e)) l.1
          ])
        ]
      ]

  last_edge : (from : ℕ) (between : List ℕ) (to : ℕ) → Linked E from between to → (a : ℕ) × E a to
  last_edge from [] to l = (from, l)
  last_edge from (x ∷ xs) to l = last_edge x xs to l.1

  on_no_cycle : (x : ℕ) → is_source edge nodes x ≡ true → IsOnCycle E x → ⊥
  on_no_cycle x h on =
      let last = last_edge x on.0 x on.1.0 in
      let there : edge last.0 x ≡ true = (told last.0 x).1 last.1 in
      let none = not_true (edge last.0 x) (all_true (λ a. not (edge a x)) nodes h last.0 (within last.0 x last.1).0) in
      absurd cc

  shortest : (start : ℕ) (more : List ℕ) → list_all (λ count. has_no_path edge nodes count start start) (nodes_below (length more)) ≡ true →
      (others : List ℕ) → IsCycle E (start ∷ others) → length more ≤ length others
  shortest start more h others cycle = elim (cases_lt (length others) (length more)) [
    | inl lt ↦ absurd (no_path (length others) start start
        (all_true (λ count. has_no_path edge nodes count start start) (nodes_below (length more)) h (length others) (has-below (length more) (length others) lt))
        others refl cycle.0)
    | inr le ↦ le
  ]

  -- the test tells the canonical cycle
  pub canonical_of_test : (cycle : List ℕ) → is_canonical edge nodes cycle ≡ true → IsCanonicalCycle E cycle
  canonical_of_test [] h = absurd cc
  canonical_of_test (start ∷ more) h =
      let links = is_linked edge start more start && is_distinct (start ∷ more) in
      let sources = list_all (is_source edge nodes) (nodes_below start) in
      let none_shorter = list_all (λ count. has_no_path edge nodes count start start) (nodes_below (length more)) in
      let parts = and_true (links && sources) (none_shorter && is_first_path edge nodes start more start) h in
      let cycle = and_true links sources parts.0 in
      let choice = and_true none_shorter (is_first_path edge nodes start more start) parts.1 in
      let is_cycle : IsCycle E (start ∷ more) = cycle_of start more cycle.0 in (
        record {
          on_cycle = (more, is_cycle);
          least = λ other on. elim (cases_lt other start) [
            | inl lt ↦ absurd (on_no_cycle other (all_true (is_source edge nodes) (nodes_below start) cycle.1 other (has-below start other lt)) on)
            | inr le ↦ le
          ];
        },
        record {
          is_cycle = is_cycle;
          shortest = shortest start more choice.0;
          first = λ others other same. first_path start more start choice.1 others other.0 same;
        },
      )
