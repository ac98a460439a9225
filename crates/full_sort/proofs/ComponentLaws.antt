-- Nodes of one component, by an order in which a search finishes the nodes, and by the numbers of components.
use Rattle.std.proofs.Common.{◌≡◌, ◌∙◌, ◌⊎◌, ℕ, ◌<◌, ◌≤◌, List, [], ◌∷◌, length, get_or, arith, refl, sym, ap, subst, inl, inr}
use Rattle.std.proofs.lemmas.Bool.{cases_eq, cases_lt}
use Rattle.orders.specs.Paths.{Linked, Reach}
use Rattle.orders.proofs.FewEdges.{reach_append, reach_by_all}
use Rattle.full_sort.specs.Components.{FreeEdge, InOneComponent, LeadsWithin, NumbersComponents}
use Rattle.full_sort.specs.Finishing.{ReachesBack}

-- a node stands at a place up to a last one
abbrev pub StandsUpTo : List ℕ → ℕ → ℕ → Type 0
StandsUpTo order last x = (p : ℕ) × (p ≤ last) × (get_or order p 0 ≡ x)

module _ (E F : ℕ → ℕ → Type 0) (order : List ℕ) (last : ℕ) (short : last < length order) (back : ReachesBack E order)
    (among : (a b : ℕ) → F a b → E a b × StandsUpTo order last a × StandsUpTo order last b) where
  -- along nodes up to the last, a path to it comes from no node that it doesn't reach
  reach_over : (p : ℕ) (between : List ℕ) → p ≤ last → Linked F (get_or order p 0) between (get_or order last 0) → (k : ℕ) → p ≤ k → k < last → Reach E (get_or order last 0) (get_or order k 0)
  reach_over p [] few path k low high = back p k last low high short (among (get_or order p 0) (get_or order last 0) path).0
  reach_over p (y ∷ between) few path k low high =
      let e = among (get_or order p 0) y path.0 in
      let q : ℕ = e.2.0 in
      let at : y ≡ get_or order q 0 = sym e.2.2 in
      let up_to : q ≤ last = e.2.1 in
      let rest : Linked F (get_or order q 0) between (get_or order last 0) = subst (λ (z : ℕ). Linked F z between (get_or order last 0)) at path.1 in
      elim (cases_lt k q) [
        | inr past ↦ reach_over q between up_to rest k past high
        | inl lower ↦
            let step : Reach E (get_or order q 0) (get_or order k 0) =
            back p k q low lower (omega (arith, up_to, short)) (subst (E (get_or order p 0)) at e.0) in
            elim (cases_eq q last) [
              | inl same ↦ subst (λ (m : ℕ). Reach E (get_or order m 0) (get_or order k 0)) same step
              | inr other ↦ reach_append E (get_or order last 0) (get_or order q 0) (get_or order k 0) (reach_over q between up_to rest q (omega arith) (omega (arith, up_to, other))) step
            ]
      ]

  pub one_component : (x : ℕ) → Reach F x (get_or order last 0) → InOneComponent E x (get_or order last 0)
  one_component x path =
      let first = first_node x path.0 path.1 in
      let p : ℕ = first.0 in
      let up_to = first.1 in
      let at : x ≡ get_or order p 0 = sym first.2 in
      elim (cases_eq p last) [
        | inl same ↦ inl (at ∙ ap (λ (m : ℕ). get_or order m 0) same)
        | inr other ↦ inr (
          reach_by_all E F (λ a b f. (among a b f).0) x (get_or order last 0) path,
          subst (Reach E (get_or order last 0)) (sym at)
              (reach_over p path.0 up_to (subst (λ (z : ℕ). Linked F z path.0 (get_or order last 0)) at path.1) p (omega arith) (omega (arith, up_to, other))),
        )
      ] where
        first_node : (x : ℕ) (between : List ℕ) → Linked F x between (get_or order last 0) → StandsUpTo order last x
        first_node x [] path = (among x (get_or order last 0) path).1
        first_node x (y ∷ between) path = (among x y path.0).1

-- the nodes of one component
module _ (E : ℕ → ℕ → Type 0) where
  pub one_turned : (a b : ℕ) → InOneComponent E a b → InOneComponent E b a
  one_turned a b (inl same) = inl (sym same)
  one_turned a b (inr both) = inr (both.1, both.0)

  pub one_joined : (a b c : ℕ) → InOneComponent E a b → InOneComponent E b c → InOneComponent E a c
  one_joined a b c (inl same) h = subst (λ (x : ℕ). InOneComponent E x c) (sym same) h
  one_joined a b c (inr both) (inl same) = subst (InOneComponent E a) same (inr both)
  one_joined a b c (inr both) (inr more) = inr (reach_append E a b c both.0 more.0, reach_append E c b a more.1 both.1)

  -- a path to a node of the component passes nodes of it alone
  path_free : (numbers : List ℕ) (r : ℕ) → ((t : ℕ) → InOneComponent E t r → get_or numbers t 0 ≡ 0) → (x : ℕ) (between : List ℕ) → Linked E x between r → Reach E r x → Linked (FreeEdge E numbers) x between r
  path_free numbers r free x [] path back = (path, free x (inr (([], path), back)), free r (inl refl))
  path_free numbers r free x (y ∷ between) path back =
      let on : Reach E r y = reach_append E r x y back ([], path.0) in
      ((path.0, free x (inr ((y ∷ between, path), back)), free y (inr ((between, path.1), on))), path_free numbers r free y between path.1 on)

  pub component_free : (numbers : List ℕ) (r : ℕ) → ((t : ℕ) → InOneComponent E t r → get_or numbers t 0 ≡ 0) → (t : ℕ) → InOneComponent E t r → (t ≡ r) ⊎ Reach (FreeEdge E numbers) t r
  component_free numbers r free t (inl same) = inl same
  component_free numbers r free t (inr both) = inr (both.0.0, path_free numbers r free t both.0.0 both.0.1 both.1)

  -- a node reaches itself exactly where an edge leads from it to a node of its component
  module _ (n : ℕ) (numbers : List ℕ) (inside : (a b : ℕ) → E a b → (a < n) × (b < n)) (components : NumbersComponents E n numbers) (x : ℕ) where
    pub reach_of_edge : LeadsWithin E numbers x → Reach E x x
    reach_of_edge led =
        let ends = inside x led.0 led.1 in
        elim ((components led.0 x ends.1 ends.0).0 led.2) [
          | inl same ↦ ([], subst (E x) same led.1)
          | inr both ↦ reach_append E x led.0 x ([], led.1) both.0
        ]

    first_within : (between : List ℕ) → Linked E x between x → LeadsWithin E numbers x
    first_within [] path = (x, path, refl)
    first_within (y ∷ between) path =
        let ends = inside x y path.0 in
        (y, path.0, (components y x ends.1 ends.0).1 (inr ((between, path.1), ([], path.0))))

    pub edge_of_reach : Reach E x x → LeadsWithin E numbers x
    edge_of_reach path = first_within path.0 path.1
