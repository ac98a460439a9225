-- Nodes have an order or a cycle, where edges are told by a test.
use Rattle.std.proofs.Common.{◌≡◌, ◌≢◌, ◌⊎◌, ℕ, zero, suc, ◌<◌, ◌≤◌, List, [], ◌∷◌, ◌++◌, Bool, true, false, length, get_or, Contains, AllPairs, inl, inr, arith, refl, sym, ap, subst, ◌∙◌}
use Rattle.std.proofs.lemmas.List.Elements.{Contains-get_or}
use Rattle.orders.specs.Paths.{Linked}
use Rattle.orders.specs.Orders.{IsOrder, IsAcyclic}
use Rattle.orders.specs.Cycles.{IsOnCycle}
use Rattle.orders.proofs.Members.{Contains-nil, Contains-head, Contains-tail, Contains-cons_cases}
use Rattle.orders.proofs.Distinct.{IsDistinct, pairs_of_distinct, distinct_of_pairs, parted, length-parted, Contains-middle, left_of, was_there, distinct_left, distinct_front}

-- an edge, as a fact
abbrev pub Told : (ℕ → ℕ → Bool) → ℕ → ℕ → Type 0
Told edge a b = edge a b ≡ true

-- a node of the list with an edge to p, which parts the list, or none
data Before (edge : ℕ → ℕ → Bool) (xs : List ℕ) (p : ℕ) : Type 0 where
  some : (front : List ℕ) (y : ℕ) (back : List ℕ) → xs ≡ front ++ y ∷ back → edge y p ≡ true → Before edge xs p
  none : ((y : ℕ) → Contains xs y → edge y p ≡ false) → Before edge xs p

before_at : (edge : ℕ → ℕ → Bool) (x : ℕ) (xs : List ℕ) (p : ℕ) (b : Bool) → edge x p ≡ b → Before edge xs p → Before edge (x ∷ xs) p
before_at edge x xs p true e rest = some [] x xs refl e
before_at edge x xs p false e (some front y back parts edges) = some (x ∷ front) y back (ap (λ (zs : List ℕ). x ∷ zs) parts) edges
before_at edge x xs p false e (none without) = none (λ y h. elim (Contains-cons_cases x xs y h) [
  | inl same ↦ subst (λ (z : ℕ). edge z p ≡ false) same e
  | inr r ↦ without y r
])

find_before : (edge : ℕ → ℕ → Bool) (xs : List ℕ) (p : ℕ) → Before edge xs p
find_before edge [] p = none (λ y h. absurd (Contains-nil y h))
find_before edge (x ∷ xs) p = before_at edge x xs p (edge x p) refl (find_before edge xs p)

-- each has an edge to the next
abbrev Chain : (ℕ → ℕ → Bool) → ℕ → List ℕ → Type 0
Chain edge p [] = Unit {0}
Chain edge p (q ∷ qs) = (edge p q ≡ true) × Chain edge q qs

-- a chain up to one of its nodes
chain_linked : (edge : ℕ → ℕ → Bool) (p : ℕ) (front : List ℕ) (y : ℕ) (back : List ℕ) → Chain edge p (front ++ y ∷ back) → Linked (Told edge) p front y
chain_linked edge p [] y back h = h.0
chain_linked edge p (q ∷ front) y back h = (h.0, chain_linked edge q front y back h.1)

-- what a walk against the edges comes to: a cycle, or a node of the list without an edge from any
data Walked (edge : ℕ → ℕ → Bool) (xs : List ℕ) : Type 0 where
  cycle : (first : ℕ) → IsOnCycle (Told edge) first → Walked edge xs
  source : (s : ℕ) → Contains xs s → ((z : ℕ) → Contains xs z → edge z s ≡ false) → Walked edge xs

-- a walk stands at a node: those that it passed are a chain, and the others aren't passed
record IsWalk (edge : ℕ → ℕ → Bool) (xs : List ℕ) (p : ℕ) (passed others : List ℕ) : Type 0 where
  chain : Chain edge p passed
  once : IsDistinct (p ∷ passed)
  others_once : IsDistinct others
  apart : (z : ℕ) → Contains (p ∷ passed) z → Contains others z → ⊥
  inside : Contains xs p
  others_inside : (z : ℕ) → Contains others z → Contains xs z
  whole : (z : ℕ) → Contains xs z → Contains (p ∷ passed) z ⊎ Contains others z

-- an edge from a node that was passed closes a cycle
closes : (edge : ℕ → ℕ → Bool) (p : ℕ) (passed front : List ℕ) (y : ℕ) (back : List ℕ) → Chain edge p passed → IsDistinct (p ∷ passed) → p ∷ passed ≡ front ++ y ∷ back → edge y p ≡ true →
    IsOnCycle (Told edge) y
closes edge p passed [] y back chain once parts e =
    let same : p ≡ y = cc in
    ([], (subst (λ (z : ℕ). edge y z ≡ true) same e, pairs_of_distinct (y ∷ []) (Contains-nil y, tt)))
closes edge p passed (q ∷ front) y back chain once parts e =
    let same : p ≡ q = cc in
    let rest : passed ≡ front ++ y ∷ back = cc in
    let linked : Linked (Told edge) p front y = chain_linked edge p front y back (subst (Chain edge p) rest chain) in
    let distinct : IsDistinct (y ∷ q ∷ front) = distinct_front (q ∷ front) y back (subst IsDistinct parts once) in
    (q ∷ front, ((subst (λ (z : ℕ). edge y z ≡ true) same e, subst (λ (z : ℕ). Linked (Told edge) z front y) same linked), pairs_of_distinct (y ∷ q ∷ front) distinct))

-- where no node has an edge to the one at which the walk stands, it is a source
at_source : (edge : ℕ → ℕ → Bool) (xs : List ℕ) (p : ℕ) (passed others : List ℕ) → IsWalk edge xs p passed others → ((y : ℕ) → Contains others y → edge y p ≡ false) →
    Before edge (p ∷ passed) p → Walked edge xs
at_source edge xs p passed others w no_other (some front y back parts e) = cycle y (closes edge p passed front y back w.chain w.once parts e)
at_source edge xs p passed others w no_other (none no_passed) = source p w.inside (λ z h. elim (w.whole z h) [ inl at ↦ no_passed z at | inr at ↦ no_other z at ])

-- one step of the walk
steps_back : (edge : ℕ → ℕ → Bool) (xs : List ℕ) (p : ℕ) (passed front : List ℕ) (y : ℕ) (back : List ℕ) → IsWalk edge xs p passed (front ++ y ∷ back) → edge y p ≡ true →
    IsWalk edge xs y (p ∷ passed) (front ++ back)
steps_back edge xs p passed front y back w e = record {
  chain = (e, w.chain);
  once = ((λ at. w.apart y at (Contains-middle front y back)), w.once);
  others_once = (distinct_left front y back w.others_once).1;
  apart = λ z at other. elim (Contains-cons_cases y (p ∷ passed) z at) [
    | inl same ↦ (distinct_left front y back w.others_once).0 (subst (Contains (front ++ back)) (sym same) other)
    | inr r ↦ w.apart z r (was_there front y back z other)
  ];
  inside = w.others_inside y (Contains-middle front y back);
  others_inside = λ z other. w.others_inside z (was_there front y back z other);
  whole = λ z h. elim (w.whole z h) [
    | inl at ↦ inl (Contains-tail y (p ∷ passed) z at)
    | inr other ↦ elim (left_of front y back z other) [
      | inl same ↦ inl (Contains-head y (p ∷ passed) z same)
      | inr r ↦ inr r
    ]
  ];
}

walk : (edge : ℕ → ℕ → Bool) (xs : List ℕ) (n : ℕ) (p : ℕ) (passed others : List ℕ) → length others ≤ n → IsWalk edge xs p passed others → Walked edge xs
walk edge xs zero p passed others few w = elim (find_before edge others p) [
  | some front y back parts e ↦ let long = ap length parts ∙ length-parted front y back in absurd (omega (arith, few, long))
  | none no_other ↦ at_source edge xs p passed others w no_other (find_before edge (p ∷ passed) p)
]
walk edge xs (suc n) p passed others few w = elim (find_before edge others p) [
  | some front y back parts e ↦
      let long = ap length parts ∙ length-parted front y back in
      walk edge xs n y (p ∷ passed) (front ++ back) (omega (arith, few, long)) (steps_back edge xs p passed front y back (subst (IsWalk edge xs p passed) parts w) e)
  | none no_other ↦ at_source edge xs p passed others w no_other (find_before edge (p ∷ passed) p)
]

-- a walk from the first node of the list
walked : (edge : ℕ → ℕ → Bool) (x : ℕ) (xs : List ℕ) → IsDistinct (x ∷ xs) → Walked edge (x ∷ xs)
walked edge x xs once = walk edge (x ∷ xs) (length xs) x [] xs (omega arith) record {
  chain = tt;
  once = (Contains-nil x, tt);
  others_once = once.1;
  apart = λ z at other. elim (Contains-cons_cases x [] z at) [
    | inl same ↦ once.0 (subst (Contains xs) (sym same) other)
    | inr r ↦ Contains-nil z r
  ];
  inside = Contains-head x xs x refl;
  others_inside = λ z other. Contains-tail x xs z other;
  whole = λ z h. elim (Contains-cons_cases x xs z h) [
    | inl same ↦ inl (Contains-head x [] z same)
    | inr r ↦ inr r
  ];
}

-- a source before an order of the others is an order
forward_from : (edge : ℕ → ℕ → Bool) (s : ℕ) (nodes order : List ℕ) → IsOrder (Told edge) nodes order → ((z : ℕ) → (s ≡ z) ⊎ Contains nodes z → edge z s ≡ false) →
    (i j : ℕ) → i < length (s ∷ order) → j < length (s ∷ order) → edge (get_or (s ∷ order) i 0) (get_or (s ∷ order) j 0) ≡ true → i < j
forward_from edge s nodes order o no_edge zero zero li lj e = let lacks = no_edge s (inl refl) in absurd cc
forward_from edge s nodes order o no_edge (suc i) zero li lj e =
    let at : Contains order (get_or order i 0) = Contains-get_or order i 0 (omega (arith, li)) in
    let lacks = no_edge (get_or order i 0) (inr ((o.same_nodes (get_or order i 0)).0 at)) in absurd cc
forward_from edge s nodes order o no_edge zero (suc j) li lj e = omega arith
forward_from edge s nodes order o no_edge (suc i) (suc j) li lj e =
    let lt = o.forward i j (omega (arith, li)) (omega (arith, lj)) e in omega (arith, lt)

source_first : (edge : ℕ → ℕ → Bool) (front : List ℕ) (s : ℕ) (back order : List ℕ) → IsDistinct (front ++ s ∷ back) → ((z : ℕ) → Contains (front ++ s ∷ back) z → edge z s ≡ false) →
    IsOrder (Told edge) (front ++ back) order → IsOrder (Told edge) (front ++ s ∷ back) (s ∷ order)
source_first edge front s back order once no_edge o =
    let new : Contains order s → ⊥ = λ at. (distinct_left front s back once).0 ((o.same_nodes s).0 at) in
    record {
      same_nodes = λ x. (
        (λ at. elim (Contains-cons_cases s order x at) [
          | inl same ↦ subst (Contains (front ++ s ∷ back)) same (Contains-middle front s back)
          | inr r ↦ was_there front s back x ((o.same_nodes x).0 r)
        ]),
        (λ at. elim (left_of front s back x at) [
          | inl same ↦ Contains-head s order x same
          | inr r ↦ Contains-tail s order x ((o.same_nodes x).1 r)
        ]),
      );
      once = pairs_of_distinct (s ∷ order) (new, distinct_of_pairs order o.once);
      forward = forward_from edge s (front ++ back) order o (λ z h. no_edge z (elim h [
        | inl same ↦ subst (Contains (front ++ s ∷ back)) same (Contains-middle front s back)
        | inr r ↦ was_there front s back z r
      ]));
    }

no_nodes : (edge : ℕ → ℕ → Bool) → IsOrder (Told edge) [] []
no_nodes edge = record {
  same_nodes = λ x. ((λ h. h), (λ h. h));
  once = λ i j d lt below. absurd (omega (arith, below));
  forward = λ i j li lj e. absurd (omega (arith, li));
}

within : (edge : ℕ → ℕ → Bool) (n : ℕ) (nodes : List ℕ) → length nodes ≤ n → IsDistinct nodes → IsAcyclic (Told edge) nodes ⊎ ((first : ℕ) × IsOnCycle (Told edge) first)
within edge n [] few once = inl ([], no_nodes edge)
within edge zero (x ∷ xs) few once = absurd (omega (arith, few))
within edge (suc n) (x ∷ xs) few once = elim (walked edge x xs once) [
  | cycle first c ↦ inr (first, c)
  | source s at no_edge ↦
      let parts = parted (x ∷ xs) s at in
      let long = ap length parts.2 ∙ length-parted parts.0 s parts.1 in
      let distinct : IsDistinct (parts.0 ++ s ∷ parts.1) = subst IsDistinct parts.2 once in
      let lacks : (z : ℕ) → Contains (parts.0 ++ s ∷ parts.1) z → edge z s ≡ false = λ z h. no_edge z (subst (λ (zs : List ℕ). Contains zs z) (sym parts.2) h) in
      elim (within edge n (parts.0 ++ parts.1) (omega (arith, few, long)) (distinct_left parts.0 s parts.1 distinct).1) [
        | inl o ↦ inl (s ∷ o.0, subst (λ (zs : List ℕ). IsOrder (Told edge) zs (s ∷ o.0)) (sym parts.2) (source_first edge parts.0 s parts.1 o.0 distinct lacks o.1))
        | inr c ↦ inr c
      ]
]

-- nodes without repeats have an order, or some node lies on a cycle
pub order_or_cycle_lem : (edge : ℕ → ℕ → Bool) (nodes : List ℕ) → AllPairs (λ a b. a ≢ b) nodes → IsAcyclic (Told edge) nodes ⊎ ((first : ℕ) × IsOnCycle (Told edge) first)
order_or_cycle_lem edge nodes once = within edge (length nodes) nodes (omega arith) (distinct_of_pairs nodes once)
