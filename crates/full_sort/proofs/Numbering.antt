-- Numbers that are given to nodes.
use Rattle.std.proofs.Common.{◌≡◌, ◌≢◌, ◌∙◌, ◌⊎◌, ℕ, ◌+◌, ◌<◌, ◌≤◌, List, [], ◌∷◌, length, get_or, set, take, Contains, arith, refl, sym, ap, subst, inl, inr, get_or-set_same, get_or-set_other}
use Rattle.std.proofs.lemmas.Bool.{cases_eq, cases_lt}
use Rattle.std.proofs.lemmas.List.{append-nil, get_or-take, get_or_default, get_or_past, length-take-le, take_more_set}
use Rattle.orders.specs.Paths.{Linked, Reach}
use Rattle.orders.proofs.FewEdges.{reach_append}
use Rattle.full_sort.specs.Components.{FreeEdge, GivesNumber, NumbersSources}
use Rattle.full_sort.specs.Finishing.{IsListOf}
use Rattle.full_sort.proofs.ListsOf.{listed_inserted, listed_room}

-- the nodes of a number
abbrev pub Has : List ℕ → ℕ → ℕ → Type 0
Has numbers number t = get_or numbers t 0 ≡ number

pub number_below : (numbers : List ℕ) (number t : ℕ) → number ≢ 0 → Has numbers number t → t < length numbers
number_below numbers number t some h = elim (cases_lt t (length numbers)) [
  | inl lt ↦ lt
  | inr past ↦ absurd (some (sym h ∙ get_or_past numbers t 0 past))
]

pub gives_none : (P : ℕ → Type 0) (number : ℕ) (old : List ℕ) → GivesNumber P number old old
gives_none P number old = record { kept = λ t some. refl; given = λ t none. inl none }

pub gives_more : (P Q : ℕ → Type 0) (number : ℕ) (old mid new : List ℕ) → GivesNumber P number old mid → ((t : ℕ) → get_or old t 0 ≡ 0 → Q t → P t) → GivesNumber Q number mid new → GivesNumber P number old new
gives_more P Q number old mid new a wider b = record {
  kept = λ t some. let first = a.kept t some in b.kept t (λ none. some (sym first ∙ none)) ∙ first;
  given = λ t none. elim (cases_eq (get_or mid t 0) 0) [
    | inl still ↦ elim (b.given t still) [
      | inl clear ↦ inl clear
      | inr has ↦ inr (has.0, wider t none has.1)
    ]
    | inr some ↦ elim (a.given t none) [
      | inl clear ↦ absurd (some clear)
      | inr has ↦ inr (b.kept t some ∙ has.0, has.1)
    ]
  ];
}

-- a node is taken into the list of its number
module _ (numbers queue : List ℕ) (number count node : ℕ) (some : number ≢ 0) (inside : node < length numbers) (free : get_or numbers node 0 ≡ 0) (same : length queue ≡ length numbers)
    (few : count ≤ length queue) (listed : IsListOf (Has numbers number) (take count queue)) where
  pub queue_room : count < length queue
  queue_room =
      let short = listed_room (Has numbers number) (take count queue) (length numbers) node (λ t h. number_below numbers number t some h) inside (λ h. some (sym h ∙ free)) listed in
      let front = length-take-le count queue few in
      omega (arith, short, front, same)

  has_kept : (t : ℕ) → Has numbers number t → Has (set numbers node number) number t
  has_kept t h = elim (cases_eq t node) [
    | inl here ↦ subst (Has (set numbers node number) number) (sym here) (get_or-set_same numbers node number 0 inside)
    | inr other ↦ get_or-set_other numbers node t number 0 other ∙ h
  ]

  has_only : (t : ℕ) → Has (set numbers node number) number t → Has numbers number t ⊎ (t ≡ node)
  has_only t h = elim (cases_eq t node) [ inl here ↦ inr here | inr other ↦ inl (sym (get_or-set_other numbers node t number 0 other) ∙ h) ]

  pub listed_taken : IsListOf (Has (set numbers node number) number) (take (count + 1) (set queue count node))
  listed_taken =
      subst (IsListOf (Has (set numbers node number) number)) (sym (take_more_set queue count node queue_room))
      (listed_inserted (Has numbers number) (Has (set numbers node number) number) (take count queue) node [] (λ h. some (sym h ∙ free)) has_kept (get_or-set_same numbers node number 0 inside) has_only
      (subst (IsListOf (Has numbers number)) (sym (append-nil (take count queue))) listed))

-- a listed node stands at a place of the queue, and a place of the queue is listed
pub place_in : (queue : List ℕ) (count x : ℕ) → count ≤ length queue → Contains (take count queue) x → (i : ℕ) × (i < count) × (get_or queue i 0 ≡ x)
place_in queue count x few h =
    let size = length-take-le count queue few in
    let below = h.1 in
    let lt : h.0 < count = omega (arith, below, size) in
    (h.0, lt, sym (get_or-take count queue h.0 0 lt) ∙ get_or_default (take count queue) h.0 0 x h.1 ∙ h.2)

pub listed_at : (queue : List ℕ) (count i : ℕ) → i < count → count ≤ length queue → Contains (take count queue) (get_or queue i 0)
listed_at queue count i lt few =
    let size = length-take-le count queue few in
    let there : i < length (take count queue) = omega (arith, lt, size) in
    (i, there, get_or_default (take count queue) i (get_or queue i 0) 0 there ∙ get_or-take count queue i 0 lt)

-- places below the count stay where the front stays
same_front : (old new : List ℕ) (count i : ℕ) → take count new ≡ take count old → i < count → get_or new i 0 ≡ get_or old i 0
same_front old new count i front lt = sym (get_or-take count new i 0 lt) ∙ ap (λ (xs : List ℕ). get_or xs i 0) front ∙ get_or-take count old i 0 lt

-- The nodes with a path of free nodes to the root. The sources of the first nodes of the queue were taken.
pub record IsTaking (E : ℕ → ℕ → Type 0) (root number : ℕ) (old numbers queue : List ℕ) (count done : ℕ) : Type 0 where
  pub listed : IsListOf (Has numbers number) (take count queue)
  pub few : count ≤ length queue
  pub at : done ≤ count
  pub given : GivesNumber (λ t. (t ≡ root) ⊎ Reach (FreeEdge E old) t root) number old numbers
  pub first : Has numbers number root
  pub taken : (i : ℕ) → i < done → (t : ℕ) → E t (get_or queue i 0) → get_or numbers t 0 ≢ 0

module _ (E : ℕ → ℕ → Type 0) (root number : ℕ) (old : List ℕ) (some : number ≢ 0) (fresh : (t : ℕ) → get_or old t 0 ≢ number) where
  -- a node with the number had none
  pub was_free : (numbers : List ℕ) → GivesNumber (λ t. (t ≡ root) ⊎ Reach (FreeEdge E old) t root) number old numbers → (t : ℕ) → Has numbers number t → (get_or old t 0 ≡ 0) × ((t ≡ root) ⊎ Reach (FreeEdge E old) t root)
  was_free numbers given t h = elim (cases_eq (get_or old t 0) 0) [
    | inl none ↦ elim (given.given t none) [
      | inl clear ↦ absurd (some (sym h ∙ clear))
      | inr has ↦ (none, has.1)
    ]
    | inr had ↦ absurd (fresh t (sym (given.kept t had) ∙ h))
  ]

  module _ (numbers queue : List ℕ) (count done : ℕ) (i : IsTaking E root number old numbers queue count done) where
    pub next_listed : done < count → Has numbers number (get_or queue done 0)
    next_listed lt = (i.listed.same (get_or queue done 0)).1 (listed_at queue count done lt i.few)

    -- one node more
    pub taking_on : (numbers' queue' : List ℕ) (count' : ℕ) → done < count → IsListOf (Has numbers' number) (take count' queue') → count' ≤ length queue' → count ≤ count' → take count queue' ≡ take count queue →
        GivesNumber (λ t. E t (get_or queue done 0)) number numbers numbers' → ((t : ℕ) → E t (get_or queue done 0) → get_or numbers' t 0 ≢ 0) → IsTaking E root number old numbers' queue' count' (done + 1)
    taking_on numbers' queue' count' lt listed few more front given taken =
        let node : ℕ = get_or queue done 0 in
        let here = was_free numbers i.given node (next_listed lt) in
        record {
          listed = listed;
          few = few;
          at = omega (arith, lt, more);
          given = gives_more (λ t. (t ≡ root) ⊎ Reach (FreeEdge E old) t root) (λ t. E t node) number old numbers numbers' i.given (λ t none e. inr (elim here.1 [
            | inl same ↦ ([], (subst (E t) same e, none, ap (λ (k : ℕ). get_or old k 0) (sym same) ∙ here.0))
            | inr path ↦ reach_append (FreeEdge E old) t node root ([], (e, none, here.0)) path
          ])) given;
          first = given.kept root (λ none. some (sym i.first ∙ none)) ∙ i.first;
          taken = λ k below t e. elim (cases_eq k done) [
            | inl same ↦
                let at : get_or queue' k 0 ≡ node = same_front queue queue' count k front (omega (arith, same, lt)) ∙ ap (λ (m : ℕ). get_or queue m 0) same in
                taken t (subst (E t) at e)
            | inr other ↦
                let at : get_or queue' k 0 ≡ get_or queue k 0 = same_front queue queue' count k front (omega (arith, below, lt)) in
                let before = i.taken k (omega (arith, below, other)) t (subst (E t) at e) in
                λ none. before (sym (given.kept t before) ∙ none)
          ];
        }

    -- all are taken
    module _ (whole : count ≤ done) where
      has_source : (x y : ℕ) → E x y → get_or old x 0 ≡ 0 → Has numbers number y → Has numbers number x
      has_source x y e free h =
          let at = place_in queue count y i.few ((i.listed.same y).0 h) in
          let lt = at.1 in
          elim (i.given.given x free) [
            | inl clear ↦ absurd (i.taken at.0 (omega (arith, lt, whole)) x (subst (E x) (sym at.2) e) clear)
            | inr has ↦ has.0
          ]

      has_path : (x : ℕ) (between : List ℕ) → Linked (FreeEdge E old) x between root → Has numbers number x
      has_path x [] path = has_source x root path.0 path.1 i.first
      has_path x (y ∷ between) path = has_source x y path.0.0 path.0.1 (has_path y between path.1)

      pub all_taken : NumbersSources E root number old numbers
      all_taken = record {
        numbered = λ t. (
          (λ h. (was_free numbers i.given t h).1),
          (λ way. elim way [
            | inl same ↦ subst (Has numbers number) (sym same) i.first
            | inr path ↦ has_path t path.0 path.1
          ]),
        );
        others = λ t other. elim (cases_eq (get_or old t 0) 0) [
          | inl none ↦ elim (i.given.given t none) [
            | inl clear ↦ clear ∙ sym none
            | inr has ↦ absurd (other has.0)
          ]
          | inr had ↦ i.given.kept t had
        ];
      }
