-- Exactly the free nodes are held, in a set or apart from it.
use Rattle.std.proofs.Common.{◌≡◌, ◌≢◌, ◌∙◌, ◌↔◌, ◌⊎◌, ℕ, ◌+◌, ◌<◌, ◌≤◌, List, Bool, true, false, Option, Some, None, length, get_or, set, take, Contains, sym, subst, arith, inl, inr, ⊎_elim, get_or-set_same, get_or-set_other}
use Rattle.std.proofs.lemmas.Bool.{cases_Bool, cases_eq, cases_lt, false≢true}
use Rattle.std.proofs.lemmas.List.{get_or_past, get_or-take, length-take-le}
use Rattle.std.proofs.lemmas.Option.{none-some}
use Rattle.full_sort.specs.Bits.{bit_of, IsFirstBit}
use Rattle.full_sort.specs.Ready.{IsHeld, TakesHeld}
use Rattle.full_sort.specs.Waiting.{is_marked, IsFree, HasFree}
use Rattle.full_sort.proofs.Free.{IsLeastFree, bit-zero}

abbrev pub HoldsFree : List ℕ → Option ℕ → List ℕ → List Bool → Type 0
HoldsFree ready kept waiting marks = (t : ℕ) → IsHeld ready kept t ↔ IsFree waiting marks t

module _ (ready : List ℕ) (kept : Option ℕ) (waiting : List ℕ) (marks : List Bool) (window : List ℕ) (free : HoldsFree ready kept waiting marks) (only : (t : ℕ) → get_or marks t false ≡ true → Contains window t) where
  pub least-held : (new : List ℕ) (r : Option ℕ) → TakesHeld ready kept new r → IsLeastFree window waiting marks r
  least-held new None taken = λ z h f. taken.1 z ((free z).1 f)
  least-held new (Some x) taken =
      let f = (free x).0 taken.1 in (
        only x f.1,
        f,
        λ z h also. elim (cases_lt z x) [
          | inl lt ↦ absurd (taken.2 z lt ((free z).1 also))
          | inr ge ↦ ge
        ],
      )

  -- where no mark is left, the set is empty
  pub held-empty : ((t : ℕ) → Contains window t → get_or marks t false ≡ false) → IsFirstBit ready None
  held-empty cleared t = bit-zero ready t (λ one. let f = (free t).0 (inl one) in false≢true (sym (cleared t (only t f.1)) ∙ f.1))

  -- the least node is taken, and its mark is cleared
  pub held-taken : (new : List ℕ) (x : ℕ) → x < length marks → TakesHeld ready kept new (Some x) → HasFree new waiting (set marks x false)
  held-taken new x inside taken t = elim (cases_eq t x) [
    | inl same ↦ (
      (λ one. absurd (((taken.3 t).0 one).1 same)),
      (λ f. absurd (false≢true (sym (get_or-set_same marks x false false inside) ∙ subst (λ (m : ℕ). get_or (set marks x false) m false ≡ true) same f.1))),
    )
    | inr other ↦
        let rest = get_or-set_other marks x t false false other in (
          (λ one. let f = (free t).0 ((taken.3 t).0 one).0 in (f.0, rest ∙ f.1)),
          (λ f. (taken.3 t).1 ((free t).1 (f.0, sym rest ∙ f.1), other)),
        )
  ]

-- none can be taken: the set is empty
pub none-held : (ready : List ℕ) (kept : Option ℕ) (new : List ℕ) → TakesHeld ready kept new None → IsFirstBit new None
none-held ready kept new taken = subst (λ (xs : List ℕ). IsFirstBit xs None) (sym taken.0) (λ t. bit-zero ready t (λ one. taken.1 t (inl one)))

-- none is kept apart at first
pub holds-begin : (ready waiting : List ℕ) (marks : List Bool) → HasFree ready waiting marks → HoldsFree ready None waiting marks
holds-begin ready waiting marks free t = ((λ h. (free t).0 (⊎_elim (λ b. b) (λ e. absurd (none-some t e)) h)), (λ f. inl ((free t).1 f)))

-- the free nodes are held again, where each node that waits is marked
pub holds-gained : (ready gained : List ℕ) (kept : Option ℕ) (waiting after : List ℕ) (marks : List Bool) → HasFree ready waiting marks → ((t : ℕ) → is_marked marks t ≡ false → get_or waiting t 0 ≡ 0) →
    ((t : ℕ) → get_or after t 0 ≤ get_or waiting t 0) → ((t : ℕ) → IsHeld gained kept t ↔ ((bit_of ready t ≡ 1) ⊎ ((get_or waiting t 0 ≢ 0) × (get_or after t 0 ≡ 0)))) → HoldsFree gained kept after marks
holds-gained ready gained kept waiting after marks free settled fall gains t = (
  (λ h. ⊎_elim
      (λ b. let f = (free t).0 b in let zeros = f.0 in let le = fall t in (omega (arith, zeros, le), f.1))
      (λ f. (f.1, elim (cases_Bool (is_marked marks t)) [ inl mark ↦ mark | inr none ↦ absurd (f.0 (settled t none)) ]))
      ((gains t).0 h)),
  (λ f. (gains t).1 (elim (cases_eq (get_or waiting t 0) 0) [ inl zeros ↦ inl ((free t).1 (zeros, f.1)) | inr some ↦ inr (some, f.0) ])),
)

-- and where a node that waits no more is held if it is marked
pub holds-marked : (ready gained : List ℕ) (kept : Option ℕ) (n : ℕ) (waiting after : List ℕ) (marks : List Bool) → HasFree ready waiting marks → ((t : ℕ) → is_marked marks t ≡ true → t < n) →
    ((t : ℕ) → t < n → get_or after t 0 ≤ get_or waiting t 0) →
    ((t : ℕ) → IsHeld gained kept t ↔ ((bit_of ready t ≡ 1) ⊎ ((t < n) × (get_or waiting t 0 ≢ 0) × (get_or after t 0 ≡ 0) × (is_marked marks t ≡ true)))) → HoldsFree gained kept after marks
holds-marked ready gained kept n waiting after marks free within fall gains t = (
  (λ h. ⊎_elim (λ b. let f = (free t).0 b in let zeros = f.0 in let le = fall t (within t f.1) in (omega (arith, zeros, le), f.1)) (λ f. (f.2, f.3)) ((gains t).0 h)),
  (λ f. (gains t).1 (elim (cases_eq (get_or waiting t 0) 0) [ inl zeros ↦ inl ((free t).1 (zeros, f.1)) | inr some ↦ inr (within t f.1, some, f.0, f.1) ])),
)

-- a node with a mark is one of those that can have one
pub mark-within : (marks : List Bool) (t : ℕ) → is_marked marks t ≡ true → t < length marks
mark-within marks t mark = elim (cases_lt t (length marks)) [
  | inl lt ↦ lt
  | inr ge ↦ absurd (false≢true (sym (get_or_past marks t false ge) ∙ mark))
]

-- The counts of the nodes alone, without that of no node.
module _ (n : ℕ) (counts : List ℕ) (long : length counts ≡ n + 1) where
  pub front-at : (t : ℕ) → t < n → get_or (take n counts) t 0 ≡ get_or counts t 0
  front-at t lt = get_or-take n counts t 0 lt

  pub front-long : length (take n counts) ≡ n
  front-long = length-take-le n counts (omega (arith, long))

  pub front-past : (t : ℕ) → n ≤ t → get_or (take n counts) t 0 ≡ 0
  front-past t ge = let size = front-long in get_or_past (take n counts) t 0 (omega (arith, ge, size))

module _ (n : ℕ) (counts after : List ℕ) (long : length counts ≡ n + 1) (long_after : length after ≡ n + 1) where
  pub front-less : (taken : ℕ → ℕ) → ((t : ℕ) → t < n → get_or after t 0 + taken t ≡ get_or counts t 0) → (t : ℕ) → t < n → get_or (take n after) t 0 + taken t ≡ get_or (take n counts) t 0
  front-less taken less t lt =
      let step = less t lt in
      let one = front-at n counts long t lt in
      let two = front-at n after long_after t lt in
      omega (arith, step, one, two)

  pub front-gained : (H B M : ℕ → Type 0) → ((t : ℕ) → H t ↔ (B t ⊎ ((t < n) × (get_or counts t 0 ≢ 0) × (get_or after t 0 ≡ 0) × M t))) → (t : ℕ) → H t ↔ (B t ⊎ ((get_or (take n counts) t 0 ≢ 0) × (get_or (take n after) t 0 ≡ 0) × M t))
  front-gained H B M gained t = (
    (λ h. ⊎_elim (λ b. inl b) (λ f. inr ((λ zeros. f.1 (sym (front-at n counts long t f.0) ∙ zeros)), front-at n after long_after t f.0 ∙ f.2, f.3)) ((gained t).0 h)),
    (λ h. (gained t).1 (⊎_elim (λ b. inl b)
        (λ f. elim (cases_lt t n) [
          | inl lt ↦ inr (lt, (λ zeros. f.0 (front-at n counts long t lt ∙ zeros)), sym (front-at n after long_after t lt) ∙ f.1, f.2)
          | inr ge ↦ absurd (f.0 (front-past n counts long t ge))
        ]) h)),
  )

  -- a mark that all nodes have says nothing
  pub front-gained-all : (H B M : ℕ → Type 0) → ((t : ℕ) → t < n → M t) → ((t : ℕ) → H t ↔ (B t ⊎ ((t < n) × (get_or counts t 0 ≢ 0) × (get_or after t 0 ≡ 0) × M t))) → (t : ℕ) → H t ↔ (B t ⊎ ((get_or (take n counts) t 0 ≢ 0) × (get_or (take n after) t 0 ≡ 0)))
  front-gained-all H B M all gained t =
      let front = front-gained H B M gained t in (
        (λ h. ⊎_elim (λ b. inl b) (λ f. inr (f.0, f.1)) (front.0 h)),
        (λ h. front.1 (⊎_elim (λ b. inl b)
            (λ f. elim (cases_lt t n) [
              | inl lt ↦ inr (f.0, f.1, all t lt)
              | inr ge ↦ absurd (f.0 (front-past n counts long t ge))
            ]) h)),
      )
