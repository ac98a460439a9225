-- The set gains the nodes that wait for no edge.
use Rattle.std.proofs.Common.{◌≡◌, ◌≢◌, ◌∙◌, ◌↔◌, ◌⊎◌, ℕ, ◌+◌, ◌-◌, ◌<◌, ◌≤◌, List, Bool, false, length, get_or, set, sym, subst, arith, inl, inr, ⊎_elim, get_or-set_other}
use Rattle.std.proofs.lemmas.Bool.{cases_Bool, cases_eq, cases_lt}
use Rattle.std.proofs.lemmas.List.{get_or_past}
use Rattle.full_sort.specs.Bits.{bit_of, ChangesBit}
use Rattle.full_sort.specs.Waiting.{is_marked, HasFree}

-- the set has exactly the nodes below k that wait for no edge
abbrev pub HasReady : List ℕ → List ℕ → ℕ → Type 0
HasReady ready waiting k = (t : ℕ) → (bit_of ready t ≡ 1) ↔ ((t < k) × (get_or waiting t 0 ≡ 0))

-- one node more is looked at
pub ready-here : (ready after waiting : List ℕ) (k : ℕ) → HasReady ready waiting k → ChangesBit ready after k 1 → get_or waiting k 0 ≡ 0 → HasReady after waiting (k + 1)
ready-here ready after waiting k found change zeros t = elim (cases_eq t k) [
  | inl same ↦
      subst (λ (m : ℕ). (bit_of after m ≡ 1) ↔ ((m < k + 1) × (get_or waiting m 0 ≡ 0))) (sym same) ((λ one. (omega arith, zeros)), (λ h. change.at))
  | inr other ↦
      let bit = change.others t other in
      ((λ one. let f = (found t).0 (sym bit ∙ one) in ((let lt = f.0 in omega (arith, lt)), f.1)), (λ f. bit ∙ (found t).1 ((let lt = f.0 in omega (arith, lt, other)), f.1)))
]

pub ready-not : (ready waiting : List ℕ) (k : ℕ) → HasReady ready waiting k → get_or waiting k 0 ≢ 0 → HasReady ready waiting (k + 1)
ready-not ready waiting k found some t = elim (cases_eq t k) [
  | inl same ↦
      subst (λ (m : ℕ). (bit_of ready m ≡ 1) ↔ ((m < k + 1) × (get_or waiting m 0 ≡ 0))) (sym same)
      ((λ one. let f = (found k).0 one in (omega arith, f.1)), (λ f. absurd (some f.1)))
  | inr other ↦
      ((λ one. let f = (found t).0 one in ((let lt = f.0 in omega (arith, lt)), f.1)), (λ f. (found t).1 ((let lt = f.0 in omega (arith, lt, other)), f.1)))
]

-- the node was in the set at first, or waited for an edge then and waits for none now
abbrev pub Gains : List ℕ → List ℕ → List ℕ → List ℕ → ℕ → Type 0
Gains first before ready waiting t = (bit_of ready t ≡ 1) ↔ ((bit_of first t ≡ 1) ⊎ ((get_or before t 0 ≢ 0) × (get_or waiting t 0 ≡ 0)))

-- one is taken away at a node
module _ (first before ready waiting : List ℕ) (x : ℕ) (some : 1 ≤ get_or waiting x 0) (gained : (t : ℕ) → Gains first before ready waiting t) where
  less : List ℕ
  less = set waiting x (get_or waiting x 0 - 1)

  pub gained-here : (after : List ℕ) → get_or waiting x 0 ≤ get_or before x 0 → ChangesBit ready after x 1 → get_or (set waiting x (get_or waiting x 0 - 1)) x 0 ≡ 0 → (t : ℕ) → Gains first before after (set waiting x (get_or waiting x 0 - 1)) t
  gained-here after more change zeros t = elim (cases_eq t x) [
    | inl same ↦
        subst (Gains first before after (set waiting x (get_or waiting x 0 - 1))) (sym same)
        ((λ one. inr ((λ none. omega (arith, some, more, none)), zeros)), (λ h. change.at))
    | inr other ↦
        let kept = get_or-set_other waiting x t (get_or waiting x 0 - 1) 0 other in
        let bit = change.others t other in
        ((λ one. ⊎_elim (λ b. inl b) (λ f. inr (f.0, kept ∙ f.1)) ((gained t).0 (sym bit ∙ one))), (λ h. bit ∙ (gained t).1 (⊎_elim (λ b. inl b) (λ f. inr (f.0, sym kept ∙ f.1)) h)))
  ]

  pub gained-not : get_or (set waiting x (get_or waiting x 0 - 1)) x 0 ≢ 0 → (t : ℕ) → Gains first before ready (set waiting x (get_or waiting x 0 - 1)) t
  gained-not left t = elim (cases_eq t x) [
    | inl same ↦
        subst (Gains first before ready (set waiting x (get_or waiting x 0 - 1))) (sym same)
        ((λ one. ⊎_elim (λ b. inl b) (λ f. let zeros = f.1 in absurd (omega (arith, some, zeros))) ((gained x).0 one)), (λ h. ⊎_elim (λ b. (gained x).1 (inl b)) (λ f. absurd (left f.1)) h))
    | inr other ↦
        let kept = get_or-set_other waiting x t (get_or waiting x 0 - 1) 0 other in
        ((λ one. ⊎_elim (λ b. inl b) (λ f. inr (f.0, kept ∙ f.1)) ((gained t).0 one)), (λ h. (gained t).1 (⊎_elim (λ b. inl b) (λ f. inr (f.0, sym kept ∙ f.1)) h)))
  ]

-- no node waits for more than before
pub falls : (waiting after : List ℕ) (nodes : ℕ) (taken : ℕ → ℕ) → length after ≡ nodes → ((t : ℕ) → t < nodes → get_or after t 0 + taken t ≡ get_or waiting t 0) → (t : ℕ) → get_or after t 0 ≤ get_or waiting t 0
falls waiting after nodes taken whole step t = elim (cases_lt t nodes) [
  | inl lt ↦ let at = step t lt in omega (arith, at)
  | inr ge ↦ let past = get_or_past after t 0 (omega (arith, ge, whole)) in omega (arith, past)
]

-- The set has the free nodes again, where each node that waits is marked.
pub free-gained : (ready gained waiting after : List ℕ) (marks : List Bool) → HasFree ready waiting marks → ((t : ℕ) → is_marked marks t ≡ false → get_or waiting t 0 ≡ 0) → ((t : ℕ) → get_or after t 0 ≤ get_or waiting t 0) → ((t : ℕ) → Gains ready waiting gained after t) → HasFree gained after marks
free-gained ready gained waiting after marks free settled fall gains t = (
  (λ one. ⊎_elim
      (λ b. let f = (free t).0 b in let zeros = f.0 in let le = fall t in (omega (arith, zeros, le), f.1))
      (λ f. (f.1, elim (cases_Bool (is_marked marks t)) [ inl mark ↦ mark | inr none ↦ absurd (f.0 (settled t none)) ]))
      ((gains t).0 one)),
  (λ f. (gains t).1 (elim (cases_eq (get_or waiting t 0) 0) [ inl zeros ↦ inl ((free t).1 (zeros, f.1)) | inr some ↦ inr (some, f.0) ])),
)
