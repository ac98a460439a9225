-- The marked nodes of a window.
use Rattle.std.proofs.Common.{◌≡◌, ◌≢◌, ◌∙◌, ℕ, ◌+◌, ◌<◌, List, [], ◌∷◌, length, set, Contains, Bool, true, false, refl, sym, ap, arith, inl, inr, ⊎_elim, get_or-set_same, get_or-set_other}
use Rattle.std.specs.Prelude.{sum_by}
use Rattle.std.proofs.lemmas.List.Sums.{sum_by-cons}
use Rattle.std.proofs.lemmas.Bool.{cases_eq, cases_Bool, false≢true}
use Rattle.orders.proofs.Members.{Contains-nil, Contains-head, Contains-tail, Contains-cons_cases}
use Rattle.full_sort.specs.Waiting.{is_marked, marked_of}
use Rattle.full_sort.proofs.Sums.{IsOnce, once-head, once-tail}

-- what it has is of the window and is marked, and all of that is there
pub marked-inside : (marks : List Bool) (window : List ℕ) (x : ℕ) → Contains (marked_of marks window) x → Contains window x × (is_marked marks x ≡ true)
marked-inside marks [] x h = absurd (Contains-nil x h)
marked-inside marks (a ∷ window) x h = elim (cases_Bool (is_marked marks a)) [
  | inl mark_set ↦
      let h' : Contains (a ∷ marked_of marks window) x = rw mark_set at h in
      ⊎_elim
      (λ (e : a ≡ x). (Contains-head a window x e, ap (is_marked marks) (sym e) ∙ mark_set))
      (λ r. let rest = marked-inside marks window x r in (Contains-tail a window x rest.0, rest.1))
      (Contains-cons_cases a (marked_of marks window) x h')
  | inr no_mark ↦ let rest = marked-inside marks window x (rw no_mark at h) in (Contains-tail a window x rest.0, rest.1)
]

pub marked-from : (marks : List Bool) (window : List ℕ) (x : ℕ) → Contains window x → is_marked marks x ≡ true → Contains (marked_of marks window) x
marked-from marks [] x h mark = h
marked-from marks (a ∷ window) x h mark = elim (cases_Bool (is_marked marks a)) [
  | inl mark_set ↦
      rw mark_set (⊎_elim (λ e. Contains-head a (marked_of marks window) x e) (λ r. Contains-tail a (marked_of marks window) x (marked-from marks window x r mark)) (Contains-cons_cases a window x h))
  | inr no_mark ↦
      rw no_mark (⊎_elim (λ (e : a ≡ x). absurd (false≢true (sym no_mark ∙ ap (is_marked marks) e ∙ mark))) (λ r. marked-from marks window x r mark) (Contains-cons_cases a window x h))
]

-- where all are marked, and where none is
pub marked-all : (marks : List Bool) (window : List ℕ) → ((z : ℕ) → Contains window z → is_marked marks z ≡ true) → marked_of marks window ≡ window
marked-all marks [] all = refl
marked-all marks (a ∷ window) all =
    let head = all a (Contains-head a window a refl) in
    let rest = marked-all marks window (λ z h. all z (Contains-tail a window z h)) in
    rw (head, rest) refl

pub marked-none : (marks : List Bool) (window : List ℕ) → ((z : ℕ) → Contains window z → is_marked marks z ≡ false) → marked_of marks window ≡ []
marked-none marks [] none = refl
marked-none marks (a ∷ window) none =
    let head = none a (Contains-head a window a refl) in
    let rest = marked-none marks window (λ z h. none z (Contains-tail a window z h)) in
    rw (head, rest) refl

-- a mark that is taken away from outside changes nothing
pub marked-same : (marks : List Bool) (window : List ℕ) (x : ℕ) → (Contains window x → ⊥) → marked_of (set marks x false) window ≡ marked_of marks window
marked-same marks [] x lacks = refl
marked-same marks (a ∷ window) x lacks =
    let rest = marked-same marks window x (λ h. lacks (Contains-tail a window x h)) in
    let other : a ≢ x = λ e. lacks (Contains-head a window x e) in
    let same = get_or-set_other marks x a false false other in
    rw (same, rest) refl

-- taking a mark away takes the node's term out of each sum over the marked nodes
pub sum-marked-less : (f : ℕ → ℕ) (marks : List Bool) (window : List ℕ) (x : ℕ) → IsOnce window → Contains window x → is_marked marks x ≡ true → x < length marks → sum_by f (marked_of marks window) ≡ f x + sum_by f (marked_of (set marks x false) window)
sum-marked-less f marks [] x once h mark inside = absurd (Contains-nil x h)
sum-marked-less f marks (a ∷ window) x once h mark inside = elim (cases_eq a x) [
  | inl same ↦
      let before : is_marked marks a ≡ true = ap (is_marked marks) same ∙ mark in
      let after : is_marked (set marks x false) a ≡ false = ap (is_marked (set marks x false)) same ∙ get_or-set_same marks x false false inside in
      let rest : marked_of (set marks x false) window ≡ marked_of marks window = marked-same marks window x (λ c. once-head a window x once c same) in
      rw (before, after, rest) (sum_by-cons f a (marked_of marks window) ∙ ap (λ (m : ℕ). f m + sum_by f (marked_of marks window)) same)
  | inr other ↦
      let in_rest : Contains window x = ⊎_elim (λ e. absurd (other e)) (λ r. r) (Contains-cons_cases a window x h) in
      let rest = sum-marked-less f marks window x (once-tail a window once) in_rest mark inside in
      let same : is_marked (set marks x false) a ≡ is_marked marks a = get_or-set_other marks x a false false other in
      elim (cases_Bool (is_marked marks a)) [
        | inl mark_set ↦
            let before = sum_by-cons f a (marked_of marks window) in
            let after = sum_by-cons f a (marked_of (set marks x false) window) in
            rw (same, mark_set) (omega (arith, before, after, rest))
        | inr no_mark ↦ rw (same, no_mark) rest
      ]
]
