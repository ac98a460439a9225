-- Marks and counts are taken back, one node of the window after another.
use Rattle.std.proofs.Common.{◌≡◌, ◌≢◌, ◌∙◌, ℕ, ◌+◌, ◌<◌, List, ◌∷◌, length, get_or, set, drop, Contains, Bool, true, false, refl, sym, ap, subst, arith, inl, inr, ⊎_elim, get_or-set_same, get_or-set_other}
use Rattle.std.specs.Prelude.{sum_by}
use Rattle.std.proofs.lemmas.List.{drop_more, get_or_past}
use Rattle.std.proofs.lemmas.Bool.{cases_lt, cases_eq, false≢true, false_from_ne_true}
use Rattle.orders.proofs.Members.{Contains-head, Contains-cons_cases}
use Rattle.full_sort.specs.Waiting.{count_between, count_into, is_marked, marked_of, IsWaiting}
use Rattle.full_sort.proofs.Marked.{marked-none, sum-marked-less}
use Rattle.full_sort.proofs.Sums.{IsOnce, once-drop}

-- where no node of the window is marked, none is, and no node waits
module _ (es : List (ℕ × ℕ)) (nodes : ℕ) (window waiting : List ℕ) (marks : List Bool) (w : IsWaiting es nodes window waiting marks) (unmarked : (z : ℕ) → Contains window z → is_marked marks z ≡ false) where
  pub clean-marks : (t : ℕ) → is_marked marks t ≡ false
  clean-marks t = false_from_ne_true (is_marked marks t) (λ mark. false≢true (sym (unmarked t (w.only t mark)) ∙ mark))

  pub clean-counts : (t : ℕ) → t < nodes → get_or waiting t 0 ≡ 0
  clean-counts t lt = w.counted t lt ∙ ap (λ (xs : List ℕ). count_into es xs t) (marked-none marks window unmarked)

-- where no node waits, and 0 is written at the place of no node, none waits
pub spare-clean : (nodes : ℕ) (waiting : List ℕ) → length waiting ≡ nodes + 1 → ((t : ℕ) → t < nodes → get_or waiting t 0 ≡ 0) → (t : ℕ) → get_or (set waiting nodes 0) t 0 ≡ 0
spare-clean nodes waiting whole zeros t = elim (cases_eq t nodes) [
  | inl same ↦ subst (λ (m : ℕ). get_or (set waiting nodes 0) m 0 ≡ 0) (sym same) (get_or-set_same waiting nodes 0 0 (omega (arith, whole)))
  | inr other ↦
      get_or-set_other waiting nodes t 0 0 other
      ∙ elim (cases_lt t nodes) [
        | inl lt ↦ zeros t lt
        | inr ge ↦ get_or_past waiting t 0 (omega (arith, ge, whole, other))
      ]
]

module _ (es : List (ℕ × ℕ)) (nodes : ℕ) (window : List ℕ) (i : ℕ) (waiting : List ℕ) (marks : List Bool) (lt : i < length window) (w : IsWaiting es nodes (drop i window) waiting marks) where
  parted : drop i window ≡ get_or window i 0 ∷ drop (i + 1) window
  parted = drop_more window i 0 lt

  first-there : Contains (drop i window) (get_or window i 0)
  first-there = subst (λ (xs : List ℕ). Contains xs (get_or window i 0)) (sym parted) (Contains-head (get_or window i 0) (drop (i + 1) window) (get_or window i 0) refl)

  -- a node that isn't the first is one of the others
  other-there : (t : ℕ) → t ≢ get_or window i 0 → Contains (drop i window) t → Contains (drop (i + 1) window) t
  other-there t other h = ⊎_elim (λ e. absurd (other (sym e))) (λ r. r) (Contains-cons_cases (get_or window i 0) (drop (i + 1) window) t (subst (λ (xs : List ℕ). Contains xs t) parted h))

  -- a first node without a mark may be passed over
  skipped : (after : List Bool) → is_marked after (get_or window i 0) ≡ false → marked_of after (drop i window) ≡ marked_of after (drop (i + 1) window)
  skipped after no_mark = ap (marked_of after) parted ∙ rw no_mark refl

  module _ (no_mark : is_marked marks (get_or window i 0) ≡ false) where
    pub skip-waiting : IsWaiting es nodes (drop (i + 1) window) waiting marks
    skip-waiting = record {
      only = λ t mark. other-there t (λ e. false≢true (sym no_mark ∙ ap (is_marked marks) (sym e) ∙ mark)) (w.only t mark);
      counted = λ t below. w.counted t below ∙ ap (λ (xs : List ℕ). count_into es xs t) (skipped marks no_mark);
    }

    pub skip-sum : (f : ℕ → ℕ) → sum_by f (marked_of marks (drop i window)) ≡ sum_by f (marked_of marks (drop (i + 1) window))
    skip-sum f = ap (sum_by f) (skipped marks no_mark)

  module _ (mark : is_marked marks (get_or window i 0) ≡ true) where
    module _ (once : IsOnce window) (inside : get_or window i 0 < length marks) where
      unmarked : is_marked (set marks (get_or window i 0) false) (get_or window i 0) ≡ false
      unmarked = get_or-set_same marks (get_or window i 0) false false inside

      pub clean-sum : (f : ℕ → ℕ) → sum_by f (marked_of marks (drop i window)) ≡ f (get_or window i 0) + sum_by f (marked_of (set marks (get_or window i 0) false) (drop (i + 1) window))
      clean-sum f =
          sum-marked-less f marks (drop i window) (get_or window i 0) (once-drop i window once) first-there mark inside
          ∙ ap (λ (xs : List ℕ). f (get_or window i 0) + sum_by f xs) (skipped (set marks (get_or window i 0) false) unmarked)

      pub clean-waiting : (after : List ℕ) → ((t : ℕ) → t < nodes → get_or after t 0 + count_between es (get_or window i 0) t ≡ get_or waiting t 0) → IsWaiting es nodes (drop (i + 1) window) after (set marks (get_or window i 0) false)
      clean-waiting after less = record {
        only = λ t still. elim (cases_eq t (get_or window i 0)) [
          | inl same ↦ absurd (false≢true (sym (ap (is_marked (set marks (get_or window i 0) false)) same ∙ unmarked) ∙ still))
          | inr other ↦ other-there t other (w.only t (sym (get_or-set_other marks (get_or window i 0) t false false other) ∙ still))
        ];
        counted = λ t below.
            let before = w.counted t below in
            let step = less t below in
            let more = clean-sum (λ m. count_between es m t) in
            omega (arith, before, step, more);
      }
