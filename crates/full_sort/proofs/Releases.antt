-- What the release of a node's targets leaves.
use Rattle.std.proofs.Common.{◌≡◌, ◌≢◌, ◌∙◌, ◌↔◌, ◌⊎◌, ℕ, ◌+◌, ◌-◌, ◌<◌, ◌≤◌, List, [], ◌∷◌, ◌++◌, All, Bool, true, cond, eqb, ◌&&◌, Option, Some, None, length, get_or, set, take, drop, map, refl, sym, ap, subst, arith, inl, inr, ⊎_elim, get_or-set_same, get_or-set_other, ne_eqb, take-append-drop}
use Rattle.std.specs.Prelude.{filter}
use Rattle.std.proofs.lemmas.Bool.{cases_eq, cases_lt, cases_Bool, eq-eqb}
use Rattle.std.proofs.lemmas.List.{map-append, drop_at, get_or_past}
use Rattle.std.proofs.lemmas.List.Elements.{filter-append, All-head, All-tail, All-cons, All-get_or}
use Rattle.std.proofs.lemmas.List.Sums.{sum_by-cons, sum_by-take-drop, count_by_more_yes, count_by_more_no}
use Rattle.digraph.proofs.AtHand.{length-targets}
use Rattle.digraph.specs.Digraph.{out_degree, targets_from}
use Rattle.full_sort.specs.Ready.{GainsFreed, times_in}
use Rattle.full_sort.specs.Waiting.{count_between, is_marked}
use Rattle.full_sort.proofs.Walk.{walk_start}

abbrev one_if : Bool → ℕ
one_if b = cond b 1 0

-- one target waits for one edge less
module _ (H0 H after : ℕ → Type 0) (marks : List Bool) (w0 ws : List ℕ) (x : ℕ) (inside : x < length ws) (some : 1 ≤ get_or ws x 0) (le : get_or ws x 0 ≤ get_or w0 x 0) where
  pub gained-step : GainsFreed H0 H marks w0 ws → ((t : ℕ) → after t ↔ (H t ⊎ ((t ≡ x) × (get_or ws x 0 ≡ 1) × (is_marked marks x ≡ true)))) → GainsFreed H0 after marks w0 (set ws x (get_or ws x 0 - 1))
  gained-step gained step t = elim (cases_eq t x) [
    | inl same ↦
        let written = get_or-set_same ws x (get_or ws x 0 - 1) 0 inside in
        subst (λ (m : ℕ). after m ↔ (H0 m ⊎ ((get_or w0 m 0 ≢ 0) × (get_or (set ws x (get_or ws x 0 - 1)) m 0 ≡ 0) × (is_marked marks m ≡ true)))) (sym same) (
          (λ h. ⊎_elim
              (λ b. ⊎_elim (λ c. inl c) (λ f. let zeros = f.1 in absurd (omega (arith, zeros, some))) ((gained x).0 b))
              (λ f. let one = f.1 in inr ((λ zeros. omega (arith, zeros, some, le)), omega (arith, written, one), f.2))
              ((step x).0 h)),
          (λ h. (step x).1 (⊎_elim (λ b. inl ((gained x).1 (inl b))) (λ f. let zeros = f.1 in inr (refl, omega (arith, zeros, written, some), f.2)) h)),
        )
    | inr other ↦
        let kept = get_or-set_other ws x t (get_or ws x 0 - 1) 0 other in (
          (λ h. ⊎_elim (λ b. ⊎_elim (λ c. inl c) (λ f. inr (f.0, kept ∙ f.1, f.2)) ((gained t).0 b)) (λ f. absurd (other f.0)) ((step t).0 h)),
          (λ h. (step t).1 (inl ((gained t).1 (⊎_elim (λ c. inl c) (λ f. inr (f.0, sym kept ∙ f.1, f.2)) h)))),
        )
  ]

-- as often as edges lead to a node it stands among the targets
pub targets-between : (es : List (ℕ × ℕ)) (node t : ℕ) → times_in (targets_from es node) t ≡ count_between es node t
targets-between [] node t = refl
targets-between (x ∷ es) node t =
    let rest = targets-between es node t in
    let right = sum_by-cons (λ e. one_if (eqb e.0 node && eqb e.1 t)) x es in
    elim (cases_Bool (eqb x.0 node)) [
      | inl holds ↦
          let whole : targets_from (x ∷ es) node ≡ x.1 ∷ targets_from es node = rw holds refl in
          let left = sum_by-cons (λ y. one_if (eqb y t)) x.1 (targets_from es node) in
          let all = ap (λ (xs : List ℕ). times_in xs t) whole in
          let here : one_if (eqb x.0 node && eqb x.1 t) ≡ one_if (eqb x.1 t) = rw holds refl in
          omega (arith, rest, right, left, all, here)
      | inr fails ↦
          let whole : targets_from (x ∷ es) node ≡ targets_from es node = rw fails refl in
          let all = ap (λ (xs : List ℕ). times_in xs t) whole in
          let here : one_if (eqb x.0 node && eqb x.1 t) ≡ 0 = rw fails refl in
          omega (arith, rest, right, all, here)
    ]

pub targets-append : (es fs : List (ℕ × ℕ)) (node : ℕ) → targets_from (es ++ fs) node ≡ targets_from es node ++ targets_from fs node
targets-append es fs node =
    ap (map (λ (e : ℕ × ℕ). e.1)) (filter-append (λ e. eqb e.0 node) es fs)
    ∙ map-append (λ (e : ℕ × ℕ). e.1) (filter (λ e. eqb e.0 node) es) (filter (λ e. eqb e.0 node) fs)

-- the targets behind the first three are those of the last edges
pub far-between : (es : List (ℕ × ℕ)) (node e : ℕ) → length (targets_from (take e es) node) ≡ 3 → (t : ℕ) → count_between (drop e es) node t ≡ times_in (drop 3 (targets_from es node)) t
far-between es node e three t =
    let near : List ℕ = targets_from (take e es) node in
    let parts : targets_from es node ≡ near ++ targets_from (drop e es) node =
    ap (λ (xs : List (ℕ × ℕ)). targets_from xs node) (sym (take-append-drop e es)) ∙ targets-append (take e es) (drop e es) node in
    let behind : drop 3 (near ++ targets_from (drop e es) node) ≡ targets_from (drop e es) node =
    subst (λ (n : ℕ). drop n (near ++ targets_from (drop e es) node) ≡ targets_from (drop e es) node) three (drop_at near (targets_from (drop e es) node) (length near) refl) in
    sym (targets-between (drop e es) node t) ∙ ap (λ (xs : List ℕ). times_in xs t) (sym (ap (drop 3) parts ∙ behind))

-- three are at hand where all but three are behind
pub three-near : (es : List (ℕ × ℕ)) (node e more : ℕ) → more + 3 ≡ out_degree es node → out_degree (drop e es) node ≡ more → length (targets_from (take e es) node) ≡ 3
three-near es node e more all far =
    let parts = sum_by-take-drop (λ x. one_if (eqb x.0 node)) es e in
    let size = length-targets (take e es) node in
    omega (arith, all, far, parts, size)

-- where fewer edges are behind a walk than there are, it stands at an edge
pub walk-goes_on : (es : List (ℕ × ℕ)) (node : ℕ) (next : Option ℕ) → out_degree (drop (walk_start next) es) node < out_degree es node → (e : ℕ) × (next ≡ Some e)
walk-goes_on es node None less = absurd (omega (arith, less))
walk-goes_on es node (Some e) less = (e, refl)

-- the three at hand
near-zero : (n t : ℕ) → t < n → one_if (eqb n t) ≡ 0
near-zero n t lt = rw (ne_eqb n t (λ same. omega (arith, lt, same))) refl

count-three : (a b c t : ℕ) → times_in (a ∷ b ∷ c ∷ []) t ≡ one_if (eqb a t) + one_if (eqb b t) + one_if (eqb c t)
count-three a b c t =
    let first = sum_by-cons (λ x. one_if (eqb x t)) a (b ∷ c ∷ []) in
    let second = sum_by-cons (λ x. one_if (eqb x t)) b (c ∷ []) in
    let third = sum_by-cons (λ x. one_if (eqb x t)) c [] in
    omega (arith, first, second, third)

count-two : (a b t : ℕ) → times_in (a ∷ b ∷ []) t ≡ one_if (eqb a t) + one_if (eqb b t)
count-two a b t =
    let first = sum_by-cons (λ x. one_if (eqb x t)) a (b ∷ []) in
    let second = sum_by-cons (λ x. one_if (eqb x t)) b [] in
    omega (arith, first, second)

count-one : (a t : ℕ) → times_in (a ∷ []) t ≡ one_if (eqb a t)
count-one a t = let first = sum_by-cons (λ x. one_if (eqb x t)) a [] in omega (arith, first)

padded : (T : List ℕ) (n t : ℕ) → t < n → times_in (get_or T 0 n ∷ get_or T 1 n ∷ get_or T 2 n ∷ []) t ≡ times_in (take 3 T) t
padded [] n t lt = let all = count-three n n n t in let zeros = near-zero n t lt in omega (arith, all, zeros)
padded (a ∷ []) n t lt = let all = count-three a n n t in let one = count-one a t in let zeros = near-zero n t lt in omega (arith, all, one, zeros)
padded (a ∷ b ∷ []) n t lt = let all = count-three a b n t in let two = count-two a b t in let zeros = near-zero n t lt in omega (arith, all, two, zeros)
padded (a ∷ b ∷ c ∷ T) n t lt = refl

explicit : (N : List ℕ) → length N ≡ 3 → N ≡ get_or N 0 0 ∷ get_or N 1 0 ∷ get_or N 2 0 ∷ []
explicit [] long = absurd (omega (arith, long))
explicit (a ∷ []) long = absurd (omega (arith, long))
explicit (a ∷ b ∷ []) long = absurd (omega (arith, long))
explicit (a ∷ b ∷ c ∷ []) long = refl
explicit (a ∷ b ∷ c ∷ d ∷ N) long = absurd (omega (arith, long))

module _ (T N : List ℕ) (n : ℕ) (long : length N ≡ 3) (at : (k : ℕ) → k < 3 → get_or N k 0 ≡ get_or T k n) where
  pub near-count : (t : ℕ) → t < n → times_in N t ≡ times_in (take 3 T) t
  near-count t lt =
      ap (λ (xs : List ℕ). times_in xs t)
      (explicit N long
      ∙ ap (λ (a : ℕ). a ∷ get_or N 1 0 ∷ get_or N 2 0 ∷ []) (at 0 (omega arith))
      ∙ ap (λ (b : ℕ). get_or T 0 n ∷ b ∷ get_or N 2 0 ∷ []) (at 1 (omega arith))
      ∙ ap (λ (c : ℕ). get_or T 0 n ∷ get_or T 1 n ∷ c ∷ []) (at 2 (omega arith)))
      ∙ padded T n t lt

  pub near-inside : All (λ x. x < n) T → (k : ℕ) → k < 3 → get_or N k 0 ≤ n
  near-inside inside k lt =
      subst (λ (x : ℕ). x ≤ n) (sym (at k lt))
      (elim (cases_lt k (length T)) [
        | inl low ↦ let below : get_or T k n < n = All-get_or (λ (x : ℕ). x < n) T k n low inside in omega (arith, below)
        | inr high ↦ rw (get_or_past T k n (omega (arith, high))) (omega arith)
      ])

-- each target is a node
pub targets-inside : (es : List (ℕ × ℕ)) (node n : ℕ) → All (λ e. (e.0 < n) × (e.1 < n)) es → All (λ x. x < n) (targets_from es node)
targets-inside [] node n h = λ i d lt. absurd (omega (arith, lt))
targets-inside (x ∷ es) node n h =
    let rest = targets-inside es node n (All-tail (λ (e : ℕ × ℕ). (e.0 < n) × (e.1 < n)) x es h) in
    let first = (All-head (λ (e : ℕ × ℕ). (e.0 < n) × (e.1 < n)) x es h).1 in
    elim (cases_Bool (eqb x.0 node)) [
      | inl holds ↦
          let whole : targets_from (x ∷ es) node ≡ x.1 ∷ targets_from es node = rw holds refl in
          subst (All (λ (x : ℕ). x < n)) (sym whole) (All-cons (λ (x : ℕ). x < n) x.1 (targets_from es node) first rest)
      | inr fails ↦
          let whole : targets_from (x ∷ es) node ≡ targets_from es node = rw fails refl in
          subst (All (λ (x : ℕ). x < n)) (sym whole) rest
    ]

-- one target more of a list is released
module _ (N : List ℕ) (i x : ℕ) (lt : i < length N) (at : x ≡ get_or N i 0) (n : ℕ) (w0 ws : List ℕ) (long : length ws ≡ n + 1)
    (counted : (t : ℕ) → t < n → get_or ws t 0 + times_in (take i N) t ≡ get_or w0 t 0) (enough : (t : ℕ) → t < n → times_in N t ≤ get_or w0 t 0) where
  here-more : times_in (take (i + 1) N) x ≡ times_in (take i N) x + 1
  here-more = count_by_more_yes (λ y. eqb y x) N i 0 lt (eq-eqb (get_or N i 0) x (sym at))

  pub list-some : x < n → 1 ≤ get_or ws x 0
  list-some inside =
      let so_far = counted x inside in
      let most = enough x inside in
      let more = here-more in
      let parts = sum_by-take-drop (λ y. one_if (eqb y x)) N (i + 1) in
      omega (arith, so_far, most, more, parts)

  pub list-less : x < n + 1 → (t : ℕ) → t < n → get_or (set ws x (get_or ws x 0 - 1)) t 0 + times_in (take (i + 1) N) t ≡ get_or w0 t 0
  list-less inside t below = elim (cases_eq t x) [
    | inl same ↦
        subst (λ (m : ℕ). get_or (set ws x (get_or ws x 0 - 1)) m 0 + times_in (take (i + 1) N) m ≡ get_or w0 m 0) (sym same)
        (let written = get_or-set_same ws x (get_or ws x 0 - 1) 0 (omega (arith, inside, long)) in
        let so_far = counted x (omega (arith, below, same)) in
        let some = list-some (omega (arith, below, same)) in
        let more = here-more in
        omega (arith, written, so_far, some, more))
    | inr other ↦
        let kept = get_or-set_other ws x t (get_or ws x 0 - 1) 0 other in
        let so_far = counted t below in
        let more = count_by_more_no (λ y. eqb y t) N i 0 lt (ne_eqb (get_or N i 0) t (λ same. other (sym (at ∙ same)))) in
        omega (arith, kept, so_far, more)
  ]

-- the targets are those at hand and those behind
pub parts-between : (es : List (ℕ × ℕ)) (node t : ℕ) → times_in (take 3 (targets_from es node)) t + times_in (drop 3 (targets_from es node)) t ≡ count_between es node t
parts-between es node t =
    let parts = sum_by-take-drop (λ x. one_if (eqb x t)) (targets_from es node) 3 in
    let all = targets-between es node t in
    omega (arith, parts, all)
