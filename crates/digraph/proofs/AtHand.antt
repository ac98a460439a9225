-- One edge more, and one less, in the arrays of what is at hand.
use Rattle.std.proofs.Common.{◌≡◌, ◌≢◌, ◌∙◌, ℕ, ◌+◌, ◌*◌, ◌<◌, ◌≤◌, List, [], ◌∷◌, ◌++◌, length, get_or, set, map, min, eqb, refl, sym, ap, subst, arith, inl, inr, get_or-set_same, get_or-set_other, ne_eqb}
use Rattle.std.specs.Prelude.{filter, replicate}
use Rattle.std.proofs.Math.Nat.{min-eq_left, min-eq_right}
use Rattle.std.proofs.lemmas.Bool.{cases_eq, cases_lt, eq-eqb}
use Rattle.std.proofs.lemmas.List.{length-set, length-map, length-replicate, get_or_past, get_or-replicate, map-append, append-nil, get_or_append_left, get_or-append_right, length-append}
use Rattle.std.proofs.lemmas.List.Elements.{filter-append}
use Rattle.std.proofs.lemmas.List.Sums.{length-filter, sum_by_push}
use Rattle.digraph.specs.AtHand.{TellAtHand, HasNear, HasDegrees}
use Rattle.digraph.specs.Digraph.{in_degree, out_degree, targets_from}

-- as many targets as edges
pub length-targets : (es : List (ℕ × ℕ)) (node : ℕ) → length (targets_from es node) ≡ out_degree es node
length-targets es node = length-map {A = ℕ × ℕ} (filter (λ e. eqb e.0 node) es) (λ e. e.1) ∙ length-filter (λ e. eqb e.0 node) es

-- an edge at the end
module _ (es : List (ℕ × ℕ)) (a b : ℕ) where
  pub targets-push_same : (node : ℕ) → node ≡ a → targets_from (es ++ (a, b) ∷ []) node ≡ targets_from es node ++ b ∷ []
  targets-push_same node same =
      ap (map (λ (e : ℕ × ℕ). e.1)) (filter-append (λ e. eqb e.0 node) es ((a, b) ∷ []))
      ∙ map-append (λ (e : ℕ × ℕ). e.1) (filter (λ e. eqb e.0 node) es) (filter (λ e. eqb e.0 node) ((a, b) ∷ []))
      ∙ rw (eq-eqb a node (sym same)) refl

  pub targets-push_other : (node : ℕ) → node ≢ a → targets_from (es ++ (a, b) ∷ []) node ≡ targets_from es node
  targets-push_other node other =
      ap (map (λ (e : ℕ × ℕ). e.1)) (filter-append (λ e. eqb e.0 node) es ((a, b) ∷ []))
      ∙ map-append (λ (e : ℕ × ℕ). e.1) (filter (λ e. eqb e.0 node) es) (filter (λ e. eqb e.0 node) ((a, b) ∷ []))
      ∙ rw (ne_eqb a node (λ same. other (sym same))) (append-nil (targets_from es node))

  pub out-push_same : out_degree (es ++ (a, b) ∷ []) a ≡ out_degree es a + 1
  out-push_same = sum_by_push _ es (a, b) ∙ rw (eq-eqb a a refl) refl

  pub out-push_other : (node : ℕ) → node ≢ a → out_degree (es ++ (a, b) ∷ []) node ≡ out_degree es node
  out-push_other node other = sum_by_push _ es (a, b) ∙ rw (ne_eqb a node (λ same. other (sym same))) (omega arith)

  pub in-push_same : in_degree (es ++ (a, b) ∷ []) b ≡ in_degree es b + 1
  in-push_same = sum_by_push _ es (a, b) ∙ rw (eq-eqb b b refl) refl

  pub in-push_other : (node : ℕ) → node ≢ b → in_degree (es ++ (a, b) ∷ []) node ≡ in_degree es node
  in-push_other node other = sum_by_push _ es (a, b) ∙ rw (ne_eqb b node (λ same. other (sym same))) (omega arith)

-- a degree more, and one less
module _ (n : ℕ) (before after : ℕ → ℕ) (counts : List ℕ) (node : ℕ) (lt : node < n) (others : (m : ℕ) → m ≢ node → after m ≡ before m) where
  pub degrees-set : (count : ℕ) → count ≡ after node → HasDegrees n before counts → HasDegrees n after (set counts node count)
  degrees-set count is h = record {
    long = length-set counts node count ∙ h.long;
    at = λ m below. elim (cases_eq m node) [
      | inl same ↦ subst (λ (k : ℕ). get_or (set counts node count) k 0 ≡ after k) (sym same) (let whole = h.long in get_or-set_same counts node count 0 (omega (arith, lt, whole)) ∙ is)
      | inr other ↦ get_or-set_other counts node m count 0 other ∙ h.at m below ∙ sym (others m other)
    ];
  }

-- the places of two nodes are apart
place-node : (a b j k : ℕ) → j < 4 → k < 4 → 4 * a + j ≡ 4 * b + k → a ≡ b
place-node a b j k lt low same = omega (arith, lt, low, same)

place-few : (count : ℕ) → min count 3 < 4
place-few count = elim (cases_lt count 3) [
  | inl lt ↦ rw (min-eq_left {n = count} {m = 3} (omega (arith, lt))) (omega (arith, lt))
  | inr ge ↦ rw (min-eq_right {n = 3} {m = count} (omega (arith, ge))) (omega arith)
]

-- the place of another target of the same node
place-other : (a count k : ℕ) → k < 3 → k ≢ count → 4 * a + k ≢ 4 * a + min count 3
place-other a count k lt other same = elim (cases_lt count 3) [
  | inl low ↦ other (subst (λ (m : ℕ). k ≡ m) (min-eq_left {n = count} {m = 3} (omega (arith, low))) (omega (arith, same)))
  | inr ge ↦ let at : k ≡ 3 = subst (λ (m : ℕ). k ≡ m) (min-eq_right {n = 3} {m = count} (omega (arith, ge))) (omega (arith, same)) in omega (arith, lt, at)
]

place-here : (a k : ℕ) → k < 3 → 4 * a + min k 3 ≡ 4 * a + k
place-here a k lt = ap (λ (m : ℕ). 4 * a + m) (min-eq_left {n = k} {m = 3} (omega (arith, lt)))

-- a value is put at the place for one target more of a node
module _ (n : ℕ) (near : List ℕ) (long : length near ≡ 4 * n) (a count value : ℕ) (lt : a < n) where
  placed : List ℕ
  placed = set near (4 * a + min count 3) value

  pub placed-long : length (set near (4 * a + min count 3) value) ≡ 4 * n
  placed-long = length-set near (4 * a + min count 3) value ∙ long

  pub placed-here : (k : ℕ) → k < 3 → k ≡ count → get_or (set near (4 * a + min count 3) value) (4 * a + k) 0 ≡ value
  placed-here k low same =
      let at : 4 * a + k ≡ 4 * a + min count 3 = subst (λ (m : ℕ). 4 * a + k ≡ 4 * a + min m 3) same (sym (place-here a k low)) in
      rw at (get_or-set_same near (4 * a + min count 3) value 0 (let few = place-few count in omega (arith, few, long, lt)))

  pub placed-other : (node k : ℕ) → k < 3 → (node ≡ a → k ≢ count) → get_or (set near (4 * a + min count 3) value) (4 * node + k) 0 ≡ get_or near (4 * node + k) 0
  placed-other node k low other =
      get_or-set_other near (4 * a + min count 3) (4 * node + k) value 0 (λ same.
      let one : node ≡ a = place-node node a k (min count 3) (omega (arith, low)) (place-few count) same in
      place-other a count k low (other one) (subst (λ (m : ℕ). 4 * m + k ≡ 4 * a + min count 3) one same))

-- one target more, and one less
module _ (n : ℕ) (es : List (ℕ × ℕ)) (a b : ℕ) (near : List ℕ) (lt : a < n) where
  pub near-push : HasNear n es near → HasNear n (es ++ (a, b) ∷ []) (set near (4 * a + min (out_degree es a) 3) b)
  near-push h = record {
    long = placed-long n near h.long a (out_degree es a) b lt;
    at = λ node k below low. elim (cases_eq node a) [
      | inl same ↦
          subst (λ (m : ℕ). get_or (set near (4 * a + min (out_degree es a) 3) b) (4 * m + k) 0 ≡ get_or (targets_from (es ++ (a, b) ∷ []) m) k n) (sym same)
          (rw (targets-push_same es a b a refl)
          (let size = length-targets es a in
          elim (cases_eq k (out_degree es a)) [
            | inl last ↦
                placed-here n near h.long a (out_degree es a) b lt k low last
                ∙ sym (get_or-append_right (targets_from es a) (b ∷ []) (length (targets_from es a)) k n refl (omega (arith, last, size))
                ∙ ap (λ (i : ℕ). get_or (b ∷ []) i n) {y = 0} (omega (arith, last, size)))
            | inr other ↦
                placed-other n near h.long a (out_degree es a) b lt a k low (λ _. other)
                ∙ h.at a k lt low
                ∙ elim (cases_lt k (out_degree es a)) [
                  | inl less ↦ sym (get_or_append_left (targets_from es a) (b ∷ []) n k (omega (arith, less, size)))
                  | inr more ↦
                      get_or_past (targets_from es a) k n (omega (arith, more, size))
                      ∙ sym (get_or_past (targets_from es a ++ b ∷ []) k n (let both = length-append (targets_from es a) (b ∷ []) in omega (arith, more, other, size, both)))
                ]
          ]))
      | inr other ↦
          rw (targets-push_other es a b node other)
          (placed-other n near h.long a (out_degree es a) b lt node k low (λ same. absurd (other same)) ∙ h.at node k below low)
    ];
  }

  pub near-pop : HasNear n (es ++ (a, b) ∷ []) near → HasNear n es (set near (4 * a + min (out_degree es a) 3) n)
  near-pop h = record {
    long = placed-long n near h.long a (out_degree es a) n lt;
    at = λ node k below low. elim (cases_eq node a) [
      | inl same ↦
          subst (λ (m : ℕ). get_or (set near (4 * a + min (out_degree es a) 3) n) (4 * m + k) 0 ≡ get_or (targets_from es m) k n) (sym same)
          (let size = length-targets es a in
          elim (cases_eq k (out_degree es a)) [
            | inl last ↦
                placed-here n near h.long a (out_degree es a) n lt k low last
                ∙ sym (get_or_past (targets_from es a) k n (omega (arith, last, size)))
            | inr other ↦
                placed-other n near h.long a (out_degree es a) n lt a k low (λ _. other)
                ∙ h.at a k lt low
                ∙ rw (targets-push_same es a b a refl)
                (elim (cases_lt k (out_degree es a)) [
                  | inl less ↦ get_or_append_left (targets_from es a) (b ∷ []) n k (omega (arith, less, size))
                  | inr more ↦
                      get_or_past (targets_from es a ++ b ∷ []) k n (let both = length-append (targets_from es a) (b ∷ []) in omega (arith, more, other, size, both))
                      ∙ sym (get_or_past (targets_from es a) k n (omega (arith, more, size)))
                ])
          ])
      | inr other ↦
          placed-other n near h.long a (out_degree es a) n lt node k low (λ same. absurd (other same))
          ∙ h.at node k below low
          ∙ ap (λ (xs : List ℕ). get_or xs k n) (targets-push_other es a b node other)
    ];
  }

-- no edge yet
pub near-begin : (n : ℕ) → HasNear n [] (replicate (4 * n) n)
near-begin n = record {
  long = length-replicate (4 * n) n;
  at = λ node k below low. get_or-replicate (4 * n) (4 * node + k) n 0 (omega (arith, below, low));
}

pub degrees-begin : (n : ℕ) (degree : ℕ → ℕ) → ((m : ℕ) → degree m ≡ 0) → HasDegrees n degree (replicate n 0)
degrees-begin n degree none = record {
  long = length-replicate n 0;
  at = λ node below. get_or-replicate n node 0 0 below ∙ sym (none node);
}

-- an edge more in all arrays
pub at_hand-push : (n : ℕ) (es : List (ℕ × ℕ)) (near outs ins : List ℕ) → TellAtHand n es near outs ins → (a b : ℕ) → a < n → b < n →
    TellAtHand n (es ++ (a, b) ∷ []) (set near (4 * a + min (get_or outs a 0) 3) b) (set outs a (get_or outs a 0 + 1)) (set ins b (get_or ins b 0 + 1))
at_hand-push n es near outs ins h a b from to =
    let degree : get_or outs a 0 ≡ out_degree es a = h.outs.at a from in
    let into : get_or ins b 0 ≡ in_degree es b = h.ins.at b to in
    record {
      near = rw degree (near-push n es a b near from h.near);
      outs = degrees-set n (out_degree es) (out_degree (es ++ (a, b) ∷ [])) outs a from (out-push_other es a b) (get_or outs a 0 + 1)
          (let same = out-push_same es a b in omega (arith, same, degree)) h.outs;
      ins = degrees-set n (in_degree es) (in_degree (es ++ (a, b) ∷ [])) ins b to (in-push_other es a b) (get_or ins b 0 + 1)
          (let same = in-push_same es a b in omega (arith, same, into)) h.ins;
    }

-- one count is raised by one
pub raised : (counts : List ℕ) (a : ℕ) → a < length counts → (node : ℕ) → get_or (set counts a (get_or counts a 0 + 1)) node 0 ≤ get_or counts node 0 + 1
raised counts a lt node = elim (cases_eq node a) [
  | inl same ↦
      let at = get_or-set_same counts a (get_or counts a 0 + 1) 0 lt in
      subst (λ (k : ℕ). get_or (set counts a (get_or counts a 0 + 1)) k 0 ≤ get_or counts k 0 + 1) (sym same) (omega (arith, at))
  | inr other ↦ let at = get_or-set_other counts a node (get_or counts a 0 + 1) 0 other in omega (arith, at)
]
