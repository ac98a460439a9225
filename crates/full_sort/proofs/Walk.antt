-- A walk over the edges from a node, the last added first: which edges are behind it.
use Rattle.std.proofs.Common.{◌≡◌, ◌≢◌, ◌∙◌, ℕ, zero, suc, ◌+◌, ◌-◌, ◌<◌, ◌≤◌, List, [], length, get_or, drop, Option, Some, None, Bool, false, cond, eqb, refl, ap, subst, arith, ne_eqb, add-zero, add-one, ◌&&◌}
use Rattle.std.specs.Prelude.{count_by, is_some}
use Rattle.std.proofs.lemmas.List.{drop_all}
use Rattle.std.proofs.lemmas.List.Sums.{sum_by-drop_more, sum_by-take-drop}
use Rattle.std.proofs.lemmas.Bool.{eq-eqb, and_left}
use Rattle.digraph.specs.Digraph.{source_of, target_of, NoneHas, IsLastOut, out_degree}
use Rattle.full_sort.specs.Waiting.{count_between}

-- all edges of the node from here on are behind the walk
abbrev pub walk_start : Option ℕ → ℕ
walk_start None = 0
walk_start (Some e) = suc e

-- the walk stands at an edge of the node, or at its end
abbrev pub IsWalk : List (ℕ × ℕ) → ℕ → Option ℕ → Type 0
IsWalk es n None = Unit {0}
IsWalk es n (Some e) = (e < length es) × (source_of es e ≡ n)

-- one where an edge is given
abbrev pub given : Option ℕ → ℕ
given r = cond (is_some r) 1 0

abbrev one_if : Bool → ℕ
one_if b = cond b 1 0

-- a count passes over what fails the test
count-skip : (p : ℕ × ℕ → Bool) (es : List (ℕ × ℕ)) (m k : ℕ) → k + m ≤ length es → ((e : ℕ) → k ≤ e → e < k + m → p (get_or es e (0, 0)) ≡ false) → count_by p (drop k es) ≡ count_by p (drop (k + m) es)
count-skip p es zero k short fails = rw add-zero refl
count-skip p es (suc m) k short fails =
    let same : k + 1 + m ≡ k + suc m = omega arith in
    let here : p (get_or es k (0, 0)) ≡ false = fails k (omega arith) (omega arith) in
    let first : count_by p (drop k es) ≡ one_if (p (get_or es k (0, 0))) + count_by p (drop (k + 1) es) = sum_by-drop_more (λ x. cond (p x) 1 0) es k (0, 0) (omega (arith, short)) in
    let fail : one_if (p (get_or es k (0, 0))) ≡ 0 = rw here refl in
    let rest : count_by p (drop (k + 1) es) ≡ count_by p (drop (k + suc m) es) = subst (λ (j : ℕ). count_by p (drop (k + 1) es) ≡ count_by p (drop j es)) same
    (count-skip p es m (k + 1) (omega (arith, short)) (λ e low high. fails e (omega (arith, low)) (omega (arith, high)))) in
    omega (arith, first, fail, rest)

module _ (p : ℕ × ℕ → Bool) (es : List (ℕ × ℕ)) (n : ℕ) (others : (e : ℕ) → source_of es e ≢ n → p (get_or es e (0, 0)) ≡ false) where
  count-none : (k bound : ℕ) → k ≤ bound → bound ≤ length es → NoneHas (source_of es) n k bound → count_by p (drop k es) ≡ count_by p (drop bound es)
  count-none k bound le short none =
      let m : ℕ = bound - k in
      let same : k + m ≡ bound = omega (arith, le) in
      subst (λ (j : ℕ). count_by p (drop k es) ≡ count_by p (drop j es)) same
      (count-skip p es m k (omega (arith, same, short)) (λ e low high. others e (none e low (omega (arith, high, same)))))

  count-start : (bound : ℕ) (r : Option ℕ) → bound ≤ length es → IsLastOut es n bound r → count_by p (drop (walk_start r) es) ≡ count_by p (drop bound es)
  count-start bound None short last = count-none 0 bound (omega arith) short last
  count-start bound (Some e) short last = count-none (suc e) bound (let below = last.0 in omega (arith, below)) short last.2

-- the tests of the two counts fail at edges of other nodes
fails-between : (es : List (ℕ × ℕ)) (n t e : ℕ) → source_of es e ≢ n → (eqb (source_of es e) n && eqb (target_of es e) t) ≡ false
fails-between es n t e ne = and_left _ _ (ne_eqb (source_of es e) n ne)

fails-from : (es : List (ℕ × ℕ)) (n e : ℕ) → source_of es e ≢ n → eqb (source_of es e) n ≡ false
fails-from es n e ne = ne_eqb (source_of es e) n ne

walk-from : (es : List (ℕ × ℕ)) (n bound : ℕ) (r : Option ℕ) → bound ≤ length es → IsLastOut es n bound r → IsWalk es n r
walk-from es n bound None short last = tt
walk-from es n bound (Some e) short last = let below = last.0 in (omega (arith, below, short), last.1)

-- the walk begins: nothing is behind it
module _ (es : List (ℕ × ℕ)) (n : ℕ) (r : Option ℕ) (last : IsLastOut es n (length es) r) where
  pub begin-walk : IsWalk es n r
  begin-walk = walk-from es n (length es) r (omega arith) last

  pub begin-between : (t : ℕ) → count_between (drop (walk_start r) es) n t ≡ 0
  begin-between t =
      let e = count-start (λ x. eqb x.0 n && eqb x.1 t) es n (fails-between es n t) (length es) r (omega arith) last in
      let whole : drop (length es) es ≡ [] = drop_all (length es) es (omega arith) in
      e ∙ ap (λ (xs : List (ℕ × ℕ)). count_between xs n t) whole

  pub begin-from : out_degree (drop (walk_start r) es) n ≡ 0
  begin-from =
      let e = count-start (λ x. eqb x.0 n) es n (fails-from es n) (length es) r (omega arith) last in
      let whole : drop (length es) es ≡ [] = drop_all (length es) es (omega arith) in
      e ∙ ap (λ (xs : List (ℕ × ℕ)). out_degree xs n) whole

-- the walk stands at the edge e
module _ (es : List (ℕ × ℕ)) (n e : ℕ) (here : IsWalk es n (Some e)) where
  pub first-from : out_degree (drop e es) n ≡ out_degree (drop (suc e) es) n + 1
  first-from =
      let first = sum_by-drop_more (λ x. one_if (eqb x.0 n)) es e (0, 0) here.0 in
      let yes : one_if (eqb (source_of es e) n) ≡ 1 = rw (eq-eqb (source_of es e) n here.1) refl in
      let at : out_degree (drop e es) n ≡ 1 + out_degree (drop (e + 1) es) n = first ∙ ap (λ (m : ℕ). m + out_degree (drop (e + 1) es) n) yes in
      let suc_is : out_degree (drop (e + 1) es) n ≡ out_degree (drop (suc e) es) n = ap (λ (m : ℕ). out_degree (drop m es) n) (add-one e) in
      omega (arith, at, suc_is)

  pub first-between : (t : ℕ) → count_between (drop e es) n t ≡ one_if (eqb (target_of es e) t) + count_between (drop (suc e) es) n t
  first-between t =
      let first = sum_by-drop_more (λ x. one_if (eqb x.0 n && eqb x.1 t)) es e (0, 0) here.0 in
      let yes : one_if (eqb (source_of es e) n && eqb (target_of es e) t) ≡ one_if (eqb (target_of es e) t) = rw (eq-eqb (source_of es e) n here.1) refl in
      let suc_is : count_between (drop (e + 1) es) n t ≡ count_between (drop (suc e) es) n t = ap (λ (m : ℕ). count_between (drop m es) n t) (add-one e) in
      first ∙ ap (λ (m : ℕ). m + count_between (drop (e + 1) es) n t) yes ∙ ap (λ (m : ℕ). one_if (eqb (target_of es e) t) + m) suc_is

  pub first-target : count_between (drop e es) n (target_of es e) ≡ count_between (drop (suc e) es) n (target_of es e) + 1
  first-target =
      let first = first-between (target_of es e) in
      let yes : one_if (eqb (target_of es e) (target_of es e)) ≡ 1 = rw (eq-eqb (target_of es e) (target_of es e) refl) refl in
      omega (arith, first, yes)

  -- and goes on to the one added before
  module _ (r : Option ℕ) (last : IsLastOut es n e r) where
    pub next-walk : IsWalk es n r
    next-walk = walk-from es n e r (let below = here.0 in omega (arith, below)) last

    pub next-from : out_degree (drop (walk_start r) es) n ≡ out_degree (drop (suc e) es) n + 1
    next-from = count-start (λ x. eqb x.0 n) es n (fails-from es n) e r (let below = here.0 in omega (arith, below)) last ∙ first-from

    skip-between : (t : ℕ) → count_between (drop (walk_start r) es) n t ≡ count_between (drop e es) n t
    skip-between t = count-start (λ x. eqb x.0 n && eqb x.1 t) es n (fails-between es n t) e r (let below = here.0 in omega (arith, below)) last

    pub next-target : count_between (drop (walk_start r) es) n (target_of es e) ≡ count_between (drop (suc e) es) n (target_of es e) + 1
    next-target = skip-between (target_of es e) ∙ first-target

    pub next-other : (t : ℕ) → target_of es e ≢ t → count_between (drop (walk_start r) es) n t ≡ count_between (drop (suc e) es) n t
    next-other t ne =
        let skip = skip-between t in
        let first = first-between t in
        let fail : one_if (eqb (target_of es e) t) ≡ 0 = rw (ne_eqb (target_of es e) t ne) refl in
        omega (arith, skip, first, fail)

-- what is behind the walk is among all
pub behind-le : (es : List (ℕ × ℕ)) (n t k : ℕ) → count_between (drop k es) n t ≤ count_between es n t
behind-le es n t k =
    let whole = sum_by-take-drop (λ x. cond (eqb x.0 n && eqb x.1 t) 1 0) es k in
    omega (arith, whole)
