-- How many edges a walk over the edges of a node has passed.
use Rattle.std.proofs.Common.{◌≡◌, ◌∙◌, ℕ, zero, suc, ◌+◌, ◌-◌, ◌≤◌, List, length, get_or, take, Option, Some, None, eqb, refl, ap, subst, arith, ne_eqb, add-zero, add-one}
use Rattle.std.specs.Prelude.{count_by}
use Rattle.std.proofs.lemmas.List.{take_all}
use Rattle.std.proofs.lemmas.List.Sums.{count_by_more_no, count_by_more_yes}
use Rattle.std.proofs.lemmas.Bool.{eq-eqb}
use Rattle.digraph.specs.Digraph.{IsLastBelow, NoneHas}
use Rattle.full_sort.proofs.Walk.{given}

-- the edges of the node below a number, where a walk stands at that edge
abbrev pub with_key : (ℕ × ℕ → ℕ) → List (ℕ × ℕ) → ℕ → ℕ → ℕ
with_key key es node bound = count_by (λ x. eqb (key x) node) (take bound es)

abbrev pub ahead : (ℕ × ℕ → ℕ) → List (ℕ × ℕ) → ℕ → Option ℕ → ℕ
ahead key es node None = 0
ahead key es node (Some e) = with_key key es node e

module _ (key : ℕ × ℕ → ℕ) (es : List (ℕ × ℕ)) (node : ℕ) where
  passed : (m k : ℕ) → k + m ≤ length es → NoneHas (λ e. key (get_or es e (0, 0))) node k (k + m) → with_key key es node (k + m) ≡ with_key key es node k
  passed zero k short none = rw add-zero refl
  passed (suc m) k short none =
      let same : k + m + 1 ≡ k + suc m = omega arith in
      let here : with_key key es node (k + m + 1) ≡ with_key key es node (k + m) =
      count_by_more_no (λ x. eqb (key x) node) es (k + m) (0, 0) (omega (arith, short)) (ne_eqb (key (get_or es (k + m) (0, 0))) node (none (k + m) (omega arith) (omega arith))) in
      subst (λ (j : ℕ). with_key key es node j ≡ with_key key es node k) same
      (here ∙ passed m k (omega (arith, short)) (λ e low high. none e low (omega (arith, high))))

  -- the edges below a number are the last of them and those ahead of it
  pub ahead-last : (bound : ℕ) (r : Option ℕ) → bound ≤ length es → IsLastBelow (λ e. key (get_or es e (0, 0))) node bound r → with_key key es node bound ≡ ahead key es node r + given r
  ahead-last bound None short last =
      let whole : 0 + bound ≡ bound = omega arith in
      let none : with_key key es node bound ≡ with_key key es node 0 = subst (λ (j : ℕ). with_key key es node j ≡ with_key key es node 0) whole
      (passed bound 0 (omega (arith, short)) (λ k low high. last k low (omega (arith, high)))) in
      omega (arith, none)
  ahead-last bound (Some e) short last =
      let below = last.0 in
      let m : ℕ = bound - suc e in
      let same : suc e + m ≡ bound = omega (arith, below) in
      let behind : with_key key es node bound ≡ with_key key es node (suc e) = subst (λ (j : ℕ). with_key key es node j ≡ with_key key es node (suc e)) same
      (passed m (suc e) (omega (arith, same, short)) (λ k low high. last.2 k low (omega (arith, high, same)))) in
      let one : with_key key es node (e + 1) ≡ with_key key es node e + 1 = count_by_more_yes (λ x. eqb (key x) node) es e (0, 0) (omega (arith, below, short)) (eq-eqb (key (get_or es e (0, 0))) node last.1) in
      let suc_is : with_key key es node (e + 1) ≡ with_key key es node (suc e) = ap (λ (j : ℕ). with_key key es node j) (add-one e) in
      omega (arith, behind, one, suc_is)

  pub with_key-all : with_key key es node (length es) ≡ count_by (λ x. eqb (key x) node) es
  with_key-all = ap (λ (xs : List (ℕ × ℕ)). count_by (λ x. eqb (key x) node) xs) (take_all (length es) es (omega arith))

  -- a walk begins, and goes on
  pub ticks-begin : (old new bound : ℕ) (r : Option ℕ) → bound ≤ length es → IsLastBelow (λ e. key (get_or es e (0, 0))) node bound r → new ≡ old + given r → new + ahead key es node r ≡ old + with_key key es node bound
  ticks-begin old new bound r short last ticks = let parts = ahead-last bound r short last in omega (arith, parts, ticks)

  pub ticks-on : (old now new total edge : ℕ) (next r : Option ℕ) → next ≡ Some edge → edge ≤ length es → key (get_or es edge (0, 0)) ≡ node →
      IsLastBelow (λ e. key (get_or es e (0, 0))) (key (get_or es edge (0, 0))) edge r → now + ahead key es node next ≡ old + total → new ≡ now + given r → new + ahead key es node r ≡ old + total
  ticks-on old now new total edge next r is short own last before ticks =
      let at : now + with_key key es node edge ≡ old + total = subst (λ (o : Option ℕ). now + ahead key es node o ≡ old + total) is before in
      let parts = ahead-last edge r short (subst (λ (n : ℕ). IsLastBelow (λ e. key (get_or es e (0, 0))) n edge r) own last) in
      omega (arith, at, parts, ticks)
