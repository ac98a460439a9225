-- A value put at its key in entries that rise.
use Rattle.std.proofs.Common.{◌≡◌, ◌∙◌, List, [], ◌∷◌, Bool, true, false, cond, refl, sym, ap}
use Rattle.std.specs.Prelude.{Option, Some, None}
use Rattle.std.specs.BTreeMap.{insert_entry, is_at}
use Rattle.std.specs.Cmp.{IsTotalOrder}
use Rattle.std.specs.List.{AllByRecursion}
use Rattle.std.specs.List.Sorted.{IsStrictlySortedBy}
use Rattle.std.specs.Map.{keys_of, lookup, set_value}
use Rattle.std.specs.Ordering.{is_eq, match_ordering, ordering_reverse}
use Rattle.std.specs.declared.cmp.Ordering.{Ordering}
use Rattle.std.specs.declared.cmp.Ordering.TheVariants.{Less, Equal, Greater}
use Rattle.std.proofs.lemmas.Cmp.{eq_by_cmp_equiv}
use Rattle.std.proofs.lemmas.Map.{lookup-none}
use Rattle.std.proofs.lemmas.Map.Entries.{none_below_head}
use Rattle.std.proofs.lemmas.Map.Keys.{sorted_tail}

-- a test that is asked again answers the same
asked_again : {A : Type 0} (b : Bool) (x y z : A) → cond b x z ≡ cond b x (cond b y z)
asked_again true x y z = refl
asked_again false x y z = refl

-- of two tests that don't both pass, either may come first
either_first : {A : Type 0} (a b : Bool) (x y z : A) → (a ≡ true → b ≡ true → ⊥) → cond a x (cond b y z) ≡ cond b y (cond a x z)
either_first true true x y z apart = absurd (apart refl refl)
either_first true false x y z apart = refl
either_first false b x y z apart = refl

equal : (r : Ordering) → is_eq r ≡ true → r ≡ Equal
equal Less e = cc
equal Equal e = refl
equal Greater e = cc

module _ {K X : Type 0} {R : K → K → Ordering} (o : IsTotalOrder R) (k : K) (v : X) where
  -- each key is above x
  abbrev AllAbove : K → List K → Type 0
  AllAbove x ks = AllByRecursion (λ y. R x y ≡ Less) ks

  above_too : (x y : K) (ks : List K) → R x y ≡ Less → AllAbove y ks → AllAbove x ks
  above_too x y [] e h = tt
  above_too x y (z ∷ zs) e h = (o.trans x y z e h.0, above_too x y zs e h.1)

  above-insert : (x : K) (es : List (K × X)) → R x k ≡ Less → AllAbove x (keys_of es) → AllAbove x (keys_of (insert_entry R es k v))
  above-insert x [] e h = (e, tt)
  above-insert x (f ∷ es) e h = by (R k f.0) (above-insert x es e h.1)
    where
      by : (r : Ordering) → AllAbove x (keys_of (insert_entry R es k v)) → AllAbove x (keys_of (match_ordering r ((k, v) ∷ f ∷ es) ((f.0, v) ∷ es) (f ∷ insert_entry R es k v)))
      by Less rest = (e, h)
      by Equal rest = h
      by Greater rest = (h.0, rest)

  -- the keys still rise
  pub sorted-insert_entry : (es : List (K × X)) → IsStrictlySortedBy R (keys_of es) → IsStrictlySortedBy R (keys_of (insert_entry R es k v))
  unfolding IsStrictlySortedBy
  sorted-insert_entry [] s = (tt, tt)
  sorted-insert_entry (f ∷ es) s = by (R k f.0) refl (sorted-insert_entry es s.1)
    where
      by : (r : Ordering) → R k f.0 ≡ r → IsStrictlySortedBy R (keys_of (insert_entry R es k v)) → IsStrictlySortedBy R (keys_of (match_ordering r ((k, v) ∷ f ∷ es) ((f.0, v) ∷ es) (f ∷ insert_entry R es k v)))
      by Less e rest = ((e, above_too k f.0 (keys_of es) e s.0), s)
      by Equal e rest = s
      by Greater e rest = (above-insert f.0 es (o.antisymm f.0 k ∙ ap ordering_reverse e) s.0, rest)

  module _ (q : K) where
    turned : is_eq (R q k) ≡ is_eq (R k q)
    turned = (eq_by_cmp_equiv o).symm q k

    -- what a look-up then gives
    pub lookup-insert_entry : (es : List (K × X)) → lookup (is_at (R q)) (insert_entry R es k v) ≡ cond (is_at (R k) q) (Some v) (lookup (is_at (R q)) es)
    lookup-insert_entry [] = ap (λ b. cond b (Some v) (lookup (is_at (R q)) [])) turned
    lookup-insert_entry (f ∷ es) = by (R k f.0) refl (lookup-insert_entry es)
      where
        by : (r : Ordering) → R k f.0 ≡ r
            → lookup (is_at (R q)) (insert_entry R es k v) ≡ cond (is_at (R k) q) (Some v) (lookup (is_at (R q)) es)
            → lookup (is_at (R q)) (match_ordering r ((k, v) ∷ f ∷ es) ((f.0, v) ∷ es) (f ∷ insert_entry R es k v)) ≡ cond (is_at (R k) q) (Some v) (lookup (is_at (R q)) (f ∷ es))
        by Less e rest = ap (λ b. cond b (Some v) (lookup (is_at (R q)) (f ∷ es))) turned
        by Equal e rest =
            let same : is_eq (R k q) ≡ is_eq (R q f.0) = ap is_eq (o.congr k f.0 q e) ∙ (eq_by_cmp_equiv o).symm f.0 q in
            asked_again (is_eq (R q f.0)) (Some v) (Some f.1) (lookup (is_at (R q)) es) ∙ ap (λ b. cond b (Some v) (cond (is_eq (R q f.0)) (Some f.1) (lookup (is_at (R q)) es))) (sym same)
        by Greater e rest =
            let apart : is_eq (R q f.0) ≡ true → is_eq (R k q) ≡ true → ⊥
            = λ a b. let e' : R k f.0 ≡ Equal = o.congr k q f.0 (equal (R k q) b) ∙ equal (R q f.0) a in cc in
            ap (λ (found : Option X). cond (is_eq (R q f.0)) (Some f.1) found) rest
            ∙ either_first (is_eq (R q f.0)) (is_eq (R k q)) (Some f.1) (Some v) (lookup (is_at (R q)) es) apart

  -- where the key is there, its value is replaced
  pub set_value-there : (es : List (K × X)) (w : X) → IsStrictlySortedBy R (keys_of es) → lookup (is_at (R k)) es ≡ Some w → set_value (is_at (R k)) es v ≡ insert_entry R es k v
  set_value-there [] w s e = cc
  set_value-there (f ∷ es) w s e = by (R k f.0) refl (set_value-there es w (sorted_tail R f.0 (keys_of es) s))
    where
      missed : R k f.0 ≡ Less → lookup (is_at (R k)) (f ∷ es) ≡ None
      missed below = lookup-none (is_at (R k)) (f ∷ es) (none_below_head o k f es s below)

      rest_of : R k f.0 ≡ Greater → lookup (is_at (R k)) es ≡ Some w
      rest_of above = sym (ap (λ r. cond (is_eq r) (Some f.1) (lookup (is_at (R k)) es)) above) ∙ e

      by : (r : Ordering) → R k f.0 ≡ r → (lookup (is_at (R k)) es ≡ Some w → set_value (is_at (R k)) es v ≡ insert_entry R es k v)
          → cond (is_eq r) ((f.0, v) ∷ es) (f ∷ set_value (is_at (R k)) es v) ≡ match_ordering r ((k, v) ∷ f ∷ es) ((f.0, v) ∷ es) (f ∷ insert_entry R es k v)
      by Less below rest = let none = sym (missed below) ∙ e in cc
      by Equal tied rest = refl
      by Greater above rest = ap (λ es'. f ∷ es') (rest (rest_of above))
