-- What the seats know stays so when a thread does something, when a seat is split, and when two are joined.
use Rattle.std.proofs.Common.{◌≡◌, ◌≢◌, ℕ, zero, suc, ◌+◌, List, [], ◌∷◌, ◌++◌, length, set, Bool, true, false, refl, sym, ap, ◌∙◌, subst, ⊎_elim, arith, eqb, eq-eqb, ne_eqb}
use mathlib.Core.Option.{some, some-ne-none, some-injective}
use lib.ListN.{get_elem?}
use Rattle.shared_words.specs.declared.rule.Part.{Part}
use Rattle.shared_words.specs.declared.rule.View.{View}
use Rattle.shared_words.specs.Reached.{Progress, beginning}
use Rattle.shared_words.specs.Rule.{blank, newcomer, maker_of, spent, maker_after, keeper_after, IsTrueOf, Stands, Fits, Seated}
use Rattle.shared_words.specs.Steps.{own}
use Rattle.shared_words.proofs.Views.{each_set, each_new, at_both}

pub own_at : (v : View) → v.parts ≡ own v ∷ [] → get_elem? v.parts 0 ≡ some (own v)
own_at v parts = ap (λ (ps : List Part). get_elem? ps 0) parts

-- what holds of one part holds of each part of a seat that has it alone
only_one : (P : ℕ → Part → Type 0) (one : Part) → P 0 one → (i : ℕ) (part : Part) → get_elem? (one ∷ []) i ≡ some part → P i part
only_one P one holds zero part e = subst (P 0) (some-injective one part e) holds
only_one P one holds (suc i) part e = absurd (some-ne-none part (sym e))

-- what changes of the threads, but of this one, says what was so
abbrev pub OthersStay : ℕ → Progress → (ℕ → Bool) → Progress → (ℕ → Bool) → Type 0
OthersStay t s arrived s' arrived' = (part : Part) → part.number ≢ t → IsTrueOf s arrived part → IsTrueOf s' arrived' part

-- A thread's part changes, and what it says is so.
module _ (s s' : Progress) (arrived arrived' : ℕ → Bool) (views : List View) (id : ℕ) (v : View) (part : Part) (parts : v.parts ≡ own v ∷ []) (k : Seated s arrived views) (at : get_elem? views id ≡ some v) where
  pub own_stands : Stands s arrived k.made k.owner id 0 (own v)
  own_stands = (k.each id v at).0 0 (own v) (own_at v parts)

  module _ (number : part.number ≡ (own v).number) (mine : IsTrueOf s' arrived' part) (others : OthersStay (own v).number s arrived s' arrived') where
    stands_mine : Stands s' arrived' k.made k.owner id 0 part
    stands_mine =
        let low = own_stands.low in
        record { says = mine; low = omega (arith, number, low); place = ap k.owner number ∙ own_stands.place }

    stands_other : (j : ℕ) → j ≢ id → (i : ℕ) (other : Part) → Stands s arrived k.made k.owner j i other → Stands s' arrived' k.made k.owner j i other
    stands_other j ne i other there = record {
      says = others other (λ e. ne (ap (λ (x : ℕ × ℕ). x.0) (sym there.place ∙ ap k.owner e ∙ own_stands.place))) there.says;
      low = there.low;
      place = there.place;
    }

    pub seated_after : Seated s' arrived' (set views id record { made = v.made; parts = part ∷ [] })
    seated_after = record {
      made = k.made;
      owner = k.owner;
      maker = k.maker;
      each = each_set (Fits s' arrived' k.made k.owner k.maker) views id record { made = v.made; parts = part ∷ [] }
          (only_one (Stands s' arrived' k.made k.owner id) part stands_mine, (k.each id v at).1)
          (λ j u ne e. ((λ i other there. stands_other j ne i other ((k.each j u e).0 i other there)), (k.each j u e).1));
      none_else = λ n le. let low = own_stands.low in others (blank n) (λ (e : n ≡ (own v).number). omega (arith, e, low, le)) (k.none_else n le);
    }

-- The first seat.

abbrev one_owner : ℕ → ℕ × ℕ
one_owner k = (0, 0)

first_part_stands : Stands beginning (λ thread. false) 1 one_owner 0 0 (blank 0)
first_part_stands = record { says = record { arrival = refl; passed = refl; values = refl }; low = omega arith; place = refl }

first_seat : (by : ℕ) (v : View) → get_elem? (maker_of 1 ∷ []) by ≡ some v → Fits beginning (λ thread. false) 1 one_owner 0 by v
first_seat zero v e = subst (Fits beginning (λ thread. false) 1 one_owner 0 0) (some-injective (maker_of 1) v e)
    (only_one (Stands beginning (λ thread. false) 1 one_owner 0) (blank 0) first_part_stands, λ _. (refl, refl))
first_seat (suc by) v e = absurd (some-ne-none v (sym e))

pub seated_first : Seated beginning (λ thread. false) (maker_of 1 ∷ [])
seated_first = record { made = 1; owner = one_owner; maker = 0; each = first_seat; none_else = λ n le. record { arrival = refl; passed = refl; values = refl } }

abbrev pick : {A : Type 0} → Bool → A → A → A
pick true a b = a
pick false a b = b

-- A seat is split.
module _ (s : Progress) (arrived : ℕ → Bool) (views : List View) (id : ℕ) (v : View) (makes : v.made ≢ 0) (k : Seated s arrived views) (at : get_elem? views id ≡ some v) where
  abbrev all_after : List View
  all_after = set views id (maker_after v)

  abbrev owner_after : ℕ → ℕ × ℕ
  owner_after n = pick (eqb n k.made) (length all_after, 0) (k.owner n)

  abbrev Fits_after : ℕ → View → Type 0
  Fits_after = Fits s arrived (k.made + 1) owner_after k.maker

  tells : (id ≡ k.maker) × (v.made ≡ k.made)
  tells = (k.each id v at).1 makes

  stands_on : (j i : ℕ) (part : Part) → Stands s arrived k.made k.owner j i part → Stands s arrived (k.made + 1) owner_after j i part
  stands_on j i part there =
      let low = there.low in
      record {
        says = there.says;
        low = omega (arith, low);
        place = ap (λ b. pick b (length all_after, 0) (k.owner part.number)) (ne_eqb part.number k.made (λ e. omega (arith, low, e))) ∙ there.place;
      }

  new_stands : Stands s arrived (k.made + 1) owner_after (length all_after) 0 (blank v.made)
  new_stands =
      let same = tells.1 in
      record {
        says = k.none_else v.made (omega (arith, same));
        low = omega (arith, same);
        place = ap (λ b. pick b (length all_after, 0) (k.owner v.made)) (eq-eqb v.made k.made same);
      }

  fits_new : Fits_after (length all_after) (newcomer v.made)
  fits_new = (only_one (Stands s arrived (k.made + 1) owner_after (length all_after)) (blank v.made) new_stands, λ ne. absurd (ne refl))

  fits_maker : Fits_after id (maker_after v)
  fits_maker = ((λ i part e. stands_on id i part ((k.each id v at).0 i part e)), (λ ne. (tells.0, ap (λ (n : ℕ). n + 1) tells.1)))

  fits_other : (j : ℕ) (u : View) → j ≢ id → get_elem? views j ≡ some u → Fits_after j u
  fits_other j u ne e =
      let f = k.each j u e in
      ((λ i part there. stands_on j i part (f.0 i part there)), (λ makes_too. absurd (ne ((f.1 makes_too).0 ∙ sym tells.0))))

  pub seated_split : Seated s arrived (all_after ++ newcomer v.made ∷ [])
  seated_split = record {
    made = k.made + 1;
    owner = owner_after;
    maker = k.maker;
    each = each_new Fits_after all_after (newcomer v.made) fits_new (each_set Fits_after views id (maker_after v) fits_maker fits_other);
    none_else = λ n le. k.none_else n (omega (arith, le));
  }

-- Two seats are joined.
module _ (s : Progress) (arrived : ℕ → Bool) (views : List View) (id : ℕ) (v : View) (other : ℕ) (w : View) (k : Seated s arrived views) (at : get_elem? views id ≡ some v) (at' : get_elem? views other ≡ some w) (apart : id ≢ other) where
  abbrev moved : ℕ × ℕ → ℕ × ℕ
  moved q = pick (eqb q.0 other) (id, length v.parts + q.1) q

  abbrev Fits_joined : ℕ → View → Type 0
  Fits_joined = Fits s arrived k.made (λ n. moved (k.owner n)) k.maker

  stays_here : (j i : ℕ) (part : Part) → j ≢ other → Stands s arrived k.made k.owner j i part → Stands s arrived k.made (λ n. moved (k.owner n)) j i part
  stays_here j i part ne there = record {
    says = there.says;
    low = there.low;
    place = ap moved there.place ∙ ap (λ b. pick b (id, length v.parts + i) (j, i)) (ne_eqb j other ne);
  }

  comes_here : (j i : ℕ) (part : Part) → length v.parts + j ≡ i → Stands s arrived k.made k.owner other j part → Stands s arrived k.made (λ n. moved (k.owner n)) id i part
  comes_here j i part sum there = record {
    says = there.says;
    low = there.low;
    place = ap moved there.place ∙ ap (λ b. pick b (id, length v.parts + j) (other, j)) (eq-eqb other other refl) ∙ ap (λ (n : ℕ). (id, n)) sum;
  }

  fits_keeper : Fits_joined id (keeper_after v w)
  fits_keeper = (
    λ i part e. ⊎_elim
        (λ (t : get_elem? v.parts i ≡ some part). stays_here id i part apart ((k.each id v at).0 i part t))
        (λ (t : (j : ℕ) × (length v.parts + j ≡ i) × (get_elem? w.parts j ≡ some part)). comes_here t.0 i part t.1 ((k.each other w at').0 t.0 part t.2))
        (at_both v.parts w.parts i part e),
    (k.each id v at).1,
  )

  fits_still : (j : ℕ) (u : View) → j ≢ other → get_elem? views j ≡ some u → Fits_joined j u
  fits_still j u ne e = let f = k.each j u e in ((λ i part there. stays_here j i part ne (f.0 i part there)), f.1)

  pub seated_join : Seated s arrived (set (set views id (keeper_after v w)) other spent)
  seated_join = record {
    made = k.made;
    owner = λ n. moved (k.owner n);
    maker = k.maker;
    each = each_set Fits_joined (set views id (keeper_after v w)) other spent ((λ i part e. absurd (some-ne-none part (sym e))), (λ ne. absurd (ne refl)))
        (λ j u ne e. each_set (λ j u. j ≢ other → Fits_joined j u) views id (keeper_after v w) (λ _. fits_keeper) (λ j u ne' e' ne. fits_still j u ne e') j u e ne);
    none_else = k.none_else;
  }
