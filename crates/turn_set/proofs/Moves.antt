-- Each step keeps the rule.
use Rattle.std.proofs.Common.{◌≡◌, ◌≢◌, ◌⊎◌, ℕ, zero, suc, ◌+◌, List, [], ◌∷◌, ◌++◌, length, set, Some, Bool, true, false, true≢false, refl, sym, ap, ◌∙◌, subst, ⊎_elim, inl, inr, arith, eqb, eq-eqb, ne_eqb}
use Rattle.std.specs.Prelude.{slice_index, slice_set}
use mathlib.Core.Option.{some, none, some-ne-none, some-injective}
use mathlib.Core.Logic.{dite}
use native.Mathlib.Decide.{ℕ_discrete}
use lib.ListN.{get_elem?}
use prog.Atomic.{either}
use Rattle.atomic_table.specs.Table.{State, Step, Act, takes, gives, keeps, Allows, Splits, Joins, Final, Seen, opening, stepped, Valid, carried_after}
use Rattle.atomic_table.proofs.Lists.{set_else, at_longer}
use Rattle.tally.specs.declared.entered.Entered.{Entered}
use Rattle.tally.specs.declared.outcome.Outcome.{Outcome}
use Rattle.turn_set.specs.declared.rule.View.{View}
use Rattle.turn_set.specs.declared.rule.Part.{Part}
use Rattle.tally.specs.Histories.{added_by, entries}
use Rattle.turn_set.specs.Rule.{Slot, blank, newcomer, spent, maker_after, keeper_after, Stands, Fits, Kept, IsHome, IsOut, Holds, HasEach, IsHistoryOf, first_view}
use Rattle.turn_set.specs.Steps.{own, winner, loser, added, returned, Tried, GaveBack, Returned}
use Rattle.turn_set.proofs.Histories.{added_by-others, starts_more, starts_itself}
use Rattle.turn_set.proofs.Views.{set_there, each_set, each_new, at_both}

-- a view with the same parts and the same number made
kept_set : (h : List Entered) (views : List View) (id : ℕ) (w : View) (k : Kept h views) → Fits h k.made k.owner k.maker id w → Kept h (set views id w)
kept_set h views id w k fits = record {
  made = k.made;
  owner = k.owner;
  maker = k.maker;
  each = each_set (Fits h k.made k.owner k.maker) views id w fits (λ j u ne e. k.each j u e);
  none_else = k.none_else;
}

own_at : (v : View) → v.parts ≡ own v ∷ [] → get_elem? v.parts 0 ≡ some (own v)
own_at v parts = ap (λ (ps : List Part). get_elem? ps 0) parts

module _ (st : Step Slot) (id number : ℕ) (v : View) (same : number ≡ (own v).number) (free : v.holds ≡ false) (parts : v.parts ≡ own v ∷ []) where
  taken : (h : List Entered) (views : List View) → get_elem? views id ≡ some v → ((by : ℕ) (u : View) → get_elem? views by ≡ some u → u.holds ≡ false)
      → IsOut h record { words = (number + 1) ∷ []; homes = none ∷ []; views = set views id (winner v h) }
  taken h views at nobody =
      let one : number + 1 ≡ suc (own v).number = omega (arith, same) in
      record {
        by = id;
        view = winner v h;
        part = own v;
        holder = set_there views id v (winner v h) at;
        own = own_at v parts;
        word = ap (λ k. k ∷ []) one;
        home = refl;
        held = refl;
        found = refl;
        others = each_set (λ j u. j ≢ id → u.holds ≡ false) views id (winner v h) (λ ne. absurd (ne refl)) (λ j u ne e apart. nobody j u e);
      }

  missed : (h : List Entered) (s : State Slot View) (ws : List ℕ) → get_elem? s.views id ≡ some v → (p : IsOut h s) → ws ≡ suc p.part.number ∷ [] → IsOut h record { words = ws; homes = s.homes; views = set s.views id (loser v) }
  missed h s ws at p word =
      let apart : p.by ≢ id = λ e. true≢false (sym p.held ∙ ap (λ (u : View). u.holds) (some-injective p.view v (sym p.holder ∙ ap (get_elem? s.views) e ∙ at)) ∙ free) in
      record {
        by = p.by;
        view = p.view;
        part = p.part;
        holder = set_else s.views id p.by (loser v) apart ∙ p.holder;
        own = p.own;
        word = word;
        home = p.home;
        held = p.held;
        found = p.found;
        others = each_set (λ j u. j ≢ p.by → u.holds ≡ false) s.views id (loser v) (λ ne. free) (λ j u ne e apart. p.others j u e apart);
      }

  unchanged : (ws : List ℕ) (n : ℕ) → ws ≡ suc n ∷ [] → slice_set ws 0 (either (eqb (slice_index ws 0) 0) (number + 1) (slice_index ws 0)) ≡ suc n ∷ []
  unchanged ws n e = rw e (ap (λ b. either b (number + 1) (suc n) ∷ []) (ne_eqb (suc n) 0 (λ z. omega (arith, z))))

  wins_at : (s : State Slot View) (h : List Entered) → Kept h s.views → (IsHome h s ⊎ IsOut h s) → get_elem? s.views id ≡ some v
      → (w : View) × (a : Act Slot) × Valid s.homes [] a
      × Holds (stepped s 0 (either (eqb (slice_index s.words 0) 0) (number + 1) (slice_index s.words 0)) id [] w a)
      × Tried st (v, []) (slice_index s.words 0) (w, carried_after [] a)
  wins_at s h kept (inl p) at =
      let mine = (kept.each id v at).0 0 (own v) (own_at v parts) in (
        winner v h,
        takes 0 (Some h),
        rw p.home refl,
        (h, kept_set h s.views id (winner v h) kept (kept.each id v at), inr_or p),
        ((λ zero. (h, mine.front, mine.list, refl)), (λ ne. absurd (ne (ap (λ ws. slice_index ws 0) p.word)))),
      )
    where
      inr_or : (q : IsHome h s) → IsHome h (stepped s 0 (either (eqb (slice_index s.words 0) 0) (number + 1) (slice_index s.words 0)) id [] (winner v h) (takes 0 (Some h)))
          ⊎ IsOut h (stepped s 0 (either (eqb (slice_index s.words 0) 0) (number + 1) (slice_index s.words 0)) id [] (winner v h) (takes 0 (Some h)))
      inr_or q = rw (q.word, q.home) (inr (taken h s.views at q.nobody))
  wins_at s h kept (inr p) at = (
    loser v,
    keeps,
    tt,
    (h, kept_set h s.views id (loser v) kept (kept.each id v at), inr (missed h s _ at p (unchanged s.words p.part.number p.word))),
    ((λ zero. absurd (not_0 zero)), (λ ne. refl)),
  )
    where
      not_0 : slice_index s.words 0 ≡ 0 → ⊥
      not_0 e = let found : suc p.part.number ≡ 0 = ap (λ ws. slice_index ws 0) (sym p.word) ∙ e in omega (arith, found)

  pub wins : Allows Holds 1 id (v, []) 0 (λ n. either (eqb n 0) (number + 1) n) (Tried st (v, []))
  wins s holds size at small = wins_at s holds.0 holds.1 holds.2 at

-- the holder is the one that holds
holder_is : (h : List Entered) (s : State Slot View) (id : ℕ) (v : View) → v.holds ≡ true → get_elem? s.views id ≡ some v → (p : IsOut h s) → (id ≡ p.by) × (p.view ≡ v)
holder_is h s id v held at p =
    let same : id ≡ p.by = dite (ℕ_discrete id p.by) (λ e. e) (λ ne. absurd (true≢false (sym held ∙ p.others id v at ne))) in
    (same, some-injective p.view v (sym p.holder ∙ ap (get_elem? s.views) (sym same) ∙ at))

module _ (st : Step Slot) (id : ℕ) (v : View) (batch : List Outcome) (held : v.holds ≡ true) (parts : v.parts ≡ own v ∷ []) where
  abbrev full : List Entered → List Entered
  full h = h ++ entries (own v).number batch

  abbrev mine_after : List Entered → Part
  mine_after h = record { number = (own v).number; list = added_by (full h) (own v).number; front = full h }

  mine_stands : (h : List Entered) (views : List View) (k : Kept h views) → get_elem? views id ≡ some v → Stands (full h) k.made k.owner id 0 (mine_after h)
  mine_stands h views k at =
      let stood = (k.each id v at).0 0 (own v) (own_at v parts) in
      record { list = refl; front = starts_itself (full h); low = stood.low; place = stood.place }

  mine_each : (h : List Entered) (views : List View) (k : Kept h views) → get_elem? views id ≡ some v → (i : ℕ) (p : Part) → get_elem? (mine_after h ∷ []) i ≡ some p → Stands (full h) k.made k.owner id i p
  mine_each h views k at zero p e = subst (Stands (full h) k.made k.owner id 0) (some-injective (mine_after h) p e) (mine_stands h views k at)
  mine_each h views k at (suc i) p e = absurd (some-ne-none p (sym e))

  kept_full : (h : List Entered) (views : List View) → Kept h views → get_elem? views id ≡ some v → Kept (full h) (set views id (added v (full h)))
  kept_full h views k at =
      let stood = (k.each id v at).0 0 (own v) (own_at v parts) in
      record {
        made = k.made;
        owner = k.owner;
        maker = k.maker;
        each = each_set (Fits (full h) k.made k.owner k.maker) views id (added v (full h)) (mine_each h views k at, (k.each id v at).1) (λ j u ne e. ((λ i p there. other stood j ne i p ((k.each j u e).0 i p there)), (k.each j u e).1));
        none_else = λ n le. added_by-others h n (own v).number batch (λ e. let low = stood.low in omega (arith, e)) ∙ k.none_else n le;
      }
    where
      other : Stands h k.made k.owner id 0 (own v) → (j : ℕ) → j ≢ id → (i : ℕ) (p : Part) → Stands h k.made k.owner j i p → Stands (full h) k.made k.owner j i p
      other stood j ne i p there =
          let apart : (own v).number ≢ p.number = λ e. ne (ap (λ (x : ℕ × ℕ). x.0) (sym there.place ∙ ap k.owner (sym e) ∙ stood.place)) in
          record { list = added_by-others h p.number (own v).number batch apart ∙ there.list; front = starts_more h (entries (own v).number batch) p.front there.front; low = there.low; place = there.place }

  back : (book : List Entered) → book ≡ v.found ++ entries (own v).number batch → (h : List Entered) (s : State Slot View) → Kept h s.views → get_elem? s.views id ≡ some v → IsOut h s
      → Holds record { words = 0 ∷ []; homes = some (Some book) ∷ []; views = set s.views id (added v book) }
  back book grown h s kept at out =
      let who = holder_is h s id v held at out in
      let found : v.found ≡ h = ap (λ (x : View). x.found) (sym who.1) ∙ out.found in
      let is : full h ≡ book = ap (λ (l : List Entered). l ++ entries (own v).number batch) (sym found) ∙ sym grown in (
        book,
        subst (λ (b : List Entered). Kept b (set s.views id (added v b))) is (kept_full h s.views kept at),
        inl record { word = refl; home = refl; nobody = each_set (λ j u. u.holds ≡ false) s.views id (added v book) refl (λ j u ne e. out.others j u e (λ k. ne (k ∙ sym who.0))) },
      )

  pub gives_back : (book : List Entered) → book ≡ v.found ++ entries (own v).number batch → Allows Holds 1 id (v, (0, Some book) ∷ []) 0 (λ _. 0) (λ _. GaveBack st (v, (0, Some book) ∷ []) 0)
  gives_back book grown s holds size at small = at_last_ holds.2
    where
      home : IsOut holds.0 s → Holds (stepped s 0 0 id ((0, Some book) ∷ []) (added v book) gives)
      home q = rw (q.word, q.home) (back book grown holds.0 s holds.1 at q)

      at_last_ : (IsHome holds.0 s ⊎ IsOut holds.0 s) → (w : View) × (a : Act Slot) × Valid s.homes ((0, Some book) ∷ []) a × Holds (stepped s 0 0 id ((0, Some book) ∷ []) w a) × GaveBack st (v, (0, Some book) ∷ []) 0 (w, carried_after ((0, Some book) ∷ []) a)
      at_last_ (inl p) = absurd (true≢false (sym held ∙ p.nobody id v at))
      at_last_ (inr p) = (added v book, gives, tt, home p, refl)

module _ (st : Step Slot) (id : ℕ) (v : View) (held : v.holds ≡ true) where
  back_up : (h : List Entered) (s : State Slot View) → Kept h s.views → get_elem? s.views id ≡ some v → IsOut h s
      → Holds record { words = 0 ∷ []; homes = some (Some v.found) ∷ []; views = set s.views id (returned v) }
  back_up h s kept at out =
      let who = holder_is h s id v held at out in
      let found : h ≡ v.found = sym (ap (λ (x : View). x.found) (sym who.1) ∙ out.found) in (
        v.found,
        subst (λ (b : List Entered). Kept b (set s.views id (returned v))) found (kept_set h s.views id (returned v) kept (kept.each id v at)),
        inl record { word = refl; home = refl; nobody = each_set (λ j u. u.holds ≡ false) s.views id (returned v) refl (λ j u ne e. out.others j u e (λ k. ne (k ∙ sym who.0))) },
      )

  pub gives_up : Allows Holds 1 id (v, (0, Some v.found) ∷ []) 0 (λ _. 0) (λ _. Returned st (v, (0, Some v.found) ∷ []) 0)
  gives_up s holds size at small = at_last_ holds.2
    where
      home : IsOut holds.0 s → Holds (stepped s 0 0 id ((0, Some v.found) ∷ []) (returned v) gives)
      home q = rw (q.word, q.home) (back_up holds.0 s holds.1 at q)

      at_last_ : (IsHome holds.0 s ⊎ IsOut holds.0 s) → (w : View) × (a : Act Slot) × Valid s.homes ((0, Some v.found) ∷ []) a × Holds (stepped s 0 0 id ((0, Some v.found) ∷ []) w a) × Returned st (v, (0, Some v.found) ∷ []) 0 (w, carried_after ((0, Some v.found) ∷ []) a)
      at_last_ (inl p) = absurd (true≢false (sym held ∙ p.nobody id v at))
      at_last_ (inr p) = (returned v, gives, tt, home p, refl)

-- two numbers in one case
abbrev pick : {A : Type 0} → Bool → A → A → A
pick true a b = a
pick false a b = b

module _ (id : ℕ) (v : View) (free : v.holds ≡ false) where
  -- a seat that doesn't hold the turn changes its view, and keeps to that
  same_home : (h : List Entered) (s : State Slot View) (w : View) → w.holds ≡ false → IsHome h s → IsHome h record { words = s.words; homes = s.homes; views = set s.views id w }
  same_home h s w free' p = record { word = p.word; home = p.home; nobody = each_set (λ j u. u.holds ≡ false) s.views id w free' (λ j u ne e. p.nobody j u e) }

  same_out : (h : List Entered) (s : State Slot View) (w : View) → get_elem? s.views id ≡ some v → w.holds ≡ false → IsOut h s → IsOut h record { words = s.words; homes = s.homes; views = set s.views id w }
  same_out h s w at free' p =
      let apart : p.by ≢ id = λ e. true≢false (sym p.held ∙ ap (λ (u : View). u.holds) (some-injective p.view v (sym p.holder ∙ ap (get_elem? s.views) e ∙ at)) ∙ free) in
      record {
        by = p.by;
        view = p.view;
        part = p.part;
        holder = set_else s.views id p.by w apart ∙ p.holder;
        own = p.own;
        word = p.word;
        home = p.home;
        held = p.held;
        found = p.found;
        others = each_set (λ j u. j ≢ p.by → u.holds ≡ false) s.views id w (λ ne. free') (λ j u ne e apart. p.others j u e apart);
      }

-- a new seat that doesn't hold the turn
more_home : (h : List Entered) (s : State Slot View) (w : View) → w.holds ≡ false → IsHome h s → IsHome h record { words = s.words; homes = s.homes; views = s.views ++ w ∷ [] }
more_home h s w free p = record { word = p.word; home = p.home; nobody = each_new (λ j u. u.holds ≡ false) s.views w free p.nobody }

more_out : (h : List Entered) (s : State Slot View) (w : View) → w.holds ≡ false → IsOut h s → IsOut h record { words = s.words; homes = s.homes; views = s.views ++ w ∷ [] }
more_out h s w free p = record {
  by = p.by;
  view = p.view;
  part = p.part;
  holder = at_longer s.views (w ∷ []) p.by p.view p.holder;
  own = p.own;
  word = p.word;
  home = p.home;
  held = p.held;
  found = p.found;
  others = each_new (λ j u. j ≢ p.by → u.holds ≡ false) s.views w (λ ne. free) p.others;
}

module _ (id : ℕ) (v : View) (free : v.holds ≡ false) (makes : v.made ≢ 0) where
  module _ (h : List Entered) (views : List View) (k : Kept h views) (at : get_elem? views id ≡ some v) where
    abbrev all_after : List View
    all_after = set views id (maker_after v)

    abbrev owner_after : ℕ → ℕ × ℕ
    owner_after n = pick (eqb n k.made) (length all_after, 0) (k.owner n)

    abbrev Fits_after : ℕ → View → Type 0
    Fits_after = Fits h (k.made + 1) owner_after k.maker

    tells : (id ≡ k.maker) × (v.made ≡ k.made)
    tells = (k.each id v at).1 makes

    stands_on : (j i : ℕ) (p : Part) → Stands h k.made k.owner j i p → Stands h (k.made + 1) owner_after j i p
    stands_on j i p st =
        let low = st.low in record {
          list = st.list;
          front = st.front;
          low = omega (arith, low);
          place = rw (ne_eqb p.number k.made (λ e. omega (arith, low, e))) st.place;
        }

    fits_new : Fits_after (length all_after) (newcomer v.made)
    fits_new = (each_one, λ ne. absurd (ne refl))
      where
        stands : Stands h (k.made + 1) owner_after (length all_after) 0 (blank v.made)
        stands = let same = tells.1 in record {
          list = k.none_else v.made (omega (arith, same));
          front = (h, refl);
          low = omega (arith, same);
          place = rw (eq-eqb v.made k.made same) refl;
        }

        each_one : (i : ℕ) (p : Part) → get_elem? (blank v.made ∷ []) i ≡ some p → Stands h (k.made + 1) owner_after (length all_after) i p
        each_one zero p e = subst (Stands h (k.made + 1) owner_after (length all_after) 0) (some-injective (blank v.made) p e) stands
        each_one (suc i) p e = absurd (some-ne-none p (sym e))

    fits_maker : Fits_after id (maker_after v)
    fits_maker = ((λ i p e. stands_on id i p ((k.each id v at).0 i p e)), (λ ne. (tells.0, ap (λ (n : ℕ). n + 1) tells.1)))

    fits_other : (j : ℕ) (u : View) → j ≢ id → get_elem? views j ≡ some u → Fits_after j u
    fits_other j u ne e =
        let f = k.each j u e in
        ((λ i p there. stands_on j i p (f.0 i p there)), (λ some. absurd (ne ((f.1 some).0 ∙ sym tells.0))))

    kept_split : Kept h (all_after ++ newcomer v.made ∷ [])
    kept_split = record {
      made = k.made + 1;
      owner = owner_after;
      maker = k.maker;
      each = each_new Fits_after all_after (newcomer v.made) fits_new (each_set Fits_after views id (maker_after v) fits_maker fits_other);
      none_else = λ n le. k.none_else n (omega (arith, le));
    }

  pub splits : Splits Holds id v (maker_after v) (newcomer v.made)
  splits s holds at = (
    holds.0,
    kept_split holds.0 s.views holds.1 at,
    ⊎_elim
        (λ p. inl (more_home holds.0 record { words = s.words; homes = s.homes; views = set s.views id (maker_after v) } (newcomer v.made) refl (same_home id v free holds.0 s (maker_after v) free p)))
        (λ p. inr (more_out holds.0 record { words = s.words; homes = s.homes; views = set s.views id (maker_after v) } (newcomer v.made) refl (same_out id v free holds.0 s (maker_after v) at free p)))
        holds.2,
  )

module _ (id : ℕ) (v : View) (other : ℕ) (w : View) (free : v.holds ≡ false) (free' : w.holds ≡ false) (plain : w.made ≡ 0) where
  abbrev moved : ℕ × ℕ → ℕ × ℕ
  moved q = pick (eqb q.0 other) (id, length v.parts + q.1) q

  module _ (h : List Entered) (views : List View) (k : Kept h views) (at : get_elem? views id ≡ some v) (at' : get_elem? views other ≡ some w) (apart : id ≢ other) where
    abbrev Fits_joined : ℕ → View → Type 0
    Fits_joined = Fits h k.made (λ n. moved (k.owner n)) k.maker

    stays_here : (j i : ℕ) (p : Part) → j ≢ other → Stands h k.made k.owner j i p → Stands h k.made (λ n. moved (k.owner n)) j i p
    stays_here j i p ne st = record { list = st.list; front = st.front; low = st.low; place = rw (st.place, ne_eqb j other ne) refl }

    comes_here : (j i : ℕ) (p : Part) → length v.parts + j ≡ i → Stands h k.made k.owner other j p → Stands h k.made (λ n. moved (k.owner n)) id i p
    comes_here j i p sum st = record { list = st.list; front = st.front; low = st.low; place = rw (st.place, eq-eqb other other refl) (ap (λ (n : ℕ). (id, n)) sum) }

    fits_keeper : Fits_joined id (keeper_after v w)
    fits_keeper = (
      (λ i p e.
          ⊎_elim
          (λ (t : get_elem? v.parts i ≡ some p). stays_here id i p apart ((k.each id v at).0 i p t))
          (λ (t : (j : ℕ) × (length v.parts + j ≡ i) × (get_elem? w.parts j ≡ some p)). comes_here t.0 i p t.1 ((k.each other w at').0 t.0 p t.2))
          (at_both v.parts w.parts i p e)),
      (k.each id v at).1,
    )

    kept_join : Kept h (set (set views id (keeper_after v w)) other spent)
    kept_join = record {
      made = k.made;
      owner = λ n. moved (k.owner n);
      maker = k.maker;
      each = each_set Fits_joined (set views id (keeper_after v w)) other spent ((λ i p e. absurd (some-ne-none p (sym e))), (λ ne. absurd (ne refl)))
          (λ j u ne e. each_set (λ j u. j ≢ other → Fits_joined j u) views id (keeper_after v w) (λ _. fits_keeper)
          (λ j u ne' e' ne. let f = k.each j u e' in ((λ i p there. stays_here j i p ne (f.0 i p there)), f.1)) j u e ne);
      none_else = k.none_else;
    }

  pub joins : Joins Holds id v other w (keeper_after v w) spent
  joins s holds at apart at' =
      let there : get_elem? s.views other ≡ some w = sym (set_else s.views id other (keeper_after v w) apart) ∙ at' in
      let t : State Slot View = record { words = s.words; homes = s.homes; views = set s.views id (keeper_after v w) } in (
        holds.0,
        kept_join holds.0 s.views holds.1 at there (λ e. apart (sym e)),
        ⊎_elim
            (λ p. inl (same_home other w free' holds.0 t spent refl (same_home id v free holds.0 s (keeper_after v w) free p)))
            (λ p. inr (same_out other w free' holds.0 t spent at' refl (same_out id v free holds.0 s (keeper_after v w) at free p)))
            holds.2,
      )

module _ (id : ℕ) (v : View) (free : v.holds ≡ false) (makes : v.made ≢ 0) (has : HasEach v) where
  not_out : (h : List Entered) (s : State Slot View) → Kept h s.views → get_elem? s.views id ≡ some v → IsOut h s → ⊥
  not_out h s k at p =
      let held = (k.each p.by p.view p.holder).0 0 p.part p.own in
      let low = held.low in
      let made : v.made ≡ k.made = ((k.each id v at).1 makes).1 in
      let q = has p.part.number (omega (arith, low, made)) in
      let mine = (k.each id v at).0 q.0 q.1 q.2 in
      let who : id ≡ p.by = ap (λ (x : ℕ × ℕ). x.0) (sym mine.place ∙ ap k.owner q.3 ∙ held.place) in
      true≢false (sym p.held ∙ ap (λ (u : View). u.holds) (some-injective p.view v (sym p.holder ∙ ap (get_elem? s.views) (sym who) ∙ at)) ∙ free)

  pub closes : (ws : List ℕ) (xs : List Slot) → Final (Seen Holds id v) ws xs → (history : List Entered) × (get_elem? xs 0 ≡ some (Some history)) × IsHistoryOf v history
  closes ws xs final = by_case final.1.0.2
    where
      by_case : (IsHome final.1.0.0 final.0 ⊎ IsOut final.1.0.0 final.0) → (history : List Entered) × (get_elem? xs 0 ≡ some (Some history)) × IsHistoryOf v history
      by_case (inl p) = (
        final.1.0.0,
        final.4 0 (Some final.1.0.0) (ap (λ hs. get_elem? hs 0) p.home),
        record {
          parts = λ i p e. let st = (final.1.0.1.each id v final.1.1).0 i p e in (st.list, st.front);
          none_else = λ n le. let made = ((final.1.0.1.each id v final.1.1).1 makes).1 in final.1.0.1.none_else n (omega (arith, made, le));
        },
      )
      by_case (inr p) = absurd (not_out final.1.0.0 final.0 final.1.0.1 final.1.1 p)

-- the table at the start
one_view : Stands [] 1 (λ _. (0, 0)) 0 0 (blank 0)
one_view = record { list = refl; front = ([], refl); low = omega arith; place = refl }

one_part : (i : ℕ) (p : Part) → get_elem? (blank 0 ∷ []) i ≡ some p → Stands [] 1 (λ _. (0, 0)) 0 i p
one_part zero p e = subst (Stands [] 1 (λ _. (0, 0)) 0 0) (some-injective (blank 0) p e) one_view
one_part (suc i) p e = absurd (some-ne-none p (sym e))

one_seat : (by : ℕ) (v : View) → get_elem? (first_view ∷ []) by ≡ some v → Fits [] 1 (λ _. (0, 0)) 0 by v
one_seat zero v e = subst (Fits [] 1 (λ _. (0, 0)) 0 0) (some-injective first_view v e) (one_part, λ _. (refl, refl))
one_seat (suc by) v e = absurd (some-ne-none v (sym e))

one_free : (by : ℕ) (v : View) → get_elem? (first_view ∷ []) by ≡ some v → v.holds ≡ false
one_free zero v e = subst (λ (u : View). u.holds ≡ false) (some-injective first_view v e) refl
one_free (suc by) v e = absurd (some-ne-none v (sym e))

pub starts : Holds (opening (0 ∷ []) (Some [] ∷ []) first_view)
starts = ([], record { made = 1; owner = λ _. (0, 0); maker = 0; each = one_seat; none_else = λ n le. refl }, inl record { word = refl; home = refl; nobody = one_free })
