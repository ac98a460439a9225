-- Machines with buffers: an entry takes effect when it is drained, and all else at once.
use Rattle.std.proofs.Common.{take, ◌≡◌, ◌≢◌, ◌∙◌, ◌⊎◌, ℕ, zero, suc, ◌<◌, List, [], ◌∷◌, ◌++◌, Bool, true, false, not, ◌&&◌, cond, map, length, get_or, Contains, AllPairs, inl, inr, ⊎_elim, arith, refl, sym, ap, subst, Some}
use Rattle.std.specs.Prelude.{filter, nat_lt, slice_get}
use Rattle.std.proofs.lemmas.Bool.{cases_order}
use Rattle.std.proofs.lemmas.Bool.Decides.{Decides-ltb}
use Rattle.std.proofs.lemmas.List.{get_or_default}
use Rattle.std.proofs.lemmas.List.Elements.{Contains-push_cases}
use Rattle.std.proofs.lemmas.List.Quantifiers.{all_pairs_push}
use Rattle.orders.proofs.Members.{Contains-nil, Contains-head, Contains-tail}
use Rattle.test_lang.specs.Program.{Program, op_count}
use Rattle.test_lang.specs.Values.{is_load_at, is_store_at, same_thread, one_word, value_of, word_at}
use Rattle.test_lang.specs.Runs.{writes_for, own_earlier, base_store}
use Rattle.test_lang.specs.Play.States.{State, has, is_of_thread, buffer, last_value, value_now}
use Rattle.test_lang.specs.Play.Machines.{buffered, forwarded}
use Rattle.test_lang.specs.Play.Explanations.{KeepsOneWord, given}
use Rattle.test_lang.proofs.EdgeTests.{not-true}
use Rattle.test_lang.proofs.PlayLaws.Lasts.{one_place, both, both_true, has_true, has_false, LastIn, last_in}
use Rattle.test_lang.proofs.PlayLaws.Lasts.LastIn.{nothing, last}
use Rattle.test_lang.proofs.PlayLaws.Words.{one_word-as, same_thread-as, same_thread-back, IsKeptPair}
use Rattle.test_lang.proofs.PlayLaws.Giving.{base_own, base_value, given_base, given_memory, in_front}
use Rattle.test_lang.proofs.PlayLaws.Inside.{base_kind}
use Rattle.test_lang.proofs.PlayLaws.Inside.Base.{no_store, last_store}
use Rattle.test_lang.proofs.PlayLaws.Firsts.{IsNextOf, in_thread}
use Rattle.test_lang.proofs.PlayLaws.Moves.{IsCoherent}
use Rattle.test_lang.proofs.PlayLaws.Sound.{EachPlace, each_push, HasKept, IsSound, sound_opening, sound_effect, sound_store, loads_with}

-- what stands before an operation in its thread was executed before
abbrev pub IsInTurn : Program → List ℕ → ℕ → Type 0
IsInTurn p front n = (a : ℕ) → a < n → same_thread p a n ≡ true → Contains front a

-- What holds at each moment, beside that the state is coherent.
pub record BufferKeeps (p : Program) (Kept : ℕ → ℕ → Type 0) (executed effects : List ℕ) (loads : List (ℕ × ℕ)) : Type 0 where
  pub sound : IsSound Kept p effects loads
  pub once : AllPairs (λ a b. a ≢ b) executed
  pub nodes : (n : ℕ) → Contains executed n → n < op_count p
  pub turns : EachPlace (IsInTurn p) executed

pub buffer_opening : (p : Program) (Kept : ℕ → ℕ → Type 0) → BufferKeeps p Kept [] [] []
buffer_opening p Kept = record {
  sound = sound_opening Kept p;
  once = λ i j d lt below. absurd (omega (arith, below));
  nodes = λ n there. absurd (Contains-nil n there);
  turns = λ k lt. absurd (omega (arith, lt));
}

-- an element of a filtered list, and what passes before it
pub record IsFiltered (test : ℕ → Bool) (xs : List ℕ) (place n : ℕ) : Type 0 where
  pub at : ℕ
  pub below : at < length xs
  pub is : get_or xs at 0 ≡ n
  pub passed : test n ≡ true
  pub before : (i : ℕ) → i < at → test (get_or xs i 0) ≡ true → Contains (take place (filter test xs)) (get_or xs i 0)

filtered_here : (test : ℕ → Bool) (x : ℕ) (xs : List ℕ) (place n : ℕ) (b : Bool) → test x ≡ b → slice_get (cond b (x ∷ filter test xs) (filter test xs)) place ≡ Some n
    → ((k : ℕ) → slice_get (filter test xs) k ≡ Some n → IsFiltered test xs k n) → IsFiltered test (x ∷ xs) place n
filtered_here test x xs zero n true t e more =
    let same : x ≡ n = cc in
    record { at = 0; below = omega arith; is = same; passed = subst (λ (z : ℕ). test z ≡ true) same t; before = λ i lt. absurd (omega (arith, lt)) }
filtered_here test x xs (suc place) n true t e more =
    let f = more place e in
    let below = f.below in
    record {
      at = suc f.at;
      below = omega (arith, below);
      is = f.is;
      passed = f.passed;
      before = λ i lt pass. subst (λ b. Contains (take (suc place) (cond b (x ∷ filter test xs) (filter test xs))) (get_or (x ∷ xs) i 0)) (sym t) (front f i lt pass);
    } where
      front : (f : IsFiltered test xs place n) → (i : ℕ) → i < suc f.at → test (get_or (x ∷ xs) i 0) ≡ true → Contains (x ∷ take place (filter test xs)) (get_or (x ∷ xs) i 0)
      front f zero lt pass = Contains-head x (take place (filter test xs)) x refl
      front f (suc i) lt pass = Contains-tail x (take place (filter test xs)) (get_or xs i 0) (f.before i (omega (arith, lt)) pass)
filtered_here test x xs place n false t e more =
    let f = more place e in
    let below = f.below in
    record {
      at = suc f.at;
      below = omega (arith, below);
      is = f.is;
      passed = f.passed;
      before = λ i lt pass. subst (λ b. Contains (take place (cond b (x ∷ filter test xs) (filter test xs))) (get_or (x ∷ xs) i 0)) (sym t) (behind f i lt pass);
    } where
      behind : (f : IsFiltered test xs place n) → (i : ℕ) → i < suc f.at → test (get_or (x ∷ xs) i 0) ≡ true → Contains (take place (filter test xs)) (get_or (x ∷ xs) i 0)
      behind f zero lt pass = absurd (cc (t, pass))
      behind f (suc i) lt pass = f.before i (omega (arith, lt)) pass

pub is_filtered : (test : ℕ → Bool) (xs : List ℕ) (place n : ℕ) → slice_get (filter test xs) place ≡ Some n → IsFiltered test xs place n
is_filtered test [] place n e = absurd cc
is_filtered test (x ∷ xs) place n e = filtered_here test x xs place n (test x) refl e (λ k f. is_filtered test xs k n f)

forwarded_some : (p : Program) (xs : List ℕ) (other : ℕ) → (xs ≡ [] → ⊥) → forwarded p xs other ≡ last_value (map (value_of p) xs)
forwarded_some p [] other h = absurd (h refl)
forwarded_some p (x ∷ xs) other h = refl

module _ (p : Program) (Kept : ℕ → ℕ → Type 0) (entry : ℕ → Bool) (one : KeepsOneWord Kept p) (st : State) (c : IsCoherent entry st.executed st.effects) (k : BufferKeeps p Kept st.executed st.effects st.loads) where
  same_place : (i j : ℕ) → i < length st.executed → j < length st.executed → get_or st.executed i 0 ≡ get_or st.executed j 0 → i ≡ j
  same_place i j li lj same = one_place st.executed k.once i j li lj same

  -- what stands before an executed operation was executed
  closed : (n a : ℕ) → Contains st.executed n → a < n → same_thread p a n ≡ true → Contains st.executed a
  closed n a there lt same =
      let here : get_or st.executed there.0 0 ≡ n = get_or_default st.executed there.0 0 n there.1 ∙ there.2 in
      let found = in_front st.executed there.0 a (let below = there.1 in omega (arith, below))
      (k.turns there.0 there.1 a (subst (λ (x : ℕ). a < x) (sym here) lt) (subst (λ (x : ℕ). same_thread p a x ≡ true) (sym here) same)) in
      let below = found.1 in
      let end = there.1 in
      let far : found.0 < length st.executed = omega (arith, below, end) in
      (found.0, far, get_or_default st.executed found.0 a 0 far ∙ found.2)

  none_waits : (load : ℕ) → ((j : ℕ) → j < length st.executed → ((writes_for p load (get_or st.executed j 0) && same_thread p load (get_or st.executed j 0)) && not (has st.effects (get_or st.executed j 0))) ≡ false) →
      (w : ℕ) → base_store p load ≡ Some w → Contains st.executed w → Contains st.effects w
  none_waits load none w is there = at (has st.effects w) refl where
    at : (h : Bool) → has st.effects w ≡ h → Contains st.effects w
    at true e = has_true st.effects w e
    at false e =
        let o = base_own p load w is in
        let here : get_or st.executed there.0 0 ≡ w = get_or_default st.executed there.0 0 w there.1 ∙ there.2 in
        let no : ((writes_for p load w && same_thread p load w) && not (has st.effects w)) ≡ false =
        subst (λ (x : ℕ). ((writes_for p load x && same_thread p load x) && not (has st.effects x)) ≡ false) here (none there.0 there.1) in
        let yes : ((writes_for p load w && same_thread p load w) && not (has st.effects w)) ≡ true =
        both_true (writes_for p load w && same_thread p load w) (not (has st.effects w))
        (both_true (writes_for p load w) (same_thread p load w) (both_true (is_store_at p w) (one_word p load w) o.is_store o.word) o.thread) (ap not e) in
        absurd cc

  -- the last buffered store to the word is the base
  last_is_base : (thread n i : ℕ) → IsNextOf p st thread n → i < length st.executed → writes_for p n (get_or st.executed i 0) ≡ true → same_thread p n (get_or st.executed i 0) ≡ true → (Contains st.effects (get_or st.executed i 0) → ⊥) →
      ((j : ℕ) → i < j → j < length st.executed → ((writes_for p n (get_or st.executed j 0) && same_thread p n (get_or st.executed j 0)) && not (has st.effects (get_or st.executed j 0))) ≡ false) →
      base_store p n ≡ Some (get_or st.executed i 0)
  last_is_base thread n i next li writes t out rest =
      let w = get_or st.executed i 0 in
      let there : Contains st.executed w = (i, li, get_or_default st.executed i w 0 li) in
      let early : w < n = ⊎_elim (λ (same : w ≡ n). absurd (next.new (subst (Contains st.executed) same there)))
      (λ (other : (w < n) ⊎ (n < w)). ⊎_elim (λ (lt : w < n). lt) (λ (lt : n < w). absurd (next.new (closed w n there lt t))) other) (cases_order w n) in
      let own : own_earlier p n w ≡ true = both_true (writes_for p n w) (same_thread p n w && nat_lt w n) writes (both_true (same_thread p n w) (nat_lt w n) t ((Decides-ltb w n).1 early)) in
      elim (base_kind p n) [
        | no_store z none ↦ absurd (none w own)
        | last_store b is none ↦
            ⊎_elim (λ (same : w ≡ b). subst (λ (x : ℕ). base_store p n ≡ Some x) (sym same) is)
            (λ (other : (w < b) ⊎ (b < w)). ⊎_elim (λ (lt : w < b). absurd (no_later b is lt)) (λ (lt : b < w). absurd (none w lt own)) other)
            (cases_order w b)
      ] where
        no_later : (b : ℕ) → base_store p n ≡ Some b → get_or st.executed i 0 < b → ⊥
        no_later b is lt =
            let w = get_or st.executed i 0 in
            let o = base_own p n b is in
            let there : Contains st.executed b = next.before b o.earlier (same_thread-back p n b o.thread) in
            let here : get_or st.executed there.0 0 ≡ b = get_or_default st.executed there.0 0 b there.1 ∙ there.2 in
            let wb : same_thread p w b ≡ true = sym (same_thread-as p n w b t) ∙ o.thread in
            let word : one_word p w b ≡ true = sym (one_word-as p n w b (both (is_store_at p w) (one_word p n w) writes).1) ∙ o.word in
            let lj = there.1 in
            let front = in_front st.executed there.0 w (omega (arith, lj)) (k.turns there.0 there.1 w (subst (λ (x : ℕ). w < x) (sym here) lt) (subst (λ (x : ℕ). same_thread p w x ≡ true) (sym here) wb)) in
            let below = front.1 in
            let same : front.0 ≡ i = same_place front.0 i (omega (arith, below, lj)) li front.2 in
            let behind : i < there.0 = omega (arith, below, same) in
            let fails : ((writes_for p n b && same_thread p n b) && not (has st.effects b)) ≡ false =
            subst (λ (x : ℕ). ((writes_for p n x && same_thread p n x) && not (has st.effects x)) ≡ false) here (rest there.0 behind lj) in
            at o.is_store o.word o.thread fails wb word lt (has st.effects b) refl where
              at : is_store_at p b ≡ true → one_word p n b ≡ true → same_thread p n b ≡ true → ((writes_for p n b && same_thread p n b) && not (has st.effects b)) ≡ false →
                  same_thread p (get_or st.executed i 0) b ≡ true → one_word p (get_or st.executed i 0) b ≡ true → get_or st.executed i 0 < b → (h : Bool) → has st.effects b ≡ h → ⊥
              at s x u fails wb word lt true e =
                  let done = has_true st.effects b e in
                  let in_order : Kept (get_or st.executed i 0) b = one (get_or st.executed i 0) b lt wb word s in
                  let here : get_or st.effects done.0 0 ≡ b = get_or_default st.effects done.0 0 b done.1 ∙ done.2 in
                  let lj = done.1 in
                  let front = in_front st.effects done.0 (get_or st.executed i 0) (omega (arith, lj)) (k.sound.kept done.0 done.1 (get_or st.executed i 0) (subst (λ (y : ℕ). Kept (get_or st.executed i 0) y) (sym here) in_order)) in
                  let below = front.1 in
                  let far : front.0 < length st.effects = omega (arith, below, lj) in
                  out (front.0, far, get_or_default st.effects front.0 (get_or st.executed i 0) 0 far ∙ front.2)
              at s x u fails wb word lt false e =
                  let yes : ((writes_for p n b && same_thread p n b) && not (has st.effects b)) ≡ true =
                  both_true (writes_for p n b && same_thread p n b) (not (has st.effects b)) (both_true (writes_for p n b) (same_thread p n b) (both_true (is_store_at p b) (one_word p n b) s x) u) (ap not e) in
                  absurd cc

  by_last : (thread n : ℕ) → IsNextOf p st thread n → LastIn (λ x. (writes_for p n x && same_thread p n x) && not (has st.effects x)) (value_of p) st.executed (last_value (map (value_of p) (buffered p st n))) →
      forwarded p (buffered p st n) (value_now p st.effects (word_at p n)) ≡ given p st.effects n
  by_last thread n next (nothing none z rest) =
      ap (λ (xs : List ℕ). forwarded p xs (value_now p st.effects (word_at p n))) none
      ∙ given_memory p st.effects n (λ w is. let o = base_own p n w is in none_waits n rest w is (next.before w o.earlier (same_thread-back p n w o.thread)))
  by_last thread n next (last i li passed v rest) =
      let parts = both (writes_for p n (get_or st.executed i 0) && same_thread p n (get_or st.executed i 0)) (not (has st.effects (get_or st.executed i 0))) passed in
      let both_parts = both (writes_for p n (get_or st.executed i 0)) (same_thread p n (get_or st.executed i 0)) parts.0 in
      let out = has_false st.effects (get_or st.executed i 0) (not-true (has st.effects (get_or st.executed i 0)) parts.1) in
      let is = last_is_base thread n i next li both_parts.0 both_parts.1 out rest in
      forwarded_some p (buffered p st n) (value_now p st.effects (word_at p n)) (λ empty. some empty v)
      ∙ v ∙ base_value p n (get_or st.executed i 0) is ∙ given_base p st.effects n (get_or st.executed i 0) is out where
        some : buffered p st n ≡ [] → last_value (map (value_of p) (buffered p st n)) ≡ value_of p (get_or st.executed i 0) → ⊥
        some empty v = let zero_is : last_value (map (value_of p) (buffered p st n)) ≡ 0 = ap (λ (xs : List ℕ). last_value (map (value_of p) xs)) empty in omega (arith, v, zero_is)

  -- the value that a load gives
  pub buffered_value : (thread n : ℕ) → IsNextOf p st thread n → forwarded p (buffered p st n) (value_now p st.effects (word_at p n)) ≡ given p st.effects n
  buffered_value thread n next = by_last thread n next (last_in (λ x. (writes_for p n x && same_thread p n x) && not (has st.effects x)) (value_of p) st.executed)

  executed_once : (thread n : ℕ) → IsNextOf p st thread n → AllPairs (λ a b. a ≢ b) (st.executed ++ n ∷ [])
  executed_once thread n next = all_pairs_push (λ a b. a ≢ b) st.executed n k.once (λ i d lt same. next.new (i, lt, get_or_default st.executed i n d lt ∙ same))

  executed_nodes : (thread n : ℕ) → IsNextOf p st thread n → (x : ℕ) → Contains (st.executed ++ n ∷ []) x → x < op_count p
  executed_nodes thread n next x there = elim (Contains-push_cases st.executed n x there) [ inl old ↦ k.nodes x old | inr same ↦ subst (λ (y : ℕ). y < op_count p) same next.below ]

  -- an entry is executed
  pub execute_entry : (thread n : ℕ) → IsNextOf p st thread n → BufferKeeps p Kept (st.executed ++ n ∷ []) st.effects st.loads
  execute_entry thread n next = record {
    sound = k.sound;
    once = executed_once thread n next;
    nodes = executed_nodes thread n next;
    turns = each_push (IsInTurn p) st.executed n k.turns next.before;
  }

  -- all else is executed, and takes effect
  pub execute_other : (thread n : ℕ) → IsNextOf p st thread n → HasKept Kept st.effects n →
      BufferKeeps p Kept (st.executed ++ n ∷ []) (st.effects ++ n ∷ []) (loads_with p n (forwarded p (buffered p st n) (value_now p st.effects (word_at p n))) st.loads)
  execute_other thread n next before = record {
    sound = sound_effect Kept p st.effects st.loads n (forwarded p (buffered p st n) (value_now p st.effects (word_at p n))) k.sound next.below (λ there. next.new (c.within n there)) before (λ load. buffered_value thread n next);
    once = executed_once thread n next;
    nodes = executed_nodes thread n next;
    turns = each_push (IsInTurn p) st.executed n k.turns next.before;
  }

  -- what is executed and didn't take effect is an entry
  pub is_entry : (n : ℕ) → Contains st.executed n → (Contains st.effects n → ⊥) → entry n ≡ true
  is_entry n there out = at (entry n) refl where
    at : (b : Bool) → entry n ≡ b → b ≡ true
    at true e = refl
    at false e = absurd (out (c.direct n there e))

  -- an entry of the buffer takes effect, where no entry that stands before it in the buffer is kept before it
  pub drain_entry : (thread place n : ℕ) → slice_get (buffer p st thread) place ≡ Some n → is_load_at p n ≡ false → ((a b : ℕ) → Kept a b → IsKeptPair p a b) →
      ((a : ℕ) → Kept a n → entry a ≡ true → Contains (take place (buffer p st thread)) a → ⊥) → BufferKeeps p Kept st.executed (st.effects ++ n ∷ []) st.loads
  drain_entry thread place n e idle pairs free =
      let f = is_filtered (λ x. is_of_thread p thread x && not (has st.effects x)) st.executed place n e in
      let parts = both (is_of_thread p thread n) (not (has st.effects n)) f.passed in
      let there : Contains st.executed n = (f.at, f.below, get_or_default st.executed f.at n 0 f.below ∙ f.is) in
      record {
        sound = sound_store Kept p st.effects st.loads n k.sound (k.nodes n there) (has_false st.effects n (not-true (has st.effects n) parts.1))
            (λ a order.
            let pair = pairs a n order in
            let lj = f.below in
            let front = in_front st.executed f.at a (omega (arith, lj))
            (k.turns f.at f.below a (subst (λ (x : ℕ). a < x) (sym f.is) pair.earlier) (subst (λ (x : ℕ). same_thread p a x ≡ true) (sym f.is) pair.thread)) in
            let below = front.1 in
            let far : front.0 < length st.executed = omega (arith, below, lj) in
            waited a (in_thread p thread a n parts.0 pair.thread) (front.0, far, get_or_default st.executed front.0 a 0 far ∙ front.2) (free a order)
            (λ pass. subst (Contains (take place (buffer p st thread))) front.2
            (f.before front.0 below (subst (λ (x : ℕ). (is_of_thread p thread x && not (has st.effects x)) ≡ true) (sym front.2) pass)))
            (has st.effects a) refl) idle;
        once = k.once;
        nodes = k.nodes;
        turns = k.turns;
      } where
        waited : (a : ℕ) → is_of_thread p thread a ≡ true → Contains st.executed a → (entry a ≡ true → Contains (take place (buffer p st thread)) a → ⊥) →
            ((is_of_thread p thread a && not (has st.effects a)) ≡ true → Contains (take place (buffer p st thread)) a) → (h : Bool) → has st.effects a ≡ h → Contains st.effects a
        waited a t there free pass true u = has_true st.effects a u
        waited a t there free pass false u =
            absurd (free (is_entry a there (has_false st.effects a u)) (pass (both_true (is_of_thread p thread a) (not (has st.effects a)) t (ap not u))))
