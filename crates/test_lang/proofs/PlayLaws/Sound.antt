-- What holds of the nodes that took effect, at each moment of a play without a fault, and what follows at its end.
use Rattle.std.proofs.Common.{◌≡◌, ◌≢◌, ◌∙◌, ℕ, ◌<◌, ◌≤◌, List, [], ◌∷◌, ◌++◌, Bool, true, false, cond, take, length, get_or, Contains, AllPairs, inl, inr, ⊎_elim, arith, refl, sym, ap, subst}
use Rattle.std.specs.Prelude.{◌==◌, IsTrue}
use Rattle.std.proofs.Math.Seq.{get_or-append_seam, take-append_seam}
use Rattle.std.proofs.lemmas.List.{get_or_append_left, take-append-le, length_push, length-map, get_or_default, get_or-map}
use Rattle.std.proofs.lemmas.List.Elements.{Contains-push_cases}
use Rattle.std.proofs.lemmas.List.Quantifiers.{all_pairs_push}
use Rattle.std.proofs.lemmas.Option.{get_or_from_slice_get, slice_get_within}
use Rattle.std.proofs.lemmas.Bool.{cases_lt, eq-eqb, eqb-true}
use Rattle.orders.proofs.Below.{has-below}
use Rattle.orders.proofs.Members.{Contains-nil}
use Rattle.test_lang.specs.Program.{Program, op_count, all_nodes}
use Rattle.test_lang.specs.Values.{is_load_at, rank_of, load_nodes}
use Rattle.test_lang.specs.Runs.{value_read}
use Rattle.test_lang.proofs.Ranks.{load_nodes-rank_of, length-load_nodes}
use Rattle.test_lang.specs.Play.States.{State, has, value_given, loads_of}
use Rattle.test_lang.specs.Play.Plays.{is_done}
use Rattle.test_lang.specs.Play.Explanations.{given, Explains}
use Rattle.test_lang.proofs.PlayLaws.Lasts.{one_place, has_true, all_in}
use Rattle.test_lang.proofs.PlayLaws.Giving.{in_front}

-- each element, and those in front of it
abbrev pub EachPlace : (List ℕ → ℕ → Type 0) → List ℕ → Type 0
EachPlace P xs = (k : ℕ) → k < length xs → P (take k xs) (get_or xs k 0)

pub each_push : (P : List ℕ → ℕ → Type 0) (xs : List ℕ) (x : ℕ) → EachPlace P xs → P xs x → EachPlace P (xs ++ x ∷ [])
each_push P xs x each new k lt = ⊎_elim
    (λ (below : k < length xs).
    let front : take k (xs ++ x ∷ []) ≡ take k xs = take-append-le k xs (x ∷ []) (omega (arith, below)) in
    let here : get_or (xs ++ x ∷ []) k 0 ≡ get_or xs k 0 = get_or_append_left xs (x ∷ []) 0 k below in
    subst (λ (ys : List ℕ). P ys (get_or (xs ++ x ∷ []) k 0)) (sym front) (subst (P (take k xs)) (sym here) (each k below)))
    (λ (above : length xs ≤ k).
    let long = length_push xs x in
    let same : length xs ≡ k = omega (arith, lt, above, long) in
    let front : take (length xs) (xs ++ x ∷ []) ≡ xs = take-append_seam xs (x ∷ []) in
    let here : get_or (xs ++ x ∷ []) (length xs) 0 ≡ x = get_or-append_seam xs x [] 0 in
    subst (λ (i : ℕ). P (take i (xs ++ x ∷ [])) (get_or (xs ++ x ∷ []) i 0)) same
    (subst (λ (ys : List ℕ). P ys (get_or (xs ++ x ∷ []) (length xs) 0)) (sym front) (subst (P xs) (sym here) new)))
    (cases_lt k (length xs))

pub each_more : (P Q : List ℕ → ℕ → Type 0) (xs : List ℕ) → ((ys : List ℕ) (x : ℕ) → Contains xs x → P ys x → Q ys x) → EachPlace P xs → EachPlace Q xs
each_more P Q xs more each k lt = more (take k xs) (get_or xs k 0) (k, lt, get_or_default xs k (get_or xs k 0) 0 lt) (each k lt)

-- the nodes that are kept before the node are in front of it
abbrev pub HasKept : (ℕ → ℕ → Type 0) → List ℕ → ℕ → Type 0
HasKept Kept front n = (a : ℕ) → Kept a n → Contains front a

-- the node, where it is a load, gave what it gives behind those in front of it
abbrev pub HasGiven : Program → List (ℕ × ℕ) → List ℕ → ℕ → Type 0
HasGiven p loads front n = is_load_at p n ≡ true → value_given loads n ≡ given p front n

pub record IsSound (Kept : ℕ → ℕ → Type 0) (p : Program) (effects : List ℕ) (loads : List (ℕ × ℕ)) : Type 0 where
  pub once : AllPairs (λ a b. a ≢ b) effects
  pub nodes : (n : ℕ) → Contains effects n → n < op_count p
  pub kept : EachPlace (HasKept Kept) effects
  pub gives : EachPlace (HasGiven p loads) effects

pub sound_opening : (Kept : ℕ → ℕ → Type 0) (p : Program) → IsSound Kept p [] []
sound_opening Kept p = record {
  once = λ i j d lt below. absurd (omega (arith, below));
  nodes = λ n there. absurd (Contains-nil n there);
  kept = λ k lt. absurd (omega (arith, lt));
  gives = λ k lt. absurd (omega (arith, lt));
}

-- the loads after an operation was executed
abbrev pub loads_with : Program → ℕ → ℕ → List (ℕ × ℕ) → List (ℕ × ℕ)
loads_with p n value loads = cond (is_load_at p n) ((n, value) ∷ loads) loads

pub given_head : (n value : ℕ) (loads : List (ℕ × ℕ)) → value_given ((n, value) ∷ loads) n ≡ value
given_head n value loads = ap (λ b. cond b value (value_given loads n)) (eq-eqb n n refl)

pub neq-eqb : (a b : ℕ) → (a ≡ b → ⊥) → (a == b) ≡ false
neq-eqb a b ne = at (a == b) refl where
  at : (t : Bool) → (a == b) ≡ t → t ≡ false
  at true e = absurd (ne (eqb-true a b e))
  at false e = refl

given_other : (n value : ℕ) (loads : List (ℕ × ℕ)) (x : ℕ) → (n ≡ x → ⊥) → value_given ((n, value) ∷ loads) x ≡ value_given loads x
given_other n value loads x ne = ap (λ b. cond b value (value_given loads x)) (neq-eqb n x ne)

-- what another load gave stays
pub given_kept : (p : Program) (n value : ℕ) (loads : List (ℕ × ℕ)) (x : ℕ) → (n ≡ x → ⊥) → (b : Bool) → value_given (cond b ((n, value) ∷ loads) loads) x ≡ value_given loads x
given_kept p n value loads x ne true = given_other n value loads x ne
given_kept p n value loads x ne false = refl

-- a node takes effect
pub sound_effect : (Kept : ℕ → ℕ → Type 0) (p : Program) (effects : List ℕ) (loads : List (ℕ × ℕ)) (n value : ℕ) → IsSound Kept p effects loads → n < op_count p → (Contains effects n → ⊥) →
    HasKept Kept effects n → (is_load_at p n ≡ true → value ≡ given p effects n) → IsSound Kept p (effects ++ n ∷ []) (loads_with p n value loads)
sound_effect Kept p effects loads n value s below new order is = record {
  once = all_pairs_push (λ a b. a ≢ b) effects n s.once (λ k d lt same. new (k, lt, get_or_default effects k n d lt ∙ same));
  nodes = λ x there. elim (Contains-push_cases effects n x there) [ inl old ↦ s.nodes x old | inr same ↦ subst (λ (y : ℕ). y < op_count p) same below ];
  kept = each_push (HasKept Kept) effects n s.kept order;
  gives = each_push (HasGiven p (loads_with p n value loads)) effects n
      (each_more (HasGiven p loads) (HasGiven p (loads_with p n value loads)) effects
      (λ front x there old load. given_kept p n value loads x (λ same. new (subst (Contains effects) (sym same) there)) (is_load_at p n) ∙ old load) s.gives)
      (λ load. ap (λ b. value_given (cond b ((n, value) ∷ loads) loads) n) load ∙ given_head n value loads ∙ is load);
}

-- a store or a fence takes effect, and no load is executed
pub sound_store : (Kept : ℕ → ℕ → Type 0) (p : Program) (effects : List ℕ) (loads : List (ℕ × ℕ)) (n : ℕ) → IsSound Kept p effects loads → n < op_count p → (Contains effects n → ⊥) →
    HasKept Kept effects n → is_load_at p n ≡ false → IsSound Kept p (effects ++ n ∷ []) loads
sound_store Kept p effects loads n s below new order idle =
    subst (λ b. IsSound Kept p (effects ++ n ∷ []) (cond b ((n, 0) ∷ loads) loads)) idle
    (sound_effect Kept p effects loads n 0 s below new order (λ load. absurd (cc (load, idle))))

-- at the end

value_read_given : (p : Program) (st : State) (load : ℕ) → is_load_at p load ≡ true → value_read p (loads_of p st) load ≡ value_given st.loads load
value_read_given p st load h =
    let found = load_nodes-rank_of p load h in
    let below = slice_get_within (load_nodes p) (rank_of p load) load found in
    get_or-map (value_given st.loads) (load_nodes p) (rank_of p load) 0 0 below ∙ ap (value_given st.loads) (get_or_from_slice_get (load_nodes p) (rank_of p load) load 0 found)

module _ (Kept : ℕ → ℕ → Type 0) (p : Program) (st : State) (s : IsSound Kept p st.effects st.loads) (done : IsTrue (is_done p st)) where
  same_place : (i j : ℕ) → i < length st.effects → j < length st.effects → get_or st.effects i 0 ≡ get_or st.effects j 0 → i ≡ j
  same_place i j li lj same = one_place st.effects s.once i j li lj same

  pub explains_of : Explains Kept p (loads_of p st) st.effects
  explains_of = record {
    is_order = record {
      same_nodes = λ x. (λ there. has-below (op_count p) x (s.nodes x there), λ there. has_true st.effects x (all_in (has st.effects) (all_nodes p) done x there));
      once = s.once;
      forward = λ i j li lj order.
          let found = in_front st.effects j (get_or st.effects i 0) (omega (arith, lj)) (s.kept j lj (get_or st.effects i 0) order) in
          let below = found.1 in
          let same = same_place found.0 i (omega (arith, below, lj)) li found.2 in
          omega (arith, below, same);
    };
    whole = length-map (load_nodes p) (value_given st.loads) ∙ length-load_nodes p;
    gives = λ k lt load. value_read_given p st (get_or st.effects k 0) load ∙ s.gives k lt load;
  }
