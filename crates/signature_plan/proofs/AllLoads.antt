-- The groups of a test have all its loads, in node order.
use Rattle.std.proofs.Common.{◌≡◌, ◌∙◌, ℕ, zero, suc, ◌+◌, ◌-◌, ◌^◌, ◌<◌, ◌≤◌, List, [], ◌∷◌, ◌++◌, Bool, true, false, ◌&&◌, length, Contains, Option, None, Some, refl, ap, arith, sym, append-nil, add-one, cond, drop}
use Rattle.std.specs.Prelude.{◌==◌, slice_get}
use Rattle.std.specs.List.{concat, flat_map}
use Rattle.std.specs.Option.{option_map}
use Rattle.std.proofs.Math.Seq.{drop-cons, drop-length}
use Rattle.std.proofs.lemmas.Bool.{and_from, and_left, and_parts, and_right, eq-eqb, ne_eqb}
use Rattle.std.proofs.lemmas.List.Concat.{flat_map-cons}
use Rattle.std.proofs.lemmas.Grind.{flat_map-append}
use Rattle.std.proofs.lemmas.Option.{get_or_from_slice_get, same_Some, slice_get_within}
use Rattle.orders.specs.Orders.{nodes_below}
use Rattle.orders.proofs.Members.{Contains-filter_back}
use Rattle.test_lang.specs.declared.op.Op.{Op}
use Rattle.test_lang.specs.declared.op.Op.TheVariants.{Load, Store, Fence}
use Rattle.test_lang.specs.Program.{Program, nodes, all_nodes, op_count, passes, thread_at, first_node, thread_length}
use Rattle.test_lang.specs.Values.{is_load, is_load_at, load_nodes, rank_of, thread_loads}
use Rattle.test_lang.specs.Signatures.{candidate_count, groups, groups_of}
use Rattle.test_lang.proofs.Places.{length-places, load_node, passing, passing-suc, places, places_all-passing}
use Rattle.test_lang.proofs.Ranks.{load_nodes-rank_of}
use Rattle.test_lang.proofs.Threads.{StandsIn, thread_at-stands, stands-thread_at, thread_end-le, first_node-suc, first_node_all}
use Rattle.candidates.specs.ByRank.{candidates_at, load_at}
use Rattle.candidates.proofs.CandidateLaws.{candidate_count-le}
use Rattle.signature_plan.proofs.Blocks.{agree-more, none-more}
use Rattle.signature_plan.proofs.Concat.{concat-flat_map}
use Rattle.signature_plan.proofs.Groups.{concat-groups_of}

-- a load of the thread
abbrev pub own_load : ℕ → ℕ × Op → Bool
own_load t node = (node.0 == t) && is_load node.1

module _ (p : Program) (t : ℕ) where
  thread_of_node : (k : ℕ) (x : ℕ × Op) → slice_get (nodes p) k ≡ Some x → thread_at p k ≡ Some x.0
  thread_of_node k x e = ap (option_map (λ node. node.0)) e

  -- a node of another thread is no load of the thread
  no_own : (k : ℕ) (x : ℕ × Op) → slice_get (nodes p) k ≡ Some x → (StandsIn p t k → ⊥) → own_load t x ≡ false
  no_own k x e far = and_left (x.0 == t) (is_load x.1) (ne_eqb x.0 t (λ same. far (thread_at-stands p k t (thread_of_node k x e ∙ ap Some same))))

  own : (k : ℕ) (x : ℕ × Op) → slice_get (nodes p) k ≡ Some x → StandsIn p t k → own_load t x ≡ is_load x.1
  own k x e here = ap (λ b. b && is_load x.1) (eq-eqb x.0 t (same_Some x.0 t (sym (thread_of_node k x e) ∙ stands-thread_at p k t here)))

  pub none_before : places (own_load t) (nodes p) (first_node p t) ≡ []
  none_before =
      let end = thread_end-le p t in
      let whole : 0 + first_node p t ≡ first_node p t = omega arith in
      ap (places (own_load t) (nodes p)) (sym whole)
      ∙ none-more (nodes p) (own_load t) (own_load t) 0 (first_node p t) (omega (arith, end)) (λ k x from to e. no_own k x e (λ s. let from_first = s.from in omega (arith, from_first, to)))

  pub none_behind : places (own_load t) (nodes p) (op_count p) ≡ places (own_load t) (nodes p) (first_node p t + thread_length p t)
  none_behind =
      let end = thread_end-le p t in
      let left = op_count p - (first_node p t + thread_length p t) in
      let whole : first_node p t + thread_length p t + left ≡ op_count p = omega (arith, end) in
      ap (places (own_load t) (nodes p)) (sym whole)
      ∙ none-more (nodes p) (own_load t) (own_load t) (first_node p t + thread_length p t) left (omega (arith, end)) (λ k x from to e. no_own k x e (λ s. let before_end = s.to in omega (arith, before_end, from)))

  -- the loads of the thread stand behind those of the threads before
  loads_of_thread : t < length p.threads → places load_node (nodes p) (first_node p (suc t)) ≡ places load_node (nodes p) (first_node p t) ++ thread_loads p t
  loads_of_thread lt =
      let end = thread_end-le p t in
      let both = agree-more (nodes p) load_node (own_load t) (first_node p t) (thread_length p t) end (λ k x from to e. own k x e (record { in_range = lt; from = from; to = to })) in
      let mine : thread_loads p t ≡ both.0 = none_behind ∙ both.2 ∙ ap (λ list. list ++ both.0) none_before in
      ap (places load_node (nodes p)) (first_node-suc p t) ∙ both.1 ∙ ap (λ list. places load_node (nodes p) (first_node p t) ++ list) (sym mine)

-- one more thread
pub flat_map-below : {X : Type 0} (f : ℕ → List X) (n : ℕ) → flat_map f (nodes_below (suc n)) ≡ flat_map f (nodes_below n) ++ f n
flat_map-below f n =
    flat_map-append f (nodes_below n) (n ∷ []) ∙ ap (λ list. flat_map f (nodes_below n) ++ list) (flat_map-cons f n [] ∙ append-nil (f n))

loads_by_thread : (p : Program) (n : ℕ) → n ≤ length p.threads → places load_node (nodes p) (first_node p n) ≡ flat_map (thread_loads p) (nodes_below n)
loads_by_thread p zero le = refl
loads_by_thread p (suc n) le =
    loads_of_thread p n (omega (arith, le)) ∙ ap (λ list. list ++ thread_loads p n) (loads_by_thread p n (omega (arith, le))) ∙ sym (flat_map-below (thread_loads p) n)

flat_map-same : {X Y : Type 0} (f g : X → List Y) → ((x : X) → f x ≡ g x) → (xs : List X) → flat_map f xs ≡ flat_map g xs
flat_map-same f g same [] = refl
flat_map-same f g same (x ∷ xs) = flat_map-cons f x xs ∙ ap (λ list. f x ++ list) (flat_map-same f g same xs) ∙ ap (λ list. list ++ flat_map g xs) (same x) ∙ sym (flat_map-cons g x xs)

-- all loads, group by group
pub concat-groups : (p : Program) → concat (groups p) ≡ load_nodes p
concat-groups p =
    concat-flat_map (λ t. groups_of (candidate_count p) (thread_loads p t)) (nodes_below (length p.threads))
    ∙ flat_map-same (λ t. concat (groups_of (candidate_count p) (thread_loads p t))) (thread_loads p) (λ t. concat-groups_of (candidate_count p) (thread_loads p t)) (nodes_below (length p.threads))
    ∙ sym (loads_by_thread p (length p.threads) (omega arith))
    ∙ ap (places load_node (nodes p)) (first_node_all p (length p.threads) (omega arith))

-- a thread's loads are loads, each with few candidates

own_passes : (t : ℕ) (found : Option (ℕ × Op)) → passes (own_load t) found ≡ true → passes load_node found ≡ true
own_passes t None h = absurd cc
own_passes t (Some node) h = (and_parts (node.0 == t) (is_load node.1) h).1

pub thread_load : (p : Program) (t load : ℕ) → Contains (thread_loads p t) load → is_load_at p load ≡ true
thread_load p t load h = own_passes t (slice_get (nodes p) load) (Contains-filter_back (λ n. passes (own_load t) (slice_get (nodes p) n)) (all_nodes p) load h).1

pub thread_counts : (p : Program) (t : ℕ) → op_count p ≤ 2048 → (load : ℕ) → Contains (thread_loads p t) load → candidate_count p load ≤ 2 ^ 64
thread_counts p t few load h =
    let count = candidate_count-le p load (thread_load p t load h) in
    omega (arith, count, few)

-- the loads of a thread that are left from node n on
abbrev pub loads_left : Program → ℕ → ℕ → List ℕ
loads_left p t n = drop (passing (own_load t) (nodes p) n) (thread_loads p t)

pub loads_left-first : (p : Program) (t : ℕ) → loads_left p t (first_node p t) ≡ thread_loads p t
loads_left-first p t =
    let end = thread_end-le p t in
    let long = length-places (own_load t) (nodes p) (first_node p t) (omega (arith, end)) in
    let none = ap length (none_before p t) in
    let zero_passed : passing (own_load t) (nodes p) (first_node p t) ≡ 0 = omega (arith, long, none) in
    ap (λ (k : ℕ). drop k (thread_loads p t)) zero_passed

pub loads_left-end : (p : Program) (t : ℕ) → loads_left p t (first_node p t + thread_length p t) ≡ []
loads_left-end p t =
    let end = first_node p t + thread_length p t in
    let long = length-places (own_load t) (nodes p) end (thread_end-le p t) in
    ap (λ (k : ℕ). drop k (thread_loads p t)) (sym long ∙ ap length (sym (none_behind p t))) ∙ drop-length (thread_loads p t)

pub loads_left-other : (p : Program) (t n : ℕ) (op : Op) → slice_get (nodes p) n ≡ Some (t, op) → is_load op ≡ false → loads_left p t (n + 1) ≡ loads_left p t n
loads_left-other p t n op e fails =
    let more = passing-suc (own_load t) (nodes p) n (t, op) e in
    let none = ap (λ b. cond {A = ℕ} b 1 0) (and_right (t == t) (is_load op) fails) in
    let same : passing (own_load t) (nodes p) (n + 1) ≡ passing (own_load t) (nodes p) n = ap (passing (own_load t) (nodes p)) (add-one n) ∙ more ∙ omega (arith, none) in
    ap (λ (k : ℕ). drop k (thread_loads p t)) same

pub loads_left-load : (p : Program) (t n : ℕ) (op : Op) → slice_get (nodes p) n ≡ Some (t, op) → is_load op ≡ true → loads_left p t n ≡ n ∷ loads_left p t (n + 1)
loads_left-load p t n op e holds =
    let here : own_load t (t, op) ≡ true = and_from (t == t) (is_load op) (eq-eqb t t refl) holds in
    let passed : passes (own_load t) (slice_get (nodes p) n) ≡ true = ap (passes (own_load t)) e ∙ here in
    let k = passing (own_load t) (nodes p) n in
    let found = places_all-passing (own_load t) (nodes p) n passed in
    let within = slice_get_within (thread_loads p t) k n found in
    let more = passing-suc (own_load t) (nodes p) n (t, op) e in
    let one = ap (λ b. cond {A = ℕ} b 1 0) here in
    let next : passing (own_load t) (nodes p) (n + 1) ≡ suc k = ap (passing (own_load t) (nodes p)) (add-one n) ∙ more ∙ omega (arith, one) in
    drop-cons (thread_loads p t) k 0 within
    ∙ ap (λ (m : ℕ). m ∷ drop (suc k) (thread_loads p t)) (get_or_from_slice_get (thread_loads p t) k n 0 found)
    ∙ ap (λ (j : ℕ). n ∷ drop j (thread_loads p t)) (sym next)

pub not_load : (op : Op) → ((x : ℕ) → op ≡ Load x → ⊥) → is_load op ≡ false
not_load (Load word) h = absurd (h word refl)
not_load (Store word) h = refl
not_load Fence h = refl

-- the count of a load, by its rank
pub count_of_rank : (p : Program) (n rank : ℕ) → is_load_at p n ≡ true → rank ≡ rank_of p n → length (candidates_at p rank) ≡ candidate_count p n
count_of_rank p n rank h e =
    let here : load_at p (rank_of p n) ≡ n = get_or_from_slice_get (load_nodes p) (rank_of p n) n 0 (load_nodes-rank_of p n h) in
    ap (λ r. length (candidates_at p r)) e ∙ ap (candidate_count p) here
