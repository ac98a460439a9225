-- The tables of stores.
use Rattle.std.proofs.Common.{◌≡◌, ℕ, suc, ◌+◌, ◌-◌, ◌*◌, ◌<◌, ◌≤◌, List, [], ◌∷◌, ◌++◌, zero, Bool, true, false, cond, ◌&&◌, length, get_or, set, take, drop, inl, inr, arith, refl, sym, ap, ◌∙◌, get_or-set_same, get_or-set_other, append-nil}
use Rattle.std.proofs.lemmas.List.{take_all, drop_all}
use Rattle.std.specs.List.{last_or}
use Rattle.std.proofs.lemmas.List.Elements.{filter-append}
use Rattle.std.specs.Prelude.{find, filter, Option, Some, None, slice_get, ◌==◌, nat_lt}
use Rattle.std.specs.Option.{option_map, option_map_or, option_or}
use Rattle.std.proofs.lemmas.Bool.{cases_eq, cases_lt, cases_order, eqb-true}
use Rattle.std.proofs.lemmas.Bool.Decides.{nat_tests}
use Rattle.orders.specs.Orders.{nodes_below}
use Rattle.test_lang.specs.declared.op.Op.{Op}
use Rattle.test_lang.specs.declared.op.Op.TheVariants.{Store}
use Rattle.test_lang.specs.declared.op.Action.{Action}
use Rattle.test_lang.specs.Actions.{op_of}
use Rattle.test_lang.specs.Program.{Program, nodes, actions, op_at, thread_at, op_count, passes, passes_after}
use Rattle.test_lang.specs.Values.{is_store, is_store_to, same_word, is_store_at, same_thread, one_word}
use Rattle.test_lang.proofs.ActionNodes.{node_of, node-action}
use Rattle.test_lang.proofs.Nodes.{node_at}
use Rattle.graph_model.specs.declared.kinds.Kind.TheVariants.{StoreOfWord}
use Rattle.graph_model.specs.FewKept.{is_kind_beside, last_of_kind, next_of_kind}
use Rattle.test_lang.specs.Runs.{base_store, own_earlier}
use Rattle.test_lang.proofs.BaseStores.{last-push}
use Rattle.graph_model.specs.FirstLast.{last_below}
use Rattle.graph_model.specs.LoadEdges.{next_store}
use Rattle.graph_model.specs.StoreTables.{is_thread_store}
use Rattle.graph_model.proofs.Near.{first_from-some, first_found}
use Rattle.graph_model.proofs.Beside.{both}
use Rattle.graph_model.proofs.Found.{find_below-is, find_below-none, find_below-suc}

-- the next store of a thread to a word

later_store : Program → ℕ → ℕ → Bool
later_store p n k = nat_lt n k && (is_store_at p k && (same_thread p n k && one_word p n k))

beside_is : (x y : Option (ℕ × Action)) →
    (passes (λ node. is_store node.1) (option_map node_of y)
    && (passes_after (λ first second. first.0 == second.0) (option_map node_of x) (option_map node_of y)
    && passes_after (λ first second. same_word first.1 second.1) (option_map node_of x) (option_map node_of y)))
    ≡ option_map_or (λ own. option_map_or (λ other. (own.0 == other.0) && (same_word (op_of own.1) (op_of other.1) && is_store (op_of other.1))) y false) x false
beside_is None None = refl
beside_is None (Some y) = grind (arith, nat_tests)
beside_is (Some x) None = refl
beside_is (Some x) (Some y) = swap (is_store (op_of y.1)) (x.0 == y.0) (same_word (op_of x.1) (op_of y.1)) where
  swap : (a b c : Bool) → (a && (b && c)) ≡ (b && (c && a))
  swap a b c = grind (arith, nat_tests)

-- a store beside a node, on its word
pub store_beside : (p : Program) (n k : ℕ) → (is_store_at p k && (same_thread p n k && one_word p n k)) ≡ is_kind_beside StoreOfWord p n k
store_beside p n k =
    ap (λ (y : Option (ℕ × Op)). passes (λ node. is_store node.1) y && (passes_after (λ first second. first.0 == second.0) (slice_get (nodes p) n) y && passes_after (λ first second. same_word first.1 second.1) (slice_get (nodes p) n) y)) (node-action p k)
    ∙ ap (λ (x : Option (ℕ × Op)). passes (λ node. is_store node.1) (option_map node_of (slice_get (actions p) k))
    && (passes_after (λ first second. first.0 == second.0) x (option_map node_of (slice_get (actions p) k)) && passes_after (λ first second. same_word first.1 second.1) x (option_map node_of (slice_get (actions p) k)))) (node-action p n)
    ∙ beside_is (slice_get (actions p) n) (slice_get (actions p) k)

later_is : (p : Program) (n k : ℕ) → later_store p n k ≡ (nat_lt n k && is_kind_beside StoreOfWord p n k)
unfolding later_store
later_is p n k = ap (λ (b : Bool). nat_lt n k && b) (store_beside p n k)

lt_true : (a b : ℕ) → a < b → nat_lt a b ≡ true
lt_true a b h = grind (arith, nat_tests)

lt_false : (a b : ℕ) → b ≤ a → nat_lt a b ≡ false
lt_false a b h = grind (arith, nat_tests)

later_true : (p : Program) (n k : ℕ) → n < k → is_kind_beside StoreOfWord p n k ≡ true → later_store p n k ≡ true
later_true p n k lt h = later_is p n k ∙ ap (λ (b : Bool). b && is_kind_beside StoreOfWord p n k) (lt_true n k lt) ∙ h

later_false : (p : Program) (n k : ℕ) → (n < k → is_kind_beside StoreOfWord p n k ≡ false) → later_store p n k ≡ false
later_false p n k h = elim (cases_lt n k) [
  | inl lt ↦ later_is p n k ∙ ap (λ (b : Bool). b && is_kind_beside StoreOfWord p n k) (lt_true n k lt) ∙ h lt
  | inr ge ↦ later_is p n k ∙ ap (λ (b : Bool). b && is_kind_beside StoreOfWord p n k) (lt_false n k ge)
]

not_true : (b : Bool) → (b ≡ true → ⊥) → b ≡ false
not_true true h = absurd (h refl)
not_true false h = refl

module _ (p : Program) (n : ℕ) (lt : n < op_count p) where
  next_told : (found : Option ℕ) → next_of_kind StoreOfWord p n ≡ found → found ≡ find (later_store p n) (nodes_below (op_count p))
  next_told (Some first) e =
      let f = first_from-some (is_kind_beside StoreOfWord p n) (op_count p - suc n) (suc n) first e in
      let not_before = f.not_before in
      let end = f.before_end in
      sym (find_below-is (later_store p n) (op_count p) first (record {
        below = omega (arith, end, lt);
        passes = later_true p n first (omega (arith, not_before)) f.passes;
        none_before = λ k before. later_false p n k (λ above. f.none_between k (omega (arith, above)) before);
      }))
  next_told None e =
      sym (find_below-none (later_store p n) (op_count p) (λ k below. later_false p n k (λ above.
      not_true (is_kind_beside StoreOfWord p n k) (λ yes.
      let f = first_found (is_kind_beside StoreOfWord p n) (op_count p - suc n) (suc n) k (omega (arith, above)) (omega (arith, below, lt)) yes in
      let differ : ◌≡◌ {A = Option ℕ} None (Some f.0) = sym e ∙ f.1 in
      cc))))

  pub next_of_kind_store : next_of_kind StoreOfWord p n ≡ next_store p n
  unfolding later_store
  next_of_kind_store = next_told (next_of_kind StoreOfWord p n) refl

-- one more entry of the table, from the end
pub nexts_more : (p : Program) (table : List (Option ℕ)) (end : ℕ) → 0 < end → end ≤ op_count p → length table ≡ op_count p →
    ((n : ℕ) → end ≤ n → n < op_count p → get_or table n None ≡ next_store p n) →
    (n : ℕ) → end - 1 ≤ n → n < op_count p → get_or (set table (end - 1) (next_of_kind StoreOfWord p (end - 1))) n None ≡ next_store p n
nexts_more p table end some within room each n above below = elim (cases_eq n (end - 1)) [
  | inl same ↦
      let place : end - 1 < length table = omega (arith, some, within, room) in
      ap (λ (k : ℕ). get_or (set table (end - 1) (next_of_kind StoreOfWord p (end - 1))) k None) same
      ∙ get_or-set_same table (end - 1) (next_of_kind StoreOfWord p (end - 1)) None place
      ∙ next_of_kind_store p (end - 1) (omega (arith, some, within))
      ∙ ap (next_store p) (sym same)
  | inr other ↦
      get_or-set_other table (end - 1) n (next_of_kind StoreOfWord p (end - 1)) None other ∙ each n (omega (arith, above, other)) below
]

-- the base store of a node

-- the last number that passes, as the last of a list
last_of_list : (test : ℕ → Bool) (n : ℕ) → last_or None (filter test (nodes_below n)) ≡ last_below test n
last_of_list test zero = refl
last_of_list test (suc n) =
    ap (last_or None) (filter-append test (nodes_below n) (n ∷ [])) ∙ one (test n) (last_of_list test n) where
      one : (b : Bool) → last_or None (filter test (nodes_below n)) ≡ last_below test n → last_or None (filter test (nodes_below n) ++ cond b (n ∷ []) []) ≡ cond b (Some n) (last_below test n)
      one true rest = last-push (filter test (nodes_below n)) n
      one false rest = ap (last_or None) (append-nil (filter test (nodes_below n))) ∙ rest

-- what passes below n alone isn't looked for behind it
last_cut : (test : ℕ → Bool) (n d : ℕ) → ((k : ℕ) → n ≤ k → test k ≡ false) → last_below test (n + d) ≡ last_below test n
last_cut test n zero none = let same : n + 0 ≡ n = omega arith in ap (last_below test) same
last_cut test n (suc d) none =
    let next : n + suc d ≡ suc (n + d) = omega arith in
    ap (last_below test) next
    ∙ ap (λ (b : Bool). cond b (Some (n + d)) (last_below test (n + d))) (none (n + d) (omega arith))
    ∙ last_cut test n d none

last_same : (test other : ℕ → Bool) (n : ℕ) → ((k : ℕ) → k < n → test k ≡ other k) → last_below test n ≡ last_below other n
last_same test other zero same = refl
last_same test other (suc n) same =
    ap (λ (b : Bool). cond b (Some n) (last_below test n)) (same n (omega arith))
    ∙ ap (cond (other n) (Some n)) (last_same test other n (λ k lt. same k (omega (arith, lt))))

earlier_is : (p : Program) (n k : ℕ) → own_earlier p n k ≡ (is_kind_beside StoreOfWord p n k && nat_lt k n)
earlier_is p n k = turn (is_store_at p k) (one_word p n k) (same_thread p n k) (nat_lt k n) ∙ ap (λ (b : Bool). b && nat_lt k n) (store_beside p n k) where
  turn : (a b c d : Bool) → ((a && b) && (c && d)) ≡ ((a && (c && b)) && d)
  turn a b c d = grind (arith, nat_tests)

earlier_past : (p : Program) (n k : ℕ) → n ≤ k → own_earlier p n k ≡ false
earlier_past p n k h = earlier_is p n k ∙ ap (λ (b : Bool). is_kind_beside StoreOfWord p n k && b) (lt_false k n h) ∙ and_false (is_kind_beside StoreOfWord p n k) where
  and_false : (b : Bool) → (b && false) ≡ false
  and_false true = refl
  and_false false = refl

earlier_below : (p : Program) (n k : ℕ) → k < n → own_earlier p n k ≡ is_kind_beside StoreOfWord p n k
earlier_below p n k h = earlier_is p n k ∙ ap (λ (b : Bool). is_kind_beside StoreOfWord p n k && b) (lt_true k n h) ∙ and_true (is_kind_beside StoreOfWord p n k) where
  and_true : (b : Bool) → (b && true) ≡ b
  and_true true = refl
  and_true false = refl

pub last_of_kind_store : (p : Program) (n : ℕ) → n < op_count p → last_of_kind StoreOfWord p n ≡ base_store p n
last_of_kind_store p n lt =
    let all : n + (op_count p - n) ≡ op_count p = omega (arith, lt) in
    last_same (is_kind_beside StoreOfWord p n) (own_earlier p n) n (λ k below. sym (earlier_below p n k below))
    ∙ sym (last_cut (own_earlier p n) n (op_count p - n) (λ k past. earlier_past p n k past))
    ∙ ap (last_below (own_earlier p n)) all
    ∙ sym (last_of_list (own_earlier p n) (op_count p))

-- one more entry of the table
pub bases_more : (p : Program) (table : List (Option ℕ)) (n : ℕ) → n < op_count p → length table ≡ op_count p → ((k : ℕ) → k < n → get_or table k None ≡ base_store p k) →
    (k : ℕ) → k < n + 1 → get_or (set table n (last_of_kind StoreOfWord p n)) k None ≡ base_store p k
bases_more p table n lt room each k below = elim (cases_eq k n) [
  | inl same ↦
      let place : n < length table = omega (arith, lt, room) in
      ap (λ (j : ℕ). get_or (set table n (last_of_kind StoreOfWord p n)) j None) same
      ∙ get_or-set_same table n (last_of_kind StoreOfWord p n) None place
      ∙ last_of_kind_store p n lt
      ∙ ap (base_store p) (sym same)
  | inr other ↦ get_or-set_other table n k (last_of_kind StoreOfWord p n) None other ∙ each k (omega (arith, below, other))
]

-- places by word and then by thread

places_apart : (words w v t u : ℕ) → w < v → t < words → w * words + t < v * words + u
places_apart words w v t u lt h =
    let m : (w + 1) * words ≤ v * words = grind arith in
    let s : (w + 1) * words ≡ w * words + words = grind arith in
    omega (arith, m, s, h)

module _ (threads w t v u : ℕ) (in_range : t < threads) (in_range' : u < threads) where
  same_word_of : w * threads + t ≡ v * threads + u → w ≡ v
  same_word_of e = elim (cases_order w v) [
    | inl same ↦ same
    | inr (inl before) ↦ let lt = places_apart threads w v t u before in_range in absurd (omega (arith, lt, e))
    | inr (inr after) ↦ let lt = places_apart threads v w u t after in_range' in absurd (omega (arith, lt, e))
  ]

  same_thread_of : w * threads + t ≡ v * threads + u → w ≡ v → t ≡ u
  same_thread_of e same =
      let product : w * threads ≡ v * threads = ap (λ (k : ℕ). k * threads) same in
      omega (arith, product, e)

-- whether a store is one of the thread to the word

store_to_is : (p : Program) (n u x word thread : ℕ) → slice_get (nodes p) n ≡ Some (u, Store x) → is_thread_store p word thread n ≡ ((u == thread) && (word == x))
store_to_is p n u x word thread is = ap (passes (λ node. (node.0 == thread) && is_store_to word node.1)) is

store_to_true : (u x word thread : ℕ) → u ≡ thread → word ≡ x → ((u == thread) && (word == x)) ≡ true
store_to_true u x word thread e f = grind (arith, nat_tests)

store_to_false : (u x word thread : ℕ) → (u ≡ thread → word ≡ x → ⊥) → ((u == thread) && (word == x)) ≡ false
store_to_false u x word thread h = not_true ((u == thread) && (word == x)) (λ yes.
    let parts = both (u == thread) (word == x) yes in
    h (eqb-true u thread parts.0) (eqb-true word x parts.1))

or_none : (o : Option ℕ) → option_or o None ≡ o
or_none None = refl
or_none (Some x) = refl

-- a store is noted at its place
pub store_noted : (p : Program) (n x u place : ℕ) (table : List (Option ℕ)) (new : Option ℕ) → op_at p n ≡ Some (Store x) → thread_at p n ≡ Some u → u < length p.threads →
    place ≡ x * length p.threads + u → place < length table → new ≡ option_or (get_or table place None) (Some n) → (word thread : ℕ) → thread < length p.threads →
    get_or (set table place new) (word * length p.threads + thread) None
    ≡ option_or (get_or table (word * length p.threads + thread) None) (cond (is_thread_store p word thread n) (Some n) None)
store_noted p n x u place table new op in_thread range at inside e word thread range' =
    let is : slice_get (nodes p) n ≡ Some (u, Store x) = node_at p n u (Store x) in_thread op in
    elim (cases_eq (word * length p.threads + thread) place) [
      | inl here ↦
          let same : word * length p.threads + thread ≡ x * length p.threads + u = here ∙ at in
          let w = same_word_of (length p.threads) word thread x u range' range same in
          let t = same_thread_of (length p.threads) word thread x u range' range same w in
          ap (λ (k : ℕ). get_or (set table place new) k None) here
          ∙ get_or-set_same table place new None inside
          ∙ e
          ∙ ap (λ (k : ℕ). option_or (get_or table k None) (Some n)) (sym here)
          ∙ ap (λ (b : Bool). option_or (get_or table (word * length p.threads + thread) None) (cond b (Some n) None))
          (sym (store_to_is p n u x word thread is ∙ store_to_true u x word thread (sym t) w))
      | inr other ↦
          get_or-set_other table place (word * length p.threads + thread) new None other
          ∙ sym (or_none (get_or table (word * length p.threads + thread) None))
          ∙ ap (λ (b : Bool). option_or (get_or table (word * length p.threads + thread) None) (cond b (Some n) None))
          (sym (store_to_is p n u x word thread is
          ∙ store_to_false u x word thread (λ t w.
          other (ap (λ (k : ℕ). k * length p.threads + thread) w ∙ ap (λ (k : ℕ). x * length p.threads + k) (sym t) ∙ sym at))))
    ]

-- so the table has the first stores among the nodes so far
pub firsts_more : (p : Program) (n word thread : ℕ) (old new : Option ℕ) → old ≡ find (is_thread_store p word thread) (nodes_below n) →
    new ≡ option_or old (cond (is_thread_store p word thread n) (Some n) None) → new ≡ find (is_thread_store p word thread) (nodes_below (n + 1))
firsts_more p n word thread old new e f =
    let next : suc n ≡ n + 1 = omega arith in
    f
    ∙ ap (λ (o : Option ℕ). option_or o (cond (is_thread_store p word thread n) (Some n) None)) e
    ∙ sym (find_below-suc (is_thread_store p word thread) n)
    ∙ ap (λ (k : ℕ). find (is_thread_store p word thread) (nodes_below k)) next

-- a table that was lent as a slice, as it comes back
pub lent_back : (len : ℕ) (new old : List (Option ℕ)) → length new ≡ length old → len ≡ length old → take len (new ++ drop (length new) old) ≡ new
lent_back len new old same all =
    ap (λ (rest : List (Option ℕ)). take len (new ++ rest)) (drop_all (length new) old (omega (arith, same)))
    ∙ ap (take len) (append-nil new)
    ∙ take_all len new (omega (arith, same, all))
