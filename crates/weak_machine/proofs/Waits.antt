-- Which nodes wait for which, by their actions, and what few pairs tell of it.
use Rattle.std.proofs.Common.{◌≡◌, ◌≢◌, ◌∙◌, ℕ, zero, suc, ◌+◌, ◌-◌, ◌<◌, ◌≤◌, List, [], ◌∷◌, ◌++◌, Bool, true, false, not, ◌&&◌, ◌||◌, Contains, All, cond, length, get_or, Option, None, Some, sym, ap, subst, arith, refl, inl, inr}
use Rattle.std.specs.Prelude.{◌==◌, filter, nat_lt, slice_get}
use Rattle.std.specs.List.{list_any}
use Rattle.std.specs.Option.{option_map_or}
use Rattle.std.proofs.lemmas.Bool.{cases_Bool, cases_lt, eq-eqb}
use Rattle.std.proofs.lemmas.Bool.Decides.{Decides-ltb}
use Rattle.std.proofs.lemmas.List.{append-nil, get_or_default, get_or_past}
use Rattle.std.proofs.lemmas.List.Elements.{filter-append}
use Rattle.std.proofs.lemmas.List.Sums.{count_by-le-length, length-filter}
use Rattle.std.proofs.lemmas.List.Folds.{list_any-append}
use Rattle.test_lang.specs.declared.op.Action.{Action}
use Rattle.test_lang.specs.declared.op.MemModel.TheVariants.{Weak}
use Rattle.test_lang.specs.declared.target.Fault.{Fault}
use Rattle.test_lang.specs.declared.target.Fault.TheVariants.{None as NoFault, Stale, NoFence, Unordered, NoForward, LoadLoad}
use Rattle.test_lang.specs.Actions.{op_of}
use Rattle.test_lang.specs.Program.{Program, actions, action_at, all_nodes, at_action, at_actions, op_count, thread_at}
use Rattle.test_lang.specs.Values.{is_load, is_fence, is_load_at, is_fence_at}
use Rattle.test_lang.specs.Kept.{keeps, is_kept}
use Rattle.test_lang.specs.Play.Faults.{spares}
use Rattle.test_lang.proofs.ActionNodes.{action-is, op_at-action, length-actions, same_thread-actions}
use Rattle.orders.specs.Orders.{nodes_below}
use Rattle.orders.proofs.Below.{has-below, length-below}
use Rattle.orders.proofs.Members.{Contains-nil, Contains-filter, Contains-filter_back}
use Rattle.test_lang.proofs.ListTests.{and_true}
use Rattle.test_lang.proofs.Nodes.{is_load_at-op, is_fence_at-op, same_thread_iff}
use Rattle.test_lang.proofs.Threads.{StandsIn, thread_at-stands, thread_at_some}
use Rattle.weak_machine.specs.Waiting.{spares_actions, waits_for, waits_for_any, waits_directly, direct_waits}
use Rattle.sim_core.proofs.BelowLists.{get_or-map_below, length-map_below}
use Rattle.weak_machine.proofs.Filters.{filter-none_below, filter-longer}
use Rattle.test_lang.proofs.PlayLaws.Lasts.{any_true}

-- by the threads and actions of two nodes

module _ (p : Program) (a b t u : ℕ) (x y : Action) (at : thread_at p a ≡ Some t) (bt : thread_at p b ≡ Some u) (ax : action_at p a ≡ Some x) (by : action_at p b ≡ Some y) where
  kept-is : is_kept Weak p a b ≡ (nat_lt a b && ((t == u) && keeps Weak x y))
  kept-is =
      ap (λ (found : Option (ℕ × Action)). nat_lt a b && option_map_or (λ first. at_action (λ second. (first.0 == second.0) && keeps Weak first.1 second.1) p b) found false) (action-is p a t x at ax)
      ∙ ap (λ (found : Option (ℕ × Action)). nat_lt a b && option_map_or (λ second. (t == second.0) && keeps Weak x second.1) found false) (action-is p b u y bt by)

  spares-is : (fault : Fault) → spares fault p a b ≡ spares_actions fault x y
  spares-is NoFault = refl
  spares-is (Stale node) = refl
  spares-is NoFence =
      ap (λ c. c || is_fence_at p b) (is_fence_at-op p a (op_of x) (op_at-action p a x ax)) ∙ ap (λ c. is_fence (op_of x) || c) (is_fence_at-op p b (op_of y) (op_at-action p b y by))
  spares-is Unordered = refl
  spares-is NoForward = refl
  spares-is LoadLoad =
      ap (λ c. c && is_load_at p b) (is_load_at-op p a (op_of x) (op_at-action p a x ax)) ∙ ap (λ c. is_load (op_of x) && c) (is_load_at-op p b (op_of y) (op_at-action p b y by))

  pub waits-is : (fault : Fault) → waits_for fault p a b ≡ ((nat_lt a b && ((t == u) && keeps Weak x y)) && not (spares_actions fault x y))
  waits-is fault = ap (λ c. c && not (spares fault p a b)) kept-is ∙ ap (λ c. (nat_lt a b && ((t == u) && keeps Weak x y)) && not c) (spares-is fault)

  -- of one thread, the first before the second
  pub waits-same : (fault : Fault) → a < b → t ≡ u → waits_for fault p a b ≡ (keeps Weak x y && not (spares_actions fault x y))
  waits-same fault lt same =
      waits-is fault
      ∙ ap (λ c. (c && ((t == u) && keeps Weak x y)) && not (spares_actions fault x y)) ((Decides-ltb a b).1 lt)
      ∙ ap (λ c. (c && keeps Weak x y) && not (spares_actions fault x y)) (eq-eqb t u same)

-- what waiting needs

pub record IsPair (p : Program) (a b : ℕ) : Type 0 where
  pub earlier : a < b
  pub first : a < op_count p
  pub second : b < op_count p
  pub together : at_actions (λ first second. first.0 == second.0) p a b ≡ true

pair_of : (first second : Option (ℕ × Action)) → option_map_or (λ x. option_map_or (λ y. (x.0 == y.0) && keeps Weak x.1 y.1) second false) first false ≡ true
    → option_map_or (λ x. option_map_or (λ y. x.0 == y.0) second false) first false ≡ true
pair_of None second h = absurd cc
pair_of (Some x) None h = absurd cc
pair_of (Some x) (Some y) h = (and_true (x.0 == y.0) (keeps Weak x.1 y.1) h).0

some_first : (p : Program) (test : ℕ × Action → ℕ × Action → Bool) (a b : ℕ) → at_actions test p a b ≡ true → (a < op_count p) × (b < op_count p)
some_first p test a b h = (
  let lt = below (actions p) a (λ first. at_action (test first) p b) h in let long = length-actions p in omega (arith, lt, long),
  second (slice_get (actions p) a) h,
) where
  below : (xs : List (ℕ × Action)) (n : ℕ) (f : ℕ × Action → Bool) → option_map_or f (slice_get xs n) false ≡ true → n < length xs
  below [] n f h = absurd cc
  below (x ∷ xs) zero f h = omega arith
  below (x ∷ xs) (suc n) f h = let rest = below xs n f h in omega (arith, rest)

  second : (found : Option (ℕ × Action)) → option_map_or (λ first. at_action (test first) p b) found false ≡ true → b < op_count p
  second None h = absurd cc
  second (Some x) h = let lt = below (actions p) b (test x) h in let long = length-actions p in omega (arith, lt, long)

pub waits-pair : (fault : Fault) (p : Program) (a b : ℕ) → waits_for fault p a b ≡ true → IsPair p a b
waits-pair fault p a b h =
    let parts = and_true (is_kept Weak p a b) (not (spares fault p a b)) h in
    let kept = and_true (nat_lt a b) (at_actions (λ x y. (x.0 == y.0) && keeps Weak x.1 y.1) p a b) parts.0 in
    let nodes = some_first p (λ x y. (x.0 == y.0) && keeps Weak x.1 y.1) a b kept.1 in
    record {
      earlier = (Decides-ltb a b).0 kept.0;
      first = nodes.0;
      second = nodes.1;
      together = pair_of (slice_get (actions p) a) (slice_get (actions p) b) kept.1;
    }

-- the second of a thread's nodes stands before the thread's end
pub pair-thread : (p : Program) (a b t : ℕ) → thread_at p a ≡ Some t → IsPair p a b → StandsIn p t b
pair-thread p a b t at i =
    let other = thread_at_some p b i.second in
    let same : t ≡ other.0 = (same_thread_iff p a b t other.0 at other.1).0 (same_thread-actions p a b ∙ i.together) in
    subst (λ (u : ℕ). StandsIn p u b) (sym same) (thread_at-stands p b other.0 other.1)

-- none of itself or before, and none behind the thread's end

pub waits-not_before : (fault : Fault) (p : Program) (a b : ℕ) → b ≤ a → waits_for fault p a b ≡ false
waits-not_before fault p a b le = elim (cases_Bool (waits_for fault p a b)) [
  | inl h ↦ let later = (waits-pair fault p a b h).earlier in absurd (omega (arith, later, le))
  | inr h ↦ h
]

-- nodes of two threads
pub waits-apart : (fault : Fault) (p : Program) (a b t u : ℕ) → thread_at p a ≡ Some t → thread_at p b ≡ Some u → t ≢ u → waits_for fault p a b ≡ false
waits-apart fault p a b t u at bt other = elim (cases_Bool (waits_for fault p a b)) [
  | inl h ↦ absurd (other ((same_thread_iff p a b t u at bt).0 (same_thread-actions p a b ∙ (waits-pair fault p a b h).together)))
  | inr h ↦ h
]

directly-waits : (fault : Fault) (p : Program) (a b : ℕ) → waits_directly fault p a b ≡ true → waits_for fault p a b ≡ true
directly-waits fault p a b h = (and_true (waits_for fault p a b) (not (list_any (λ c. waits_for fault p a c && waits_for fault p c b) (all_nodes p))) h).0

not-directly : (fault : Fault) (p : Program) (a b : ℕ) → waits_for fault p a b ≡ false → waits_directly fault p a b ≡ false
not-directly fault p a b e = ap (λ w. w && not (list_any (λ c. waits_for fault p a c && waits_for fault p c b) (all_nodes p))) e

-- the nodes below one that wait for node a tell which wait for one of them
any-filter : (test other : ℕ → Bool) (xs : List ℕ) → list_any other (filter test xs) ≡ list_any (λ c. test c && other c) xs
any-filter test other [] = refl
any-filter test other (x ∷ xs) = at (test x) (any-filter test other xs) where
  at : (b : Bool) → list_any other (filter test xs) ≡ list_any (λ c. test c && other c) xs → list_any other (cond b (x ∷ filter test xs) (filter test xs)) ≡ ((b && other x) || list_any (λ c. test c && other c) xs)
  at true rest = ap (λ r. other x || r) rest
  at false rest = rest

any-longer : (test : ℕ → Bool) (n d : ℕ) → ((k : ℕ) → n ≤ k → test k ≡ false) → list_any test (nodes_below (n + d)) ≡ list_any test (nodes_below n)
any-longer test n zero none = let same : n + 0 ≡ n = omega arith in ap (λ (m : ℕ). list_any test (nodes_below m)) same
any-longer test n (suc d) none =
    let more : n + suc d ≡ suc (n + d) = omega arith in
    ap (λ (m : ℕ). list_any test (nodes_below m)) more
    ∙ list_any-append test (nodes_below (n + d)) ((n + d) ∷ [])
    ∙ or_no (list_any test (nodes_below (n + d))) (test (n + d)) (none (n + d) (omega arith))
    ∙ any-longer test n d none where
      or_no : (b c : Bool) → c ≡ false → (b || (c || false)) ≡ b
      or_no true c e = refl
      or_no false c e = ap (λ x. x || false) e

pub any-between : (fault : Fault) (p : Program) (a b : ℕ) → b ≤ op_count p → waits_for_any fault p (filter (waits_for fault p a) (nodes_below b)) b ≡ list_any (λ c. waits_for fault p a c && waits_for fault p c b) (all_nodes p)
any-between fault p a b le =
    let more : op_count p ≡ b + (op_count p - b) = omega (arith, le) in
    any-filter (waits_for fault p a) (λ c. waits_for fault p c b) (nodes_below b)
    ∙ sym (ap (λ (n : ℕ). list_any (λ c. waits_for fault p a c && waits_for fault p c b) (nodes_below n)) more
    ∙ any-longer (λ c. waits_for fault p a c && waits_for fault p c b) b (op_count p - b) (λ k after. and_no (waits_for fault p a k) (waits_for fault p k b) (waits-not_before fault p k b after))) where
      and_no : (x y : Bool) → y ≡ false → (x && y) ≡ false
      and_no true y e = e
      and_no false y e = refl

-- While the nodes that wait for node a are listed, up to a number.
pub record AreListed (fault : Fault) (p : Program) (a n : ℕ) (all direct : List ℕ) : Type 0 where
  pub all_are : all ≡ filter (waits_for fault p a) (nodes_below n)
  pub direct_are : direct ≡ filter (waits_directly fault p a) (nodes_below n)

pub none-listed : (fault : Fault) (p : Program) (a : ℕ) → AreListed fault p a (a + 1) [] []
none-listed fault p a = record {
  all_are = sym (filter-none_below (waits_for fault p a) (a + 1) (λ k lt. waits-not_before fault p a k (omega (arith, lt))));
  direct_are = sym (filter-none_below (waits_directly fault p a) (a + 1) (λ k lt. not-directly fault p a k (waits-not_before fault p a k (omega (arith, lt)))));
}

pub filter-next : (test : ℕ → Bool) (n : ℕ) (b : Bool) → test n ≡ b → filter test (nodes_below (n + 1)) ≡ filter test (nodes_below n) ++ cond b (n ∷ []) []
filter-next test n b e =
    let more : n + 1 ≡ suc n = omega arith in
    ap (λ (m : ℕ). filter test (nodes_below m)) more ∙ filter-append test (nodes_below n) (n ∷ []) ∙ ap (λ x. filter test (nodes_below n) ++ cond x (n ∷ []) []) e

module _ (fault : Fault) (p : Program) (a b : ℕ) (all direct : List ℕ) (l : AreListed fault p a b all direct) where
  pub listed-other : waits_for fault p a b ≡ false → AreListed fault p a (b + 1) all direct
  listed-other fails = record {
    all_are = l.all_are ∙ sym (filter-next (waits_for fault p a) b false fails ∙ append-nil (filter (waits_for fault p a) (nodes_below b)));
    direct_are = l.direct_are ∙ sym (filter-next (waits_directly fault p a) b false (not-directly fault p a b fails) ∙ append-nil (filter (waits_directly fault p a) (nodes_below b)));
  }

  directly-is : waits_for fault p a b ≡ true → b < op_count p → waits_directly fault p a b ≡ not (waits_for_any fault p all b)
  directly-is holds lt =
      ap (λ w. w && not (list_any (λ c. waits_for fault p a c && waits_for fault p c b) (all_nodes p))) holds
      ∙ ap not (sym (ap (λ (nodes : List ℕ). waits_for_any fault p nodes b) l.all_are ∙ any-between fault p a b (omega (arith, lt))))

  all_next : waits_for fault p a b ≡ true → all ++ b ∷ [] ≡ filter (waits_for fault p a) (nodes_below (b + 1))
  all_next holds = ap (λ (nodes : List ℕ). nodes ++ b ∷ []) l.all_are ∙ sym (filter-next (waits_for fault p a) b true holds)

  pub listed-direct : waits_for fault p a b ≡ true → b < op_count p → waits_for_any fault p all b ≡ false → AreListed fault p a (b + 1) (all ++ b ∷ []) (direct ++ b ∷ [])
  listed-direct holds lt fails = record {
    all_are = all_next holds;
    direct_are = ap (λ (nodes : List ℕ). nodes ++ b ∷ []) l.direct_are ∙ sym (filter-next (waits_directly fault p a) b true (directly-is holds lt ∙ ap not fails));
  }

  pub listed-indirect : waits_for fault p a b ≡ true → b < op_count p → waits_for_any fault p all b ≡ true → AreListed fault p a (b + 1) (all ++ b ∷ []) direct
  listed-indirect holds lt some = record {
    all_are = all_next holds;
    direct_are = l.direct_are ∙ sym (filter-next (waits_directly fault p a) b false (directly-is holds lt ∙ ap not some) ∙ append-nil (filter (waits_directly fault p a) (nodes_below b)));
  }

-- each that waits is a node
pub all-nodes : (fault : Fault) (p : Program) (a n : ℕ) (all : List ℕ) → all ≡ filter (waits_for fault p a) (nodes_below n) → All (λ b. b < op_count p) all
all-nodes fault p a n all e = λ k d lt.
    let there = Contains-filter_back (waits_for fault p a) (nodes_below n) (get_or all k d) (subst (λ (xs : List ℕ). Contains xs (get_or all k d)) e (k, lt, get_or_default all k (get_or all k d) d lt)) in
    (waits-pair fault p a (get_or all k d) there.1).second

pub listed-all : (fault : Fault) (p : Program) (a n : ℕ) (all direct : List ℕ) → AreListed fault p a n all direct → n ≤ op_count p → ((b : ℕ) → IsPair p a b → b < n) → direct ≡ filter (waits_directly fault p a) (all_nodes p)
listed-all fault p a n all direct l le inside =
    let more : op_count p ≡ n + (op_count p - n) = omega (arith, le) in
    l.direct_are ∙ sym (ap (λ (m : ℕ). filter (waits_directly fault p a) (nodes_below m)) more ∙ filter-longer (waits_directly fault p a) n (op_count p - n) none) where
      none : (k : ℕ) → n ≤ k → waits_directly fault p a k ≡ false
      none k after = not-directly fault p a k (elim (cases_Bool (waits_for fault p a k)) [
        | inl h ↦ let lt = inside k (waits-pair fault p a k h) in absurd (omega (arith, lt, after))
        | inr h ↦ h
      ])

-- how long the lists are

pub length-direct : (fault : Fault) (p : Program) (a : ℕ) → length (filter (waits_directly fault p a) (all_nodes p)) ≤ op_count p
length-direct fault p a =
    let same = length-filter (waits_directly fault p a) (all_nodes p) in
    let le = count_by-le-length (waits_directly fault p a) (all_nodes p) in
    let long = length-below (op_count p) in
    omega (arith, same, le, long)

-- What the lists tell.

module _ (fault : Fault) (p : Program) where
  pub direct-at : (a : ℕ) → a < op_count p → get_or (direct_waits fault p) a [] ≡ filter (waits_directly fault p a) (all_nodes p)
  direct-at a lt = get_or-map_below (λ n. filter (waits_directly fault p n) (all_nodes p)) (op_count p) a [] lt

  pub direct-long : length (direct_waits fault p) ≡ op_count p
  direct-long = length-map_below (λ n. filter (waits_directly fault p n) (all_nodes p)) (op_count p)

  pub direct-sound : (a b : ℕ) → Contains (get_or (direct_waits fault p) a []) b → waits_for fault p a b ≡ true
  direct-sound a b there = elim (cases_lt a (op_count p)) [
    | inl lt ↦ directly-waits fault p a b (Contains-filter_back (waits_directly fault p a) (all_nodes p) b (subst (λ (xs : List ℕ). Contains xs b) (direct-at a lt) there)).1
    | inr past ↦ let long = direct-long in absurd (Contains-nil b (subst (λ (xs : List ℕ). Contains xs b) (get_or_past (direct_waits fault p) a [] (omega (arith, past, long))) there))
  ]

  pub direct-complete : (a b : ℕ) → waits_directly fault p a b ≡ true → Contains (get_or (direct_waits fault p) a []) b
  direct-complete a b h =
      let pair = waits-pair fault p a b (directly-waits fault p a b h) in
      subst (λ (xs : List ℕ). Contains xs b) (sym (direct-at a pair.first)) (Contains-filter (waits_directly fault p a) (all_nodes p) b (has-below (op_count p) b pair.second) h)

-- each of them is a node
pub direct-inside : (fault : Fault) (p : Program) (lists : List (List ℕ)) → lists ≡ direct_waits fault p → (a : ℕ) → All (λ n. n < length lists) (get_or lists a [])
direct-inside fault p lists e a = λ k d lt.
    let there : Contains (get_or lists a []) (get_or (get_or lists a []) k d) = (k, lt, get_or_default (get_or lists a []) k (get_or (get_or lists a []) k d) d lt) in
    let waits = direct-sound fault p a (get_or (get_or lists a []) k d) (subst (λ (all : List (List ℕ)). Contains (get_or all a []) (get_or (get_or lists a []) k d)) e there) in
    let below = (waits-pair fault p a (get_or (get_or lists a []) k d) waits).second in
    let long = ap length e ∙ direct-long fault p in
    omega (arith, below, long)

pub direct-all_inside : (fault : Fault) (p : Program) (lists : List (List ℕ)) → lists ≡ direct_waits fault p → All (λ list. All (λ n. n < length lists) list) lists
direct-all_inside fault p lists e = λ a d lt. subst (All (λ n. n < length lists)) (get_or_default lists a [] d lt) (direct-inside fault p lists e a)

-- where what was done waited for what it had to, a node that waits directly for none that is left waits for none
abbrev pub IsClosed : Fault → Program → (ℕ → Bool) → Type 0
IsClosed fault p done = (a b : ℕ) → waits_for fault p a b ≡ true → done b ≡ true → done a ≡ true

module _ (fault : Fault) (p : Program) (done : ℕ → Bool) (closed : IsClosed fault p done) (b : ℕ) (met : (a : ℕ) → waits_directly fault p a b ≡ true → done a ≡ true) where
  met_within : (k a : ℕ) → b ≤ a + k → waits_for fault p a b ≡ true → done a ≡ true
  met_within zero a le w = let later = (waits-pair fault p a b w).earlier in absurd (omega (arith, later, le))
  met_within (suc k) a le w =
      elim (cases_Bool (list_any (λ c. waits_for fault p a c && waits_for fault p c b) (all_nodes p))) [
        | inl h ↦
            let found = any_true (λ c. waits_for fault p a c && waits_for fault p c b) (all_nodes p) h in
            let both = and_true (waits_for fault p a found.0) (waits_for fault p found.0 b) found.2 in
            let later = (waits-pair fault p a found.0 both.0).earlier in
            closed a found.0 both.0 (met_within k found.0 (omega (arith, le, later)) both.1)
        | inr h ↦ met a (ap (λ w. w && not (list_any (λ c. waits_for fault p a c && waits_for fault p c b) (all_nodes p))) w ∙ ap not h)
      ]

  pub all-met : (a : ℕ) → waits_for fault p a b ≡ true → done a ≡ true
  all-met a w = met_within b a (omega arith) w
