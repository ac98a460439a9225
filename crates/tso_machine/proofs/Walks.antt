-- A walk over a buffer without order, which meets each entry once.
use Rattle.std.proofs.Common.{◌≡◌, ◌∙◌, ℕ, zero, suc, ◌+◌, ◌<◌, ◌≤◌, List, [], ◌∷◌, ◌++◌, Bool, true, false, not, ◌||◌, cond, take, length, get_or, set, replicate, Contains, All, refl, sym, ap, arith, inl, inr, Option, None, Some, append-nil}
use Rattle.std.specs.Prelude.{◌==◌, filter, slice_get}
use Rattle.std.specs.List.{list_any}
use Rattle.std.specs.Option.{option_map, option_map_or}
use Rattle.std.proofs.lemmas.Bool.{cases_eq, eq-eqb, ne_eqb}
use Rattle.std.proofs.lemmas.List.{get_or-replicate, get_or-set_other, get_or-set_same, get_or-take, length-replicate, length-set, length-take-le}
use Rattle.std.proofs.lemmas.List.Elements.{filter-append}
use Rattle.std.proofs.lemmas.List.Folds.{list_any-append, list_any_at}
use Rattle.std.proofs.lemmas.Option.{same_Some, slice_get-get_or}
use Rattle.orders.specs.Orders.{nodes_below}
use Rattle.orders.proofs.Members.{Contains-head, Contains-tail}
use Rattle.test_lang.specs.declared.op.Op.{Op}
use Rattle.test_lang.specs.declared.op.Op.TheVariants as ops
use Rattle.test_lang.specs.declared.op.Action.{Action}
use Rattle.test_lang.specs.declared.op.Action.TheVariants.{Load, Store, Fence}
use Rattle.test_lang.specs.declared.op.FenceKind.TheVariants.{Full, Store as StoreFence, Load as LoadFence}
use Rattle.test_lang.specs.Actions.{op_of, is_store_fence}
use Rattle.test_lang.specs.Program.{Program, HasWordBelow, action_at, actions, op_count}
use Rattle.test_lang.specs.Values.{is_of, same_word}
use Rattle.test_lang.specs.Play.Machines.{holds_back, holds_back_at}
use Rattle.test_lang.proofs.ActionNodes.{length-actions}
use Rattle.test_lang.proofs.PlayLaws.Lasts.{any_false}
use Rattle.tso_machine.specs.Places.{TellsMet, free_places, is_free, is_of_at, is_store_fence_at, passes, with_met}
use Rattle.tso_machine.proofs.Drains.{holds_back_at-actions}
use Rattle.tso_machine.proofs.Shown.{or_true_left, or_true_right}
use Rattle.tso_machine.proofs.Steps.{at_action-of}

-- tests of some element

any_same_in : (f g : ℕ → Bool) (xs : List ℕ) → ((x : ℕ) → Contains xs x → f x ≡ g x) → list_any f xs ≡ list_any g xs
any_same_in f g [] same = refl
any_same_in f g (x ∷ xs) same = ap (λ b. b || list_any f xs) (same x (Contains-head x xs x refl)) ∙ ap (λ b. g x || b) (any_same_in f g xs (λ y there. same y (Contains-tail x xs y there)))

any_none : (f : ℕ → Bool) (xs : List ℕ) → ((x : ℕ) → f x ≡ false) → list_any f xs ≡ false
any_none f [] none = refl
any_none f (x ∷ xs) none = ap (λ b. b || list_any f xs) (none x) ∙ any_none f xs none

-- what holds an action back that is no store fence, among those that aren't either: a test of the operation
held_by : (action : Action) (test : Op → Bool) → is_store_fence action ≡ false → ((op : Op) → same_word op (op_of action) ≡ test op) → (found other : Option (ℕ × Action))
    → option_map (λ (node : ℕ × Action). node.1) other ≡ Some action → option_map_or (λ (node : ℕ × Action). is_store_fence node.1) found false ≡ false
    → option_map_or (λ (one : ℕ × Action). option_map_or (λ (two : ℕ × Action). holds_back one.1 two.1) other false) found false ≡ option_map_or (λ (node : ℕ × Action). test (op_of node.1)) found false
held_by action test plain same None other e none = refl
held_by action test plain same (Some one) None e none = absurd cc
held_by action test plain same (Some one) (Some two) e none =
    ap (holds_back one.1) (same_Some two.1 action e)
    ∙ ap (λ b. (b || is_store_fence action) || same_word (op_of one.1) (op_of action)) none
    ∙ ap (λ b. (false || b) || same_word (op_of one.1) (op_of action)) plain
    ∙ same (op_of one.1)

eqb_comm : (a b : ℕ) → (a == b) ≡ (b == a)
eqb_comm a b = elim (cases_eq a b) [ inl same ↦ eq-eqb a b same ∙ sym (eq-eqb b a (sym same)) | inr other ↦ ne_eqb a b other ∙ sym (ne_eqb b a (λ is. other (sym is))) ]

load_word : (word : ℕ) (op : Op) → same_word op (ops.Load word) ≡ is_of word op
load_word word (ops.Load x) = eqb_comm x word
load_word word (ops.Store x) = eqb_comm x word
load_word word ops.Fence = refl

store_word : (word : ℕ) (op : Op) → same_word op (ops.Store word) ≡ is_of word op
store_word word (ops.Load x) = eqb_comm x word
store_word word (ops.Store x) = eqb_comm x word
store_word word ops.Fence = refl

fence_word : (op : Op) → same_word op ops.Fence ≡ false
fence_word (ops.Load x) = refl
fence_word (ops.Store x) = refl
fence_word ops.Fence = refl

none_of : (found : Option (ℕ × Action)) → option_map_or (λ (node : ℕ × Action). false) found false ≡ false
none_of None = refl
none_of (Some node) = refl

module _ (p : Program) (entries : List ℕ) (nodes : All (λ n. n < op_count p) entries) where
  -- each entry has an action
  some_action : (k : ℕ) → k < length entries → (action : Action) × (action_at p (get_or entries k 0) ≡ Some action)
  some_action k lt =
      let below = nodes k 0 lt in
      let long = length-actions p in
      let n = get_or entries k 0 in
      let found : ℕ × Action = get_or (actions p) n (0, Fence Full) in
      (found.1, ap (option_map (λ (node : ℕ × Action). node.1)) (slice_get-get_or (actions p) n (0, Fence Full) (omega (arith, below, long))))

  -- the flags tell whether an entry may leave
  module _ (place : ℕ) (lt : place < length entries) (met : List Bool) (told : TellsMet p (take place entries) met) (none : list_any (is_store_fence_at p) (take place entries) ≡ false) where
    held : (action : Action) (test : Op → Bool) → action_at p (get_or entries place 0) ≡ Some action → is_store_fence action ≡ false → ((op : Op) → same_word op (op_of action) ≡ test op)
        → list_any (λ a. holds_back_at p a (get_or entries place 0)) (take place entries) ≡ list_any (λ a. option_map_or (λ (node : ℕ × Action). test (op_of node.1)) (slice_get (actions p) a) false) (take place entries)
    held action test is plain same =
        any_same_in (λ a. holds_back_at p a (get_or entries place 0)) (λ a. option_map_or (λ (node : ℕ × Action). test (op_of node.1)) (slice_get (actions p) a) false) (take place entries)
        (λ a there. held_by action test plain same (slice_get (actions p) a) (slice_get (actions p) (get_or entries place 0)) is (any_false (is_store_fence_at p) (take place entries) none a there))

    pub passes_free : (action : Action) → action_at p (get_or entries place 0) ≡ Some action → HasWordBelow 256 (op_of action) → passes met action place ≡ is_free p entries place
    passes_free (Load word) is below = ap not (told.words word below ∙ sym (held (Load word) (is_of word) is refl (load_word word)))
    passes_free (Store word) is below = ap not (told.words word below ∙ sym (held (Store word) (is_of word) is refl (store_word word)))
    passes_free (Fence Full) is below =
        sym (ap not (held (Fence Full) (λ op. false) is refl fence_word ∙ any_none (λ a. option_map_or (λ (node : ℕ × Action). false) (slice_get (actions p) a) false) (take place entries) (λ a. none_of (slice_get (actions p) a))))
    passes_free (Fence LoadFence) is below =
        sym (ap not (held (Fence LoadFence) (λ op. false) is refl fence_word ∙ any_none (λ a. option_map_or (λ (node : ℕ × Action). false) (slice_get (actions p) a) false) (take place entries) (λ a. none_of (slice_get (actions p) a))))
    passes_free (Fence StoreFence) is below = elim (cases_eq place 0) [
      | inl first ↦ eq-eqb place 0 first ∙ sym (ap (λ (k : ℕ). not (list_any (λ a. holds_back_at p a (get_or entries place 0)) (take k entries))) first)
      | inr later ↦
          let some = length-take-le place entries (omega (arith, lt)) in
          let first = some_action 0 (omega (arith, lt)) in
          let at = get_or-take place entries 0 0 (omega (arith, later)) in
          let holds : holds_back_at p (get_or entries 0 0) (get_or entries place 0) ≡ true =
          holds_back_at-actions p (get_or entries 0 0) (get_or entries place 0) first.0 (Fence StoreFence) first.1 is
          ∙ or_true_left (is_store_fence first.0 || true) (same_word (op_of first.0) ops.Fence) (or_true_right (is_store_fence first.0)) in
          ne_eqb place 0 later
          ∙ sym (ap not (list_any_at (λ a. holds_back_at p a (get_or entries place 0)) (take place entries) 0 0 (omega (arith, some, later)) (ap (λ (a : ℕ). holds_back_at p a (get_or entries place 0)) at ∙ holds)))
    ]

  -- behind a store fence no entry may leave
  free_behind : (place k : ℕ) (action : Action) → place < k → k < length entries → action_at p (get_or entries place 0) ≡ Some action → is_store_fence action ≡ true → is_free p entries k ≡ false
  free_behind place k action lt below is fence =
      let long = length-take-le k entries (omega (arith, below)) in
      let second = some_action k below in
      let at = get_or-take k entries place 0 lt in
      let holds : holds_back_at p (get_or entries place 0) (get_or entries k 0) ≡ true =
      holds_back_at-actions p (get_or entries place 0) (get_or entries k 0) action second.0 is second.1
      ∙ or_true_left (is_store_fence action || is_store_fence second.0) (same_word (op_of action) (op_of second.0)) (or_true_left (is_store_fence action) (is_store_fence second.0) fence) in
      ap not (list_any_at (λ a. holds_back_at p a (get_or entries k 0)) (take k entries) place 0 (omega (arith, long, lt)) (ap (λ (a : ℕ). holds_back_at p a (get_or entries k 0)) at ∙ holds))

  pub all_found : (place : ℕ) (action : Action) → place < length entries → action_at p (get_or entries place 0) ≡ Some action → is_store_fence action ≡ true → free_places p entries ≡ filter (is_free p entries) (nodes_below (place + 1))
  all_found place action lt is fence =
      let next : place + 1 ≡ suc place = omega arith in
      stops (length entries) (omega (arith, lt)) (λ k. omega arith) ∙ ap (λ (n : ℕ). filter (is_free p entries) (nodes_below n)) (sym next) where
        stops : (n : ℕ) → suc place ≤ n → ((k : ℕ) → k < n → k < length entries) → filter (is_free p entries) (nodes_below n) ≡ filter (is_free p entries) (nodes_below (suc place))
        stops zero le inside = absurd (omega (arith, le))
        stops (suc n) le inside = elim (cases_eq n place) [
          | inl same ↦ ap (λ (k : ℕ). filter (is_free p entries) (nodes_below (suc k))) same
          | inr other ↦
              filter-append (is_free p entries) (nodes_below n) (n ∷ [])
              ∙ ap (λ b. filter (is_free p entries) (nodes_below n) ++ cond b (n ∷ []) []) (free_behind place n action (omega (arith, le, other)) (inside n (omega arith)) is fence)
              ∙ append-nil (filter (is_free p entries) (nodes_below n))
              ∙ stops n (omega (arith, le, other)) (λ k below. inside k (omega (arith, below)))
        ]

-- the flags as the walk goes on

pub none_met : (p : Program) → TellsMet p [] (replicate 256 false)
none_met p = record { long = length-replicate 256 false; words = λ word lt. get_or-replicate 256 word false true lt }

or_nothing : (a b : Bool) → b ≡ false → (a || (b || false)) ≡ a
or_nothing true b e = refl
or_nothing false b e = ap (λ c. c || false) e

or_something : (a b : Bool) → b ≡ true → (a || (b || false)) ≡ true
or_something true b e = refl
or_something false b e = ap (λ c. c || false) e

module _ (p : Program) (front : List ℕ) (met : List Bool) (n : ℕ) (told : TellsMet p front met) where
  -- the flag of another word, and of the word that is met
  flag_more : (word : ℕ) (action : Action) → action_at p n ≡ Some action → list_any (is_of_at p word) (front ++ n ∷ []) ≡ (list_any (is_of_at p word) front || (is_of word (op_of action) || false))
  flag_more word action is = list_any-append (is_of_at p word) front (n ∷ []) ∙ ap (λ b. list_any (is_of_at p word) front || (b || false)) (at_action-of (λ other. is_of word (op_of other)) p n action is)

  meets : (x : ℕ) (action : Action) → action_at p n ≡ Some action → x < 256 → ((word : ℕ) → is_of word (op_of action) ≡ (word == x)) → TellsMet p (front ++ n ∷ []) (set met x true)
  meets x action is below own = record {
    long = length-set met x true ∙ told.long;
    words = λ word lt. elim (cases_eq word x) [
      | inl same ↦
          let long = told.long in
          ap (λ (k : ℕ). get_or (set met x true) k true) same
          ∙ get_or-set_same met x true true (omega (arith, below, long))
          ∙ sym (flag_more word action is ∙ or_something (list_any (is_of_at p word) front) (is_of word (op_of action)) (own word ∙ eq-eqb word x same))
      | inr other ↦
          get_or-set_other met x word true true other
          ∙ told.words word lt
          ∙ sym (flag_more word action is ∙ or_nothing (list_any (is_of_at p word) front) (is_of word (op_of action)) (own word ∙ ne_eqb word x other))
    ];
  }

  pub met_more : (action : Action) → action_at p n ≡ Some action → HasWordBelow 256 (op_of action) → TellsMet p (front ++ n ∷ []) (with_met met action)
  met_more (Load x) is below = meets x (Load x) is below (λ word. refl)
  met_more (Store x) is below = meets x (Store x) is below (λ word. refl)
  met_more (Fence kind) is below = record { long = told.long; words = λ word lt. told.words word lt ∙ sym (flag_more word (Fence kind) is ∙ or_nothing (list_any (is_of_at p word) front) false refl) }

pub none_more : (p : Program) (front : List ℕ) (n : ℕ) (action : Action) → list_any (is_store_fence_at p) front ≡ false → action_at p n ≡ Some action → is_store_fence action ≡ false
    → list_any (is_store_fence_at p) (front ++ n ∷ []) ≡ false
none_more p front n action none is plain =
    list_any-append (is_store_fence_at p) front (n ∷ [])
    ∙ ap (λ b. b || (is_store_fence_at p n || false)) none
    ∙ ap (λ b. b || false) (at_action-of is_store_fence p n action is ∙ plain)

pub word_below : (few words : ℕ) (op : Op) → words ≤ few → HasWordBelow words op → HasWordBelow few op
word_below few words (ops.Load word) le lt = omega (arith, le, lt)
word_below few words (ops.Store word) le lt = omega (arith, le, lt)
word_below few words ops.Fence le lt = tt
