-- Threads execute their operations in order: where each stands, and its next operation.
use Rattle.std.proofs.Common.{◌≡◌, ◌∙◌, ℕ, ◌+◌, ◌<◌, ◌≤◌, List, [], ◌∷◌, ◌++◌, length, Bool, true, false, not, ◌&&◌, ◌||◌, cond, refl, sym, ap, subst, arith, inl, inr, Option, None, Some}
use Rattle.std.specs.Prelude.{◌==◌, count_by, nat_lt, slice_get}
use Rattle.std.specs.Option.{option_map, option_map_or}
use Rattle.std.proofs.lemmas.Bool.{cases_eq, cases_lt, cases_order, eq-eqb, eqb-true, ne_eqb, lt-ltb, le-ltb, ltb-true, ltb-false}
use Rattle.std.proofs.lemmas.List.Sums.{sum_by_push}
use Rattle.std.proofs.lemmas.Option.{same_Some}
use Rattle.test_lang.specs.declared.op.Op.{Op}
use Rattle.test_lang.specs.declared.step.Step.{Step}
use Rattle.test_lang.specs.declared.step.Step.TheVariants.{Execute, Drain, Perform}
use Rattle.test_lang.specs.declared.target.Target.{Target}
use Rattle.test_lang.specs.declared.target.Target.TheVariants.{Sc, Tso, Pso, Weak}
use Rattle.test_lang.specs.declared.target.Fault.{Fault}
use Rattle.test_lang.specs.Program.{Program, nodes, op_count, passes, first_node, thread_length}
use Rattle.test_lang.specs.Play.States.{State, opening, has, is_of_thread, next_of, buffer}
use Rattle.test_lang.specs.Play.Machines.{node_of, may, is_enabled, after_node, after}
use Rattle.test_lang.specs.Play.Plays.{after_all, AreEnabled, IsPlay, final}
use Rattle.test_lang.proofs.Threads.{StandsIn, thread_at-stands, stands-thread_at, one_thread, first_node_all, thread_end-le}
use Rattle.test_lang.proofs.PlayLaws.Firsts.{next_is, find_none, of_one_thread}
use Rattle.test_lang.proofs.PlayLaws.Lasts.{has_true, true_has}
use Rattle.tso_machine.specs.Moments.{position}
use Rattle.sim_core.proofs.NextOperations.{has-push}
use Rattle.tso_machine.proofs.ListChanges.{IsOnce, once_push}

-- the nodes of a thread

found_thread : (t : ℕ) (found : Option (ℕ × Op)) → passes (λ node. node.0 == t) found ≡ true → option_map (λ node. node.0) found ≡ Some t
found_thread t None h = absurd cc
found_thread t (Some node) h = ap (λ (k : ℕ). Some k) (eqb-true node.0 t h)

found_back : (t : ℕ) (found : Option (ℕ × Op)) → option_map (λ node. node.0) found ≡ Some t → passes (λ node. node.0 == t) found ≡ true
found_back t None h = absurd cc
found_back t (Some node) h = eq-eqb node.0 t (same_Some node.0 t h)

pub stands_of : (p : Program) (t n : ℕ) → is_of_thread p t n ≡ true → StandsIn p t n
stands_of p t n h = thread_at-stands p n t (found_thread t (slice_get (nodes p) n) h)

pub of_stands : (p : Program) (t n : ℕ) → StandsIn p t n → is_of_thread p t n ≡ true
of_stands p t n inside = found_back t (slice_get (nodes p) n) (stands-thread_at p n t inside)

false_from : (b : Bool) → (b ≡ true → ⊥) → b ≡ false
false_from true h = absurd (h refl)
false_from false h = refl

-- a node of one thread is of no other
pub not_of : (p : Program) (t u n : ℕ) → is_of_thread p t n ≡ true → (u ≡ t → ⊥) → is_of_thread p u n ≡ false
not_of p t u n h other = false_from (is_of_thread p u n) (λ k. other (one_thread p n u t (stands_of p u n k) (stands_of p t n h)))

-- Each thread executed its operations before its position, and no others.
pub record IsInTurn (p : Program) (executed : List ℕ) : Type 0 where
  pub once : IsOnce executed
  pub turns : (t n : ℕ) → StandsIn p t n → has executed n ≡ nat_lt n (position p executed t)
  pub from : (t : ℕ) → first_node p t ≤ position p executed t
  pub to : (t : ℕ) → position p executed t ≤ first_node p t + thread_length p t

pub position_push : (p : Program) (executed : List ℕ) (n t : ℕ) → position p (executed ++ n ∷ []) t ≡ position p executed t + cond (is_of_thread p t n) 1 0
position_push p executed n t =
    let more : count_by (is_of_thread p t) (executed ++ n ∷ []) ≡ count_by (is_of_thread p t) executed + cond (is_of_thread p t n) 1 0 =
    sum_by_push (λ (m : ℕ). cond (is_of_thread p t m) 1 0) executed n in
    omega (arith, more)

pub position_own : (p : Program) (executed : List ℕ) (n t : ℕ) → is_of_thread p t n ≡ true → position p (executed ++ n ∷ []) t ≡ position p executed t + 1
position_own p executed n t h = position_push p executed n t ∙ ap (λ (b : Bool). position p executed t + cond b 1 0) h

pub position_other : (p : Program) (executed : List ℕ) (n t : ℕ) → is_of_thread p t n ≡ false → position p (executed ++ n ∷ []) t ≡ position p executed t
position_other p executed n t h =
    let same : position p (executed ++ n ∷ []) t ≡ position p executed t + 0 = position_push p executed n t ∙ ap (λ (b : Bool). position p executed t + cond b 1 0) h in
    omega (arith, same)

or_more : (m n : ℕ) → (nat_lt m n || (n == m)) ≡ nat_lt m (n + 1)
or_more m n = elim (cases_order m n) [
  | inl same ↦ ap (λ b. b || (n == m)) (le-ltb m n (omega (arith, same))) ∙ eq-eqb n m (sym same) ∙ sym (lt-ltb m (n + 1) (omega (arith, same)))
  | inr other ↦ elim other [
    | inl lt ↦ ap (λ b. b || (n == m)) (lt-ltb m n lt) ∙ sym (lt-ltb m (n + 1) (omega (arith, lt)))
    | inr gt ↦ ap (λ b. b || (n == m)) (le-ltb m n (omega (arith, gt))) ∙ ne_eqb n m (λ is. omega (arith, gt, is)) ∙ sym (le-ltb m (n + 1) (omega (arith, gt)))
  ]
]

or_not : (a b : Bool) → b ≡ false → (a || b) ≡ a
or_not true b e = refl
or_not false b e = e

-- a thread's next operation is the one at its position
pub next_stands : (p : Program) (st : State) (t n : ℕ) → IsInTurn p st.executed → next_of p st t ≡ Some n → n ≡ position p st.executed t
next_stands p st t n i e =
    let next = next_is p st t n e in
    let inside = stands_of p t n next.thread_is in
    let none : has st.executed n ≡ false = false_from (has st.executed n) (λ h. next.new (has_true st.executed n h)) in
    let past : position p st.executed t ≤ n = ltb-false n (position p st.executed t) (sym (i.turns t n inside) ∙ none) in
    let from = i.from t in
    let to = inside.to in
    let in_range = inside.in_range in
    elim (cases_order n (position p st.executed t)) [
      | inl same ↦ same
      | inr other ↦ elim other [
        | inl lt ↦ absurd (omega (arith, lt, past))
        | inr gt ↦
            let k = position p st.executed t in
            let earlier : StandsIn p t k = record { in_range = in_range; from = from; to = omega (arith, gt, to) } in
            let there = next.before k gt (of_one_thread p t k n (of_stands p t k earlier) next.thread_is) in
            let yes : has st.executed k ≡ true = true_has st.executed k there in
            let no : has st.executed k ≡ false = i.turns t k earlier ∙ le-ltb k k (omega arith) in
            absurd cc
      ]
    ]

-- it executes it
pub turn_execute : (p : Program) (st : State) (t n : ℕ) → IsInTurn p st.executed → next_of p st t ≡ Some n → IsInTurn p (st.executed ++ n ∷ [])
turn_execute p st t n i e =
    let next = next_is p st t n e in
    record {
      once = once_push st.executed n i.once next.new;
      turns = λ u m inside. has-push st.executed n m ∙ elim (cases_eq u t) [
        | inl same ↦ own u m inside (subst (λ (k : ℕ). is_of_thread p k n ≡ true) (sym same) next.thread_is) (next_stands p st t n i e ∙ ap (position p st.executed) (sym same))
        | inr other ↦ apart u m inside (not_of p t u n next.thread_is other)
      ];
      from = λ u. let old = i.from u in let more = position_push p st.executed n u in omega (arith, old, more);
      to = λ u. elim (cases_eq u t) [
        | inl same ↦
            let inside = stands_of p u n (subst (λ (k : ℕ). is_of_thread p k n ≡ true) (sym same) next.thread_is) in
            let to = inside.to in
            let more = position_own p st.executed n u (of_stands p u n inside) in
            let here = next_stands p st t n i e ∙ ap (position p st.executed) (sym same) in
            omega (arith, to, more, here)
        | inr other ↦ let old = i.to u in let stays = position_other p st.executed n u (not_of p t u n next.thread_is other) in omega (arith, old, stays)
      ];
    } where
      own : (u m : ℕ) → StandsIn p u m → is_of_thread p u n ≡ true → n ≡ position p st.executed u → (has st.executed m || (n == m)) ≡ nat_lt m (position p (st.executed ++ n ∷ []) u)
      own u m inside h here =
          ap (λ b. b || (n == m)) (i.turns u m inside)
          ∙ ap (λ (k : ℕ). nat_lt m k || (n == m)) (sym here)
          ∙ or_more m n
          ∙ ap (λ (k : ℕ). nat_lt m (k + 1)) here
          ∙ ap (nat_lt m) (sym (position_own p st.executed n u h))

      apart : (u m : ℕ) → StandsIn p u m → is_of_thread p u n ≡ false → (has st.executed m || (n == m)) ≡ nat_lt m (position p (st.executed ++ n ∷ []) u)
      apart u m inside h =
          let other : n == m ≡ false = ne_eqb n m (λ is. let yes : is_of_thread p u n ≡ true = subst (λ (k : ℕ). is_of_thread p u k ≡ true) (sym is) (of_stands p u m inside) in absurd cc) in
          or_not (has st.executed m) (n == m) other ∙ i.turns u m inside ∙ ap (nat_lt m) (sym (position_other p st.executed n u h))

-- machines that execute in order
abbrev pub ExecutesInOrder : Target → Type 0
ExecutesInOrder Sc = Unit {0}
ExecutesInOrder Tso = Unit {0}
ExecutesInOrder Pso = Unit {0}
ExecutesInOrder Weak = ⊥

perform_none : (target : Target) (fault : Fault) (p : Program) (st : State) (t k : ℕ) (found : Option ℕ) → ExecutesInOrder target → option_map_or (may target fault p st (Perform t k)) found false ≡ false
perform_none target fault p st t k None o = refl
perform_none Sc fault p st t k (Some n) o = refl
perform_none Tso fault p st t k (Some n) o = refl
perform_none Pso fault p st t k (Some n) o = refl
perform_none Weak fault p st t k (Some n) o = absurd o

-- they perform nothing out of order
pub performs_none : (target : Target) (fault : Fault) (p : Program) (st : State) (t k : ℕ) → ExecutesInOrder target → is_enabled target fault p st (Perform t k) ≡ false
performs_none target fault p st t k o = perform_none target fault p st t k (node_of p st (Perform t k)) o

turn_step : (target : Target) (fault : Fault) (p : Program) (st : State) (step : Step) → ExecutesInOrder target → IsInTurn p st.executed → is_enabled target fault p st step ≡ true → IsInTurn p (after target fault p st step).executed
turn_step target fault p st (Execute t) o i h = by (next_of p st t) refl h where
  by : (found : Option ℕ) → next_of p st t ≡ found → option_map_or (may target fault p st (Execute t)) found false ≡ true → IsInTurn p (after_node target fault p st (Execute t) found).executed
  by None e h = absurd cc
  by (Some n) e h = turn_execute p st t n i e
turn_step target fault p st (Drain t k) o i h = by (slice_get (buffer p st t) k) where
  by : (found : Option ℕ) → IsInTurn p (after_node target fault p st (Drain t k) found).executed
  by None = i
  by (Some n) = i
turn_step target fault p st (Perform t k) o i h = let no = performs_none target fault p st t k o in absurd cc

turn_steps : (target : Target) (fault : Fault) (p : Program) (st : State) (steps : List Step) → ExecutesInOrder target → AreEnabled target fault p st steps → IsInTurn p st.executed → IsInTurn p (after_all target fault p st steps).executed
turn_steps target fault p st [] o h i = i
turn_steps target fault p st (step ∷ more) o h i = turn_steps target fault p (after target fault p st step) more o h.1 (turn_step target fault p st step o i h.0)

turn_opening : (p : Program) → IsInTurn p []
turn_opening p = record {
  once = tt;
  turns = λ t n inside. let from = inside.from in sym (le-ltb n (position p [] t) (omega (arith, from)));
  from = λ t. omega arith;
  to = λ t. omega arith;
}

-- so in each play
pub in_turn : (target : Target) (fault : Fault) (p : Program) (steps : List Step) → ExecutesInOrder target → IsPlay target fault p steps → IsInTurn p (final target fault p steps).executed
in_turn target fault p steps o h = turn_steps target fault p opening steps o h (turn_opening p)

-- what a thread has next, by its position
pub next_at : (p : Program) (st : State) (t : ℕ) → IsInTurn p st.executed
    → next_of p st t ≡ cond (nat_lt (position p st.executed t) (first_node p t + thread_length p t)) (Some (position p st.executed t)) None
next_at p st t i = by (next_of p st t) refl where
  by : (found : Option ℕ) → next_of p st t ≡ found → found ≡ cond (nat_lt (position p st.executed t) (first_node p t + thread_length p t)) (Some (position p st.executed t)) None
  by (Some n) e =
      let here = next_stands p st t n i e in
      let inside = stands_of p t n (next_is p st t n e).thread_is in
      let to = inside.to in
      ap (λ (k : ℕ). Some k) here
      ∙ ap (λ b. cond b (Some (position p st.executed t)) None) (sym (lt-ltb (position p st.executed t) (first_node p t + thread_length p t) (omega (arith, to, here))))
  by None e = none (nat_lt (position p st.executed t) (first_node p t + thread_length p t)) refl where
    none : (b : Bool) → nat_lt (position p st.executed t) (first_node p t + thread_length p t) ≡ b → None ≡ cond b (Some (position p st.executed t)) None
    none false h = refl
    none true h =
        let k = position p st.executed t in
        let lt = ltb-true k (first_node p t + thread_length p t) h in
        let from = i.from t in
        let end = thread_end-le p t in
        let inside : StandsIn p t k = record { in_range = in_range lt; from = from; to = lt } in
        let yes = of_stands p t k inside in
        let no : has st.executed k ≡ false = i.turns t k inside ∙ le-ltb k k (omega arith) in
        let fails = find_none (λ m. is_of_thread p t m && not (has st.executed m)) (op_count p) k e (omega (arith, lt, end)) in
        let passes : (is_of_thread p t k && not (has st.executed k)) ≡ true = ap (λ b. b && not (has st.executed k)) yes ∙ ap not no in
        absurd cc where
          in_range : position p st.executed t < first_node p t + thread_length p t → t < length p.threads
          in_range lt = elim (cases_lt t (length p.threads)) [
            | inl below ↦ below
            | inr above ↦
                let first = first_node_all p t above in
                let end = thread_end-le p t in
                let from = i.from t in
                absurd (omega (arith, lt, first, end, from))
          ]
