-- Plays on the weak machine: what a step does, and what holds at each moment.
use Rattle.std.proofs.Common.{◌≡◌, ◌∙◌, ℕ, ◌+◌, ◌<◌, ◌≤◌, List, [], ◌∷◌, ◌++◌, Bool, true, false, not, ◌&&◌, ◌||◌, Contains, map, length, get_or, Option, None, Some, refl, sym, ap, subst, arith, inl, inr}
use Rattle.std.specs.Prelude.{◌==◌, nat_lt, if◌then◌else◌, slice_get}
use Rattle.std.specs.List.{list_all}
use Rattle.std.specs.Option.{option_map_or}
use Rattle.std.proofs.lemmas.Bool.{cases_Bool, cases_lt, eqb-true, eq-eqb, false≢true}
use Rattle.std.proofs.lemmas.Bool.Decides.{Decides-ltb}
use Rattle.test_lang.specs.declared.op.Action.{Action}
use Rattle.test_lang.specs.declared.step.Step.{Step}
use Rattle.test_lang.specs.declared.step.Step.TheVariants.{Execute, Drain, Perform}
use Rattle.test_lang.specs.declared.target.Target.TheVariants.{Weak}
use Rattle.test_lang.specs.declared.target.Fault.{Fault}
use Rattle.test_lang.specs.Program.{Program, actions, all_nodes, op_count, first_node, thread_length}
use Rattle.test_lang.specs.Values.{is_load_at}
use Rattle.test_lang.specs.Play.States.{State, opening, has, next_of, buffer}
use Rattle.test_lang.specs.Play.Machines.{node_of, is_ready, may, is_enabled, value, waits, waits_at, executing, after_node, after}
use Rattle.test_lang.specs.Play.Plays.{after_all, AreEnabled, IsPlay, final}
use Rattle.test_lang.proofs.ListTests.{and_true, implied, implies, not_true}
use Rattle.weak_machine.specs.NodeSets.{has_flag}
use Rattle.weak_machine.specs.Waiting.{waits_for, direct_waits}
use Rattle.weak_machine.specs.Progress.{missing_of, IsProgress}
use Rattle.sim_core.proofs.BelowLists.{get_or-map_below}
use Rattle.test_lang.proofs.PlayLaws.Lasts.{all_at, all_true}
use Rattle.sim_core.proofs.NextOperations.{has-push}
use Rattle.weak_machine.proofs.Waits.{IsClosed, all-met, direct-complete, direct-long, direct-sound, waits-pair}
use Rattle.weak_machine.proofs.Missing.{none-missing, missing-none}

-- nothing waits in a buffer

idle : (fault : Fault) (found : Option (ℕ × Action)) → option_map_or (λ node. waits Weak fault node.1) found false ≡ false
idle fault None = refl
idle fault (Some node) = refl

waits_not : (fault : Fault) (p : Program) (n : ℕ) → waits_at Weak fault p n ≡ false
waits_not fault p n = idle fault (slice_get (actions p) n)

-- the state after a node was performed
abbrev pub performed : Fault → Program → State → ℕ → State
performed fault p st n = record {
  executed = st.executed ++ n ∷ [];
  effects = st.effects ++ n ∷ [];
  loads = if is_load_at p n then (n, value Weak fault p st n) ∷ st.loads else st.loads;
}

executing-performed : (fault : Fault) (p : Program) (st : State) (n : ℕ) → executing Weak fault p st n ≡ performed fault p st n
executing-performed fault p st n =
    let here : State = performed fault p st n in
    ap (λ b. record { executed = st.executed ++ n ∷ []; effects = if b then st.effects else st.effects ++ n ∷ []; loads = if is_load_at p n then (n, value Weak fault p st n) ∷ st.loads else st.loads }) (waits_not fault p n)

module _ (fault : Fault) (p : Program) (st : State) (thread index : ℕ) (within : index < thread_length p thread) where
  found : node_of p st (Perform thread index) ≡ Some (first_node p thread + index)
  found = ap (λ b. if b then Some (first_node p thread + index) else None) ((Decides-ltb index (thread_length p thread)).1 within)

  pub perform-enabled : is_enabled Weak fault p st (Perform thread index) ≡ is_ready fault p st (first_node p thread + index)
  perform-enabled = ap (λ (n : Option ℕ). option_map_or (may Weak fault p st (Perform thread index)) n false) found

  pub perform-after : after Weak fault p st (Perform thread index) ≡ performed fault p st (first_node p thread + index)
  perform-after = ap (after_node Weak fault p st (Perform thread index)) found ∙ executing-performed fault p st (first_node p thread + index)

-- an enabled step performs a node that is ready
pub record Performs (fault : Fault) (p : Program) (st : State) (step : Step) : Type 0 where
  pub thread : ℕ
  pub index : ℕ
  pub is_step : step ≡ Perform thread index
  pub within : index < thread_length p thread
  pub ready : is_ready fault p st (first_node p thread + index) ≡ true

pub never-executes : (fault : Fault) (p : Program) (st : State) (thread : ℕ) → is_enabled Weak fault p st (Execute thread) ≡ false
never-executes fault p st thread = at (next_of p st thread) where
  at : (found : Option ℕ) → option_map_or (may Weak fault p st (Execute thread)) found false ≡ false
  at None = refl
  at (Some n) = refl

pub never-drains : (fault : Fault) (p : Program) (st : State) (thread place : ℕ) → is_enabled Weak fault p st (Drain thread place) ≡ false
never-drains fault p st thread place = at (slice_get (buffer p st thread) place) where
  at : (found : Option ℕ) → option_map_or (may Weak fault p st (Drain thread place)) found false ≡ false
  at None = refl
  at (Some n) = refl

pub past-end : (fault : Fault) (p : Program) (st : State) (thread index : ℕ) → thread_length p thread ≤ index → is_enabled Weak fault p st (Perform thread index) ≡ false
past-end fault p st thread index le = ap (λ b. option_map_or (may Weak fault p st (Perform thread index)) (if b then Some (first_node p thread + index) else None) false) (not_within (nat_lt index (thread_length p thread)) refl) where
  not_within : (b : Bool) → nat_lt index (thread_length p thread) ≡ b → b ≡ false
  not_within true e = let lt = (Decides-ltb index (thread_length p thread)).0 e in absurd (omega (arith, lt, le))
  not_within false e = refl

pub performs : (fault : Fault) (p : Program) (st : State) (step : Step) → is_enabled Weak fault p st step ≡ true → Performs fault p st step
performs fault p st (Execute thread) h = absurd (false≢true (sym (never-executes fault p st thread) ∙ h))
performs fault p st (Drain thread place) h = absurd (false≢true (sym (never-drains fault p st thread place) ∙ h))
performs fault p st (Perform thread index) h = elim (cases_lt index (thread_length p thread)) [
  | inl within ↦ record { thread = thread; index = index; is_step = refl; within = within; ready = sym (perform-enabled fault p st thread index within) ∙ h }
  | inr past ↦ absurd (false≢true (sym (past-end fault p st thread index past) ∙ h))
]

-- what is ready

pub ready-new : (fault : Fault) (p : Program) (st : State) (n : ℕ) → is_ready fault p st n ≡ true → has st.effects n ≡ false
ready-new fault p st n h = not_true (has st.effects n) (and_true (not (has st.effects n)) (list_all (λ a. not (waits_for fault p a n) || has st.effects a) (all_nodes p)) h).0

pub ready-met : (fault : Fault) (p : Program) (st : State) (n a : ℕ) → is_ready fault p st n ≡ true → waits_for fault p a n ≡ true → has st.effects a ≡ true
ready-met fault p st n a h w =
    let all = (and_true (not (has st.effects n)) (list_all (λ b. not (waits_for fault p b n) || has st.effects b) (all_nodes p)) h).1 in
    implied (waits_for fault p a n) (has st.effects a) (all_at (λ b. not (waits_for fault p b n) || has st.effects b) (op_count p) all a (waits-pair fault p a n w).first) w

ready-from : (fault : Fault) (p : Program) (st : State) (n : ℕ) → has st.effects n ≡ false → ((a : ℕ) → waits_for fault p a n ≡ true → has st.effects a ≡ true) → is_ready fault p st n ≡ true
ready-from fault p st n new met =
    both (not (has st.effects n)) (list_all (λ b. not (waits_for fault p b n) || has st.effects b) (all_nodes p)) (ap not new)
    (all_true (λ b. not (waits_for fault p b n) || has st.effects b) (op_count p) (λ a lt. implies (waits_for fault p a n) (has st.effects a) (met a))) where
      both : (x y : Bool) → x ≡ true → y ≡ true → (x && y) ≡ true
      both true y h i = i
      both false y h i = absurd cc

-- what took effect waited for all that it had to

closed-performed : (fault : Fault) (p : Program) (st : State) (n : ℕ) → is_ready fault p st n ≡ true → IsClosed fault p (has st.effects) → IsClosed fault p (has (st.effects ++ n ∷ []))
closed-performed fault p st n ready closed a b w done = has-push st.effects n a ∙ from (has st.effects b) (n == b) refl refl (sym (has-push st.effects n b) ∙ done) where
  in_front : (x y : Bool) → x ≡ true → (x || y) ≡ true
  in_front true y h = refl
  in_front false y h = absurd cc

  from : (x y : Bool) → has st.effects b ≡ x → (n == b) ≡ y → (x || y) ≡ true → (has st.effects a || (n == a)) ≡ true
  from true y e f h = in_front (has st.effects a) (n == a) (closed a b w e)
  from false true e f h = in_front (has st.effects a) (n == a) (ready-met fault p st n a ready (subst (λ (m : ℕ). waits_for fault p a m ≡ true) (sym (eqb-true n b f)) w))
  from false false e f h = absurd cc

closed-step : (fault : Fault) (p : Program) (st : State) (step : Step) → is_enabled Weak fault p st step ≡ true → IsClosed fault p (has st.effects) → IsClosed fault p (has (after Weak fault p st step).effects)
closed-step fault p st step h closed =
    let s = performs fault p st step h in
    subst (λ (next : State). IsClosed fault p (has next.effects))
    (sym (ap (after Weak fault p st) s.is_step ∙ perform-after fault p st s.thread s.index s.within))
    (closed-performed fault p st (first_node p s.thread + s.index) s.ready closed)

closed-steps : (fault : Fault) (p : Program) (st : State) (steps : List Step) → AreEnabled Weak fault p st steps → IsClosed fault p (has st.effects) → IsClosed fault p (has (after_all Weak fault p st steps).effects)
closed-steps fault p st [] h closed = closed
closed-steps fault p st (step ∷ more) h closed = closed-steps fault p (after Weak fault p st step) more h.1 (closed-step fault p st step h.0 closed)

pub closed-play : (fault : Fault) (p : Program) (steps : List Step) → IsPlay Weak fault p steps → IsClosed fault p (has (final Weak fault p steps).effects)
closed-play fault p steps h = closed-steps fault p opening steps h (λ a b w done. absurd (false≢true done))

-- the flags of the ready nodes tell which are ready

module _ (fault : Fault) (p : Program) (st : State) (lists : List (List ℕ)) (flags : List Bool) (missing : List ℕ) (ready : List Bool) (left : ℕ)
    (t : lists ≡ direct_waits fault p) (g : IsProgress lists flags missing ready left) (are : flags ≡ map (has st.effects) (all_nodes p)) (closed : IsClosed fault p (has st.effects)) where
  flag-is : (n : ℕ) → n < op_count p → has_flag flags n ≡ has st.effects n
  flag-is n lt = ap (λ (xs : List Bool). has_flag xs n) are ∙ get_or-map_below (has st.effects) (op_count p) n false lt

  -- none in whose list it is is left, so none that it waits for
  met : (n : ℕ) → missing_of lists flags n ≡ 0 → (a : ℕ) → waits_for fault p a n ≡ true → has st.effects a ≡ true
  met n none = all-met fault p (has st.effects) closed n
      (λ a h.
      let there = direct-complete fault p a n h in
      sym (flag-is a (waits-pair fault p a n (direct-sound fault p a n there)).first) ∙ none-missing lists flags n none a (subst (λ (all : List (List ℕ)). Contains (get_or all a []) n) (sym t) there))

  unmet : (n : ℕ) → ((a : ℕ) → waits_for fault p a n ≡ true → has st.effects a ≡ true) → missing_of lists flags n ≡ 0
  unmet n all = missing-none lists flags n
      (λ a there.
      let waits = direct-sound fault p a n (subst (λ (some : List (List ℕ)). Contains (get_or some a []) n) t there) in
      flag-is a (waits-pair fault p a n waits).first ∙ all a waits)

  pub ready-flags : (n : ℕ) → n < op_count p → has_flag ready n ≡ is_ready fault p st n
  ready-flags n lt =
      let long = ap length t ∙ direct-long fault p in
      let inside : n < length lists = omega (arith, lt, long) in
      g.ready_are n inside
      ∙ ap (λ b. not b && (get_or missing n 0 == 0)) (flag-is n lt)
      ∙ ap (λ (m : ℕ). not (has st.effects n) && (m == 0)) (g.missing_are n inside)
      ∙ by (has st.effects n) (is_ready fault p st n) refl refl where
        by : (x r : Bool) → has st.effects n ≡ x → is_ready fault p st n ≡ r → (not (has st.effects n) && (missing_of lists flags n == 0)) ≡ is_ready fault p st n
        by x true e f =
            both (not (has st.effects n)) (missing_of lists flags n == 0) (ap not (ready-new fault p st n f)) (eq-eqb (missing_of lists flags n) 0 (unmet n (λ a w. ready-met fault p st n a f w))) ∙ sym f where
              both : (y z : Bool) → y ≡ true → z ≡ true → (y && z) ≡ true
              both true z h i = i
              both false z h i = absurd cc
        by true false e f = ap (λ b. not b && (missing_of lists flags n == 0)) e ∙ sym f
        by false false e f = elim (cases_Bool (missing_of lists flags n == 0)) [
          | inl none ↦ absurd (false≢true (sym f ∙ ready-from fault p st n e (met n (eqb-true (missing_of lists flags n) 0 none))))
          | inr some ↦ ap (λ b. not b && (missing_of lists flags n == 0)) e ∙ some ∙ sym f
        ]
