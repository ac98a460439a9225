-- What an enabled step does to a state, on any machine and with any fault, and what holds at each moment of a play.
use Rattle.std.proofs.Common.{◌≡◌, ℕ, ◌+◌, ◌<◌, List, [], ◌∷◌, ◌++◌, Bool, true, false, not, ◌&&◌, ◌||◌, cond, Contains, inl, inr, arith, refl, sym, subst, Option, None, Some}
use Rattle.std.specs.Prelude.{◌==◌, nat_lt, slice_get}
use Rattle.std.specs.List.{list_all}
use Rattle.std.specs.Option.{option_map_or}
use Rattle.std.proofs.lemmas.Bool.Decides.{Decides-ltb}
use Rattle.std.proofs.lemmas.List.Elements.{Contains-append_left, Contains-push, Contains-push_cases}
use Rattle.std.proofs.lemmas.Option.{slice_get_within, get_or_from_slice_get}
use Rattle.orders.proofs.Members.{Contains-filter_back}
use Rattle.test_lang.specs.declared.op.Action.{Action}
use Rattle.test_lang.specs.declared.op.MemModel.TheVariants as models
use Rattle.test_lang.specs.declared.step.Step.{Step}
use Rattle.test_lang.specs.declared.step.Step.TheVariants.{Execute, Drain, Perform}
use Rattle.test_lang.specs.declared.target.Target.{Target}
use Rattle.test_lang.specs.declared.target.Target.TheVariants.{Sc, Tso, Pso, Weak}
use Rattle.test_lang.specs.declared.target.Fault.{Fault}
use Rattle.test_lang.specs.Program.{Program, actions, all_nodes, first_node, op_count, thread_length}
use Rattle.test_lang.specs.Kept.{is_kept}
use Rattle.test_lang.specs.Play.States.{State, opening, has, is_of_thread, next_of, buffer}
use Rattle.test_lang.specs.Play.Faults.{spares}
use Rattle.test_lang.specs.Play.Machines.{is_ready, may, is_enabled, waits, waits_at, executing, draining, after_node, after}
use Rattle.test_lang.specs.Play.Plays.{after_all, AreEnabled, IsPlay, final}
use Rattle.test_lang.proofs.EdgeTests.{not-true, at_node-below}
use Rattle.test_lang.proofs.Threads.{thread_end-le}
use Rattle.test_lang.proofs.PlayLaws.Lasts.{both, has_false}
use Rattle.test_lang.proofs.PlayLaws.Firsts.{next_is}

-- What took effect was executed, and what was executed took effect, unless it waits in a buffer.
pub record IsCoherent (waiting : ℕ → Bool) (executed effects : List ℕ) : Type 0 where
  pub within : (n : ℕ) → Contains effects n → Contains executed n
  pub direct : (n : ℕ) → Contains executed n → waiting n ≡ false → Contains effects n

abbrev pub Coherent : Target → Fault → Program → State → Type 0
Coherent target fault p st = IsCoherent (waits_at target fault p) st.executed st.effects

-- a node is executed that wasn't, or one that was takes effect
pub data Move (target : Target) (fault : Fault) (p : Program) (st next : State) : Type 0 where
  executes : (n : ℕ) → n < op_count p → (Contains st.executed n → ⊥) → next ≡ executing target fault p st n → Move target fault p st next
  drains : (n : ℕ) → n < op_count p → Contains st.executed n → (Contains st.effects n → ⊥) → next ≡ draining st n → Move target fault p st next

-- an entry of a buffer
pub record IsEntry (p : Program) (st : State) (thread n : ℕ) : Type 0 where
  pub below : n < op_count p
  pub thread_is : is_of_thread p thread n ≡ true
  pub executed : Contains st.executed n
  pub out : Contains st.effects n → ⊥

pub in_buffer : (p : Program) (st : State) (thread n : ℕ) → Contains (buffer p st thread) n → IsEntry p st thread n
in_buffer p st thread n there =
    let found = Contains-filter_back (λ x. is_of_thread p thread x && not (has st.effects x)) st.executed n there in
    let parts = both (is_of_thread p thread n) (not (has st.effects n)) found.1 in
    record {
      below = at_node-below (λ node. node.0 == thread) p n parts.0;
      thread_is = parts.0;
      executed = found.0;
      out = has_false st.effects n (not-true (has st.effects n) parts.1);
    }

pub slice_get-Contains : (xs : List ℕ) (k x : ℕ) → slice_get xs k ≡ Some x → Contains xs x
slice_get-Contains xs k x e = (k, slice_get_within xs k x e, get_or_from_slice_get xs k x x e)

-- nothing waits on sc and on the weak machine

idle_sc : (fault : Fault) (found : Option (ℕ × Action)) → option_map_or (λ node. waits Sc fault node.1) found false ≡ false
idle_sc fault None = refl
idle_sc fault (Some node) = refl

pub sc_idle : (fault : Fault) (p : Program) (n : ℕ) → waits_at Sc fault p n ≡ false
sc_idle fault p n = idle_sc fault (slice_get (actions p) n)

idle_weak : (fault : Fault) (found : Option (ℕ × Action)) → option_map_or (λ node. waits Weak fault node.1) found false ≡ false
idle_weak fault None = refl
idle_weak fault (Some node) = refl

pub weak_idle : (fault : Fault) (p : Program) (n : ℕ) → waits_at Weak fault p n ≡ false
weak_idle fault p n = idle_weak fault (slice_get (actions p) n)

-- what a step of each kind does

moves_execute : (target : Target) (fault : Fault) (p : Program) (st : State) (thread : ℕ) (found : Option ℕ) → next_of p st thread ≡ found → option_map_or (may target fault p st (Execute thread)) found false ≡ true →
    Move target fault p st (after_node target fault p st (Execute thread) found)
moves_execute target fault p st thread None e h = absurd cc
moves_execute target fault p st thread (Some n) e h = let next = next_is p st thread n e in executes n next.below next.new refl

moves_drain : (target : Target) (fault : Fault) (p : Program) (st : State) (thread place : ℕ) (found : Option ℕ) → slice_get (buffer p st thread) place ≡ found → option_map_or (may target fault p st (Drain thread place)) found false ≡ true →
    Move target fault p st (after_node target fault p st (Drain thread place) found)
moves_drain target fault p st thread place None e h = absurd cc
moves_drain target fault p st thread place (Some n) e h =
    let entry = in_buffer p st thread n (slice_get-Contains (buffer p st thread) place n e) in drains n entry.below entry.executed entry.out refl

-- the operation with this index, if there is one
abbrev pub indexed : Program → ℕ → ℕ → Bool → Option ℕ
indexed p thread index b = cond b (Some (first_node p thread + index)) None

pub indexed-below : (p : Program) (thread index : ℕ) → nat_lt index (thread_length p thread) ≡ true → first_node p thread + index < op_count p
indexed-below p thread index e =
    let lt = (Decides-ltb index (thread_length p thread)).0 e in
    let end = thread_end-le p thread in
    omega (arith, lt, end)

pub ready_open : (fault : Fault) (p : Program) (st : State) (n : ℕ) → is_ready fault p st n ≡ true → Contains st.effects n → ⊥
ready_open fault p st n h =
    let parts = both (not (has st.effects n)) (list_all (λ a. not (is_kept models.Weak p a n && not (spares fault p a n)) || has st.effects a) (all_nodes p)) h in
    has_false st.effects n (not-true (has st.effects n) parts.0)

moves_perform : (target : Target) (fault : Fault) (p : Program) (st : State) (thread index : ℕ) → Coherent target fault p st → (b : Bool) → nat_lt index (thread_length p thread) ≡ b →
    option_map_or (may target fault p st (Perform thread index)) (indexed p thread index b) false ≡ true → Move target fault p st (after_node target fault p st (Perform thread index) (indexed p thread index b))
moves_perform target fault p st thread index k false e h = absurd cc
moves_perform Sc fault p st thread index k true e h = absurd cc
moves_perform Tso fault p st thread index k true e h = absurd cc
moves_perform Pso fault p st thread index k true e h = absurd cc
moves_perform Weak fault p st thread index k true e h =
    let n = first_node p thread + index in
    executes n (indexed-below p thread index e) (λ there. ready_open fault p st n h (k.direct n there (weak_idle fault p n))) refl

pub moves : (target : Target) (fault : Fault) (p : Program) (st : State) (step : Step) → Coherent target fault p st → is_enabled target fault p st step ≡ true → Move target fault p st (after target fault p st step)
moves target fault p st (Execute thread) k h = moves_execute target fault p st thread (next_of p st thread) refl h
moves target fault p st (Drain thread place) k h = moves_drain target fault p st thread place (slice_get (buffer p st thread) place) refl h
moves target fault p st (Perform thread index) k h = moves_perform target fault p st thread index k (nat_lt index (thread_length p thread)) refl h

-- coherent states stay coherent

executed_coherent : (waiting : ℕ → Bool) (executed effects : List ℕ) (n : ℕ) → IsCoherent waiting executed effects → (b : Bool) → waiting n ≡ b → IsCoherent waiting (executed ++ n ∷ []) (cond b effects (effects ++ n ∷ []))
executed_coherent waiting executed effects n k true w = record {
  within = λ x there. Contains-append_left executed (n ∷ []) x (k.within x there);
  direct = λ x there idle. elim (Contains-push_cases executed n x there) [
    | inl old ↦ k.direct x old idle
    | inr same ↦ let yes : waiting x ≡ true = subst (λ (y : ℕ). waiting y ≡ true) same w in absurd cc
  ];
}
executed_coherent waiting executed effects n k false w = record {
  within = λ x there. elim (Contains-push_cases effects n x there) [
    | inl old ↦ Contains-append_left executed (n ∷ []) x (k.within x old)
    | inr same ↦ subst (Contains (executed ++ n ∷ [])) same (Contains-push executed n)
  ];
  direct = λ x there idle. elim (Contains-push_cases executed n x there) [
    | inl old ↦ Contains-append_left effects (n ∷ []) x (k.direct x old idle)
    | inr same ↦ subst (Contains (effects ++ n ∷ [])) same (Contains-push effects n)
  ];
}

drained_coherent : (waiting : ℕ → Bool) (executed effects : List ℕ) (n : ℕ) → IsCoherent waiting executed effects → Contains executed n → IsCoherent waiting executed (effects ++ n ∷ [])
drained_coherent waiting executed effects n k entry = record {
  within = λ x there. elim (Contains-push_cases effects n x there) [ inl old ↦ k.within x old | inr same ↦ subst (Contains executed) same entry ];
  direct = λ x there idle. Contains-append_left effects (n ∷ []) x (k.direct x there idle);
}

coherent_move : (target : Target) (fault : Fault) (p : Program) (st next : State) → Coherent target fault p st → Move target fault p st next → Coherent target fault p next
coherent_move target fault p st next k (executes n below new is) =
    subst (Coherent target fault p) (sym is) (executed_coherent (waits_at target fault p) st.executed st.effects n k (waits_at target fault p n) refl)
coherent_move target fault p st next k (drains n below there out is) =
    subst (Coherent target fault p) (sym is) (drained_coherent (waits_at target fault p) st.executed st.effects n k there)

coherent_steps : (target : Target) (fault : Fault) (p : Program) (st : State) (steps : List Step) → AreEnabled target fault p st steps → Coherent target fault p st → Coherent target fault p (after_all target fault p st steps)
coherent_steps target fault p st [] h k = k
coherent_steps target fault p st (step ∷ more) h k =
    coherent_steps target fault p (after target fault p st step) more h.1 (coherent_move target fault p st (after target fault p st step) k (moves target fault p st step k h.0))

-- each play leads to a coherent state
pub coherent : (target : Target) (fault : Fault) (p : Program) (steps : List Step) → IsPlay target fault p steps → Coherent target fault p (final target fault p steps)
coherent target fault p steps h = coherent_steps target fault p opening steps h (record { within = λ n there. there; direct = λ n there idle. there })

-- what each enabled step keeps, each play keeps
pub all_along : (target : Target) (fault : Fault) (p : Program) (P : State → Type 0) →
    ((st : State) (step : Step) → Coherent target fault p st → P st → is_enabled target fault p st step ≡ true → P (after target fault p st step)) → (st : State) (steps : List Step) → AreEnabled target fault p st steps → Coherent target fault p st → P st
    → P (after_all target fault p st steps)
all_along target fault p P each st [] h k start = start
all_along target fault p P each st (step ∷ more) h k start =
    all_along target fault p P each (after target fault p st step) more h.1 (coherent_move target fault p st (after target fault p st step) k (moves target fault p st step k h.0)) (each st step k start h.0)

pub coherent_opening : (target : Target) (fault : Fault) (p : Program) → Coherent target fault p opening
coherent_opening target fault p = record { within = λ n there. there; direct = λ n there idle. there }
