-- A step of one thread leaves the choices of the others.
use Rattle.std.proofs.Common.{◌≡◌, ◌∙◌, ℕ, ◌+◌, [], ◌∷◌, ◌++◌, Bool, true, false, cond, Contains, refl, sym, ap, Option, None, Some}
use Rattle.std.specs.Prelude.{filter, nat_lt, slice_get}
use Rattle.std.specs.Option.{option_map_or}
use Rattle.test_lang.specs.declared.step.Step.{Step}
use Rattle.test_lang.specs.declared.step.Step.TheVariants.{Execute, Drain, Perform}
use Rattle.test_lang.specs.declared.target.Fault.{Fault}
use Rattle.test_lang.specs.Program.{Program, first_node, thread_length}
use Rattle.test_lang.specs.Play.States.{State, is_of_thread, next_of, buffer}
use Rattle.test_lang.specs.Play.Machines.{after, after_node, executing, is_enabled, may, waits_at}
use Rattle.test_lang.specs.Play.Choices.{steps_of}
use Rattle.test_lang.proofs.PlayLaws.Firsts.{next_is}
use Rattle.test_lang.proofs.PlayLaws.Moves.{in_buffer, slice_get-Contains}
use Rattle.tso_machine.specs.declared.playing.StoreOrder.{StoreOrder}
use Rattle.tso_machine.specs.Moments.{target_of}
use Rattle.tso_machine.specs.Moves.{thread_of}
use Rattle.tso_machine.proofs.ChoiceLists.{in_order, same_chosen}
use Rattle.tso_machine.proofs.EntriesAfter.{leaves_other, waiting, waits_not, waits_other}
use Rattle.tso_machine.proofs.Turns.{IsInTurn, next_at, not_of, performs_none, position_other, turn_execute}

-- a thread's next operation and its buffer are as they were
pub record IsLeft (p : Program) (st next : State) (u : ℕ) : Type 0 where
  pub same_next : next_of p next u ≡ next_of p st u
  pub same_buffer : buffer p next u ≡ buffer p st u

module _ (order : StoreOrder) (fault : Fault) (p : Program) (st : State) (i : IsInTurn p st.executed) (within : (n : ℕ) → Contains st.effects n → Contains st.executed n) where
  execute_leaves : (t n u : ℕ) → next_of p st t ≡ Some n → (u ≡ t → ⊥) → IsLeft p st (executing (target_of order) fault p st n) u
  execute_leaves t n u e apart =
      let next = next_is p st t n e in
      let other = not_of p t u n next.thread_is apart in
      record {
        same_next =
            next_at p (executing (target_of order) fault p st n) u (turn_execute p st t n i e)
            ∙ ap (λ (k : ℕ). cond (nat_lt k (first_node p u + thread_length p u)) (Some k) None) (position_other p st.executed n u other)
            ∙ sym (next_at p st u i);
        same_buffer = at (waits_at (target_of order) fault p n) next.new other;
      } where
        at : (b : Bool) → (Contains st.executed n → ⊥) → is_of_thread p u n ≡ false → filter (waiting p u (cond b st.effects (st.effects ++ n ∷ []))) (st.executed ++ n ∷ []) ≡ filter (waiting p u st.effects) st.executed
        at true new other = waits_other p st.executed st.effects n u other
        at false new other = waits_not p st.executed st.effects n u new

  drain_leaves : (t place u : ℕ) (found : Option ℕ) → slice_get (buffer p st t) place ≡ found → (u ≡ t → ⊥) → IsLeft p st (after_node (target_of order) fault p st (Drain t place) found) u
  drain_leaves t place u None e apart = record { same_next = refl; same_buffer = refl }
  drain_leaves t place u (Some n) e apart =
      let own = (in_buffer p st t n (slice_get-Contains (buffer p st t) place n e)).thread_is in
      record { same_next = refl; same_buffer = leaves_other p st.executed st.effects n u (not_of p t u n own apart) }

  step_leaves : (step : Step) (u : ℕ) → is_enabled (target_of order) fault p st step ≡ true → (u ≡ thread_of step → ⊥) → IsLeft p st (after (target_of order) fault p st step) u
  step_leaves (Execute t) u h apart = by (next_of p st t) refl h where
    by : (found : Option ℕ) → next_of p st t ≡ found → option_map_or (may (target_of order) fault p st (Execute t)) found false ≡ true → IsLeft p st (after_node (target_of order) fault p st (Execute t) found) u
    by None e h = absurd cc
    by (Some n) e h = execute_leaves t n u e apart
  step_leaves (Drain t place) u h apart = drain_leaves t place u (slice_get (buffer p st t) place) refl apart
  step_leaves (Perform t k) u h apart = let none = performs_none (target_of order) fault p st t k (in_order order) in absurd cc

  pub choices_left : (step : Step) (u : ℕ) → is_enabled (target_of order) fault p st step ≡ true → (u ≡ thread_of step → ⊥)
      → filter (is_enabled (target_of order) fault p (after (target_of order) fault p st step)) (steps_of p (after (target_of order) fault p st step) u) ≡ filter (is_enabled (target_of order) fault p st) (steps_of p st u)
  choices_left step u h apart =
      let left = step_leaves step u h apart in
      same_chosen order fault p (after (target_of order) fault p st step) st u left.same_next left.same_buffer
