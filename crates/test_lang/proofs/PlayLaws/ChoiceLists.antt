-- The choices are the enabled steps, of any state.
use Rattle.std.proofs.Common.{◌≡◌, ℕ, zero, suc, ◌<◌, ◌≤◌, List, [], ◌∷◌, ◌++◌, Bool, true, false, map, length, get_or, Contains, inl, inr, arith, refl, ap, Option, None, Some}
use Rattle.std.specs.Prelude.{◌==◌, nat_lt, slice_get}
use Rattle.std.specs.List.{flat_map}
use Rattle.std.specs.Option.{option_map_or}
use Rattle.std.proofs.lemmas.Bool.{cases_lt, eqb-true}
use Rattle.std.proofs.lemmas.Bool.Decides.{Decides-ltb}
use Rattle.std.proofs.lemmas.List.Elements.{Contains-append_left, Contains-append_right}
use Rattle.std.proofs.lemmas.Option.{slice_get_within}
use Rattle.orders.specs.Orders.{nodes_below}
use Rattle.orders.proofs.Below.{has-below}
use Rattle.orders.proofs.Members.{Contains-head, Contains-tail, Contains-map, Contains-flat_map, Contains-filter, Contains-filter_back}
use Rattle.test_lang.specs.declared.op.Op.{Op}
use Rattle.test_lang.specs.declared.op.Action.{Action}
use Rattle.test_lang.specs.declared.step.Step.{Step}
use Rattle.test_lang.specs.declared.step.Step.TheVariants.{Execute, Drain, Perform}
use Rattle.test_lang.specs.declared.target.Target.{Target}
use Rattle.test_lang.specs.declared.target.Fault.{Fault}
use Rattle.test_lang.specs.Program.{Program, nodes, passes, thread_length}
use Rattle.std.specs.Option.{option_map}
use Rattle.test_lang.specs.Play.States.{State, is_of_thread, next_of, buffer}
use Rattle.test_lang.specs.Play.Machines.{may, is_enabled}
use Rattle.test_lang.specs.Play.Choices.{steps_of, choices}
use Rattle.test_lang.proofs.Threads.{thread_at-stands}
use Rattle.test_lang.proofs.PlayLaws.Firsts.{next_is}
use Rattle.test_lang.proofs.PlayLaws.Moves.{in_buffer, slice_get-Contains, indexed}

thread_from : (thread : ℕ) (found : Option (ℕ × Op)) → passes (λ node. node.0 == thread) found ≡ true → option_map (λ node. node.0) found ≡ Some thread
thread_from thread None h = absurd cc
thread_from thread (Some node) h = ap Some (eqb-true node.0 thread h)

thread_in_range : (p : Program) (thread n : ℕ) → is_of_thread p thread n ≡ true → thread < length p.threads
thread_in_range p thread n h = (thread_at-stands p n thread (thread_from thread (slice_get (nodes p) n) h)).in_range

past_end : (threads : List (List Action)) (thread : ℕ) → length threads ≤ thread → length (get_or threads thread []) ≡ 0
past_end [] thread le = refl
past_end (first ∷ more) zero le = absurd (omega (arith, le))
past_end (first ∷ more) (suc thread) le = past_end more thread (omega (arith, le))

-- a step that is about a node is among the steps of its thread
record IsListed (p : Program) (st : State) (step : Step) : Type 0 where
  thread : ℕ
  in_range : thread < length p.threads
  listed : Contains (steps_of p st thread) step

module _ (target : Target) (fault : Fault) (p : Program) (st : State) where
  execute_listed : (thread : ℕ) (found : Option ℕ) → next_of p st thread ≡ found → option_map_or (may target fault p st (Execute thread)) found false ≡ true → IsListed p st (Execute thread)
  execute_listed thread None e h = absurd cc
  execute_listed thread (Some n) e h = record {
    thread = thread;
    in_range = thread_in_range p thread n (next_is p st thread n e).thread_is;
    listed = Contains-head (Execute thread) (map (Drain thread) (nodes_below (length (buffer p st thread))) ++ map (Perform thread) (nodes_below (thread_length p thread))) (Execute thread) refl;
  }

  drain_listed : (thread place : ℕ) (found : Option ℕ) → slice_get (buffer p st thread) place ≡ found → option_map_or (may target fault p st (Drain thread place)) found false ≡ true → IsListed p st (Drain thread place)
  drain_listed thread place None e h = absurd cc
  drain_listed thread place (Some n) e h =
      let drains : List Step = map (Drain thread) (nodes_below (length (buffer p st thread))) in
      let performs : List Step = map (Perform thread) (nodes_below (thread_length p thread)) in
      record {
        thread = thread;
        in_range = thread_in_range p thread n (in_buffer p st thread n (slice_get-Contains (buffer p st thread) place n e)).thread_is;
        listed = Contains-tail (Execute thread) (drains ++ performs) (Drain thread place)
            (Contains-append_left drains performs (Drain thread place)
            (Contains-map (Drain thread) (nodes_below (length (buffer p st thread))) place
            (has-below (length (buffer p st thread)) place (slice_get_within (buffer p st thread) place n e))));
      }

  perform_listed : (thread index : ℕ) (b : Bool) → nat_lt index (thread_length p thread) ≡ b → option_map_or (may target fault p st (Perform thread index)) (indexed p thread index b) false ≡ true → IsListed p st (Perform thread index)
  perform_listed thread index false e h = absurd cc
  perform_listed thread index true e h =
      let lt = (Decides-ltb index (thread_length p thread)).0 e in
      let drains : List Step = map (Drain thread) (nodes_below (length (buffer p st thread))) in
      let performs : List Step = map (Perform thread) (nodes_below (thread_length p thread)) in
      record {
        thread = thread;
        in_range = within lt;
        listed = Contains-tail (Execute thread) (drains ++ performs) (Perform thread index)
            (Contains-append_right drains performs (Perform thread index)
            (Contains-map (Perform thread) (nodes_below (thread_length p thread)) index (has-below (thread_length p thread) index lt)));
      } where
        within : index < thread_length p thread → thread < length p.threads
        within lt = elim (cases_lt thread (length p.threads)) [
          | inl below ↦ below
          | inr above ↦ let none = past_end p.threads thread above in absurd (omega (arith, lt, none))
        ]

  listed : (step : Step) → is_enabled target fault p st step ≡ true → IsListed p st step
  listed (Execute thread) h = execute_listed thread (next_of p st thread) refl h
  listed (Drain thread place) h = drain_listed thread place (slice_get (buffer p st thread) place) refl h
  listed (Perform thread index) h = perform_listed thread index (nat_lt index (thread_length p thread)) refl h

  pub chosen : (step : Step) → is_enabled target fault p st step ≡ true → Contains (choices target fault p st) step
  chosen step h =
      let l = listed step h in
      Contains-filter (is_enabled target fault p st) (flat_map (steps_of p st) (nodes_below (length p.threads))) step
      (Contains-flat_map (steps_of p st) (nodes_below (length p.threads)) l.thread step (has-below (length p.threads) l.thread l.in_range) l.listed) h

  pub chosen_back : (step : Step) → Contains (choices target fault p st) step → is_enabled target fault p st step ≡ true
  chosen_back step there = (Contains-filter_back (is_enabled target fault p st) (flat_map (steps_of p st) (nodes_below (length p.threads))) step there).1
