-- A machine in its opening state, and one that is done.
use Rattle.std.proofs.Common.{◌≡◌, ◌∙◌, ℕ, suc, ◌+◌, ◌≤◌, List, [], ◌∷◌, map, length, get_or, Bool, true, false, arith, refl, sym, ap, subst, replicate}
use Rattle.std.specs.Prelude.{count_by, not, ◌&&◌, nat_eq}
use Rattle.std.proofs.lemmas.Bool.{eq-eqb, ne_eqb}
use Rattle.std.proofs.lemmas.List.{length-map}
use Rattle.std.proofs.lemmas.List.Sums.{sum_by-cons}
use Rattle.orders.specs.Orders.{nodes_below}
use Rattle.orders.proofs.Below.{length-below}
use Rattle.test_lang.specs.declared.target.Target.TheVariants.{Sc}
use Rattle.test_lang.specs.declared.target.Fault.{Fault}
use Rattle.test_lang.specs.declared.step.Step.{Step}
use Rattle.test_lang.specs.Program.{Program, all_nodes, first_node, op_count, IsWithinLimits}
use Rattle.test_lang.specs.Values.{load_count, load_nodes}
use Rattle.test_lang.specs.Play.States.{has, opening, value_given, value_now, value_before}
use Rattle.test_lang.specs.Play.Machines.{waits_at}
use Rattle.test_lang.specs.Play.Plays.{is_done, steps_left}
use Rattle.test_lang.proofs.Ranks.{length-load_nodes}
use Rattle.test_lang.proofs.Threads.{first_node-suc, first_node_all}
use Rattle.test_lang.proofs.PlayLaws.Counts.{none_count}
use Rattle.test_lang.proofs.PlayLaws.Moves.{coherent, sc_idle}
use Rattle.test_lang.proofs.PlayLaws.StepsLeft.{ends}
use Rattle.sim_core.specs.Setup.{is_done_after}
use Rattle.sim_core.specs.Positions.{StandsAt}
use Rattle.sim_core.proofs.BelowLists.{get_or-map_below, length-map_below}
use Rattle.sim_core.proofs.LoadsAfter.{loads-opening}
use Rattle.sim_core.proofs.MemoryAfter.{before-opening, now-opening}
use Rattle.sim_core.proofs.NextOperations.{stands-opening}
use Rattle.sc_machine.specs.declared.threads.Thread.{Thread}
use Rattle.sc_machine.specs.Threads.{opening_thread, thread_end}
use Rattle.sc_machine.specs.Standing.{Standing, Shows, Stands, setup_of, state_of}
use Rattle.sc_machine.specs.Machine.{IsMachine, standing_of}

-- where a thread ends

pub end-next : (p : Program) (thread : ℕ) → first_node p (thread + 1) ≡ thread_end p thread
end-next p thread = let one : thread + 1 ≡ suc thread = omega arith in ap (first_node p) one ∙ first_node-suc p thread

pub end-last : (p : Program) (thread : ℕ) → length p.threads ≤ thread + 1 → op_count p ≡ thread_end p thread
end-last p thread past = sym (first_node_all p (thread + 1) past) ∙ end-next p thread

-- all operations are left
count_all : (xs : List ℕ) → count_by (λ (n : ℕ). true) xs ≡ length xs
count_all [] = refl
count_all (x ∷ xs) = let one = sum_by-cons (λ (n : ℕ). 1) x xs in let more = count_all xs in omega (arith, one, more)

left_at_first : (fault : Fault) (p : Program) → op_count p ≡ steps_left Sc fault p opening
left_at_first fault p =
    let all = count_all (all_nodes p) in
    let long = length-below (op_count p) in
    let none = none_count (λ n. waits_at Sc fault p n && not (has [] n)) (op_count p) (λ n lt. ap (λ (b : Bool). b && true) (sc_idle fault p n)) in
    omega (arith, all, long, none)

module _ (fault : Fault) (p : Program) where
  map-opening : (f : Thread → ℕ) (g : ℕ → ℕ) → ((k : ℕ) → f (opening_thread p k) ≡ g k) → (xs : List ℕ) → map f (map (opening_thread p) xs) ≡ map g xs
  map-opening f g same [] = refl
  map-opening f g same (x ∷ xs) = ap (λ (n : ℕ). n ∷ map f (map (opening_thread p) xs)) (same x) ∙ ap (λ (ys : List ℕ). g x ∷ ys) (map-opening f g same xs)

  pub positions_at_first : map (λ thread. thread.next) (map (opening_thread p) (nodes_below (length p.threads))) ≡ map (first_node p) (nodes_below (length p.threads))
  positions_at_first = map-opening (λ (thread : Thread). thread.next) (first_node p) (λ k. refl) (nodes_below (length p.threads))

  ends_at_first : map (λ thread. thread.end) (map (opening_thread p) (nodes_below (length p.threads))) ≡ map (thread_end p) (nodes_below (length p.threads))
  ends_at_first = map-opening (λ (thread : Thread). thread.end) (thread_end p) (λ k. refl) (nodes_below (length p.threads))

  module _ (limits : IsWithinLimits p) (threads : List Thread) (now before loads : List ℕ) (left : ℕ) (threads_are : threads ≡ map (opening_thread p) (nodes_below (length p.threads))) (now_are : now ≡ replicate p.words 0)
      (before_are : before ≡ replicate p.words 0) (loads_are : loads ≡ replicate (load_count p) 0) (left_is : left ≡ op_count p) where
    positions : map (λ thread. thread.next) threads ≡ map (first_node p) (nodes_below (length p.threads))
    positions = ap (map (λ (thread : Thread). thread.next)) threads_are ∙ positions_at_first

    shows_opening : Shows (standing_of p fault threads now before loads left) opening
    shows_opening = record {
      one_position_each = ap length positions ∙ length-map_below (first_node p) (length p.threads);
      positions_are = λ thread lt.
          let at : get_or (map (λ (t : Thread). t.next) threads) thread 0 ≡ first_node p thread =
          ap (λ (xs : List ℕ). get_or xs thread 0) positions ∙ get_or-map_below (first_node p) (length p.threads) thread 0 lt in
          subst (StandsAt p [] thread) (sym at) (stands-opening p thread lt);
      now_are = now_are ∙ sym (now-opening p);
      before_are = before_are ∙ sym (before-opening p);
      loads_are = loads_are ∙ sym (loads-opening p);
      left_is = left_is ∙ left_at_first fault p;
    }

    pub stands_opening : Stands (standing_of p fault threads now before loads left) []
    stands_opening = record { limits = limits; is_play = tt; shows = shows_opening }

    pub machine_opening : IsMachine (standing_of p fault threads now before loads left) threads
    machine_opening = record {
      ends_are = ap (map (λ (thread : Thread). thread.end)) threads_are ∙ ends_at_first;
      stands_for = ([], stands_opening);
    }

-- The room that a machine has.
module _ (m : Standing) (threads : List Thread) (h : IsMachine m threads) where
  pub limits_of : IsWithinLimits m.test
  limits_of = h.stands_for.1.limits

  pub words_now : length m.now ≡ m.test.words
  words_now = ap length h.stands_for.1.shows.now_are ∙ length-map_below (value_now m.test (state_of m h.stands_for.0).effects) m.test.words

  pub words_before : length m.before ≡ m.test.words
  words_before = ap length h.stands_for.1.shows.before_are ∙ length-map_below (value_before m.test (state_of m h.stands_for.0).effects) m.test.words

  pub loads_each : length m.loads ≡ load_count m.test
  loads_each = ap length h.stands_for.1.shows.loads_are ∙ length-map (load_nodes m.test) (value_given (state_of m h.stands_for.0).loads) ∙ length-load_nodes m.test

-- The play is done where no operation is left.
module _ (m : Standing) (steps : List Step) (h : Stands m steps) where
  pub done_is : nat_eq m.left 0 ≡ is_done_after (setup_of m) steps
  done_is = at (is_done m.test (state_of m steps)) refl where
    at : (b : Bool) → is_done m.test (state_of m steps) ≡ b → nat_eq m.left 0 ≡ b
    at true e = eq-eqb m.left 0 (h.shows.left_is ∙ (ends Sc m.fault m.test (state_of m steps) (coherent Sc m.fault m.test steps h.is_play)).0 e)
    at false e = ne_eqb m.left 0 (λ (none : m.left ≡ 0).
        let done = (ends Sc m.fault m.test (state_of m steps) (coherent Sc m.fault m.test steps h.is_play)).1 (sym h.shows.left_is ∙ none) in absurd (cc (done, e)))
