-- A play that isn't done has an enabled step, on any machine and with any fault.
use Rattle.std.proofs.Common.{◌≡◌, ◌∙◌, ℕ, ◌<◌, ◌+◌, ◌-◌, List, [], ◌∷◌, Bool, true, false, not, ◌&&◌, ◌||◌, Contains, arith, refl, ap, Option, None, Some}
use Rattle.std.specs.Prelude.{◌==◌, find, nat_lt, slice_get}
use Rattle.std.specs.List.{list_all}
use Rattle.std.specs.Option.{option_map, option_map_or}
use Rattle.std.proofs.lemmas.Bool.{eq-eqb}
use Rattle.std.proofs.lemmas.Bool.Decides.{Decides-ltb}
use Rattle.std.proofs.lemmas.Option.{same_Some}
use Rattle.orders.specs.Orders.{nodes_below}
use Rattle.orders.proofs.Members.{Contains-nil, Contains-filter}
use Rattle.test_lang.specs.declared.op.Op.{Op}
use Rattle.test_lang.specs.declared.op.MemModel.TheVariants as models
use Rattle.test_lang.specs.declared.step.Step.{Step}
use Rattle.test_lang.specs.declared.step.Step.TheVariants.{Execute, Drain, Perform}
use Rattle.test_lang.specs.declared.target.Target.{Target}
use Rattle.test_lang.specs.declared.target.Target.TheVariants.{Sc, Tso, Pso, Weak}
use Rattle.test_lang.specs.declared.target.Fault.{Fault}
use Rattle.test_lang.specs.Actions.{is_full_fence}
use Rattle.test_lang.specs.Program.{Program, op_count, all_nodes, nodes, at_action, passes, first_node, thread_length}
use Rattle.test_lang.specs.Kept.{is_kept}
use Rattle.test_lang.specs.Play.States.{State, has, is_of_thread, next_of, buffer}
use Rattle.test_lang.specs.Play.Faults.{frees_fences, spares}
use Rattle.test_lang.specs.Play.Machines.{is_nil, is_ready, may, is_enabled}
use Rattle.test_lang.specs.Play.Plays.{IsPlay, final, is_done}
use Rattle.test_lang.proofs.EdgeTests.{not-true}
use Rattle.test_lang.proofs.Threads.{thread_at_some, thread_at-stands}
use Rattle.test_lang.proofs.PlayLaws.Lasts.{not_false, both_true, has_true, true_has, all_true}
use Rattle.test_lang.proofs.PlayLaws.Words.{kept_pair}
use Rattle.test_lang.proofs.PlayLaws.Firsts.{find_first, find_none}
use Rattle.test_lang.proofs.PlayLaws.Moves.{Coherent, coherent, indexed, sc_idle}

abbrev Next : Target → Fault → Program → State → Type 0
Next target fault p st = (step : Step) × (is_enabled target fault p st step ≡ true)

-- the least node that didn't take effect
record IsLeft (p : Program) (st : State) (n : ℕ) : Type 0 where
  below : n < op_count p
  out : has st.effects n ≡ false
  before : (a : ℕ) → a < n → has st.effects a ≡ true

all_took : (p : Program) (st : State) → find (λ n. not (has st.effects n)) (nodes_below (op_count p)) ≡ None → is_done p st ≡ true
all_took p st e = all_true (has st.effects) (op_count p) (λ n lt. not_false (has st.effects n) (find_none (λ n. not (has st.effects n)) (op_count p) n e lt))

left_node : (p : Program) (st : State) → is_done p st ≡ false → (n : ℕ) × IsLeft p st n
left_node p st h = at (find (λ n. not (has st.effects n)) (nodes_below (op_count p))) refl where
  at : (found : Option ℕ) → find (λ n. not (has st.effects n)) (nodes_below (op_count p)) ≡ found → (n : ℕ) × IsLeft p st n
  at None e = let done = all_took p st e in absurd (cc (done, h))
  at (Some n) e =
      let f = find_first (λ n. not (has st.effects n)) (op_count p) n e in
      (n, record { below = f.below; out = not-true (has st.effects n) f.passed; before = λ a lt. not_false (has st.effects a) (f.none a lt) })

-- where a node of a thread wasn't executed, the thread has a next operation
next_some : (p : Program) (st : State) (thread n : ℕ) → n < op_count p → is_of_thread p thread n ≡ true → has st.executed n ≡ false → (m : ℕ) × (next_of p st thread ≡ Some m)
next_some p st thread n below t new = at (next_of p st thread) refl where
  at : (found : Option ℕ) → next_of p st thread ≡ found → (m : ℕ) × (next_of p st thread ≡ Some m)
  at None e =
      let fails = find_none (λ k. is_of_thread p thread k && not (has st.executed k)) (op_count p) n e below in
      let yes : (is_of_thread p thread n && not (has st.executed n)) ≡ true = both_true (is_of_thread p thread n) (not (has st.executed n)) t (ap not new) in absurd (cc (fails, yes))
  at (Some m) e = (m, e)

of_thread_from : (t : ℕ) (found : Option (ℕ × Op)) → option_map (λ node. node.0) found ≡ Some t → passes (λ node. node.0 == t) found ≡ true
of_thread_from t None e = absurd cc
of_thread_from t (Some node) e = eq-eqb node.0 t (same_Some node.0 t e)

of_thread : (p : Program) (n : ℕ) → n < op_count p → (thread : ℕ) × (is_of_thread p thread n ≡ true)
of_thread p n below = let t = thread_at_some p n below in (t.0, of_thread_from t.0 (slice_get (nodes p) n) t.1)

or_true : (b : Bool) → (b || true) ≡ true
or_true true = refl
or_true false = refl

-- SC

sc_next : (fault : Fault) (p : Program) (st : State) (n : ℕ) → IsLeft p st n → Coherent Sc fault p st → Next Sc fault p st
sc_next fault p st n o k = let t = of_thread p n o.below in at t.0 t.1 (has st.executed n) refl where
  at : (thread : ℕ) → is_of_thread p thread n ≡ true → (b : Bool) → has st.executed n ≡ b → Next Sc fault p st
  at thread t true e = let there = true_has st.effects n (k.direct n (has_true st.executed n e) (sc_idle fault p n)) in let out = o.out in absurd (cc (there, out))
  at thread t false e = let m = next_some p st thread n o.below t e in (Execute thread, ap (λ found. option_map_or (may Sc fault p st (Execute thread)) found false) m.1)

-- machines with buffers

-- those whose fences wait for an empty buffer, and that may always drain the oldest entry
record HasBuffers (target : Target) (fault : Fault) : Type 0 where
  executes : (p : Program) (st : State) (thread n : ℕ) → may target fault p st (Execute thread) n ≡ ((not (at_action (λ node. is_full_fence node.1) p n) || frees_fences fault) || is_nil (buffer p st thread))
  drains : (p : Program) (st : State) (thread n : ℕ) → may target fault p st (Drain thread 0) n ≡ true

tso_buffers : (fault : Fault) → HasBuffers Tso fault
tso_buffers fault = record { executes = λ p st thread n. refl; drains = λ p st thread n. refl }

pso_buffers : (fault : Fault) → HasBuffers Pso fault
pso_buffers fault = record { executes = λ p st thread n. refl; drains = λ p st thread n. refl }

not_nil : (xs : List ℕ) (x : ℕ) → Contains xs x → is_nil xs ≡ false
not_nil [] x there = absurd (Contains-nil x there)
not_nil (y ∷ ys) x there = refl

module _ (target : Target) (fault : Fault) (buffers : HasBuffers target fault) (p : Program) (st : State) where
  drain_next : (thread : ℕ) (waiting : List ℕ) → buffer p st thread ≡ waiting → is_nil waiting ≡ false → Next target fault p st
  drain_next thread [] e h = absurd cc
  drain_next thread (m ∷ more) e h =
      (Drain thread 0, ap (λ (xs : List ℕ). option_map_or (may target fault p st (Drain thread 0)) (slice_get xs 0) false) e ∙ buffers.drains p st thread m)

  execute_next : (thread m : ℕ) → next_of p st thread ≡ Some m → (b : Bool) → is_nil (buffer p st thread) ≡ b → Next target fault p st
  execute_next thread m e true h = (
    Execute thread,
    ap (λ found. option_map_or (may target fault p st (Execute thread)) found false) e ∙ buffers.executes p st thread m
        ∙ ap (λ b. (not (at_action (λ node. is_full_fence node.1) p m) || frees_fences fault) || b) h ∙ or_true (not (at_action (λ node. is_full_fence node.1) p m) || frees_fences fault),
  )
  execute_next thread m e false h = drain_next thread (buffer p st thread) refl h

  buffered_next : (n : ℕ) → IsLeft p st n → Next target fault p st
  buffered_next n o = let t = of_thread p n o.below in at t.0 t.1 (has st.executed n) refl where
    at : (thread : ℕ) → is_of_thread p thread n ≡ true → (b : Bool) → has st.executed n ≡ b → Next target fault p st
    at thread t false e = let m = next_some p st thread n o.below t e in execute_next thread m.0 m.1 (is_nil (buffer p st thread)) refl
    at thread t true e =
        let there = Contains-filter (λ x. is_of_thread p thread x && not (has st.effects x)) st.executed n (has_true st.executed n e)
        (both_true (is_of_thread p thread n) (not (has st.effects n)) t (ap not o.out)) in
        drain_next thread (buffer p st thread) refl (not_nil (buffer p st thread) n there)

-- the weak machine

ready_bit : (k s h : Bool) → (k ≡ true → h ≡ true) → (not (k && not s) || h) ≡ true
ready_bit true s h f = ap (λ b. not (true && not s) || b) (f refl) ∙ or_true (not (true && not s))
ready_bit false s h f = refl

weak_next : (fault : Fault) (p : Program) (st : State) (n : ℕ) → IsLeft p st n → Next Weak fault p st
weak_next fault p st n o =
    let t = thread_at_some p n o.below in
    let s = thread_at-stands p n t.0 t.1 in
    let from = s.from in
    let to = s.to in
    let index : first_node p t.0 + (n - first_node p t.0) ≡ n = omega (arith, from) in
    let room : nat_lt (n - first_node p t.0) (thread_length p t.0) ≡ true = (Decides-ltb (n - first_node p t.0) (thread_length p t.0)).1 (omega (arith, from, to)) in
    let ready : is_ready fault p st n ≡ true =
    both_true (not (has st.effects n)) (list_all (λ a. not (is_kept models.Weak p a n && not (spares fault p a n)) || has st.effects a) (all_nodes p)) (ap not o.out)
    (all_true (λ a. not (is_kept models.Weak p a n && not (spares fault p a n)) || has st.effects a) (op_count p)
    (λ a lt. ready_bit (is_kept models.Weak p a n) (spares fault p a n) (has st.effects a) (λ keeps. o.before a ((kept_pair models.Weak p a n keeps).earlier)))) in (
      Perform t.0 (n - first_node p t.0),
      ap (λ b. option_map_or (may Weak fault p st (Perform t.0 (n - first_node p t.0))) (indexed p t.0 (n - first_node p t.0) b) false) room ∙ ap (is_ready fault p st) index ∙ ready,
    )

pub goes_on : (target : Target) (fault : Fault) (p : Program) (steps : List Step) → IsPlay target fault p steps → is_done p (final target fault p steps) ≡ false → (step : Step) × (is_enabled target fault p (final target fault p steps) step ≡ true)
goes_on Sc fault p steps h e = let n = left_node p (final Sc fault p steps) e in sc_next fault p (final Sc fault p steps) n.0 n.1 (coherent Sc fault p steps h)
goes_on Tso fault p steps h e = let n = left_node p (final Tso fault p steps) e in buffered_next Tso fault (tso_buffers fault) p (final Tso fault p steps) n.0 n.1
goes_on Pso fault p steps h e = let n = left_node p (final Pso fault p steps) e in buffered_next Pso fault (pso_buffers fault) p (final Pso fault p steps) n.0 n.1
goes_on Weak fault p steps h e = let n = left_node p (final Weak fault p steps) e in weak_next fault p (final Weak fault p steps) n.0 n.1
