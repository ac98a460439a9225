-- The next operation of a thread whose operations are executed in order.
use Rattle.std.proofs.Common.{◌≡◌, ◌∙◌, ℕ, ◌+◌, ◌<◌, ◌≤◌, List, [], ◌∷◌, ◌++◌, Bool, true, false, not, ◌&&◌, ◌||◌, cond, Option, Some, None, arith, refl, sym, ap, ⊎_elim, length}
use Rattle.std.specs.Prelude.{◌==◌, ◌⊎◌, nat_lt, slice_get}
use Rattle.std.specs.Option.{option_map}
use Rattle.std.proofs.lemmas.Bool.{eq-eqb, eqb-true, ne_eqb, lt-ltb, le-ltb, cases_lt, cases_order}
use Rattle.std.proofs.lemmas.List.Folds.{list_any-append}
use Rattle.std.proofs.lemmas.Option.{same_Some}
use Rattle.test_lang.specs.declared.op.Op.{Op}
use Rattle.test_lang.specs.Program.{Program, nodes, op_count, thread_at, passes, first_node, thread_length}
use Rattle.test_lang.specs.Play.States.{State, has, is_of_thread, next_of}
use Rattle.test_lang.proofs.Threads.{thread_at-stands, stands-thread_at, thread_end-le}
use Rattle.test_lang.proofs.PlayLaws.Lasts.{both_true, has_true, true_has}
use Rattle.test_lang.proofs.PlayLaws.Firsts.{next_is, find_none, of_one_thread}
use Rattle.sim_core.specs.Positions.{StandsAt}

-- nodes of a thread

thread_from : (thread : ℕ) (found : Option (ℕ × Op)) → passes (λ node. node.0 == thread) found ≡ true → option_map (λ node. node.0) found ≡ Some thread
thread_from thread None e = absurd cc
thread_from thread (Some node) e = ap Some (eqb-true node.0 thread e)

pub of_thread-at : (p : Program) (thread n : ℕ) → is_of_thread p thread n ≡ true → thread_at p n ≡ Some thread
of_thread-at p thread n e = thread_from thread (slice_get (nodes p) n) e

from_thread : (thread : ℕ) (found : Option (ℕ × Op)) → option_map (λ node. node.0) found ≡ Some thread → passes (λ node. node.0 == thread) found ≡ true
from_thread thread None e = absurd cc
from_thread thread (Some node) e = eq-eqb node.0 thread (same_Some node.0 thread e)

pub at-of_thread : (p : Program) (thread n : ℕ) → thread_at p n ≡ Some thread → is_of_thread p thread n ≡ true
at-of_thread p thread n e = from_thread thread (slice_get (nodes p) n) e

-- a thread that isn't there has no operation
pub next_of-beyond : (p : Program) (st : State) (thread : ℕ) → length p.threads ≤ thread → next_of p st thread ≡ None
next_of-beyond p st thread beyond = at (next_of p st thread) refl where
  at : (found : Option ℕ) → next_of p st thread ≡ found → found ≡ None
  at None e = refl
  at (Some n) e =
      let next = next_is p st thread n e in
      let stands = thread_at-stands p n thread (of_thread-at p thread n next.thread_is) in
      let within = stands.in_range in
      absurd (omega (arith, within, beyond))

module _ (p : Program) (st : State) (thread position : ℕ) (h : StandsAt p st.executed thread position) where
  here : (n : ℕ) → first_node p thread ≤ n → n < first_node p thread + thread_length p thread → thread_at p n ≡ Some thread
  here n from to = stands-thread_at p n thread (record { in_range = h.in_range; from = from; to = to })

  -- where an operation is left, the first one left is the next
  next-is : (n : ℕ) → next_of p st thread ≡ Some n → n ≡ position
  next-is n e =
      let next = next_is p st thread n e in
      let at = of_thread-at p thread n next.thread_is in
      let stands = thread_at-stands p n thread at in
      let to = stands.to in
      let from = h.from in
      ⊎_elim (λ (same : n ≡ position). same)
      (λ (other : (n < position) ⊎ (position < n)). ⊎_elim
      (λ (before : n < position).
      let was : has st.executed n ≡ true = h.executed_are n at ∙ lt-ltb n position before in
      absurd (next.new (has_true st.executed n was)))
      (λ (behind : position < n).
      let first : thread_at p position ≡ Some thread = here position from (omega (arith, behind, to)) in
      let same = of_one_thread p thread position n (at-of_thread p thread position first) next.thread_is in
      let was = true_has st.executed position (next.before position behind same) in
      let wasnt : has st.executed position ≡ false = h.executed_are position first ∙ le-ltb position position (omega arith) in
      absurd (cc (was, wasnt)))
      other)
      (cases_order n position)

  next-left : position < first_node p thread + thread_length p thread → next_of p st thread ≡ Some position
  next-left lt = at (next_of p st thread) refl where
    at : (found : Option ℕ) → next_of p st thread ≡ found → found ≡ Some position
    at (Some n) e = ap Some (next-is n e)
    at None e =
        let first : thread_at p position ≡ Some thread = here position h.from lt in
        let within = thread_end-le p thread in
        let wasnt : has st.executed position ≡ false = h.executed_are position first ∙ le-ltb position position (omega arith) in
        let passes = both_true (is_of_thread p thread position) (not (has st.executed position)) (at-of_thread p thread position first) (ap not wasnt) in
        let fails = find_none (λ n. is_of_thread p thread n && not (has st.executed n)) (op_count p) position e (omega (arith, lt, within)) in
        absurd (cc (passes, fails))

  next-none : first_node p thread + thread_length p thread ≤ position → next_of p st thread ≡ None
  next-none le = at (next_of p st thread) refl where
    at : (found : Option ℕ) → next_of p st thread ≡ found → found ≡ None
    at None e = refl
    at (Some n) e =
        let next = next_is p st thread n e in
        let stands = thread_at-stands p n thread (of_thread-at p thread n next.thread_is) in
        let to = stands.to in
        let same = next-is n e in
        absurd (omega (arith, to, same, le))

  -- The next operation stands at the position, unless that is the end of the thread.
  pub next_of-position : next_of p st thread ≡ cond (nat_lt position (first_node p thread + thread_length p thread)) (Some position) None
  next_of-position = ⊎_elim
      (λ (lt : position < first_node p thread + thread_length p thread).
      next-left lt ∙ ap (λ (b : Bool). cond b (Some position) None) (sym (lt-ltb position (first_node p thread + thread_length p thread) lt)))
      (λ (le : first_node p thread + thread_length p thread ≤ position).
      next-none le ∙ ap (λ (b : Bool). cond b (Some position) None) (sym (le-ltb position (first_node p thread + thread_length p thread) le)))
      (cases_lt position (first_node p thread + thread_length p thread))

-- One more node was executed.

pub has-push : (executed : List ℕ) (n other : ℕ) → has (executed ++ n ∷ []) other ≡ (has executed other || (n == other))
has-push executed n other = list_any-append (λ k. k == other) executed (n ∷ []) ∙ ap (λ (b : Bool). has executed other || b) (one (n == other)) where
  one : (b : Bool) → (b || false) ≡ b
  one true = refl
  one false = refl

before_next : (n position : ℕ) → (nat_lt n position || (position == n)) ≡ nat_lt n (position + 1)
before_next n position = ⊎_elim
    (λ (same : n ≡ position).
    ap (λ (b : Bool). nat_lt n position || b) (eq-eqb position n (sym same)) ∙ or_true (nat_lt n position) ∙ sym (lt-ltb n (position + 1) (omega (arith, same))))
    (λ (other : (n < position) ⊎ (position < n)). ⊎_elim
    (λ (before : n < position). ap (λ (b : Bool). b || (position == n)) (lt-ltb n position before) ∙ sym (lt-ltb n (position + 1) (omega (arith, before))))
    (λ (behind : position < n).
    ap (λ (b : Bool). b || (position == n)) (le-ltb n position (omega (arith, behind)))
    ∙ ne_eqb position n (λ (same : position ≡ n). absurd (omega (arith, same, behind)))
    ∙ sym (le-ltb n (position + 1) (omega (arith, behind))))
    other)
    (cases_order n position)
  where
    or_true : (b : Bool) → (b || true) ≡ true
    or_true true = refl
    or_true false = refl

-- the thread that executed it stands at the next position
pub stands-next : (p : Program) (executed : List ℕ) (thread position : ℕ) → StandsAt p executed thread position → position < first_node p thread + thread_length p thread
    → StandsAt p (executed ++ position ∷ []) thread (position + 1)
stands-next p executed thread position h room =
    let from = h.from in
    record {
      in_range = h.in_range;
      from = omega (arith, from);
      to = omega (arith, room);
      executed_are = λ n at. has-push executed position n ∙ ap (λ (b : Bool). b || (position == n)) (h.executed_are n at) ∙ before_next n position;
    }

-- the others stand where they stood
pub stands-other : (p : Program) (executed : List ℕ) (thread position n : ℕ) → StandsAt p executed thread position → (thread_at p n ≡ Some thread → ⊥) → StandsAt p (executed ++ n ∷ []) thread position
stands-other p executed thread position n h other = record {
  in_range = h.in_range;
  from = h.from;
  to = h.to;
  executed_are = λ m at.
      has-push executed n m
      ∙ ap (λ (b : Bool). has executed m || b) (ne_eqb n m (λ (same : n ≡ m). other (ap (thread_at p) same ∙ at)))
      ∙ or_false (has executed m)
      ∙ h.executed_are m at;
}
  where
    or_false : (b : Bool) → (b || false) ≡ b
    or_false true = refl
    or_false false = refl

-- nothing was executed
pub stands-opening : (p : Program) (thread : ℕ) → thread < length p.threads → StandsAt p [] thread (first_node p thread)
stands-opening p thread lt = record {
  in_range = lt;
  from = omega arith;
  to = omega arith;
  executed_are = λ n at.
      let stands = thread_at-stands p n thread at in
      let from = stands.from in
      sym (le-ltb n (first_node p thread) from);
}
