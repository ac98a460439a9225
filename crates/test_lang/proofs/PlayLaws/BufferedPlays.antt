-- Plays without a fault on the machines with buffers, TSO and PSO.
use Rattle.std.proofs.Common.{◌≡◌, ◌∙◌, ℕ, List, [], ◌∷◌, ◌++◌, Bool, true, false, not, ◌&&◌, ◌||◌, cond, take, Contains, refl, sym, ap, subst, Option, None, Some}
use Rattle.std.specs.Prelude.{◌==◌, slice_get}
use Rattle.std.specs.List.{list_any}
use Rattle.std.specs.Option.{option_map, option_map_or}
use Rattle.std.proofs.lemmas.Bool.{eqb-true}
use Rattle.orders.proofs.Members.{Contains-nil, Contains-filter}
use Rattle.test_lang.specs.declared.op.FenceKind.TheVariants.{Full, Store as StoreFence, Load as LoadFence}
use Rattle.test_lang.specs.declared.op.Action.{Action}
use Rattle.test_lang.specs.declared.op.Action.TheVariants.{Load, Store, Fence}
use Rattle.test_lang.specs.declared.step.Step.{Step}
use Rattle.test_lang.specs.declared.step.Step.TheVariants.{Execute, Drain, Perform}
use Rattle.test_lang.specs.declared.op.MemModel.TheVariants as models
use Rattle.test_lang.specs.declared.target.Target.{Target}
use Rattle.test_lang.specs.declared.target.Target.TheVariants.{Tso, Pso}
use Rattle.test_lang.specs.declared.target.Fault.TheVariants as faults
use Rattle.test_lang.specs.Actions.{op_of, is_full_fence, is_store_fence, is_store_like, is_load_like}
use Rattle.test_lang.specs.Program.{Program, actions, at_action, passes}
use Rattle.test_lang.specs.Values.{is_load, is_store, is_load_at, word_at}
use Rattle.test_lang.specs.Kept.{keeps, IsKept, are_stores_apart, is_store_load}
use Rattle.test_lang.specs.Play.States.{State, opening, has, is_of_thread, next_of, buffer, value_now}
use Rattle.test_lang.specs.Play.Machines.{model_of, is_nil, holds_back, holds_back_at, may, is_enabled, buffered, forwarded, value, waits_at, after_node, after}
use Rattle.test_lang.specs.Play.Plays.{IsPlay, final}
use Rattle.test_lang.proofs.ActionNodes.{node_of, node-action}
use Rattle.test_lang.proofs.EdgeTests.{not-true}
use Rattle.test_lang.proofs.PlayLaws.Lasts.{both, both_true, any_false, has_true, has_false}
use Rattle.test_lang.proofs.PlayLaws.Words.{models_one_word, kept_pair, kept_actions}
use Rattle.test_lang.proofs.PlayLaws.Firsts.{IsNextOf, next_is, in_thread}
use Rattle.test_lang.proofs.PlayLaws.Moves.{Coherent, all_along, coherent_opening, in_buffer, slice_get-Contains}
use Rattle.test_lang.proofs.PlayLaws.Sound.{HasKept, loads_with}
use Rattle.test_lang.proofs.PlayLaws.Buffers.{BufferKeeps, buffer_opening, execute_entry, execute_other, is_entry, drain_entry}

-- actions: an entry is a store or a store fence

abbrev enters : Action → Bool
enters action = is_store (op_of action) || (is_store_fence action && true)

enters_like : (a : Action) → enters a ≡ true → is_store_like a ≡ true
enters_like (Load w) h = absurd cc
enters_like (Store w) h = refl
enters_like (Fence Full) h = absurd cc
enters_like (Fence StoreFence) h = refl
enters_like (Fence LoadFence) h = absurd cc

enters_no_load : (a : Action) → enters a ≡ true → is_load (op_of a) ≡ false
enters_no_load (Load w) h = absurd cc
enters_no_load (Store w) h = refl
enters_no_load (Fence kind) h = refl

-- what is no entry and no full fence is load-like
other_kind : (a : Action) → enters a ≡ false → is_full_fence a ≡ false → is_load_like a ≡ true
other_kind (Load w) h k = refl
other_kind (Store w) h k = absurd cc
other_kind (Fence Full) h k = absurd cc
other_kind (Fence StoreFence) h k = absurd cc
other_kind (Fence LoadFence) h k = refl

clash_bits : (x y : Bool) → not (x && y) ≡ true → x ≡ true → y ≡ true → ⊥
clash_bits true true h s l = absurd cc
clash_bits true false h s l = absurd cc
clash_bits false y h s l = absurd cc

same_bits : (e : Bool) → (true && not (true && not e)) ≡ true → e ≡ true
same_bits true h = refl
same_bits false h = absurd cc

-- under pso an entry that is kept before another holds it back
held : (a b : Action) → keeps models.Pso a b ≡ true → enters a ≡ true → enters b ≡ true → holds_back a b ≡ true
held (Load x) b h s t = absurd cc
held (Store x) (Load y) h s t = absurd cc
held (Store x) (Store y) h s t = same_bits (x == y) h
held (Store x) (Fence Full) h s t = absurd cc
held (Store x) (Fence StoreFence) h s t = refl
held (Store x) (Fence LoadFence) h s t = absurd cc
held (Fence Full) b h s t = absurd cc
held (Fence StoreFence) b h s t = refl
held (Fence LoadFence) b h s t = absurd cc

held_from : (a b : Option (ℕ × Action)) → option_map_or (λ first. option_map_or (λ second. (first.0 == second.0) && keeps models.Pso first.1 second.1) b false) a false ≡ true →
    option_map_or (λ node. enters node.1) a false ≡ true → option_map_or (λ node. enters node.1) b false ≡ true → option_map_or (λ first. option_map_or (λ second. holds_back first.1 second.1) b false) a false ≡ true
held_from None b h s t = absurd cc
held_from (Some a) None h s t = absurd cc
held_from (Some a) (Some b) h s t = held a.1 b.1 (both (a.0 == b.0) (keeps models.Pso a.1 b.1) h).1 s t

-- What the two machines share. An entry, and no other operation, waits in the buffer; a full fence waits until it is empty.
record IsBuffered (target : Target) : Type 0 where
  entries : (p : Program) (n : ℕ) → waits_at target faults.None p n ≡ at_action (λ node. enters node.1) p n
  gives : (p : Program) (st : State) (n : ℕ) → value target faults.None p st n ≡ forwarded p (buffered p st n) (value_now p st.effects (word_at p n))
  executes : (p : Program) (st : State) (thread n : ℕ) → may target faults.None p st (Execute thread) n ≡ ((not (at_action (λ node. is_full_fence node.1) p n) || false) || is_nil (buffer p st thread))
  performs : (p : Program) (st : State) (thread index n : ℕ) → may target faults.None p st (Perform thread index) n ≡ false
  -- no entry is kept before what is load-like
  apart : (a b : Action) → keeps (model_of target) a b ≡ true → is_store_like a ≡ true → is_load_like b ≡ true → ⊥
  -- what is drained has no entry before it that is kept before it
  drains : (p : Program) (st : State) (thread place a n : ℕ) → may target faults.None p st (Drain thread place) n ≡ true → IsKept (model_of target) p a n → at_action (λ node. enters node.1) p a ≡ true
      → at_action (λ node. enters node.1) p n ≡ true → Contains (take place (buffer p st thread)) a → ⊥

or_false : (b : Bool) → (b || false) ≡ true → b ≡ true
or_false true h = refl
or_false false h = absurd cc

tso_drains : (p : Program) (st : State) (thread place a : ℕ) → ((place == 0) || false) ≡ true → Contains (take place (buffer p st thread)) a → ⊥
tso_drains p st thread place a h there = Contains-nil a (subst (λ (k : ℕ). Contains (take k (buffer p st thread)) a) (eqb-true place 0 (or_false (place == 0) h)) there)

tso_buffered : IsBuffered Tso
tso_buffered = record {
  entries = λ p n. refl;
  gives = λ p st n. refl;
  executes = λ p st thread n. refl;
  performs = λ p st thread index n. refl;
  apart = λ a b h s l. clash_bits (is_store_like a) (is_load_like b) h s l;
  drains = λ p st thread place a n h keeps entry own there. tso_drains p st thread place a h there;
}

pso_drains : (p : Program) (st : State) (thread place a n : ℕ) → (not (list_any (λ a. holds_back_at p a n) (take place (buffer p st thread))) || false) ≡ true → IsKept models.Pso p a n → at_action (λ node. enters node.1) p a ≡ true
    → at_action (λ node. enters node.1) p n ≡ true → Contains (take place (buffer p st thread)) a → ⊥
pso_drains p st thread place a n h keeps entry own there =
    let front : List ℕ = take place (buffer p st thread) in
    let holds : holds_back_at p a n ≡ true = held_from (slice_get (actions p) a) (slice_get (actions p) n) (kept_actions models.Pso p a n keeps) entry own in
    let free : holds_back_at p a n ≡ false = any_false (λ x. holds_back_at p x n) front (not-true (list_any (λ x. holds_back_at p x n) front) (or_false (not (list_any (λ x. holds_back_at p x n) front)) h)) a there in
    absurd cc

pso_buffered : IsBuffered Pso
pso_buffered = record {
  entries = λ p n. refl;
  gives = λ p st n. refl;
  executes = λ p st thread n. refl;
  performs = λ p st thread index n. refl;
  apart = λ a b h s l. clash_bits (is_store_like a) (is_load_like b) (both (not (is_store_load a b)) (not (are_stores_apart a b)) h).0 s l;
  drains = λ p st thread place a n h keeps entry own there. pso_drains p st thread place a n h keeps entry own there;
}

-- nodes

no_load_from : (found : Option (ℕ × Action)) → option_map_or (λ node. enters node.1) found false ≡ true → passes (λ node. is_load node.1) (option_map node_of found) ≡ false
no_load_from None h = refl
no_load_from (Some node) h = enters_no_load node.1 h

no_load : (p : Program) (n : ℕ) → at_action (λ node. enters node.1) p n ≡ true → is_load_at p n ≡ false
no_load p n h = ap (passes (λ node. is_load node.1)) (node-action p n) ∙ no_load_from (slice_get (actions p) n) h

nil_is : (xs : List ℕ) → is_nil xs ≡ true → xs ≡ []
nil_is [] h = refl
nil_is (x ∷ xs) h = absurd cc

fence_waits : (f nil : Bool) → ((not f || false) || nil) ≡ true → f ≡ true → nil ≡ true
fence_waits true nil h e = h
fence_waits false nil h e = absurd cc

fence_from : (target : Target) → IsBuffered target → (a b : Option (ℕ × Action)) → option_map_or (λ first. option_map_or (λ second. (first.0 == second.0) && keeps (model_of target) first.1 second.1) b false) a false ≡ true →
    option_map_or (λ node. enters node.1) a false ≡ true → option_map_or (λ node. enters node.1) b false ≡ false → option_map_or (λ node. is_full_fence node.1) b false ≡ true
fence_from target m None b h s t = absurd cc
fence_from target m (Some a) None h s t = absurd cc
fence_from target m (Some a) (Some b) h s t = at (is_full_fence b.1) refl where
  at : (f : Bool) → is_full_fence b.1 ≡ f → f ≡ true
  at true e = refl
  at false e = absurd (m.apart a.1 b.1 (both (a.0 == b.0) (keeps (model_of target) a.1 b.1) h).1 (enters_like a.1 s) (other_kind b.1 t e))

-- What holds at each moment.
abbrev pub Keeps : Target → Program → State → Type 0
Keeps target p st = BufferKeeps p (IsKept (model_of target) p) st.executed st.effects st.loads

module _ (target : Target) (m : IsBuffered target) (p : Program) (st : State) (c : Coherent target faults.None p st) (k : Keeps target p st) where
  -- what is no entry waits for what is kept before it
  before : (thread n : ℕ) → IsNextOf p st thread n → waits_at target faults.None p n ≡ false → may target faults.None p st (Execute thread) n ≡ true → HasKept (IsKept (model_of target) p) st.effects n
  before thread n next idle enabled a keeps =
      let pair = kept_pair (model_of target) p a n keeps in
      at (next.before a pair.earlier pair.thread) (in_thread p thread a n next.thread_is pair.thread) (has st.effects a) refl where
        at : Contains st.executed a → is_of_thread p thread a ≡ true → (h : Bool) → has st.effects a ≡ h → Contains st.effects a
        at there t true f = has_true st.effects a f
        at there t false f =
            let entry = is_entry p (IsKept (model_of target) p) (waits_at target faults.None p) (models_one_word (model_of target) p) st c k a there (has_false st.effects a f) in
            let fence = fence_from target m (slice_get (actions p) a) (slice_get (actions p) n) (kept_actions (model_of target) p a n keeps) (sym (m.entries p a) ∙ entry) (sym (m.entries p n) ∙ idle) in
            let empty = nil_is (buffer p st thread) (fence_waits (at_action (λ node. is_full_fence node.1) p n) (is_nil (buffer p st thread)) (sym (m.executes p st thread n) ∙ enabled) fence) in
            absurd (Contains-nil a (subst (λ (xs : List ℕ). Contains xs a) empty
            (Contains-filter (λ x. is_of_thread p thread x && not (has st.effects x)) st.executed a there (both_true (is_of_thread p thread a) (not (has st.effects a)) t (ap not f)))))

  executed_one : (thread n : ℕ) → IsNextOf p st thread n → may target faults.None p st (Execute thread) n ≡ true → (b : Bool) → waits_at target faults.None p n ≡ b →
      BufferKeeps p (IsKept (model_of target) p) (st.executed ++ n ∷ []) (cond b st.effects (st.effects ++ n ∷ [])) (loads_with p n (value target faults.None p st n) st.loads)
  executed_one thread n next enabled true e =
      subst (λ b. BufferKeeps p (IsKept (model_of target) p) (st.executed ++ n ∷ []) st.effects (cond b ((n, value target faults.None p st n) ∷ st.loads) st.loads)) (sym (no_load p n (sym (m.entries p n) ∙ e)))
      (execute_entry p (IsKept (model_of target) p) (waits_at target faults.None p) (models_one_word (model_of target) p) st c k thread n next)
  executed_one thread n next enabled false e =
      subst (λ (v : ℕ). BufferKeeps p (IsKept (model_of target) p) (st.executed ++ n ∷ []) (st.effects ++ n ∷ []) (loads_with p n v st.loads)) (sym (m.gives p st n))
      (execute_other p (IsKept (model_of target) p) (waits_at target faults.None p) (models_one_word (model_of target) p) st c k thread n next (before thread n next e enabled))

  executed : (thread : ℕ) (found : Option ℕ) → next_of p st thread ≡ found → option_map_or (may target faults.None p st (Execute thread)) found false ≡ true → Keeps target p (after_node target faults.None p st (Execute thread) found)
  executed thread None e h = absurd cc
  executed thread (Some n) e h = executed_one thread n (next_is p st thread n e) h (waits_at target faults.None p n) refl

  drained : (thread place : ℕ) (found : Option ℕ) → slice_get (buffer p st thread) place ≡ found → option_map_or (may target faults.None p st (Drain thread place)) found false ≡ true →
      Keeps target p (after_node target faults.None p st (Drain thread place) found)
  drained thread place None e h = absurd cc
  drained thread place (Some n) e h =
      let entry = in_buffer p st thread n (slice_get-Contains (buffer p st thread) place n e) in
      let own = sym (m.entries p n) ∙ is_entry p (IsKept (model_of target) p) (waits_at target faults.None p) (models_one_word (model_of target) p) st c k n entry.executed entry.out in
      drain_entry p (IsKept (model_of target) p) (waits_at target faults.None p) (models_one_word (model_of target) p) st c k thread place n e (no_load p n own) (kept_pair (model_of target) p)
      (λ a keeps waiting there. m.drains p st thread place a n h keeps (sym (m.entries p a) ∙ waiting) own there)

  unlike : (thread index : ℕ) (found : Option ℕ) → option_map_or (may target faults.None p st (Perform thread index)) found false ≡ true → ⊥
  unlike thread index None h = absurd cc
  unlike thread index (Some n) h = let no_step = m.performs p st thread index n in absurd (cc (no_step, h))

  step_keeps : (step : Step) → is_enabled target faults.None p st step ≡ true → Keeps target p (after target faults.None p st step)
  step_keeps (Execute thread) h = executed thread (next_of p st thread) refl h
  step_keeps (Drain thread place) h = drained thread place (slice_get (buffer p st thread) place) refl h
  step_keeps (Perform thread index) h = absurd (unlike thread index _ h)

buffered_plays : (target : Target) → IsBuffered target → (p : Program) (steps : List Step) → IsPlay target faults.None p steps → Keeps target p (final target faults.None p steps)
buffered_plays target m p steps h =
    all_along target faults.None p (Keeps target p) (λ st step c k enabled. step_keeps target m p st c k step enabled) opening steps h (coherent_opening target faults.None p) (buffer_opening p (IsKept (model_of target) p))

pub tso_plays : (p : Program) (steps : List Step) → IsPlay Tso faults.None p steps → Keeps Tso p (final Tso faults.None p steps)
tso_plays p steps h = buffered_plays Tso tso_buffered p steps h

pub pso_plays : (p : Program) (steps : List Step) → IsPlay Pso faults.None p steps → Keeps Pso p (final Pso faults.None p steps)
pso_plays p steps h = buffered_plays Pso pso_buffered p steps h
