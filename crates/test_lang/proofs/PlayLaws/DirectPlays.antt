-- Plays without a fault on the machines without buffers, SC and the weak one.
use Rattle.std.proofs.Common.{◌≡◌, ℕ, ◌<◌, ◌+◌, List, [], ◌∷◌, ◌++◌, Bool, true, false, not, ◌&&◌, ◌||◌, cond, Contains, arith, refl, sym, subst, Option, None, Some}
use Rattle.std.specs.Prelude.{nat_lt}
use Rattle.std.specs.List.{list_all}
use Rattle.std.specs.Option.{option_map_or}
use Rattle.test_lang.specs.declared.op.MemModel.{MemModel}
use Rattle.test_lang.specs.declared.op.MemModel.TheVariants as models
use Rattle.test_lang.specs.declared.step.Step.{Step}
use Rattle.test_lang.specs.declared.step.Step.TheVariants.{Execute, Drain, Perform}
use Rattle.test_lang.specs.declared.target.Target.TheVariants.{Sc, Weak}
use Rattle.test_lang.specs.declared.target.Fault.TheVariants as faults
use Rattle.test_lang.specs.Program.{Program, op_count, all_nodes, first_node, thread_length}
use Rattle.test_lang.specs.Values.{same_thread, word_at}
use Rattle.test_lang.specs.Kept.{is_kept, IsKept}
use Rattle.test_lang.specs.Runs.{base}
use Rattle.test_lang.specs.Play.States.{State, opening, has, next_of, value_now}
use Rattle.test_lang.specs.Play.Faults.{spares}
use Rattle.test_lang.specs.Play.Machines.{may, is_enabled, value, base_waits, after_node, after}
use Rattle.test_lang.specs.Play.Plays.{IsPlay, final}
use Rattle.test_lang.proofs.PlayLaws.Lasts.{both, has_true, all_at}
use Rattle.test_lang.proofs.PlayLaws.Words.{same_thread-back, kept_pair}
use Rattle.test_lang.proofs.PlayLaws.Giving.{base_own, given_memory}
use Rattle.test_lang.proofs.PlayLaws.Firsts.{next_is}
use Rattle.test_lang.proofs.PlayLaws.Moves.{Coherent, all_along, coherent_opening, indexed, indexed-below, ready_open, sc_idle, weak_idle}
use Rattle.test_lang.proofs.PlayLaws.Sound.{IsSound, loads_with, sound_opening, sound_effect}

-- what took effect is sound under the model
abbrev pub Sound : MemModel → Program → State → Type 0
Sound m p st = IsSound (IsKept m p) p st.effects st.loads

-- SC

sc_execute : (p : Program) (st : State) → Coherent Sc faults.None p st → Sound models.Sc p st → (thread : ℕ) (found : Option ℕ) → next_of p st thread ≡ found
    → option_map_or (may Sc faults.None p st (Execute thread)) found false ≡ true → Sound models.Sc p (after_node Sc faults.None p st (Execute thread) found)
sc_execute p st k s thread None e h = absurd cc
sc_execute p st k s thread (Some n) e h =
    let next = next_is p st thread n e in
    let before : (a : ℕ) → a < n → same_thread p a n ≡ true → Contains st.effects a = λ a lt same. k.direct a (next.before a lt same) (sc_idle faults.None p a) in
    subst (λ b. IsSound (IsKept models.Sc p) p (cond b st.effects (st.effects ++ n ∷ [])) (loads_with p n (value Sc faults.None p st n) st.loads)) (sym (sc_idle faults.None p n))
    (sound_effect (IsKept models.Sc p) p st.effects st.loads n (value Sc faults.None p st n) s next.below (λ there. next.new (k.within n there))
    (λ a keeps. let pair = kept_pair models.Sc p a n keeps in before a pair.earlier pair.thread)
    (λ load. given_memory p st.effects n (λ w is. let o = base_own p n w is in before w o.earlier (same_thread-back p n w o.thread))))

sc_step : (p : Program) (st : State) (step : Step) → Coherent Sc faults.None p st → Sound models.Sc p st → is_enabled Sc faults.None p st step ≡ true → Sound models.Sc p (after Sc faults.None p st step)
sc_step p st (Execute thread) k s h = sc_execute p st k s thread (next_of p st thread) refl h
sc_step p st (Drain thread place) k s h = absurd (unlike _ h) where
  unlike : (found : Option ℕ) → option_map_or (may Sc faults.None p st (Drain thread place)) found false ≡ true → ⊥
  unlike None e = absurd cc
  unlike (Some n) e = absurd cc
sc_step p st (Perform thread index) k s h = absurd (unlike _ h) where
  unlike : (found : Option ℕ) → option_map_or (may Sc faults.None p st (Perform thread index)) found false ≡ true → ⊥
  unlike None e = absurd cc
  unlike (Some n) e = absurd cc

pub sc_plays : (p : Program) (steps : List Step) → IsPlay Sc faults.None p steps → Sound models.Sc p (final Sc faults.None p steps)
sc_plays p steps h = all_along Sc faults.None p (Sound models.Sc p) (sc_step p) opening steps h (coherent_opening Sc faults.None p) (sound_opening (IsKept models.Sc p) p)

-- the weak machine

waited : (k h : Bool) → (not (k && not false) || h) ≡ true → k ≡ true → h ≡ true
waited true h e t = e
waited false h e t = absurd cc

chosen : (b : Bool) (x y : ℕ) → cond (b && true) x y ≡ cond b x y
chosen true x y = refl
chosen false x y = refl

weak_perform : (p : Program) (st : State) → Coherent Weak faults.None p st → Sound models.Weak p st → (thread index : ℕ) (b : Bool) → nat_lt index (thread_length p thread) ≡ b →
    option_map_or (may Weak faults.None p st (Perform thread index)) (indexed p thread index b) false ≡ true → Sound models.Weak p (after_node Weak faults.None p st (Perform thread index) (indexed p thread index b))
weak_perform p st k s thread index false e h = absurd cc
weak_perform p st k s thread index true e h =
    let n = first_node p thread + index in
    let parts = both (not (has st.effects n)) (list_all (λ a. not (is_kept models.Weak p a n && not (spares faults.None p a n)) || has st.effects a) (all_nodes p)) h in
    let below : n < op_count p = indexed-below p thread index e in
    subst (λ b. IsSound (IsKept models.Weak p) p (cond b st.effects (st.effects ++ n ∷ [])) (loads_with p n (value Weak faults.None p st n) st.loads)) (sym (weak_idle faults.None p n))
    (sound_effect (IsKept models.Weak p) p st.effects st.loads n (value Weak faults.None p st n) s below (ready_open faults.None p st n h)
    (λ a keeps.
    let pair = (kept_pair models.Weak p a n keeps).earlier in
    has_true st.effects a (waited (is_kept models.Weak p a n) (has st.effects a)
    (all_at (λ a. not (is_kept models.Weak p a n && not (spares faults.None p a n)) || has st.effects a) (op_count p) parts.1 a (omega (arith, pair, below))) keeps))
    (λ load. chosen (base_waits p st.effects n) (base p n) (value_now p st.effects (word_at p n))))

weak_step : (p : Program) (st : State) (step : Step) → Coherent Weak faults.None p st → Sound models.Weak p st → is_enabled Weak faults.None p st step ≡ true → Sound models.Weak p (after Weak faults.None p st step)
weak_step p st (Execute thread) k s h = absurd (unlike _ h) where
  unlike : (found : Option ℕ) → option_map_or (may Weak faults.None p st (Execute thread)) found false ≡ true → ⊥
  unlike None e = absurd cc
  unlike (Some n) e = absurd cc
weak_step p st (Drain thread place) k s h = absurd (unlike _ h) where
  unlike : (found : Option ℕ) → option_map_or (may Weak faults.None p st (Drain thread place)) found false ≡ true → ⊥
  unlike None e = absurd cc
  unlike (Some n) e = absurd cc
weak_step p st (Perform thread index) k s h = weak_perform p st k s thread index (nat_lt index (thread_length p thread)) refl h

pub weak_plays : (p : Program) (steps : List Step) → IsPlay Weak faults.None p steps → Sound models.Weak p (final Weak faults.None p steps)
weak_plays p steps h = all_along Weak faults.None p (Sound models.Weak p) (weak_step p) opening steps h (coherent_opening Weak faults.None p) (sound_opening (IsKept models.Weak p) p)
