-- What the loads of a play give is a run: each value is one of a store, or 0.
use Rattle.std.proofs.Common.{ℕ, ◌≤◌, ◌<◌, ◌^◌, List, [], ◌∷◌, map, filter, take, length, Bool, true, false, cond, All, arith, subst, sym, ◌-◌, ◌&&◌, not, ◌∙◌}
use Rattle.std.specs.Prelude.{Option, Some, None, ◌==◌}
use Rattle.std.specs.Option.{option_map_or}
use Rattle.std.proofs.lemmas.List.{length-map, length-take}
use Rattle.std.specs.List.{take-map}
use Rattle.std.proofs.lemmas.List.Sums.{count_by-le-length}
use Rattle.std.proofs.lemmas.List.Elements.{All-cons, All-nil}
use Rattle.test_lang.specs.declared.target.Fault.{Fault}
use Rattle.test_lang.specs.declared.target.Target.{Target}
use Rattle.test_lang.specs.declared.target.Target.TheVariants.{Sc, Tso, Pso, Weak}
use Rattle.test_lang.specs.declared.step.Step.{Step}
use Rattle.test_lang.specs.declared.step.Step.TheVariants.{Execute, Drain, Perform}
use Rattle.test_lang.specs.Program.{Program, IsWithinLimits, nodes}
use Rattle.test_lang.specs.Runs.{IsRun, base, base_store}
use Rattle.test_lang.specs.Values.{is_load_at, is_store, load_nodes, value_of, word_at}
use Rattle.test_lang.specs.Play.States.{State, last_value, history, opening, stores_to, value_given, value_now, value_before}
use Rattle.test_lang.specs.Play.Faults.{forwards_nothing, is_stale}
use Rattle.test_lang.specs.Play.Machines.{after, after_node, base_waits, buffered, executing, forwarded, memory, node_of, value}
use Rattle.test_lang.specs.Play.Plays.{after_all, final, run_of}
use Rattle.test_lang.proofs.Ranks.{length-load_nodes}

-- below 2^32, since a test has at most 2,048 operations
abbrev IsSmall : ℕ → Type 0
IsSmall v = v ≤ 2049

abbrev AreSmall : List (ℕ × ℕ) → Type 0
AreSmall [] = Unit {0}
AreSmall (entry ∷ more) = IsSmall entry.1 × AreSmall more

small_if : (b : Bool) (x y : ℕ) → IsSmall x → IsSmall y → IsSmall (cond b x y)
small_if true x y h k = h
small_if false x y h k = k

small_last : (f : ℕ → ℕ) → ((n : ℕ) → IsSmall (f n)) → (ns : List ℕ) → IsSmall (last_value (map f ns))
small_last f h [] = omega arith
small_last f h (n ∷ []) = h n
small_last f h (n ∷ next ∷ more) = small_last f h (next ∷ more)

-- all but the last of them, too
small_last-take : (f : ℕ → ℕ) → ((n : ℕ) → IsSmall (f n)) → (k : ℕ) (ns : List ℕ) → IsSmall (last_value (take k (map f ns)))
small_last-take f h k ns = subst (λ (vs : List ℕ). IsSmall (last_value vs)) (sym (take-map f k ns)) (small_last f h (take k ns))

small_given : (loads : List (ℕ × ℕ)) (load : ℕ) → AreSmall loads → IsSmall (value_given loads load)
small_given [] load h = omega arith
small_given (entry ∷ more) load h = small_if (entry.0 == load) entry.1 (value_given more load) h.0 (small_given more load h.1)

module _ (p : Program) (limits : IsWithinLimits p) where
  small_value : (n : ℕ) → IsSmall (value_of p n)
  small_value n =
      let few = count_by-le-length (λ node. is_store node.1) (take n (nodes p)) in
      let front = length-take n (nodes p) in
      let all = limits.operations in
      omega (arith, few, front, all)

  small_stored : (store : Option ℕ) → IsSmall (option_map_or (value_of p) store 0)
  small_stored None = omega arith
  small_stored (Some store) = small_value store

  small_base : (load : ℕ) → IsSmall (base p load)
  small_base load = small_stored (base_store p load)

  small_now : (effects : List ℕ) (word : ℕ) → IsSmall (value_now p effects word)
  small_now effects word = small_last (value_of p) small_value (filter (stores_to p word) effects)

  small_before : (effects : List ℕ) (word : ℕ) → IsSmall (value_before p effects word)
  small_before effects word = small_last-take (value_of p) small_value (length (history p effects word) - 1) (filter (stores_to p word) effects)

  small_memory : (fault : Fault) (st : State) (load : ℕ) → IsSmall (memory fault p st load)
  small_memory fault st load = small_if (is_stale fault load) (value_before p st.effects (word_at p load)) (value_now p st.effects (word_at p load)) (small_before st.effects (word_at p load)) (small_now st.effects (word_at p load))

  small_forwarded : (ns : List ℕ) (other : ℕ) → IsSmall other → IsSmall (forwarded p ns other)
  small_forwarded [] other h = h
  small_forwarded (n ∷ more) other h = small_last (value_of p) small_value (n ∷ more)

  small_load : (target : Target) (fault : Fault) (st : State) (load : ℕ) → IsSmall (value target fault p st load)
  small_load Sc fault st load = small_memory fault st load
  small_load Tso fault st load =
      small_if (forwards_nothing fault) (memory fault p st load) (forwarded p (buffered p st load) (memory fault p st load)) (small_memory fault st load) (small_forwarded (buffered p st load) (memory fault p st load) (small_memory fault st load))
  small_load Pso fault st load =
      small_if (forwards_nothing fault) (memory fault p st load) (forwarded p (buffered p st load) (memory fault p st load)) (small_memory fault st load) (small_forwarded (buffered p st load) (memory fault p st load) (small_memory fault st load))
  small_load Weak fault st load = small_if (base_waits p st.effects load && not (forwards_nothing fault)) (base p load) (memory fault p st load) (small_base load) (small_memory fault st load)

  module _ (target : Target) (fault : Fault) where
    loads_small : (b : Bool) (n v : ℕ) (loads : List (ℕ × ℕ)) → IsSmall v → AreSmall loads → AreSmall (cond b ((n, v) ∷ loads) loads)
    loads_small true n v loads h k = (h, k)
    loads_small false n v loads h k = k

    executing_small : (st : State) (n : ℕ) → AreSmall st.loads → AreSmall (executing target fault p st n).loads
    executing_small st n h = loads_small (is_load_at p n) n (value target fault p st n) st.loads (small_load target fault st n) h

    node_small : (st : State) (step : Step) (node : Option ℕ) → AreSmall st.loads → AreSmall (after_node target fault p st step node).loads
    node_small st step None h = h
    node_small st (Execute thread) (Some n) h = executing_small st n h
    node_small st (Drain thread place) (Some n) h = h
    node_small st (Perform thread index) (Some n) h = executing_small st n h

    all_small : (st : State) (steps : List Step) → AreSmall st.loads → AreSmall (after_all target fault p st steps).loads
    all_small st [] h = h
    all_small st (step ∷ more) h = all_small (after target fault p st step) more (node_small st step (node_of p st step) h)

    given_small : (loads : List (ℕ × ℕ)) (ns : List ℕ) → AreSmall loads → All (λ value. value < 2 ^ 32) (map (value_given loads) ns)
    given_small loads [] h = All-nil (λ value. value < 2 ^ 32)
    given_small loads (n ∷ ns) h =
        let small = small_given loads n h in
        All-cons (λ value. value < 2 ^ 32) (value_given loads n) (map (value_given loads) ns) (omega (arith, small)) (given_small loads ns h)

    pub play_gives_run : (steps : List Step) → IsRun p (run_of target fault p steps)
    play_gives_run steps =
        let st = final target fault p steps in
        record {
          whole = length-map (load_nodes p) (value_given st.loads) ∙ length-load_nodes p;
          values = given_small st.loads (load_nodes p) (all_small opening steps tt);
        }
