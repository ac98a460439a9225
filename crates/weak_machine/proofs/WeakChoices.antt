-- The choices of the weak machine are its ready nodes.
use Rattle.std.proofs.Common.{◌≡◌, ◌∙◌, ℕ, zero, suc, ◌+◌, ◌-◌, ◌<◌, ◌≤◌, List, [], ◌∷◌, ◌++◌, Bool, true, false, cond, map, length, Option, Some, refl, sym, ap, arith}
use Rattle.std.specs.Prelude.{filter}
use Rattle.std.specs.List.{flat_map}
use Rattle.std.specs.Option.{option_map_or}
use Rattle.std.proofs.lemmas.List.{append-nil, map-append}
use Rattle.std.proofs.lemmas.Simd.{map-map}
use Rattle.std.proofs.lemmas.List.Concat.{flat_map-cons}
use Rattle.std.proofs.lemmas.List.Elements.{filter-append}
use Rattle.std.proofs.lemmas.Grind.{flat_map-append}
use Rattle.orders.specs.Orders.{nodes_below}
use Rattle.test_lang.specs.declared.step.Step.{Step}
use Rattle.test_lang.specs.declared.step.Step.TheVariants.{Execute, Drain, Perform}
use Rattle.test_lang.specs.declared.target.Target.TheVariants.{Weak}
use Rattle.test_lang.specs.declared.target.Fault.{Fault}
use Rattle.test_lang.specs.Program.{Program, all_nodes, first_node, thread_length, thread_at}
use Rattle.test_lang.specs.Play.States.{State, buffer}
use Rattle.test_lang.specs.Play.Machines.{is_ready, is_enabled}
use Rattle.test_lang.specs.Play.Choices.{steps_of, choices}
use Rattle.test_lang.proofs.Threads.{StandsIn, first_node-suc, first_node_all, stands-thread_at}
use Rattle.sim_core.proofs.BelowLists.{filter-map, filter-none}
use Rattle.weak_machine.proofs.Filters.{below-add}
use Rattle.weak_machine.proofs.WeakPlays.{never-executes, never-drains, perform-enabled}

-- the step that performs a node
abbrev pub step_at : Program → ℕ → Step
step_at p n = option_map_or (λ thread. Perform thread (n - first_node p thread)) (thread_at p n) (Perform 0 n)

pub step_at-is : (p : Program) (n thread : ℕ) → thread_at p n ≡ Some thread → step_at p n ≡ Perform thread (n - first_node p thread)
step_at-is p n thread e = ap (λ (found : Option ℕ). option_map_or (λ t. Perform t (n - first_node p t)) found (Perform 0 n)) e

none-kept : {X : Type 0} (test : Step → Bool) (f : X → Step) (xs : List X) → ((x : X) → test (f x) ≡ false) → filter test (map f xs) ≡ []
none-kept test f xs none = filter-map test f xs ∙ ap (map f) (filter-none (λ x. test (f x)) xs none)

map-filter-same : (f g : ℕ → Step) (test other : ℕ → Bool) (n : ℕ) → ((k : ℕ) → k < n → f k ≡ g k) → ((k : ℕ) → k < n → test k ≡ other k) → map f (filter test (nodes_below n)) ≡ map g (filter other (nodes_below n))
map-filter-same f g test other zero same agree = refl
map-filter-same f g test other (suc n) same agree =
    ap (map f) (filter-append test (nodes_below n) (n ∷ []))
    ∙ map-append f (filter test (nodes_below n)) (filter test (n ∷ []))
    ∙ ap (λ (steps : List Step). steps ++ map f (filter test (n ∷ []))) (map-filter-same f g test other n (λ k lt. same k (omega (arith, lt))) (λ k lt. agree k (omega (arith, lt))))
    ∙ ap (λ (steps : List Step). map g (filter other (nodes_below n)) ++ steps) (one (test n) (other n) (agree n (omega arith)))
    ∙ sym (ap (map g) (filter-append other (nodes_below n) (n ∷ [])) ∙ map-append g (filter other (nodes_below n)) (filter other (n ∷ []))) where
      one : (x y : Bool) → x ≡ y → map f (cond x (n ∷ []) []) ≡ map g (cond y (n ∷ []) [])
      one true true e = ap (λ (step : Step). step ∷ []) (same n (omega arith))
      one true false e = absurd cc
      one false true e = absurd cc
      one false false e = refl

module _ (fault : Fault) (p : Program) (st : State) where
  -- of one thread
  thread-choices : (thread : ℕ) → thread < length p.threads → filter (is_enabled Weak fault p st) (steps_of p st thread) ≡ map (step_at p) (filter (is_ready fault p st) (map (λ i. first_node p thread + i) (nodes_below (thread_length p thread))))
  thread-choices thread in_range =
      let drains : List Step = map (Drain thread) (nodes_below (length (buffer p st thread))) in
      let performs : List Step = map (Perform thread) (nodes_below (thread_length p thread)) in
      ap (λ b. cond b (Execute thread ∷ filter (is_enabled Weak fault p st) (drains ++ performs)) (filter (is_enabled Weak fault p st) (drains ++ performs))) (never-executes fault p st thread)
      ∙ filter-append (is_enabled Weak fault p st) drains performs
      ∙ ap (λ (steps : List Step). steps ++ filter (is_enabled Weak fault p st) performs) (none-kept (is_enabled Weak fault p st) (Drain thread) (nodes_below (length (buffer p st thread))) (λ place. never-drains fault p st thread place))
      ∙ filter-map (is_enabled Weak fault p st) (Perform thread) (nodes_below (thread_length p thread))
      ∙ map-filter-same (Perform thread) (λ i. step_at p (first_node p thread + i)) (λ i. is_enabled Weak fault p st (Perform thread i)) (λ i. is_ready fault p st (first_node p thread + i)) (thread_length p thread)
      (λ i lt. sym (step_at-is p (first_node p thread + i) thread (stands-thread_at p (first_node p thread + i) thread (inside i lt)) ∙ ap (Perform thread) (index_is i)))
      (λ i lt. perform-enabled fault p st thread i lt)
      ∙ sym (ap (map (step_at p)) (filter-map (is_ready fault p st) (λ i. first_node p thread + i) (nodes_below (thread_length p thread)))
      ∙ map-map (step_at p) (λ i. first_node p thread + i) (filter (λ i. is_ready fault p st (first_node p thread + i)) (nodes_below (thread_length p thread)))) where
        index_is : (i : ℕ) → first_node p thread + i - first_node p thread ≡ i
        index_is i = omega arith

        inside : (i : ℕ) → i < thread_length p thread → StandsIn p thread (first_node p thread + i)
        inside i lt = record { in_range = in_range; from = omega arith; to = omega (arith, lt) }

  choices-below : (n : ℕ) → n ≤ length p.threads → filter (is_enabled Weak fault p st) (flat_map (steps_of p st) (nodes_below n)) ≡ map (step_at p) (filter (is_ready fault p st) (nodes_below (first_node p n)))
  choices-below zero le = refl
  choices-below (suc n) le =
      let behind : List ℕ = map (λ i. first_node p n + i) (nodes_below (thread_length p n)) in
      ap (filter (is_enabled Weak fault p st)) (flat_map-append (steps_of p st) (nodes_below n) (n ∷ []))
      ∙ filter-append (is_enabled Weak fault p st) (flat_map (steps_of p st) (nodes_below n)) (flat_map (steps_of p st) (n ∷ []))
      ∙ ap (λ (steps : List Step). steps ++ filter (is_enabled Weak fault p st) (flat_map (steps_of p st) (n ∷ []))) (choices-below n (omega (arith, le)))
      ∙ ap (λ (steps : List Step). map (step_at p) (filter (is_ready fault p st) (nodes_below (first_node p n))) ++ steps)
      (ap (filter (is_enabled Weak fault p st)) (single n) ∙ thread-choices n (omega (arith, le)))
      ∙ sym (map-append (step_at p) (filter (is_ready fault p st) (nodes_below (first_node p n))) (filter (is_ready fault p st) behind))
      ∙ ap (map (step_at p)) (sym (filter-append (is_ready fault p st) (nodes_below (first_node p n)) behind))
      ∙ ap (λ (xs : List ℕ). map (step_at p) (filter (is_ready fault p st) xs)) (sym (ap nodes_below (first_node-suc p n) ∙ below-add (first_node p n) (thread_length p n))) where
        single : (thread : ℕ) → flat_map (steps_of p st) (thread ∷ []) ≡ steps_of p st thread
        single thread = flat_map-cons (steps_of p st) thread [] ∙ append-nil (steps_of p st thread)

  pub choices-are : choices Weak fault p st ≡ map (step_at p) (filter (is_ready fault p st) (all_nodes p))
  choices-are = choices-below (length p.threads) (omega arith) ∙ ap (λ (n : ℕ). map (step_at p) (filter (is_ready fault p st) (nodes_below n))) (first_node_all p (length p.threads) (omega arith))
