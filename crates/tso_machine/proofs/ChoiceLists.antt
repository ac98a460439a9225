-- The choices of each thread, and of all.
use Rattle.std.proofs.Common.{◌≡◌, ◌∙◌, ℕ, zero, suc, ◌+◌, ◌<◌, List, [], ◌∷◌, ◌++◌, Bool, true, false, not, ◌||◌, cond, map, take, length, sum, refl, sym, ap, arith, Option, Some, append-nil}
use Rattle.std.specs.Prelude.{filter, slice_get}
use Rattle.std.specs.List.{flat_map}
use Rattle.std.specs.Option.{option_map_or}
use Rattle.std.proofs.lemmas.List.Concat.{length-flat_map}
use Rattle.std.proofs.lemmas.List.Elements.{filter-append}
use Rattle.std.proofs.lemmas.List.Sums.{sum-map, sum_by-cons}
use Rattle.std.proofs.lemmas.Option.{same_Some}
use Rattle.orders.specs.Orders.{nodes_below}
use Rattle.test_lang.specs.declared.step.Step.{Step}
use Rattle.test_lang.specs.declared.step.Step.TheVariants.{Execute, Drain, Perform}
use Rattle.test_lang.specs.declared.target.Target.{Target}
use Rattle.test_lang.specs.declared.target.Fault.{Fault}
use Rattle.test_lang.specs.Actions.{is_full_fence}
use Rattle.test_lang.specs.Program.{Program, at_action, thread_length}
use Rattle.test_lang.specs.Play.States.{State, next_of, buffer}
use Rattle.test_lang.specs.Play.Faults.{frees_fences}
use Rattle.test_lang.specs.Play.Machines.{is_enabled, is_nil}
use Rattle.test_lang.specs.Play.Choices.{steps_of, choices}
use Rattle.test_lang.proofs.Places.{slice_get_left}
use Rattle.tso_machine.specs.declared.playing.StoreOrder.{StoreOrder}
use Rattle.tso_machine.specs.declared.playing.StoreOrder.TheVariants.{Total, Partial}
use Rattle.tso_machine.specs.Moments.{target_of}
use Rattle.tso_machine.proofs.Drains.{drains, drains_are}
use Rattle.sim_core.proofs.BelowLists.{filter-flat_map, filter-map, filter-none, slice_get-append_right}
use Rattle.tso_machine.proofs.Turns.{ExecutesInOrder, performs_none}

pub in_order : (order : StoreOrder) → ExecutesInOrder (target_of order)
in_order Total = tt
in_order Partial = tt

-- whether a thread's next operation can be executed, by it and by the buffer alone
abbrev pub may_execute : Fault → Program → List ℕ → Option ℕ → Bool
may_execute fault p entries found = option_map_or (λ n. (not (at_action (λ node. is_full_fence node.1) p n) || frees_fences fault) || is_nil entries) found false

pub execute_by : (order : StoreOrder) (fault : Fault) (p : Program) (st : State) (t : ℕ) → is_enabled (target_of order) fault p st (Execute t) ≡ may_execute fault p (buffer p st t) (next_of p st t)
execute_by Total fault p st t = refl
execute_by Partial fault p st t = refl

-- a thread's choices, by them alone
abbrev pub chosen_by : StoreOrder → Fault → Program → ℕ → List ℕ → Option ℕ → List Step
chosen_by order fault p t entries found = cond (may_execute fault p entries found) (Execute t ∷ []) [] ++ map (Drain t) (drains order fault p entries)

in_front : {X : Type 0} (b : Bool) (x : X) (xs : List X) → cond b (x ∷ xs) xs ≡ cond b (x ∷ []) [] ++ xs
in_front true x xs = refl
in_front false x xs = refl

pub chosen_are : (order : StoreOrder) (fault : Fault) (p : Program) (st : State) (t : ℕ) → filter (is_enabled (target_of order) fault p st) (steps_of p st t) ≡ chosen_by order fault p t (buffer p st t) (next_of p st t)
chosen_are order fault p st t =
    let E : Step → Bool = is_enabled (target_of order) fault p st in
    let places : List ℕ = nodes_below (length (buffer p st t)) in
    let indices : List ℕ = nodes_below (thread_length p t) in
    let drained : filter E (map (Drain t) places) ≡ map (Drain t) (drains order fault p (buffer p st t)) = filter-map E (Drain t) places ∙ ap (map (Drain t)) (drains_are order fault p st t) in
    let performed : filter E (map (Perform t) indices) ≡ [] =
    filter-map E (Perform t) indices ∙ ap (map (Perform t)) (filter-none (λ k. E (Perform t k)) indices (λ k. performs_none (target_of order) fault p st t k (in_order order))) in
    in_front (E (Execute t)) (Execute t) (filter E (map (Drain t) places ++ map (Perform t) indices))
    ∙ ap (λ (steps : List Step). cond (E (Execute t)) (Execute t ∷ []) [] ++ steps)
    (filter-append E (map (Drain t) places) (map (Perform t) indices)
    ∙ ap (λ (steps : List Step). filter E (map (Drain t) places) ++ steps) performed
    ∙ append-nil (filter E (map (Drain t) places))
    ∙ drained)
    ∙ ap (λ b. cond b (Execute t ∷ []) [] ++ map (Drain t) (drains order fault p (buffer p st t))) (execute_by order fault p st t)

-- two states with the same next operation and the same buffer of a thread have the same choices of it
pub same_chosen : (order : StoreOrder) (fault : Fault) (p : Program) (a b : State) (t : ℕ) → next_of p a t ≡ next_of p b t → buffer p a t ≡ buffer p b t
    → filter (is_enabled (target_of order) fault p a) (steps_of p a t) ≡ filter (is_enabled (target_of order) fault p b) (steps_of p b t)
same_chosen order fault p a b t next entries =
    chosen_are order fault p a t
    ∙ ap (chosen_by order fault p t (buffer p a t)) next
    ∙ ap (λ (xs : List ℕ). chosen_by order fault p t xs (next_of p b t)) entries
    ∙ sym (chosen_are order fault p b t)

-- all choices are those of the threads

abbrev pub chosen : Target → Fault → Program → State → ℕ → List Step
chosen target fault p st t = filter (is_enabled target fault p st) (steps_of p st t)

pub choices_are : (target : Target) (fault : Fault) (p : Program) (st : State) → choices target fault p st ≡ flat_map (chosen target fault p st) (nodes_below (length p.threads))
choices_are target fault p st = filter-flat_map (is_enabled target fault p st) (steps_of p st) (nodes_below (length p.threads))

pub length-choices : (target : Target) (fault : Fault) (p : Program) (st : State) → length (choices target fault p st) ≡ sum (map (λ t. length (chosen target fault p st t)) (nodes_below (length p.threads)))
length-choices target fault p st =
    ap length (choices_are target fault p st)
    ∙ length-flat_map (chosen target fault p st) (nodes_below (length p.threads))
    ∙ sym (sum-map (λ t. length (chosen target fault p st t)) (nodes_below (length p.threads)))

-- the choice of a number is one of the thread whose choices it meets

pub flat_map_at : {X Y : Type 0} (f : X → List Y) (xs : List X) (i j : ℕ) (x : X) → slice_get xs i ≡ Some x → j < length (f x)
    → slice_get (flat_map f xs) (sum (take i (map (λ y. length (f y)) xs)) + j) ≡ slice_get (f x) j
flat_map_at f [] i j x e lt = absurd cc
flat_map_at f (y ∷ xs) zero j x e lt =
    let same : y ≡ x = same_Some y x e in
    let shift : 0 + j ≡ j = omega arith in
    ap (slice_get (f y ++ flat_map f xs)) shift ∙ ap (λ z. slice_get (f z ++ flat_map f xs) j) same ∙ slice_get_left (f x) (flat_map f xs) j lt
flat_map_at f (y ∷ xs) (suc i) j x e lt =
    let rest : List ℕ = take i (map (λ z. length (f z)) xs) in
    let total = sum_by-cons (λ (n : ℕ). n) (length (f y)) rest in
    let shift : sum (length (f y) ∷ rest) + j ≡ length (f y) + (sum rest + j) = omega (arith, total) in
    ap (slice_get (f y ++ flat_map f xs)) shift ∙ slice_get-append_right (f y) (flat_map f xs) (sum rest + j) ∙ flat_map_at f xs i j x e lt
