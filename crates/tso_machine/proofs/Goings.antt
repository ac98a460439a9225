-- What each step makes of a machine's fields.
use Rattle.std.proofs.Common.{◌≡◌, ◌∙◌, ℕ, ◌+◌, ◌<◌, ◌≤◌, List, [], ◌∷◌, ◌++◌, true, false, length, get_or, set, refl, sym, subst}
use Rattle.std.proofs.lemmas.List.{length-set}
use Rattle.test_lang.specs.declared.op.Op.{Op}
use Rattle.test_lang.specs.declared.op.Action.TheVariants.{Load, Store}
use Rattle.test_lang.specs.declared.step.Step.{Step}
use Rattle.test_lang.specs.declared.step.Step.TheVariants.{Execute, Drain}
use Rattle.test_lang.specs.declared.target.Fault.{Fault}
use Rattle.std.specs.Prelude.{Some}
use Rattle.sim_core.specs.Setup.{state_after}
use Rattle.test_lang.specs.Program.{Program, action_at, first_node, op_at}
use Rattle.test_lang.specs.Values.{is_fence_at, is_store, rank_of, value_of}
use Rattle.test_lang.specs.Play.Machines.{value, waits_at}
use Rattle.tso_machine.specs.declared.playing.StoreOrder.{StoreOrder}
use Rattle.tso_machine.specs.Moments.{Moment, StandsBehind, moment_of, target_of}
use Rattle.tso_machine.specs.Moves.{IsEnabled, IsNext, IsPlaying, Takes}
use Rattle.tso_machine.specs.Queues.{Queues, with_entry, without_entry}
use Rattle.tso_machine.proofs.Steps.{entry_taken, fence_drained, fence_taken, load_taken, moves_on, pushes_on, store_drained}

-- A step is taken, and the fields hold what they did.
pub record Goes (old new : Moment) (queues : Queues) (step : Step) : Type 0 where
  pub taken : Takes old new step
  pub playing : IsPlaying new queues

module _ (order : StoreOrder) (fault : Fault) (p : Program) (positions : List ℕ) (queues : Queues) (values values_before loads : List ℕ)
    (k : IsPlaying (moment_of order fault p positions queues values values_before loads) queues) where
  abbrev here : Moment
  here = moment_of order fault p positions queues values values_before loads

  -- the step is taken with the same queues
  goes_same : (positions : List ℕ) (values values_before loads : List ℕ) (step : Step) → Takes here (moment_of order fault p positions queues values values_before loads) step
      → ((u : ℕ) → u < length p.threads → first_node p u + get_or queues.pushed u 0 ≤ get_or positions u 0)
      → Goes here (moment_of order fault p positions queues values values_before loads) queues step
  goes_same positions values values_before loads step taken pushed = record {
    taken = taken;
    playing = record { steps = k.steps ++ step ∷ []; stands = taken.stands k.steps k.stands; rooms = k.rooms; long = k.long; pushed = pushed };
  }

  module _ (t n : ℕ) (lt : t < length p.threads) (next : IsNext here t n) (enabled : IsEnabled here (Execute t)) where
    pub goes_load : (word v rank : ℕ) → action_at p n ≡ Some (Load word) → ((steps : List Step) → StandsBehind here steps → v ≡ value (target_of order) fault p (state_after here.setup steps) n) → rank ≡ rank_of p n
        → Goes here (moment_of order fault p (set positions t (n + 1)) queues values values_before (set loads rank v)) queues (Execute t)
    goes_load word v rank is gives at =
        goes_same (set positions t (n + 1)) values values_before (set loads rank v) (Execute t)
        (subst (λ (r : ℕ). Takes here (moment_of order fault p (set positions t (n + 1)) queues values values_before (set loads r v)) (Execute t)) (sym at)
        (load_taken here order refl t n lt next enabled word v is gives))
        (moves_on here order refl queues k t n lt next)

    pub goes_fence : is_fence_at p n ≡ true → waits_at (target_of order) fault p n ≡ false
        → Goes here (moment_of order fault p (set positions t (n + 1)) queues values values_before loads) queues (Execute t)
    goes_fence fence idle = goes_same (set positions t (n + 1)) values values_before loads (Execute t) (fence_taken here order refl t n lt next enabled fence idle) (moves_on here order refl queues k t n lt next)

    pub goes_entry : (more : Queues) → more ≡ with_entry queues t n → waits_at (target_of order) fault p n ≡ true
        → Goes here (moment_of order fault p (set positions t (n + 1)) more values values_before loads) more (Execute t)
    goes_entry more is waits =
        subst (λ (q : Queues). Goes here (moment_of order fault p (set positions t (n + 1)) q values values_before loads) q (Execute t)) (sym is)
        (let taken : Takes here (moment_of order fault p (set positions t (n + 1)) (with_entry queues t n) values values_before loads) (Execute t) = entry_taken here order refl t n lt next enabled waits in
        record {
          taken = taken;
          playing = record {
            steps = k.steps ++ Execute t ∷ [];
            stands = taken.stands k.steps k.stands;
            rooms = k.rooms;
            long = length-set queues.pushed t (get_or queues.pushed t 0 + 1) ∙ k.long;
            pushed = pushes_on here order refl queues k t n lt next;
          };
        })

  module _ (t place n : ℕ) (lt : t < length p.threads) (within : place < length (get_or queues.entries t [])) (entry : get_or (get_or queues.entries t []) place 0 ≡ n) (enabled : IsEnabled here (Drain t place))
      (more : Queues) (is_less : more ≡ without_entry queues t place) where
    -- the step is taken with the shorter queue
    goes_less : (values values_before : List ℕ) → Takes here (moment_of order fault p positions (without_entry queues t place) values values_before loads) (Drain t place)
        → Goes here (moment_of order fault p positions more values values_before loads) more (Drain t place)
    goes_less values values_before taken =
        subst (λ (q : Queues). Goes here (moment_of order fault p positions q values values_before loads) q (Drain t place)) (sym is_less)
        (record { taken = taken; playing = record { steps = k.steps ++ Drain t place ∷ []; stands = taken.stands k.steps k.stands; rooms = k.rooms; long = k.long; pushed = k.pushed } })

    pub goes_store : (word v old : ℕ) → action_at p n ≡ Some (Store word) → word < p.words → v ≡ value_of p n → old ≡ get_or values word 0
        → Goes here (moment_of order fault p positions more (set values word v) (set values_before word old) loads) more (Drain t place)
    goes_store word v old is inside gives was =
        subst (λ (x : ℕ). Goes here (moment_of order fault p positions more (set values word x) (set values_before word old) loads) more (Drain t place)) (sym gives)
        (subst (λ (x : ℕ). Goes here (moment_of order fault p positions more (set values word (value_of p n)) (set values_before word x) loads) more (Drain t place)) (sym was)
        (goes_less (set values word (value_of p n)) (set values_before word (get_or values word 0)) (store_drained here order refl t place n lt within entry enabled word is inside)))

    pub goes_out : (op : Op) → op_at p n ≡ Some op → is_store op ≡ false → Goes here (moment_of order fault p positions more values values_before loads) more (Drain t place)
    goes_out op is keeps = goes_less values values_before (fence_drained here order refl t place n lt within entry enabled op is keeps)
