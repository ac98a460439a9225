-- The choices are counted.
use Rattle.std.proofs.Common.{◌≡◌, ◌∙◌, ℕ, suc, ◌+◌, ◌-◌, ◌*◌, ◌<◌, ◌≤◌, List, [], ◌∷◌, ◌++◌, Bool, true, false, Contains, take, length, get_or, set, sum, refl, sym, ap, subst, arith, Some}
use Rattle.std.specs.Prelude.{◌==◌, filter, slice_get}
use Rattle.std.proofs.lemmas.Bool.{ne_eqb}
use Rattle.std.proofs.lemmas.List.Elements.{All-set}
use Rattle.std.proofs.lemmas.List.Sums.{get_or-le-sum_by, sum_by-le, sum_by-set}
use Rattle.std.proofs.lemmas.Option.{slice_get_within}
use Rattle.orders.specs.Orders.{nodes_below}
use Rattle.orders.proofs.Below.{length-below}
use Rattle.orders.proofs.Members.{Contains-head, Contains-nil}
use Rattle.test_lang.specs.declared.step.Step.{Step}
use Rattle.test_lang.specs.declared.target.Target.{Target}
use Rattle.test_lang.specs.declared.target.Fault.{Fault}
use Rattle.test_lang.specs.Program.{Program}
use Rattle.test_lang.specs.Play.States.{State}
use Rattle.test_lang.specs.Play.Machines.{after, is_enabled}
use Rattle.test_lang.specs.Play.Choices.{choices, steps_of}
use Rattle.test_lang.specs.Play.Plays.{IsPlay, final, is_done}
use Rattle.test_lang.proofs.PlayLaws.ChoiceLists as laws
use Rattle.test_lang.proofs.PlayLaws.GoingOn.{goes_on}
use Rattle.test_lang.proofs.PlayLaws.Moves.{coherent}
use Rattle.test_lang.proofs.PlayLaws.StepsLeft.{ends, falls}
use Rattle.sim_core.specs.Setup.{Setup, choices_after, is_done_after, state_after}
use Rattle.tso_machine.specs.declared.playing.StoreOrder.{StoreOrder}
use Rattle.tso_machine.specs.Moments.{Moment, StandsBehind, target_of}
use Rattle.tso_machine.specs.Moves.{IsCounted, IsEnabled, Takes, choice_counts, thread_choices, thread_of}
use Rattle.tso_machine.proofs.Bounds.{effects_within, same_choices, turn}
use Rattle.tso_machine.proofs.ChoiceLists.{choices_are, flat_map_at, length-choices}
use Rattle.tso_machine.proofs.Elsewhere.{choices_left}
use Rattle.sim_core.proofs.BelowLists.{get_or-map_below, length-map_below, map-changed}
use Rattle.tso_machine.proofs.ListChanges.{at_below, below_at, map_same_at}
use Rattle.sim_core.proofs.PlaysOn.{final-push}
use Rattle.tso_machine.proofs.Shown.{order_of}

-- a play is done where it has no choice

none_left : (target : Target) (fault : Fault) (p : Program) (steps : List Step) (found : List Step) → IsPlay target fault p steps → choices target fault p (final target fault p steps) ≡ found
    → is_done p (final target fault p steps) ≡ true → (length found == 0) ≡ true
none_left target fault p steps [] h e done = refl
none_left target fault p steps (step ∷ more) h e done =
    let k = coherent target fault p steps h in
    let listed : Contains (choices target fault p (final target fault p steps)) step = subst (λ (xs : List Step). Contains xs step) (sym e) (Contains-head step more step refl) in
    let less = falls target fault p (final target fault p steps) step k (laws.chosen_back target fault p (final target fault p steps) step listed) in
    let none = (ends target fault p (final target fault p steps) k).0 done in
    absurd (omega (arith, less, none))

some_left : (target : Target) (fault : Fault) (p : Program) (steps : List Step) (found : List Step) → IsPlay target fault p steps → choices target fault p (final target fault p steps) ≡ found
    → is_done p (final target fault p steps) ≡ false → (length found == 0) ≡ false
some_left target fault p steps [] h e more =
    let step = goes_on target fault p steps h more in
    absurd (Contains-nil step.0 (subst (λ (xs : List Step). Contains xs step.0) e (laws.chosen target fault p (final target fault p steps) step.0 step.1)))
some_left target fault p steps (step ∷ rest) h e more = ne_eqb (suc (length rest)) 0 (λ is. omega (arith, is))

pub done_is : (target : Target) (fault : Fault) (p : Program) (steps : List Step) → IsPlay target fault p steps → (length (choices target fault p (final target fault p steps)) == 0) ≡ is_done p (final target fault p steps)
done_is target fault p steps h = at (is_done p (final target fault p steps)) refl where
  at : (b : Bool) → is_done p (final target fault p steps) ≡ b → (length (choices target fault p (final target fault p steps)) == 0) ≡ is_done p (final target fault p steps)
  at true e = none_left target fault p steps (choices target fault p (final target fault p steps)) h refl e ∙ sym e
  at false e = some_left target fault p steps (choices target fault p (final target fault p steps)) h refl e ∙ sym e

-- the counts are those behind all steps

pub counts_same : (m : Moment) (a b : List Step) → StandsBehind m a → StandsBehind m b → choice_counts m.setup a ≡ choice_counts m.setup b
counts_same m a b s r =
    let o = order_of m.setup.target s.has_buffers in
    map_same_at (λ t. length (thread_choices m.setup a t)) (λ t. length (thread_choices m.setup b t)) (nodes_below (length m.setup.test.threads))
    (λ j t e.
    let lt = slice_get_within (nodes_below (length m.setup.test.threads)) j t e in
    let long = length-below (length m.setup.test.threads) in
    let same = at_below (length m.setup.test.threads) j t e in
    ap length (same_choices m o.0 o.1 a b s r t (omega (arith, lt, long, same))))

module _ (m : Moment) (kept : List ℕ) (all : ℕ) (k : IsCounted m kept all) where
  pub counts_behind : (steps : List Step) → StandsBehind m steps → kept ≡ choice_counts m.setup steps
  counts_behind steps s = k.counts ∙ counts_same m k.steps steps k.stands s

  pub long_counts : length kept ≡ length m.setup.test.threads
  long_counts = ap length k.counts ∙ length-map_below (λ t. length (thread_choices m.setup k.steps t)) (length m.setup.test.threads)

  pub all_counted : (steps : List Step) → StandsBehind m steps → all ≡ length (choices_after m.setup steps)
  all_counted steps s = k.total ∙ ap sum (counts_behind steps s) ∙ sym (length-choices m.setup.target m.setup.fault m.setup.test (state_after m.setup steps))

  pub done_counted : (steps : List Step) → StandsBehind m steps → (all == 0) ≡ is_done_after m.setup steps
  done_counted steps s = ap (λ (n : ℕ). n == 0) (all_counted steps s) ∙ done_is m.setup.target m.setup.fault m.setup.test steps s.is_play

  pub count_at : (steps : List Step) → StandsBehind m steps → (t : ℕ) → t < length m.setup.test.threads → get_or kept t 0 ≡ length (thread_choices m.setup steps t)
  count_at steps s t lt =
      ap (λ (xs : List ℕ). get_or xs t 0) (counts_behind steps s) ∙ get_or-map_below (λ t. length (thread_choices m.setup steps t)) (length m.setup.test.threads) t 0 lt

  -- the choice of a number is one of the thread whose choices it meets
  pub choice_at : (steps : List Step) → StandsBehind m steps → (t left number : ℕ) (step : Step) → t < length m.setup.test.threads → left + sum (take t kept) ≡ number → left < get_or kept t 0
      → slice_get (thread_choices m.setup steps t) left ≡ Some step → slice_get (choices_after m.setup steps) number ≡ Some step
  choice_at steps s t left number step lt at few found =
      let counted = counts_behind steps s in
      let own = count_at steps s t lt in
      let before : number ≡ sum (take t (choice_counts m.setup steps)) + left = let same = ap (λ (xs : List ℕ). sum (take t xs)) counted in omega (arith, at, same) in
      ap (slice_get (choices_after m.setup steps)) before
      ∙ ap (λ (xs : List Step). slice_get xs (sum (take t (choice_counts m.setup steps)) + left)) (choices_are m.setup.target m.setup.fault m.setup.test (state_after m.setup steps))
      ∙ flat_map_at (thread_choices m.setup steps) (nodes_below (length m.setup.test.threads)) t left t (below_at (length m.setup.test.threads) t lt) (omega (arith, few, own))
      ∙ found

  pub count_le : (t : ℕ) → t < length m.setup.test.threads → get_or kept t 0 ≤ all
  count_le t lt =
      let long = long_counts in
      let le = get_or-le-sum_by (λ (n : ℕ). n) kept t 0 (omega (arith, lt, long)) in
      let total = k.total in
      omega (arith, le, total)

  pub all_few : all ≤ 16 * 2049
  all_few =
      let long = long_counts in
      let threads = k.stands.limits.threads in
      let le = sum_by-le (λ (n : ℕ). n) 2049 kept k.few in
      let total = k.total in
      let most = times (length kept) 16 2049 (omega (arith, long, threads)) in
      omega (arith, le, total, most) where
        times : (a b c : ℕ) → a ≤ b → a * c ≤ b * c
        times a b c le = grind arith

  -- after a step of one thread its choices alone are counted anew
  pub counted_after : (next : Moment) (step : Step) → IsEnabled m step → Takes m next step → (t count old : ℕ) → t ≡ thread_of step → t < length m.setup.test.threads
      → ((steps : List Step) → StandsBehind next steps → count ≡ length (thread_choices next.setup steps t)) → count ≤ 2049 → old ≡ get_or kept t 0 → IsCounted next (set kept t count) (all - old + count)
  counted_after next step enabled taken t count old own lt counts few was =
      let steps : List Step = k.steps ++ step ∷ [] in
      let stands = taken.stands k.steps k.stands in
      let o = order_of m.setup.target k.stands.has_buffers in
      let long = long_counts in
      record {
        steps = steps;
        stands = stands;
        counts =
            ap (λ (xs : List ℕ). set xs t count) k.counts
            ∙ ap (set (choice_counts m.setup k.steps) t) (counts steps stands ∙ ap (λ (setup : Setup). length (thread_choices setup steps t)) taken.same_setup)
            ∙ sym (map-changed (λ u. length (thread_choices m.setup k.steps u)) (λ u. length (thread_choices m.setup steps u)) (length m.setup.test.threads) t lt
            (λ u below apart. ap length (elsewhere o.0 o.1 u (λ is. apart (is ∙ sym own)))))
            ∙ sym (ap (λ (setup : Setup). choice_counts setup steps) taken.same_setup);
        total =
            let changed = sum_by-set (λ (n : ℕ). n) kept t count 0 (omega (arith, lt, long)) in
            let le = count_le t lt in
            let total = k.total in
            omega (arith, changed, le, total, was);
        few = All-set (λ (n : ℕ). n ≤ 2049) kept t count few k.few;
      } where
        elsewhere : (order : StoreOrder) → m.setup.target ≡ target_of order → (u : ℕ) → (u ≡ thread_of step → ⊥) → thread_choices m.setup (k.steps ++ step ∷ []) u ≡ thread_choices m.setup k.steps u
        elsewhere order e u apart =
            let st : State = state_after m.setup k.steps in
            ap (λ (other : State). filter (is_enabled m.setup.target m.setup.fault m.setup.test other) (steps_of m.setup.test other u)) (final-push m.setup.target m.setup.fault m.setup.test k.steps step)
            ∙ subst (λ (target : Target). is_enabled target m.setup.fault m.setup.test st step ≡ true
            → filter (is_enabled target m.setup.fault m.setup.test (after target m.setup.fault m.setup.test st step)) (steps_of m.setup.test (after target m.setup.fault m.setup.test st step) u)
            ≡ filter (is_enabled target m.setup.fault m.setup.test st) (steps_of m.setup.test st u)) (sym e)
            (λ h. choices_left order m.setup.fault m.setup.test st (turn m order e k.steps k.stands) (effects_within m order e k.steps k.stands) step u h apart) (enabled k.steps k.stands)
