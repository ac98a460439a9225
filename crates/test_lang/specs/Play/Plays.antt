-- Plays: lists of steps, each enabled after those before it.
use Rattle.std.specs.Prelude.{◌≡◌, ℕ, ◌+◌, List, [], ◌∷◌, count_by, Bool, not, ◌&&◌, IsTrue}
use Rattle.std.specs.List.{list_all}
use Rattle.test_lang.specs.declared.target.Target.{Target}
use Rattle.test_lang.specs.declared.target.Fault.{Fault}
use Rattle.test_lang.specs.declared.step.Step.{Step}
use Rattle.test_lang.specs.Program.{Program, all_nodes}
use Rattle.test_lang.specs.Play.States.{State, opening, has, loads_of}
use Rattle.test_lang.specs.Play.Machines.{is_enabled, after, waits_at}

-- the state after a list of steps
abbrev pub after_all : Target → Fault → Program → State → List Step → State
after_all target fault p st [] = st
after_all target fault p st (step ∷ more) = after_all target fault p (after target fault p st step) more

-- each step is enabled after those before it
abbrev pub AreEnabled : Target → Fault → Program → State → List Step → Type 0
AreEnabled target fault p st [] = Unit {0}
AreEnabled target fault p st (step ∷ more) = IsTrue (is_enabled target fault p st step) × AreEnabled target fault p (after target fault p st step) more

-- A play, from the opening state.
abbrev pub IsPlay : Target → Fault → Program → List Step → Type 0
IsPlay target fault p steps = AreEnabled target fault p opening steps

-- what it leads to
abbrev pub final : Target → Fault → Program → List Step → State
final target fault p steps = after_all target fault p opening steps

-- each node took effect: no operation is left, and none that is buffered
abbrev pub is_done : Program → State → Bool
is_done p st = list_all (has st.effects) (all_nodes p)

pub record IsDonePlay (target : Target) (fault : Fault) (p : Program) (steps : List Step) : Type 0 where
  pub is_play : IsPlay target fault p steps
  pub done : IsTrue (is_done p (final target fault p steps))

-- The run of a done play, and the order in which its nodes took effect.

abbrev pub run_of : Target → Fault → Program → List Step → List ℕ
run_of target fault p steps = loads_of p (final target fault p steps)

abbrev pub effects_of : Target → Fault → Program → List Step → List ℕ
effects_of target fault p steps = (final target fault p steps).effects

-- How many steps are left: one for each node to be executed, and one for each that waits, or will wait, in a buffer.
abbrev pub steps_left : Target → Fault → Program → State → ℕ
steps_left target fault p st =
    count_by (λ n. not (has st.executed n)) (all_nodes p) + count_by (λ n. waits_at target fault p n && not (has st.effects n)) (all_nodes p)

-- The play is done, and these are its run and the order in which its nodes took effect.
pub record LeadsTo (target : Target) (fault : Fault) (p : Program) (steps : List Step) (run effects : List ℕ) : Type 0 where
  pub is_done_play : IsDonePlay target fault p steps
  pub gives : run_of target fault p steps ≡ run
  pub in_order : effects_of target fault p steps ≡ effects
