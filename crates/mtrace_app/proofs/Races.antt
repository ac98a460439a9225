-- The runs of a race: that there are some, and how they are added one by one.
use Rattle.std.proofs.Common.{◌≡◌, ℕ, suc, ◌+◌, List, [], ◌∷◌, ◌++◌, refl, sym, arith, length-append}
use Rattle.std.specs.Prelude.{Some, slice_get}
use Rattle.std.specs.List.{AllByRecursion}
use Rattle.test_lang.specs.Program.{Program}
use Rattle.test_lang.specs.declared.target.Target.TheVariants.{Sc}
use Rattle.test_lang.specs.declared.target.Fault.TheVariants.{None}
use Rattle.sim_core.specs.Drawn.{AreDrawnRuns}
use Rattle.sim_core.specs.Setup.{Setup}
use Rattle.sim_core.proofs.DrawnPlays.{some_drawn_runs}
use Rattle.shared_words.specs.Interleavings.{IsInterleaved}
use Rattle.mtrace_app.specs.Inputs.{AreRaces}

-- what each read of a list gives is each of its elements
pub all_by_reads : {X : Type 0} (P : X → Type 0) (xs : List X) → ((k : ℕ) (x : X) → slice_get xs k ≡ Some x → P x) → AllByRecursion P xs
all_by_reads P [] each = tt
all_by_reads P (x ∷ xs) each = (each 0 x refl, all_by_reads P xs (λ k. each (suc k)))

pub all_push : {X : Type 0} (P : X → Type 0) (xs : List X) (x : X) → AllByRecursion P xs → P x → AllByRecursion P (xs ++ x ∷ [])
all_push P [] x each here = (here, tt)
all_push P (first ∷ xs) x each here = (each.0, all_push P xs x each.1 here)

pub all_more : {X : Type 0} (P Q : X → Type 0) (xs : List X) → ((x : X) → P x → Q x) → AllByRecursion P xs → AllByRecursion Q xs
all_more P Q [] more each = tt
all_more P Q (x ∷ xs) more each = (more x each.0, all_more P Q xs more each.1)

module _ (p : Program) where
  setup : Setup
  setup = record { target = Sc; fault = None; test = p }

  -- what the sequential machine draws is that of an interleaving
  drawn_is_race : (seed count : ℕ) (runs : List (List ℕ)) → AreDrawnRuns setup seed count runs → AreRaces p count runs
  unfolding setup
  drawn_is_race seed count runs drawn = record {
    number = drawn.number;
    each = all_by_reads (IsInterleaved p) runs (λ k run e.
        let play = drawn.each k run e in
        record { steps = play.steps; is_done_play = play.is_drawn_play.is_done_play; gives = sym play.gives });
  }

  pub some_races : (count : ℕ) → (runs : List (List ℕ)) × AreRaces p count runs
  some_races count =
      let drawn = some_drawn_runs setup 0 count in
      (drawn.0, drawn_is_race 0 count drawn.0 drawn.1)

  pub no_races : AreRaces p 0 []
  no_races = record { number = refl; each = tt }

  pub races_push : (count : ℕ) (runs : List (List ℕ)) (run : List ℕ) → AreRaces p count runs → IsInterleaved p run → AreRaces p (count + 1) (runs ++ run ∷ [])
  races_push count runs run h is = record {
    number = omega (arith, h.number, length-append runs (run ∷ []));
    each = all_push (IsInterleaved p) runs run h.each is;
  }
