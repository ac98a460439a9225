-- What the walk of one run more leaves.
use Rattle.std.proofs.Common.{◌≡◌, ℕ, List, true, false, refl, sym, subst, ◌∙◌}
use Rattle.std.specs.Prelude.{◌↔◌, IsTrue, Option, Some, None}
use Rattle.std.proofs.lemmas.Bool.{false≢true}
use Rattle.test_lang.specs.declared.op.MemModel.{MemModel}
use Rattle.test_lang.specs.Edges.{HasNoRunOrder, IsRunOrder}
use Rattle.test_lang.specs.Program.{Program}
use Rattle.window_resort.specs.declared.verdicts.Verdict.{Verdict}
use Rattle.window_resort.specs.declared.verdicts.Verdict.TheVariants.{Sorted, Kept, Resorted, Cycle}
use Rattle.window_resort.specs.Walks.{Base, TakesRun, is_cycle}
use Rattle.window_resort.specs.Walks.TakesRun.{kept, resorted, sorted, unresorted, unsorted}
use Rattle.window_resort.proofs.RunWindows.{kept_order, none_of_run, order_of_run}

-- the order of a base is one of its run
abbrev pub IsOrdered : MemModel → Program → Option Base → Type 0
IsOrdered m p found = (base : Base) → found ≡ Some base → IsRunOrder m p base.run base.order

pub some_base : {X : Type 0} (x y : X) → Some x ≡ Some y → x ≡ y
some_base x y e = cc

is_ordered : (m : MemModel) (p : Program) (run order : List ℕ) (after : Option Base) → after ≡ Some (record { run = run; order = order }) → IsRunOrder m p run order → IsOrdered m p after
is_ordered m p run order after e o base is =
    let same : record { run = run; order = order } ≡ base = some_base (record { run = run; order = order }) base (sym e ∙ is) in
    subst (λ (b : Base). IsRunOrder m p b.run b.order) same o

module _ (m : MemModel) (p : Program) (base : Option Base) (run : List ℕ) (verdict : Verdict) (after : Option Base) (ordered : IsOrdered m p base) where
  pub stays_ordered : TakesRun m p base run verdict after → IsOrdered m p after
  stays_ordered (sorted order none l v a) = is_ordered m p run order after a l.is_order
  stays_ordered (unsorted none lacks v a) = λ b is. absurd cc
  stays_ordered (kept old b w v a) = is_ordered m p run old.order after a (kept_order m p old.run run old.order (ordered old b) w)
  stays_ordered (resorted old w nodes b span l v a) = is_ordered m p run _ after a (order_of_run m p old.run run old.order (ordered old b) w span nodes l.is_order)
  stays_ordered (unresorted old w b span lacks v a) = subst (IsOrdered m p) (sym a) ordered

  no_cycle : (other : Verdict) → verdict ≡ other → is_cycle other ≡ false → (order : List ℕ) → IsRunOrder m p run order → IsTrue (is_cycle verdict) ↔ HasNoRunOrder m p run
  no_cycle other v isnt order o = (
    λ t. absurd (false≢true (sym isnt ∙ subst (λ (x : Verdict). IsTrue (is_cycle x)) v t)),
    λ none. absurd (none order o),
  )

  cycle : (other : Verdict) → verdict ≡ other → is_cycle other ≡ true → HasNoRunOrder m p run → IsTrue (is_cycle verdict) ↔ HasNoRunOrder m p run
  cycle other v is none = (λ t. none, λ lacks. subst (λ (x : Verdict). IsTrue (is_cycle x)) (sym v) is)

  pub cycle_iff_none : TakesRun m p base run verdict after → IsTrue (is_cycle verdict) ↔ HasNoRunOrder m p run
  cycle_iff_none (sorted order none l v a) = no_cycle Sorted v refl order l.is_order
  cycle_iff_none (unsorted none lacks v a) = cycle (Cycle None) v refl lacks
  cycle_iff_none (kept old b w v a) = no_cycle Kept v refl old.order (kept_order m p old.run run old.order (ordered old b) w)
  cycle_iff_none (resorted old w nodes b span l v a) = no_cycle (Resorted _) v refl _ (order_of_run m p old.run run old.order (ordered old b) w span nodes l.is_order)
  cycle_iff_none (unresorted old w b span lacks v a) = cycle (Cycle (Some _)) v refl (none_of_run m p old.run run old.order (ordered old b) w span lacks)
