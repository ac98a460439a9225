-- A run gets one verdict and leaves one base.
use Rattle.std.proofs.Common.{◌≡◌, ◌⊎◌, ◌∙◌, inl, inr, ℕ, List, ap, refl, sym, subst}
use Rattle.std.specs.Prelude.{Option, Some, None}
use Rattle.orders.specs.Orders.{HasNoOrder, IsLeastOrder}
use Rattle.orders.proofs.LeastOrders.{one_least}
use Rattle.test_lang.specs.declared.op.MemModel.{MemModel}
use Rattle.test_lang.specs.Edges.{Edge, HasNoRunOrder, IsLeastRunOrder}
use Rattle.test_lang.specs.Program.{Program, all_nodes}
use Rattle.window_resort.specs.declared.spans.Window.{Window}
use Rattle.window_resort.specs.declared.verdicts.Verdict.{Verdict}
use Rattle.window_resort.specs.declared.verdicts.Verdict.TheVariants.{Sorted, Kept, Resorted, Cycle}
use Rattle.window_resort.specs.Walks.{Base, TakesRun}
use Rattle.window_resort.specs.Walks.TakesRun.{kept, resorted, sorted, unresorted, unsorted}
use Rattle.window_resort.specs.Windows.{IsWindow, PointsBackward, window_length, window_nodes, with_window}
use Rattle.window_resort.proofs.Bases.{base_of}
use Rattle.window_resort.proofs.NextRuns.{one_span}
use Rattle.window_resort.proofs.Walks.{some_base}

module _ (m : MemModel) (p : Program) (run : List ℕ) where
  -- without a base
  abbrev WithoutBase : Verdict → Option Base → Type 0
  WithoutBase verdict after =
      ((order : List ℕ) × IsLeastRunOrder m p run order × (verdict ≡ Sorted) × (after ≡ Some (base_of run order)))
      ⊎ (HasNoRunOrder m p run × (verdict ≡ Cycle None) × (after ≡ None))

  -- with one
  abbrev WithWindow : Base → Window → Verdict → Option Base → Type 0
  WithWindow old w verdict after =
      ((nodes : List ℕ) × IsLeastOrder (Edge m p run) (window_nodes old.order w) nodes × (verdict ≡ Resorted (window_length w)) × (after ≡ Some (base_of run (with_window old.order w nodes))))
      ⊎ (HasNoOrder (Edge m p run) (window_nodes old.order w) × (verdict ≡ Cycle (Some (window_length w))) × (after ≡ Some old))

  abbrev WithBase : Base → Verdict → Option Base → Type 0
  WithBase old verdict after =
      (IsWindow (Edge m p run) old.order None × (verdict ≡ Kept) × (after ≡ Some (base_of run old.order)))
      ⊎ ((w : Window) × IsWindow (Edge m p run) old.order (Some w) × WithWindow old w verdict after)

  without_base : (base : Option Base) (verdict : Verdict) (after : Option Base) → base ≡ None → TakesRun m p base run verdict after → WithoutBase verdict after
  without_base base verdict after e (sorted order none l v a) = inl (order, l, v, a)
  without_base base verdict after e (unsorted none lacks v a) = inr (lacks, v, a)
  without_base base verdict after e (kept old b w v a) = absurd cc
  without_base base verdict after e (resorted old w nodes b span l v a) = absurd cc
  without_base base verdict after e (unresorted old w b span lacks v a) = absurd cc

  with_base : (base : Option Base) (verdict : Verdict) (after : Option Base) (old : Base) → base ≡ Some old → TakesRun m p base run verdict after → WithBase old verdict after
  with_base base verdict after old e (sorted order none l v a) = absurd cc
  with_base base verdict after old e (unsorted none lacks v a) = absurd cc
  with_base base verdict after old e (kept other b w v a) =
      subst (λ (o : Base). WithBase o verdict after) (some_base other old (sym b ∙ e)) (inl (w, v, a))
  with_base base verdict after old e (resorted other w nodes b span l v a) =
      subst (λ (o : Base). WithBase o verdict after) (some_base other old (sym b ∙ e)) (inr (w, span, inl (nodes, l, v, a)))
  with_base base verdict after old e (unresorted other w b span lacks v a) =
      subst (λ (o : Base). WithBase o verdict after) (some_base other old (sym b ∙ e)) (inr (w, span, inr (lacks, v, a ∙ b)))

  abbrev AreOne : Verdict → Verdict → Option Base → Option Base → Type 0
  AreOne v w a b = (v ≡ w) × (a ≡ b)

  one_without : (v w : Verdict) (a b : Option Base) → WithoutBase v a → WithoutBase w b → AreOne v w a b
  one_without v w a b (inl x) (inl y) =
      (x.2 ∙ sym y.2, x.3 ∙ ap (λ (order : List ℕ). Some (base_of run order)) (one_least (Edge m p run) (all_nodes p) x.0 y.0 x.1 y.1) ∙ sym y.3)
  one_without v w a b (inl x) (inr y) = absurd (y.0 x.0 x.1.is_order)
  one_without v w a b (inr x) (inl y) = absurd (x.0 y.0 y.1.is_order)
  one_without v w a b (inr x) (inr y) = (x.1 ∙ sym y.1, x.2 ∙ sym y.2)

  one_window : (old : Base) (window : Window) (v w : Verdict) (a b : Option Base) → WithWindow old window v a → WithWindow old window w b → AreOne v w a b
  one_window old window v w a b (inl x) (inl y) = (
    x.2 ∙ sym y.2,
    x.3 ∙ ap (λ (nodes : List ℕ). Some (base_of run (with_window old.order window nodes))) (one_least (Edge m p run) (window_nodes old.order window) x.0 y.0 x.1 y.1) ∙ sym y.3,
  )
  one_window old window v w a b (inl x) (inr y) = absurd (y.0 x.0 x.1.is_order)
  one_window old window v w a b (inr x) (inl y) = absurd (x.0 y.0 y.1.is_order)
  one_window old window v w a b (inr x) (inr y) = (x.1 ∙ sym y.1, x.2 ∙ sym y.2)

  one_with : (old : Base) (v w : Verdict) (a b : Option Base) → WithBase old v a → WithBase old w b → AreOne v w a b
  one_with old v w a b (inl x) (inl y) = (x.1 ∙ sym y.1, x.2 ∙ sym y.2)
  one_with old v w a b (inl x) (inr y) = absurd (x.0 y.1.to_first.0 y.0.first y.1.to_first.1)
  one_with old v w a b (inr x) (inl y) = absurd (y.0 x.1.to_first.0 x.0.first x.1.to_first.1)
  one_with old v w a b (inr x) (inr y) =
      let same : Some x.0 ≡ Some y.0 = one_span (PointsBackward (Edge m p run) old.order) (Some x.0) (Some y.0) x.1 y.1 in
      let one : x.0 ≡ y.0 = cc in
      one_window old y.0 v w a b (subst (λ (window : Window). WithWindow old window v a) one x.2) y.2

  pub one_taken : (base : Option Base) (v w : Verdict) (a b : Option Base) → TakesRun m p base run v a → TakesRun m p base run w b → AreOne v w a b
  one_taken None v w a b x y = one_without v w a b (without_base None v a refl x) (without_base None w b refl y)
  one_taken (Some old) v w a b x y = one_with old v w a b (with_base (Some old) v a old refl x) (with_base (Some old) w b old refl y)
