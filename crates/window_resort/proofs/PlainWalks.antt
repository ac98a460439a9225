-- The windows of a base's order, and what a run leaves as the base.
use Rattle.std.proofs.Common.{ℕ, ◌+◌, ◌<◌, ◌≤◌, All, List, length, get_or, Contains, sym, subst}
use Rattle.std.specs.Prelude.{◌-◌, Option, IfSome, Result, Ok, Err, IfOk, drop}
use Rattle.std.proofs.lemmas.List.{get_or_default}
use Rattle.std.proofs.lemmas.List.Elements.{All-drop, All-take}
use Rattle.full_sort.proofs.Pigeons.{length-once-le}
use Rattle.test_lang.specs.declared.op.MemModel.{MemModel}
use Rattle.test_lang.specs.Edges.{Edge, IsRunOrder}
use Rattle.test_lang.specs.Program.{Program, op_count}
use Rattle.window_resort.specs.declared.spans.Window.{Window}
use Rattle.window_resort.specs.declared.verdicts.Verdict.{Verdict}
use Rattle.window_resort.specs.Walks.{Base, TakesRun}
use Rattle.window_resort.specs.Walks.TakesRun.{sorted, unsorted, kept, resorted, unresorted}
use Rattle.window_resort.specs.Windows.{PointsBackward, Spans, window_nodes}
use Rattle.window_resort.proofs.RunWindows.{below_listed, kept_order, order_of_run, within_order}
use Rattle.window_resort.proofs.WindowOrders.{span_rises}

module _ (m : MemModel) (p : Program) (base order : List ℕ) (is_order : IsRunOrder m p base order) where
  node_below : (x : ℕ) → Contains order x → x < op_count p
  node_below x h = below_listed (op_count p) x ((is_order.same_nodes x).0 h)

  pub all_nodes_below : All (λ n. n < op_count p) order
  all_nodes_below k d below = node_below (get_or order k d) (k, below, get_or_default order k (get_or order k d) d below)

  pub at_most_all : length order ≤ op_count p
  at_most_all = length-once-le (op_count p) order is_order.once node_below

  module _ (run : List ℕ) (w : Window) (span : Spans (PointsBackward (Edge m p run) order) w) where
    pub window_rises : w.first ≤ w.last
    window_rises = span_rises (Edge m p run) order (within_order m p base run order is_order) w span

    pub window_nodes_below : All (λ n. n < op_count p) (window_nodes order w)
    window_nodes_below = All-take (λ n. n < op_count p) (w.last + 1 - w.first) (drop w.first order) (All-drop (λ n. n < op_count p) w.first order all_nodes_below)

    pub window_ends : w.last < length order
    window_ends = span.from_last.1.within

-- the base that a run leaves has an order of its run
pub left_in_order : (m : MemModel) (p : Program) (base : Option Base) (run : List ℕ) (verdict : Verdict) (after : Option Base) → IfSome base (λ b. IsRunOrder m p b.run b.order) →
    TakesRun m p base run verdict after → IfSome after (λ b. IsRunOrder m p b.run b.order)
left_in_order m p base run verdict after before (sorted order none least is left) = subst (λ (a : Option Base). IfSome a (λ b. IsRunOrder m p b.run b.order)) (sym left) least.is_order
left_in_order m p base run verdict after before (unsorted none lacks is left) = subst (λ (a : Option Base). IfSome a (λ b. IsRunOrder m p b.run b.order)) (sym left) tt
left_in_order m p base run verdict after before (kept old some none is left) =
    let has : IsRunOrder m p old.run old.order = subst (λ (a : Option Base). IfSome a (λ b. IsRunOrder m p b.run b.order)) some before in
    subst (λ (a : Option Base). IfSome a (λ b. IsRunOrder m p b.run b.order)) (sym left) (kept_order m p old.run run old.order has none)
left_in_order m p base run verdict after before (resorted old window nodes some span least is left) =
    let has : IsRunOrder m p old.run old.order = subst (λ (a : Option Base). IfSome a (λ b. IsRunOrder m p b.run b.order)) some before in
    subst (λ (a : Option Base). IfSome a (λ b. IsRunOrder m p b.run b.order)) (sym left) (order_of_run m p old.run run old.order has window span nodes least.is_order)
left_in_order m p base run verdict after before (unresorted old window some span none is left) = subst (λ (a : Option Base). IfSome a (λ b. IsRunOrder m p b.run b.order)) (sym left) before

pub left_if_ok : {Failure : Type 0} (m : MemModel) (p : Program) (base : Option Base) (run : List ℕ) (result : Result (Verdict × Option Base) Failure) → IfSome base (λ b. IsRunOrder m p b.run b.order) →
    IfOk result (λ taken. TakesRun m p base run taken.0 taken.1) → IfOk result (λ taken. IfSome taken.1 (λ b. IsRunOrder m p b.run b.order))
left_if_ok m p base run (Ok taken) before h = left_in_order m p base run taken.0 taken.1 before h
left_if_ok m p base run (Err failure) before h = tt
