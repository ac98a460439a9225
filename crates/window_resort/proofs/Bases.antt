-- The base that a checker has, or none.
use Rattle.std.proofs.Common.{◌≡◌, ◌∙◌, ℕ, ◌<◌, ◌≤◌, List, Bool, true, false, length, Contains, All, arith, refl, sym, ap, subst}
use Rattle.std.specs.Prelude.{Option, Some, None, is_some, if◌then◌else◌}
use Rattle.test_lang.specs.declared.op.MemModel.{MemModel}
use Rattle.test_lang.specs.Edges.{IsRunOrder}
use Rattle.test_lang.specs.Program.{Program}
use Rattle.window_resort.specs.declared.spans.Window.{Window}
use Rattle.digraph.specs.Roomed.{Roomed}
use Rattle.graph_model.specs.StaticGraph.{StaticGraph}
use Rattle.window_resort.specs.Tables.{HasOrderRoom, IsBase}
use Rattle.window_resort.specs.Walks.{Base}
use Rattle.window_resort.specs.Windows.{window_nodes}
use Rattle.window_resort.proofs.Walks.{IsOrdered, some_base}
use Rattle.window_resort.proofs.WindowOrders.{window_at}

abbrev pub base_of : List ℕ → List ℕ → Base
base_of run order = record { run = run; order = order }

abbrev pub base_if : Bool → List ℕ → List ℕ → Option Base
base_if has run order = if has then Some (record { run = run; order = order }) else None

pub none_if : (has : Bool) (run order : List ℕ) → base_if has run order ≡ None → has ≡ false
none_if true run order e = absurd cc
none_if false run order e = refl

pub some_if : (has : Bool) (run order : List ℕ) → is_some (base_if has run order) ≡ true → has ≡ true
some_if true run order e = refl
some_if false run order e = absurd cc

pub base_true : (has : Bool) (run order : List ℕ) → has ≡ true → base_if has run order ≡ Some (record { run = run; order = order })
base_true has run order e = ap (λ (b : Bool). base_if b run order) e

pub base_false : (has : Bool) (run order : List ℕ) → has ≡ false → base_if has run order ≡ None
base_false has run order e = ap (λ (b : Bool). base_if b run order) e

-- its order is one of its run
pub ordered_if : (m : MemModel) (p : Program) (has : Bool) (run order : List ℕ) → (has ≡ true → IsRunOrder m p run order) → IsOrdered m p (base_if has run order)
ordered_if m p true run order o = λ base is. subst (λ (b : Base). IsRunOrder m p b.run b.order) (some_base (record { run = run; order = order }) base is) (o refl)
ordered_if m p false run order o = λ base is. absurd cc

-- the nodes of a window are among those of the order
pub window_below : (n : ℕ) (order : List ℕ) (w : Window) → w.last < length order → w.first ≤ w.last → All (λ node. node < n) order → (x : ℕ) → Contains (window_nodes order w) x → x < n
window_below n order w within rising below x h =
    let i = window_at order w within rising x h in
    let few = i.2 in
    subst (λ (y : ℕ). y < n) i.3 (below i.0 0 (omega (arith, few, within)))

pub same_base : (run new_run order new_order : List ℕ) → new_run ≡ run → new_order ≡ order → Some (base_of new_run new_order) ≡ Some (base_of run order)
same_base run new_run order new_order r o = ap (λ (x : List ℕ). Some (base_of x new_order)) r ∙ ap (λ (x : List ℕ). Some (base_of run x)) o

pub room_kept : (n m : ℕ) (order places sorted new_order new_places new_sorted : List ℕ) → n ≡ m → HasOrderRoom n order places sorted → new_order ≡ order → new_places ≡ places →
    length new_sorted ≡ length sorted → HasOrderRoom m new_order new_places new_sorted
room_kept n m order places sorted new_order new_places new_sorted same h o p s = record {
  order_long = ap (length {A = ℕ}) o ∙ h.order_long ∙ same;
  places_long = ap (length {A = ℕ}) p ∙ h.places_long ∙ same;
  sorted_long = s ∙ h.sorted_long ∙ same;
}

-- a base whose lists are these
pub base_is : (s : StaticGraph) (run order places new_run new_order new_places : List ℕ) (rows : List (Roomed (ℕ × ℕ))) → new_run ≡ run → new_order ≡ order → new_places ≡ places →
    IsBase s run order places rows → IsBase s new_run new_order new_places rows
base_is s run order places new_run new_order new_places rows r o p h =
    subst (λ (x : List ℕ). IsBase s x new_order new_places rows) (sym r) (subst (λ (x : List ℕ). IsBase s run x new_places rows) (sym o) (subst (λ (x : List ℕ). IsBase s run order x rows) (sym p) h))
