-- How many few kept pairs there are.
use Rattle.std.proofs.Common.{ℕ, suc, ◌-◌, ◌*◌, ◌≤◌, List, [], ◌∷◌, length, arith, length-append}
use Rattle.std.specs.Prelude.{Option, Some, None}
use Rattle.std.specs.List.{flat_map}
use Rattle.orders.specs.Orders.{nodes_below}
use Rattle.orders.proofs.Below.{length-below}
use Rattle.test_lang.specs.declared.op.Action.{Action}
use Rattle.test_lang.specs.declared.op.MemModel.{MemModel}
use Rattle.test_lang.specs.Program.{Program, action_at, op_count}
use Rattle.graph_model.specs.declared.kinds.Kind.{Kind}
use Rattle.graph_model.specs.FewKept.{last_of_kind, next_of_kind, kinds_before, kinds_after, kinds_of, edge_from, edge_to, edges_into, edges_onward, few_kept}
use Rattle.graph_model.proofs.KindTables.{few_before, few_after}

pub length-flat_map_le : {X Y : Type 0} (f : X → List Y) (xs : List X) (k : ℕ) → ((x : X) → length (f x) ≤ k) → length (flat_map f xs) ≤ length xs * k
length-flat_map_le f [] k h = omega arith
length-flat_map_le f (x ∷ xs) k h =
    let here = h x in
    let rest = length-flat_map_le f xs k h in
    let both = length-append (f x) (flat_map f xs) in
    grind (arith, here, rest, both)

length-edge_from : (n : ℕ) (found : Option ℕ) → length (edge_from n found) ≤ 1
length-edge_from n None = omega arith
length-edge_from n (Some k) = omega arith

pub length-edge_to : (n : ℕ) (found : Option ℕ) → length (edge_to n found) ≤ 1
length-edge_to n None = omega arith
length-edge_to n (Some k) = omega arith

length-kinds_of : (kinds : Action → List Kind) (k : ℕ) → ((action : Action) → length (kinds action) ≤ k) → (found : Option Action) → length (kinds_of kinds found) ≤ k
length-kinds_of kinds k h None = omega arith
length-kinds_of kinds k h (Some action) = h action

pub length-edges_into : (m : MemModel) (p : Program) (n : ℕ) → length (edges_into m p n) ≤ 3
length-edges_into m p n =
    let kinds = length-kinds_of (kinds_before m) 3 (few_before m) (action_at p n) in
    let each = length-flat_map_le (λ kind. edge_from n (last_of_kind kind p n)) (kinds_of (kinds_before m) (action_at p n)) 1 (λ kind. length-edge_from n (last_of_kind kind p n)) in
    omega (arith, kinds, each)

pub length-edges_onward : (m : MemModel) (p : Program) (n : ℕ) → length (edges_onward m p n) ≤ 1
length-edges_onward m p n =
    let kinds = length-kinds_of (kinds_after m) 1 (few_after m) (action_at p n) in
    let each = length-flat_map_le (λ kind. edge_to n (next_of_kind kind p n)) (kinds_of (kinds_after m) (action_at p n)) 1
    (λ kind. length-edge_to n (next_of_kind kind p n)) in
    omega (arith, kinds, each)

pub length-into : (m : MemModel) (p : Program) (n : ℕ) → length (flat_map (edges_into m p) (nodes_below n)) ≤ 3 * n
length-into m p n =
    let each = length-flat_map_le (edges_into m p) (nodes_below n) 3 (length-edges_into m p) in
    let all = length-below n in
    omega (arith, each, all)

pub length-onward : (m : MemModel) (p : Program) (n : ℕ) → length (flat_map (λ k. edges_onward m p (op_count p - suc k)) (nodes_below n)) ≤ n
length-onward m p n =
    let each = length-flat_map_le (λ k. edges_onward m p (op_count p - suc k)) (nodes_below n) 1 (λ k. length-edges_onward m p (op_count p - suc k)) in
    let all = length-below n in
    omega (arith, each, all)

pub length-few_kept : (m : MemModel) (p : Program) → length (few_kept m p) ≤ 4 * op_count p
length-few_kept m p =
    let both = length-append (flat_map (edges_into m p) (nodes_below (op_count p))) (flat_map (λ k. edges_onward m p (op_count p - suc k)) (nodes_below (op_count p))) in
    let into = length-into m p (op_count p) in
    let onward = length-onward m p (op_count p) in
    omega (arith, both, into, onward)
