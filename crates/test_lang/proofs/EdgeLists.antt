-- The list of edges has exactly the edges.
use Rattle.std.proofs.Common.{ℕ, List, map, Contains, subst}
use Rattle.std.specs.Prelude.{filter}
use Rattle.orders.proofs.Below.{has-below}
use Rattle.orders.proofs.Members.{Contains-filter, Contains-filter_back, Contains-map, Contains-map_back, Contains-flat_map, Contains-flat_map_back}
use Rattle.test_lang.specs.declared.op.MemModel.{MemModel}
use Rattle.test_lang.specs.Program.{Program, all_nodes, op_count}
use Rattle.test_lang.specs.Edges.{Edge}
use Rattle.test_lang.specs.EdgeList.{is_edge, edge_list}
use Rattle.test_lang.proofs.EdgeTests.{decides_edge, edge-nodes}

-- the edges of a run, and no other pairs, are listed
pub edge_is_listed : (m : MemModel) (p : Program) (run : List ℕ) (a b : ℕ) → Edge m p run a b → Contains (edge_list m p run) (a, b)
edge_is_listed m p run a b edge =
    let ends = edge-nodes m p run a b edge in
    Contains-flat_map (λ (source : ℕ). map (λ (target : ℕ). (source, target)) (filter (is_edge m p run source) (all_nodes p))) (all_nodes p) a (a, b)
    (has-below (op_count p) a ends.0)
    (Contains-map (λ (target : ℕ). (a, target)) (filter (is_edge m p run a) (all_nodes p)) b
    (Contains-filter (is_edge m p run a) (all_nodes p) b (has-below (op_count p) b ends.1) ((decides_edge m p run a b).1 edge)))

pub listed_is_edge : (m : MemModel) (p : Program) (run : List ℕ) (a b : ℕ) → Contains (edge_list m p run) (a, b) → Edge m p run a b
listed_is_edge m p run a b h =
    let source = Contains-flat_map_back (λ (source : ℕ). map (λ (target : ℕ). (source, target)) (filter (is_edge m p run source) (all_nodes p))) (all_nodes p) (a, b) h in
    let target = Contains-map_back (λ (target : ℕ). (source.0, target)) (filter (is_edge m p run source.0) (all_nodes p)) (a, b) source.2 in
    let passes = (Contains-filter_back (is_edge m p run source.0) (all_nodes p) target.0 target.1).1 in
    let edge = (decides_edge m p run source.0 target.0).0 passes in
    subst (λ (e : ℕ × ℕ). Edge m p run e.0 e.1) target.2 edge
