-- The graph of few kept pairs is a static graph.
use Rattle.std.proofs.Common.{◌≡◌, ◌*◌, ◌≤◌, ℕ, List, length, sym, subst}
use Rattle.std.specs.Prelude.{Option}
use Rattle.orders.proofs.FewEdges.{reach_by_few, reach_by_all}
use Rattle.orders.specs.Reductions.{IsAmong, IsReaching}
use Rattle.test_lang.specs.declared.op.MemModel.{MemModel}
use Rattle.test_lang.specs.Kept.{IsKept}
use Rattle.test_lang.specs.Program.{Program, op_count}
use Rattle.digraph.specs.Digraph.{Digraph, HasEdge}
use Rattle.graph_model.specs.FewKept.{few_kept}
use Rattle.graph_model.specs.StaticGraph.{IsStaticGraph}
use Rattle.graph_model.specs.StoreTables.{HasBaseStores, HasNextStores}
use Rattle.graph_model.specs.FirstLists.{HasFirstLists}
use Rattle.graph_model.specs.declared.first_stores.FirstStores.{FirstStores}
use Rattle.graph_model.specs.declared.word_loads.WordLoads.{WordLoads}
use Rattle.graph_model.specs.WordLoads.{TellsWordLoads}
use Rattle.graph_model.specs.Tabled.{IsTabled}
use Rattle.graph_model.proofs.Chains.{few_kept-among, few_kept-reaching}
use Rattle.graph_model.proofs.Sizes.{length-few_kept}

-- with these edges, and of a copy of the test
pub static_of : (m : MemModel) (p copy : Program) (g : Digraph) → copy ≡ p → g.nodes ≡ op_count p → g.edges ≡ few_kept m p → IsStaticGraph (record { test = copy; model = m; graph = g })
static_of m p copy g same nodes edges =
    let among : IsAmong (HasEdge g.edges) (IsKept m p) = subst (λ (e : List (ℕ × ℕ)). IsAmong (HasEdge e) (IsKept m p)) (sym edges) (few_kept-among m p) in
    let reaching : IsReaching (HasEdge g.edges) (IsKept m p) = subst (λ (e : List (ℕ × ℕ)). IsReaching (HasEdge e) (IsKept m p)) (sym edges) (few_kept-reaching m p) in
    let sound : IsStaticGraph (record { test = p; model = m; graph = g }) = record {
      nodes = nodes;
      kept = among;
      reach = λ a b. (reach_by_few (IsKept m p) (HasEdge g.edges) reaching a b, reach_by_all (IsKept m p) (HasEdge g.edges) among a b);
      few = subst (λ (e : List (ℕ × ℕ)). length e ≤ 4 * op_count p) (sym edges) (length-few_kept m p);
    } in
    subst (λ (q : Program). IsStaticGraph (record { test = q; model = m; graph = g })) (sym same) sound

pub tabled_of : (m : MemModel) (p copy : Program) (g : Digraph) (nexts bases : List (Option ℕ)) (firsts : FirstStores) (loads : WordLoads) → copy ≡ p → g.nodes ≡ op_count p → g.edges ≡ few_kept m p →
    HasNextStores p nexts → HasBaseStores p bases → HasFirstLists p firsts.starts.items firsts.stores.items → TellsWordLoads p loads → IsTabled (record { test = copy; model = m; graph = g }) nexts bases firsts loads
tabled_of m p copy g nexts bases firsts loads same nodes edges n b f l = record {
  sound = static_of m p copy g same nodes edges;
  nexts = subst (λ (q : Program). HasNextStores q nexts) (sym same) n;
  bases = subst (λ (q : Program). HasBaseStores q bases) (sym same) b;
  firsts = subst (λ (q : Program). HasFirstLists q firsts.starts.items firsts.stores.items) (sym same) f;
  loads = subst (λ (q : Program). TellsWordLoads q loads) (sym same) l;
}
