-- A static graph with its tables of stores and of loads.
use Rattle.std.specs.Prelude.{ℕ, List, Option}
use Rattle.graph_model.specs.declared.word_loads.WordLoads.{WordLoads}
use Rattle.graph_model.specs.FirstLists.{HasFirstLists}
use Rattle.graph_model.specs.declared.first_stores.FirstStores.{FirstStores}
use Rattle.graph_model.specs.StaticGraph.{StaticGraph, IsStaticGraph}
use Rattle.graph_model.specs.StoreTables.{HasBaseStores, HasNextStores}
use Rattle.graph_model.specs.WordLoads.{TellsWordLoads}

pub record IsTabled (s : StaticGraph) (next_stores base_stores : List (Option ℕ)) (first_stores : FirstStores) (word_loads : WordLoads) : Type 0 where
  pub sound : IsStaticGraph s
  pub nexts : HasNextStores s.test next_stores
  pub bases : HasBaseStores s.test base_stores
  pub firsts : HasFirstLists s.test first_stores.starts.items first_stores.stores.items
  pub loads : TellsWordLoads s.test word_loads
