-- The rows of the first edges are put, and linked.
use Rattle.std.proofs.Common.{◌≡◌, ◌+◌, take, map}
use Rattle.digraph.specs.LinkRows.{PutsKeys}
use Rattle.digraph.proofs.links.link_ends.Given as goal

abbrev pub invariant-loop-edge : goal.invariant-loop-edge
invariant-loop-edge l = record {
  place : l.place ≡ l.first + l.edge-index;
  sources : PutsKeys l.first (map (λ e. e.0) (take l.edge-index l.edges)) l.initial.source_links l.initial.source_last l.source_links l.source_last;
  targets : PutsKeys l.first (map (λ e. e.1) (take l.edge-index l.edges)) l.initial.target_links l.initial.target_last l.target_links l.target_last;
}
