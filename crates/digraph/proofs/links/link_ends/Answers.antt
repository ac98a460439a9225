-- A row more at both ends.
use Rattle.std.proofs.Common.{arith}
use Rattle.digraph.proofs.LinkRows.{puts-more}
use Rattle.digraph.proofs.links.link_ends.Goals as goal

pub loop-edge-preserved : goal.loop-edge-preserved
loop-edge-preserved c =
    let at = c.loop-edge.invariant.place in
    let lt = c.loop-edge-test.true in
    record {
      place = omega (arith, at);
      sources = puts-more (λ e. e.0) c.args.edges.now c.args.first c.loop-edge.edge-index c.loop-edge.place lt at c.args.source_links.now c.loop-edge.source_links c.put_link.new.links
          c.args.source_last.now c.loop-edge.source_last c.put_link.new.last c.loop-edge.invariant.sources c.put_link.ensures;
      targets = puts-more (λ e. e.1) c.args.edges.now c.args.first c.loop-edge.edge-index c.loop-edge.place lt at c.args.target_links.now c.loop-edge.target_links c.put_link-in-loop-edge.new.links
          c.args.target_last.now c.loop-edge.target_last c.put_link-in-loop-edge.new.last c.loop-edge.invariant.targets c.put_link-in-loop-edge.ensures;
    }
