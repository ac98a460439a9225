use Rattle.std.proofs.Common.{◌∙◌, ap, rules}
use Rattle.graph_model.specs.StaticGraph.{StaticGraph}
use Rattle.test_lang.specs.Signatures.{Means}
use Rattle.chunk_pool.proofs.comparison.walks_as_defined.Goals as goal

pub loop-init : goal.loop-init
loop-init c =
    let means : Means c.args.plan.now c.as_mut_slice-words.result.now c.decode_into.new.out = search rules in
    record { inside = means.inside; words = search rules; test = c.requires.checker; order = search rules }

pub loop-preserved : goal.loop-preserved
loop-preserved c = record {
  inside = c.draw_next.ensures.inside;
  words = c.draw_next.ensures.words ∙ c.loop.invariant.words;
  test = ap (λ (s : StaticGraph). s.test) c.take_by_both.ensures.fixed ∙ c.loop.invariant.test;
  order = c.in_ok-verdict.ensures.order;
}
