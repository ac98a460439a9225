use Rattle.std.proofs.Common.{◌≡◌, ◌∙◌, ◌<◌, length, ap, arith}
use Rattle.std.proofs.lemmas.List.{get_or_read}
use Rattle.test_lang.specs.Program.{first_node}
use Rattle.test_lang.proofs.Threads.{first_node-le}
use Rattle.test_lang.proofs.test.Test.first_of.Goals as goal

pub returns-clause-within : goal.returns-clause-within
returns-clause-within c =
    let firsts = c.self.inside.first_nodes.items in
    let threads = ap (λ p. length p.threads) c.self.view_is in
    let each = c.self.invariant.one_first_each in
    let lt : c.args.thread < length firsts = let h = c.requires in omega (arith, h, each, threads) in
    let first : c.index.result.now ≡ first_node c.args.self.now c.args.thread =
    get_or_read firsts c.args.thread c.index.result.now lt c.index.ensures 0 ∙ c.self.invariant.firsts_are c.args.thread lt ∙ ap (λ p. first_node p c.args.thread) c.self.view_is in
    rw first (first_node-le c.args.self.now c.args.thread)
