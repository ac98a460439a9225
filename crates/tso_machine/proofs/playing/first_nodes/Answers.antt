use Rattle.std.proofs.Common.{◌≡◌, ◌∙◌, ℕ, List, ◌∷◌, [], ◌++◌, map, length, ap, sym, arith}
use Rattle.orders.specs.Orders.{nodes_below}
use Rattle.test_lang.specs.Program.{first_node}
use Rattle.tso_machine.proofs.ListChanges.{map_below_more}
use Rattle.tso_machine.proofs.playing.first_nodes.Goals as goal

pub loop-thread-preserved : goal.loop-thread-preserved
loop-thread-preserved c =
    let t = c.loop-thread.thread in
    c.in_ok-push.ensures.items
    ∙ ap (λ (xs : List ℕ). xs ++ c.first_of.result ∷ []) c.loop-thread.invariant
    ∙ ap (λ (n : ℕ). map (first_node c.args.test.now) (nodes_below t) ++ n ∷ []) c.first_of.ensures.first
    ∙ sym (map_below_more (first_node c.args.test.now) t)

pub returns : goal.returns
returns c =
    let end = c.threads-thread-end.ensures.count in
    let at = c.loop-thread.auto.thread-end in
    let past = c.loop-thread-test.false in
    let all : c.loop-thread.thread ≡ length c.args.test.now.threads = omega (arith, end, at, past) in
    c.loop-thread.invariant ∙ ap (λ (n : ℕ). map (first_node c.args.test.now) (nodes_below n)) all
