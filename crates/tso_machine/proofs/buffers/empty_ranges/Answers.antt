use Rattle.std.proofs.Common.{◌≡◌, ◌∙◌, ℕ, ◌+◌, List, ◌∷◌, [], ◌++◌, map, length, ap, sym, arith}
use Rattle.orders.specs.Orders.{nodes_below}
use Rattle.test_lang.specs.Program.{first_node}
use Rattle.tso_machine.specs.declared.buffers.Range.{Range}
use Rattle.tso_machine.specs.Queues.{empty_range}
use Rattle.tso_machine.proofs.ListChanges.{map_below_more}
use Rattle.tso_machine.proofs.buffers.empty_ranges.Goals as goal

pub overflow_add-first : goal.overflow_add-first
overflow_add-first c =
    let first = c.first_of-first.ensures.first in
    let within = c.len_of.ensures.within in
    let limits = c.requires in
    omega (arith, first, within, limits)

pub loop-thread-preserved : goal.loop-thread-preserved
loop-thread-preserved c =
    let t = c.loop-thread.thread in
    let first = c.first_of-first.ensures.first in
    let count = c.len_of.ensures.count in
    let one : ◌≡◌ {A = Range} (record { first = c.first_of-first.result; begin = c.first_of-first.result; end = c.first_of-first.result; limit = c.first_of-first.result + c.len_of.result }) (empty_range c.args.test.now t) =
    ap (λ (n : ℕ). record { first = n; begin = n; end = n; limit = n + c.len_of.result }) first
    ∙ ap (λ (n : ℕ). record { first = first_node c.args.test.now t; begin = first_node c.args.test.now t; end = first_node c.args.test.now t; limit = first_node c.args.test.now t + n }) count in
    c.in_ok-push.ensures.items
    ∙ ap (λ (xs : List Range). xs ++ record { first = c.first_of-first.result; begin = c.first_of-first.result; end = c.first_of-first.result; limit = c.first_of-first.result + c.len_of.result } ∷ []) c.loop-thread.invariant
    ∙ ap (λ (range : Range). map (empty_range c.args.test.now) (nodes_below t) ++ range ∷ []) one
    ∙ sym (map_below_more (empty_range c.args.test.now) t)

pub returns : goal.returns
returns c =
    let end = c.threads-thread-end.ensures.count in
    let at = c.loop-thread.auto.thread-end in
    let past = c.loop-thread-test.false in
    let all : c.loop-thread.thread ≡ length c.args.test.now.threads = omega (arith, end, at, past) in
    c.loop-thread.invariant ∙ ap (λ (n : ℕ). map (empty_range c.args.test.now) (nodes_below n)) all
