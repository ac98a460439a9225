use Rattle.std.proofs.Common.{◌∙◌, length, ap, sym, subst, arith}
use Rattle.tso_machine.specs.Queues.{AreRanges, queues_of}
use Rattle.tso_machine.proofs.Ranges.{empty_queues_are, empty_ranges_stand}
use Rattle.tso_machine.proofs.buffers.Buffers.new.Goals as goal

pub invariant_of-result : goal.invariant_of-result
invariant_of-result c =
    let count = c.ops.ensures.count in
    let long = c.in_ok-vec.ensures.len in
    let ok = c.in_ok-vec.field-0.ok.0 in
    subst (AreRanges (length c.in_ok-vec.field-0.items)) (sym c.in_ok-empty_ranges.ensures)
    (empty_ranges_stand c.args.test.now (length c.in_ok-vec.field-0.items) (omega (arith, count, long, ok)) (length c.args.test.now.threads))

pub returns : goal.returns
returns c = ap (queues_of c.in_ok-vec.field-0.items) c.in_ok-empty_ranges.ensures ∙ empty_queues_are c.args.test.now c.in_ok-vec.field-0.items
