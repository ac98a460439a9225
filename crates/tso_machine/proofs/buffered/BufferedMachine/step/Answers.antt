use Rattle.std.proofs.Common.{sym, subst, arith}
use Rattle.std.proofs.lemmas.List.{get_or_read}
use Rattle.tso_machine.specs.Moments.{Moment}
use Rattle.tso_machine.specs.Moves.{IsEnabled}
use Rattle.tso_machine.proofs.Counting.{all_few, count_le, counted_after, long_counts}
use Rattle.tso_machine.proofs.buffered.BufferedMachine.step.Goals as goal

pub index-requires : goal.index-requires
index-requires c =
    let long = long_counts c.self.inside.playing c.self.inside.counts.items c.self.inside.total c.self.invariant in
    let ok = c.self.inside.counts.ok.0 in
    let lt = c.take-thread.ensures.in_range in
    omega (arith, long, ok, lt)

pub index_mut-requires : goal.index_mut-requires
index_mut-requires c =
    let long = long_counts c.self.inside.playing c.self.inside.counts.items c.self.inside.total c.self.invariant in
    let ok = c.self.inside.counts.ok.0 in
    let lt = c.take-thread.ensures.in_range in
    omega (arith, long, ok, lt)

pub overflow_sub-self : goal.overflow_sub-self
overflow_sub-self c =
    let m = c.self.inside.playing in
    let counts = c.self.inside.counts.items in
    let long = long_counts m counts c.self.inside.total c.self.invariant in
    let lt = c.take-thread.ensures.in_range in
    let read = get_or_read counts c.take-thread.result c.index.result.now (omega (arith, long, lt)) c.index.ensures 0 in
    let le = count_le m counts c.self.inside.total c.self.invariant c.take-thread.result lt in
    omega (arith, read, le)

pub overflow_add-self : goal.overflow_add-self
overflow_add-self c =
    let few = all_few c.self.inside.playing c.self.inside.counts.items c.self.inside.total c.self.invariant in
    let one = c.count_choices-count.ensures.few in
    omega (arith, few, one)

pub invariant_of-self : goal.invariant_of-self
invariant_of-self c =
    let m = c.self.inside.playing in
    let counts = c.self.inside.counts.items in
    let long = long_counts m counts c.self.inside.total c.self.invariant in
    let lt = c.take-thread.ensures.in_range in
    let read = get_or_read counts c.take-thread.result c.index.result.now (omega (arith, long, lt)) c.index.ensures 0 in
    counted_after m counts c.self.inside.total c.self.invariant c.take-thread.new.self c.args.step (subst (λ (m : Moment). IsEnabled m c.args.step) (sym c.self.view_is) c.requires) c.take-thread.ensures.takes
    c.take-thread.result c.count_choices-count.result c.index.result.now c.take-thread.ensures.thread lt c.count_choices-count.ensures.count c.count_choices-count.ensures.few read
