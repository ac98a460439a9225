use Rattle.std.proofs.Common.{◌≡◌, ◌∙◌, ℕ, ◌<◌, length, get_or, sum, take, sym, ap, subst, arith}
use Rattle.std.proofs.lemmas.List.{get_or_read, take_all, take_more}
use Rattle.std.proofs.lemmas.List.Sums.{sum_by_push}
use Rattle.std.specs.Prelude.{Some, slice_get}
use Rattle.sim_core.specs.Setup.{choices_after}
use Rattle.tso_machine.specs.Moments.{Moment, StandsBehind}
use Rattle.tso_machine.proofs.Counting.{all_counted, choice_at, count_at, long_counts}
use Rattle.tso_machine.proofs.buffered.BufferedMachine.choice.Goals as goal

pub loop-thread-init : goal.loop-thread-init
loop-thread-init c = omega arith

pub index-count-requires : goal.index-count-requires
index-count-requires c =
    let long = long_counts c.self.inside.playing c.self.inside.counts.items c.self.inside.total c.self.invariant in
    let ok = c.self.inside.counts.ok.0 in
    let end = c.threads-thread-end.ensures.count in
    let below = c.loop-thread-test.true in
    omega (arith, long, ok, end, below)

pub nth_choice-requires-clause-k : goal.nth_choice-requires-clause-k
nth_choice-requires-clause-k c = λ steps s.
    let long = long_counts c.self.inside.playing c.self.inside.counts.items c.self.inside.total c.self.invariant in
    let end = c.threads-thread-end.ensures.count in
    let below = c.loop-thread-test.true in
    let read = get_or_read c.self.inside.counts.items c.loop-thread.thread c.index-count.result.now (omega (arith, long, end, below)) c.index-count.ensures 0 in
    let own = count_at c.self.inside.playing c.self.inside.counts.items c.self.inside.total c.self.invariant steps s c.loop-thread.thread (omega (arith, end, below)) in
    let left = c.if-left-count.true in
    omega (arith, read, own, left)

pub returns-then-left-count : goal.returns-then-left-count
returns-then-left-count c = λ steps r.
    let m = c.self.inside.playing in
    let s = subst (λ (m : Moment). StandsBehind m steps) (sym c.self.view_is) r in
    let long = long_counts m c.self.inside.counts.items c.self.inside.total c.self.invariant in
    let end = c.threads-thread-end.ensures.count in
    let below = c.loop-thread-test.true in
    let read = get_or_read c.self.inside.counts.items c.loop-thread.thread c.index-count.result.now (omega (arith, long, end, below)) c.index-count.ensures 0 in
    let left = c.if-left-count.true in
    subst (λ (m : Moment). slice_get (choices_after m.setup steps) c.args.k ≡ Some c.nth_choice.result) c.self.view_is
    (choice_at m c.self.inside.counts.items c.self.inside.total c.self.invariant steps s c.loop-thread.thread c.loop-thread.left c.args.k c.nth_choice.result (omega (arith, end, below)) c.loop-thread.invariant
    (omega (arith, read, left)) (c.nth_choice.ensures steps s))

pub loop-thread-preserved : goal.loop-thread-preserved
loop-thread-preserved c =
    let counts = c.self.inside.counts.items in
    let t = c.loop-thread.thread in
    let long = long_counts c.self.inside.playing counts c.self.inside.total c.self.invariant in
    let end = c.threads-thread-end.ensures.count in
    let below = c.loop-thread-test.true in
    let read = get_or_read counts t c.index-count.result.now (omega (arith, long, end, below)) c.index-count.ensures 0 in
    let more = ap sum (take_more counts t 0 (omega (arith, long, end, below))) ∙ sum_by_push (λ (n : ℕ). n) (take t counts) (get_or counts t 0) in
    let left = c.if-left-count.false in
    let old = c.loop-thread.invariant in
    omega (arith, read, more, left, old)

pub unreachable-requires : goal.unreachable-requires
unreachable-requires c =
    let m = c.self.inside.playing in
    let counts = c.self.inside.counts.items in
    let k = c.self.invariant in
    let long = long_counts m counts c.self.inside.total k in
    let end = c.threads-thread-end.ensures.count in
    let past = c.loop-thread-test.false in
    let whole = ap sum (take_all c.loop-thread.thread counts (omega (arith, long, end, past))) in
    let total = k.total in
    let all = all_counted m counts c.self.inside.total k k.steps k.stands in
    let lt = subst (λ (m : Moment). StandsBehind m k.steps → c.args.k < length (choices_after m.setup k.steps)) (sym c.self.view_is) (c.requires k.steps) k.stands in
    let old = c.loop-thread.invariant in
    omega (arith, whole, total, all, lt, old)
