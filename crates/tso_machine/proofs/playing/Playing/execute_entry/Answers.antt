use Rattle.std.proofs.Common.{◌≡◌, ◌+◌, ◌<◌, true, length, set, ap, sym, subst, arith}
use Rattle.test_lang.specs.declared.step.Step.TheVariants.{Execute}
use Rattle.test_lang.specs.Play.Machines.{waits_at}
use Rattle.tso_machine.specs.Moments.{Moment, moment_of, target_of}
use Rattle.tso_machine.specs.Moves.{IsEnabled, IsNext, IsPlaying, Takes}
use Rattle.tso_machine.proofs.Bounds.{long_buffers, long_positions, next_below}
use Rattle.tso_machine.proofs.Goings.{goes_entry}
use Rattle.tso_machine.proofs.Steps.{room_left}
use Rattle.tso_machine.proofs.playing.Playing.execute_entry.Goals as goal

pub push-requires-clause-thread : goal.push-requires-clause-thread
push-requires-clause-thread c =
    let m = c.args.self.now in
    let order = c.self.inside.order in
    let e : m.setup.target ≡ target_of order = ap (λ (m : Moment). m.setup.target) (sym c.self.view_is) in
    let k = subst (λ (m : Moment). IsPlaying m c.self.inside.buffers) c.self.view_is c.self.invariant in
    let long = long_buffers m order e k.steps k.stands in
    let same = ap (λ (m : Moment). length m.buffers) c.self.view_is in
    let lt = c.requires.thread in
    omega (arith, long, same, lt)

pub push-requires-clause-room : goal.push-requires-clause-room
push-requires-clause-room c =
    let m = c.args.self.now in
    let order = c.self.inside.order in
    let e : m.setup.target ≡ target_of order = ap (λ (m : Moment). m.setup.target) (sym c.self.view_is) in
    let k = subst (λ (m : Moment). IsPlaying m c.self.inside.buffers) c.self.view_is c.self.invariant in
    room_left m order e c.self.inside.buffers k c.args.thread c.args.node c.requires.thread c.requires.next

pub overflow_add-node : goal.overflow_add-node
overflow_add-node c =
    let m = c.args.self.now in
    let order = c.self.inside.order in
    let e : m.setup.target ≡ target_of order = ap (λ (m : Moment). m.setup.target) (sym c.self.view_is) in
    let k = subst (λ (m : Moment). IsPlaying m c.self.inside.buffers) c.self.view_is c.self.invariant in
    let below = next_below m order e k.steps k.stands c.args.thread c.args.node c.requires.next in
    let few = k.stands.limits.operations in
    omega (arith, below, few)

pub index_mut-requires : goal.index_mut-requires
index_mut-requires c =
    let m = c.args.self.now in
    let order = c.self.inside.order in
    let e : m.setup.target ≡ target_of order = ap (λ (m : Moment). m.setup.target) (sym c.self.view_is) in
    let k = subst (λ (m : Moment). IsPlaying m c.self.inside.buffers) c.self.view_is c.self.invariant in
    let long = long_positions m order e k.steps k.stands in
    let same = ap (λ (m : Moment). length m.positions) c.self.view_is in
    let ok = c.self.inside.positions.ok.0 in
    let lt = c.requires.thread in
    omega (arith, long, same, ok, lt)

pub invariant_of-self : goal.invariant_of-self
invariant_of-self c =
    let i = c.self.inside in
    let back = sym c.self.view_is in
    let t = c.args.thread in
    let n = c.args.node in
    let lt = subst (λ (m : Moment). t < length m.setup.test.threads) back c.requires.thread in
    let next = subst (λ (m : Moment). IsNext m t n) back c.requires.next in
    let enabled = subst (λ (m : Moment). IsEnabled m (Execute t)) back c.requires.enabled in
    let waits = subst (λ (m : Moment). waits_at m.setup.target m.setup.fault m.setup.test n ≡ true) back c.requires.entry in
    (goes_entry i.order i.fault i.test i.positions.items i.buffers i.values.items i.values_before.items i.loads.items c.self.invariant t n lt next enabled c.push.new.self c.push.ensures waits).playing

pub returns : goal.returns
returns c =
    let i = c.self.inside in
    let back = sym c.self.view_is in
    let t = c.args.thread in
    let n = c.args.node in
    let lt = subst (λ (m : Moment). t < length m.setup.test.threads) back c.requires.thread in
    let next = subst (λ (m : Moment). IsNext m t n) back c.requires.next in
    let enabled = subst (λ (m : Moment). IsEnabled m (Execute t)) back c.requires.enabled in
    let waits = subst (λ (m : Moment). waits_at m.setup.target m.setup.fault m.setup.test n ≡ true) back c.requires.entry in
    subst (λ (old : Moment). Takes old (moment_of i.order i.fault i.test (set i.positions.items t (n + 1)) c.push.new.self i.values.items i.values_before.items i.loads.items) (Execute t)) c.self.view_is
    (goes_entry i.order i.fault i.test i.positions.items i.buffers i.values.items i.values_before.items i.loads.items c.self.invariant t n lt next enabled c.push.new.self c.push.ensures waits).taken
