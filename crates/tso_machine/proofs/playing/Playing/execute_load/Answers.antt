use Rattle.std.proofs.Common.{◌≡◌, ◌+◌, ◌<◌, List, Some, length, set, ap, sym, subst, arith}
use Rattle.sim_core.specs.Setup.{state_after}
use Rattle.test_lang.specs.declared.op.Op.TheVariants as ops
use Rattle.test_lang.specs.declared.op.Action.TheVariants.{Load}
use Rattle.test_lang.specs.declared.step.Step.{Step}
use Rattle.test_lang.specs.declared.step.Step.TheVariants.{Execute}
use Rattle.test_lang.specs.Program.{action_at}
use Rattle.test_lang.specs.Values.{load_count}
use Rattle.test_lang.specs.Play.Machines.{value}
use Rattle.test_lang.proofs.ActionNodes.{op_at-action}
use Rattle.test_lang.proofs.Nodes.{is_load_at-op}
use Rattle.tso_machine.specs.Moments.{Moment, StandsBehind, moment_of, target_of}
use Rattle.tso_machine.specs.Moves.{IsEnabled, IsNext, IsPlaying, Takes}
use Rattle.tso_machine.proofs.Bounds.{long_loads, long_positions}
use Rattle.tso_machine.proofs.Goings.{goes_load}
use Rattle.tso_machine.proofs.playing.Playing.execute_load.Goals as goal

pub rank_of-rank-requires : goal.rank_of-rank-requires
rank_of-rank-requires c =
    let is = subst (λ (m : Moment). action_at m.setup.test c.args.node ≡ Some (Load c.args.word)) (sym c.self.view_is) c.requires.load in
    is_load_at-op c.self.inside.test c.args.node (ops.Load c.args.word) (op_at-action c.self.inside.test c.args.node (Load c.args.word) is)

pub index_mut-requires : goal.index_mut-requires
index_mut-requires c =
    let m = c.args.self.now in
    let order = c.self.inside.order in
    let e : m.setup.target ≡ target_of order = ap (λ (m : Moment). m.setup.target) (sym c.self.view_is) in
    let k = subst (λ (m : Moment). IsPlaying m c.self.inside.buffers) c.self.view_is c.self.invariant in
    let long = long_loads m order e k.steps k.stands in
    let same = ap (λ (m : Moment). length m.loads) c.self.view_is in
    let test = ap (λ (m : Moment). load_count m.setup.test) c.self.view_is in
    let ok = c.self.inside.loads.ok.0 in
    let lt = c.rank_of-rank.ensures.in_range in
    omega (arith, long, same, test, ok, lt)

pub index_mut-requires-2 : goal.index_mut-requires-2
index_mut-requires-2 c =
    let m = c.args.self.now in
    let order = c.self.inside.order in
    let e : m.setup.target ≡ target_of order = ap (λ (m : Moment). m.setup.target) (sym c.self.view_is) in
    let k = subst (λ (m : Moment). IsPlaying m c.self.inside.buffers) c.self.view_is c.self.invariant in
    let long = long_positions m order e k.steps k.stands in
    let same = ap (λ (m : Moment). length m.positions) c.self.view_is in
    let ok = c.self.inside.positions.ok.0 in
    let lt = c.requires.thread in
    omega (arith, long, same, ok, lt)

pub invariant_of-self : goal.invariant_of-self
invariant_of-self c =
    let i = c.self.inside in
    let back = sym c.self.view_is in
    let t = c.args.thread in
    let n = c.args.node in
    let lt = subst (λ (m : Moment). t < length m.setup.test.threads) back c.requires.thread in
    let next = subst (λ (m : Moment). IsNext m t n) back c.requires.next in
    let enabled = subst (λ (m : Moment). IsEnabled m (Execute t)) back c.requires.enabled in
    let is = subst (λ (m : Moment). action_at m.setup.test n ≡ Some (Load c.args.word)) back c.requires.load in
    let gives = subst (λ (m : Moment). (steps : List Step) → StandsBehind m steps → c.value-value.result ≡ value m.setup.target m.setup.fault m.setup.test (state_after m.setup steps) n) back c.value-value.ensures in
    (goes_load i.order i.fault i.test i.positions.items i.buffers i.values.items i.values_before.items i.loads.items c.self.invariant t n lt next enabled c.args.word c.value-value.result c.rank_of-rank.result is gives c.rank_of-rank.ensures.rank).playing

pub returns : goal.returns
returns c =
    let i = c.self.inside in
    let back = sym c.self.view_is in
    let t = c.args.thread in
    let n = c.args.node in
    let lt = subst (λ (m : Moment). t < length m.setup.test.threads) back c.requires.thread in
    let next = subst (λ (m : Moment). IsNext m t n) back c.requires.next in
    let enabled = subst (λ (m : Moment). IsEnabled m (Execute t)) back c.requires.enabled in
    let is = subst (λ (m : Moment). action_at m.setup.test n ≡ Some (Load c.args.word)) back c.requires.load in
    let gives = subst (λ (m : Moment). (steps : List Step) → StandsBehind m steps → c.value-value.result ≡ value m.setup.target m.setup.fault m.setup.test (state_after m.setup steps) n) back c.value-value.ensures in
    subst (λ (old : Moment). Takes old (moment_of i.order i.fault i.test (set i.positions.items t (n + 1)) i.buffers i.values.items i.values_before.items (set i.loads.items c.rank_of-rank.result c.value-value.result)) (Execute t)) c.self.view_is
    (goes_load i.order i.fault i.test i.positions.items i.buffers i.values.items i.values_before.items i.loads.items c.self.invariant t n lt next enabled c.args.word c.value-value.result c.rank_of-rank.result is gives c.rank_of-rank.ensures.rank).taken
