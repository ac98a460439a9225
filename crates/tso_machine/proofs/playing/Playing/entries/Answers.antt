use Rattle.std.proofs.Common.{◌≡◌, ◌∙◌, ℕ, ◌<◌, List, [], length, get_or, All, ap, sym, subst, arith}
use Rattle.test_lang.specs.Program.{op_count, thread_length}
use Rattle.test_lang.proofs.Threads.{thread_end-le}
use Rattle.tso_machine.specs.Moments.{Moment, target_of}
use Rattle.tso_machine.specs.Moves.{IsPlaying}
use Rattle.tso_machine.proofs.Bounds.{buffer_nodes, long_buffers}
use Rattle.sim_core.proofs.BelowLists.{get_or-map_below}
use Rattle.tso_machine.proofs.playing.Playing.entries.Goals as goal

pub of-requires : goal.of-requires
of-requires c =
    let m = c.args.self.now in
    let order = c.self.inside.order in
    let e : m.setup.target ≡ target_of order = ap (λ (m : Moment). m.setup.target) (sym c.self.view_is) in
    let k = subst (λ (m : Moment). IsPlaying m c.self.inside.buffers) c.self.view_is c.self.invariant in
    let long = long_buffers m order e k.steps k.stands in
    let same = ap (λ (m : Moment). length m.buffers) c.self.view_is in
    let lt = c.requires in
    omega (arith, long, same, lt)

pub returns-clause-nodes : goal.returns-clause-nodes
returns-clause-nodes c =
    let m = c.args.self.now in
    let order = c.self.inside.order in
    let e : m.setup.target ≡ target_of order = ap (λ (m : Moment). m.setup.target) (sym c.self.view_is) in
    let k = subst (λ (m : Moment). IsPlaying m c.self.inside.buffers) c.self.view_is c.self.invariant in
    let same : get_or m.buffers c.args.thread [] ≡ c.of.result.now = sym (c.of.ensures.entries ∙ ap (λ (m : Moment). get_or m.buffers c.args.thread []) c.self.view_is) in
    subst (All (λ node. node < op_count m.setup.test)) same (buffer_nodes m order e k.steps k.stands c.args.thread c.requires)

pub returns-clause-few : goal.returns-clause-few
returns-clause-few c =
    let m = c.args.self.now in
    let order = c.self.inside.order in
    let e : m.setup.target ≡ target_of order = ap (λ (m : Moment). m.setup.target) (sym c.self.view_is) in
    let k = subst (λ (m : Moment). IsPlaying m c.self.inside.buffers) c.self.view_is c.self.invariant in
    let t = c.args.thread in
    let few = c.of.ensures.few in
    let room : get_or c.self.inside.buffers.rooms t 0 ≡ thread_length m.setup.test t =
    ap (λ (xs : List ℕ). get_or xs t 0) k.rooms ∙ get_or-map_below (thread_length m.setup.test) (length m.setup.test.threads) t 0 c.requires in
    let end = thread_end-le m.setup.test t in
    let limit = k.stands.limits.operations in
    omega (arith, few, room, end, limit)
