use Rattle.std.proofs.Common.{◌≡◌, ◌∙◌, ℕ, ◌<◌, List, Some, length, get_or, ap, sym, subst, arith}
use Rattle.std.proofs.lemmas.List.{get_or_read}
use Rattle.test_lang.specs.declared.op.Op.TheVariants as ops
use Rattle.test_lang.specs.declared.op.Action.TheVariants.{Fence}
use Rattle.test_lang.specs.declared.step.Step.TheVariants.{Execute}
use Rattle.test_lang.specs.Program.{op_count}
use Rattle.test_lang.specs.Values.{is_fence_at}
use Rattle.test_lang.proofs.ActionNodes.{op_at-action}
use Rattle.test_lang.proofs.Nodes.{is_fence_at-op}
use Rattle.tso_machine.specs.declared.playing.StoreOrder.{StoreOrder}
use Rattle.tso_machine.specs.Queues.{Queues}
use Rattle.tso_machine.specs.Moments.{Moment, target_of}
use Rattle.tso_machine.specs.Moves.{IsEnabled, IsNext, IsPlaying}
use Rattle.tso_machine.proofs.Bounds.{long_positions, next_below}
use Rattle.tso_machine.proofs.Shown.{order_of}
use Rattle.tso_machine.proofs.Steps.{position_next}
use Rattle.tso_machine.proofs.playing.Playing.execute.Goals as goal

-- the node at the thread's position is its next operation
next_at : (m : Moment) (t n : ℕ) → t < length m.setup.test.threads → IsEnabled m (Execute t) → n ≡ get_or m.positions t 0 → IsNext m t n
next_at m t n lt enabled at = λ steps s.
    let o = order_of m.setup.target s.has_buffers in
    position_next m o.0 o.1 steps s t lt (enabled steps s) ∙ ap (λ (k : ℕ). Some k) (sym at)

in_positions : (m : Moment) (order : StoreOrder) (queues : Queues) (positions : List ℕ) (e : m.setup.target ≡ target_of order) → IsPlaying m queues → positions ≡ m.positions → (t : ℕ) → t < length m.setup.test.threads → t < length positions
in_positions m order queues positions e k is t lt =
    let long = long_positions m order e k.steps k.stands in
    let same = ap length is in
    omega (arith, long, same, lt)

pub index-node-requires : goal.index-node-requires
index-node-requires c =
    let m = c.args.self.now in
    let order = c.self.inside.order in
    let e : m.setup.target ≡ target_of order = ap (λ (m : Moment). m.setup.target) (sym c.self.view_is) in
    let k = subst (λ (m : Moment). IsPlaying m c.self.inside.buffers) c.self.view_is c.self.invariant in
    let long = long_positions m order e k.steps k.stands in
    let same = ap (λ (m : Moment). length m.positions) c.self.view_is in
    let ok = c.self.inside.positions.ok.0 in
    let lt = c.requires.thread in
    omega (arith, long, same, ok, lt)

pub action-requires : goal.action-requires
action-requires c =
    let m = c.args.self.now in
    let order = c.self.inside.order in
    let e : m.setup.target ≡ target_of order = ap (λ (m : Moment). m.setup.target) (sym c.self.view_is) in
    let k = subst (λ (m : Moment). IsPlaying m c.self.inside.buffers) c.self.view_is c.self.invariant in
    let long = long_positions m order e k.steps k.stands in
    let same = ap (λ (m : Moment). length m.positions) c.self.view_is in
    let t = c.args.thread in
    let lt = c.requires.thread in
    let at = get_or_read c.self.inside.positions.items t c.index-node.result.now (omega (arith, long, same, lt)) c.index-node.ensures 0 ∙ ap (λ (m : Moment). get_or m.positions t 0) c.self.view_is in
    let below = next_below m order e k.steps k.stands t c.index-node.result.now (next_at m t c.index-node.result.now lt c.requires.enabled at) in
    subst (λ (m : Moment). c.index-node.result.now < op_count m.setup.test) (sym c.self.view_is) below

pub execute_load-requires-clause-next : goal.execute_load-requires-clause-next
execute_load-requires-clause-next c = next_at c.args.self.now c.args.thread c.index-node.result.now c.requires.thread c.requires.enabled
    (get_or_read c.self.inside.positions.items c.args.thread c.index-node.result.now (in_positions c.args.self.now c.self.inside.order c.self.inside.buffers c.self.inside.positions.items (ap (λ (m : Moment). m.setup.target) (sym c.self.view_is))
    (subst (λ (m : Moment). IsPlaying m c.self.inside.buffers) c.self.view_is c.self.invariant) (ap (λ (m : Moment). m.positions) c.self.view_is) c.args.thread c.requires.thread) c.index-node.ensures 0
    ∙ ap (λ (m : Moment). get_or m.positions c.args.thread 0) c.self.view_is)

pub execute_entry-requires-clause-next : goal.execute_entry-requires-clause-next
execute_entry-requires-clause-next c = next_at c.args.self.now c.args.thread c.index-node.result.now c.requires.thread c.requires.enabled
    (get_or_read c.self.inside.positions.items c.args.thread c.index-node.result.now (in_positions c.args.self.now c.self.inside.order c.self.inside.buffers c.self.inside.positions.items (ap (λ (m : Moment). m.setup.target) (sym c.self.view_is))
    (subst (λ (m : Moment). IsPlaying m c.self.inside.buffers) c.self.view_is c.self.invariant) (ap (λ (m : Moment). m.positions) c.self.view_is) c.args.thread c.requires.thread) c.index-node.ensures 0
    ∙ ap (λ (m : Moment). get_or m.positions c.args.thread 0) c.self.view_is)

pub execute_entry-requires-then-not-frees_fences-clause-next : goal.execute_entry-requires-then-not-frees_fences-clause-next
execute_entry-requires-then-not-frees_fences-clause-next c = next_at c.args.self.now c.args.thread c.index-node.result.now c.requires.thread c.requires.enabled
    (get_or_read c.self.inside.positions.items c.args.thread c.index-node.result.now (in_positions c.args.self.now c.self.inside.order c.self.inside.buffers c.self.inside.positions.items (ap (λ (m : Moment). m.setup.target) (sym c.self.view_is))
    (subst (λ (m : Moment). IsPlaying m c.self.inside.buffers) c.self.view_is c.self.invariant) (ap (λ (m : Moment). m.positions) c.self.view_is) c.args.thread c.requires.thread) c.index-node.ensures 0
    ∙ ap (λ (m : Moment). get_or m.positions c.args.thread 0) c.self.view_is)

pub execute_fence-requires-clause-next : goal.execute_fence-requires-clause-next
execute_fence-requires-clause-next c = next_at c.args.self.now c.args.thread c.index-node.result.now c.requires.thread c.requires.enabled
    (get_or_read c.self.inside.positions.items c.args.thread c.index-node.result.now (in_positions c.args.self.now c.self.inside.order c.self.inside.buffers c.self.inside.positions.items (ap (λ (m : Moment). m.setup.target) (sym c.self.view_is))
    (subst (λ (m : Moment). IsPlaying m c.self.inside.buffers) c.self.view_is c.self.invariant) (ap (λ (m : Moment). m.positions) c.self.view_is) c.args.thread c.requires.thread) c.index-node.ensures 0
    ∙ ap (λ (m : Moment). get_or m.positions c.args.thread 0) c.self.view_is)

pub execute_fence-requires-clause-fence : goal.execute_fence-requires-clause-fence
execute_fence-requires-clause-fence c =
    sym (ap (λ (m : Moment). is_fence_at m.setup.test c.index-node.result.now) c.self.view_is)
    ∙ is_fence_at-op c.self.inside.test c.index-node.result.now ops.Fence (op_at-action c.self.inside.test c.index-node.result.now (Fence c.in-Fence.kind) c.in-Fence.ensures.found)
