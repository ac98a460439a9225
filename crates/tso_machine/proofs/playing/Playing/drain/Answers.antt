use Rattle.std.proofs.Common.{◌≡◌, ◌∙◌, ℕ, ◌<◌, List, [], false, length, get_or, set, ap, sym, subst, arith, refl}
use Rattle.std.proofs.lemmas.List.{get_or_read}
use Rattle.sim_core.specs.Setup.{state_after}
use Rattle.test_lang.specs.declared.op.Op.TheVariants as ops
use Rattle.test_lang.specs.declared.op.Action.{Action}
use Rattle.test_lang.specs.declared.op.Action.TheVariants.{Load, Store, Fence}
use Rattle.test_lang.specs.declared.step.Step.TheVariants.{Drain}
use Rattle.test_lang.specs.Actions.{op_of}
use Rattle.test_lang.specs.Program.{op_count}
use Rattle.test_lang.specs.Values.{is_store}
use Rattle.test_lang.proofs.ActionNodes.{op_at-action}
use Rattle.test_lang.proofs.Nodes.{is_store_at-op}
use Rattle.tso_machine.specs.Moments.{Moment, moment_of, target_of}
use Rattle.tso_machine.specs.Moves.{IsEnabled, IsPlaying, Takes}
use Rattle.tso_machine.proofs.Bounds.{buffer_at, long_buffers, long_values, long_values_before}
use Rattle.tso_machine.proofs.Goings.{goes_out, goes_store}
use Rattle.tso_machine.proofs.Steps.{enabled_place}
use Rattle.tso_machine.proofs.playing.Playing.drain.Goals as goal

no_store : (action : Action) → ((x : ℕ) → action ≡ Store x → ⊥) → is_store (op_of action) ≡ false
no_store (Load x) other = refl
no_store (Store x) other = absurd (other x refl)
no_store (Fence kind) other = refl

pub bounds-entries-place : goal.bounds-entries-place
bounds-entries-place c =
    let m = c.args.self.now in
    let order = c.self.inside.order in
    let e : m.setup.target ≡ target_of order = ap (λ (m : Moment). m.setup.target) (sym c.self.view_is) in
    let k = subst (λ (m : Moment). IsPlaying m c.self.inside.buffers) c.self.view_is c.self.invariant in
    let t = c.args.thread in
    let within = enabled_place m.setup.target m.setup.fault m.setup.test (state_after m.setup k.steps) t c.args.place (c.requires.enabled k.steps k.stands) in
    let same = ap length (buffer_at m order e k.steps k.stands t c.requires.thread) in
    let entries = ap length c.entries.ensures.entries in
    omega (arith, within, same, entries)

pub remove-requires-clause-thread : goal.remove-requires-clause-thread
remove-requires-clause-thread c =
    let m = c.args.self.now in
    let order = c.self.inside.order in
    let e : m.setup.target ≡ target_of order = ap (λ (m : Moment). m.setup.target) (sym c.self.view_is) in
    let k = subst (λ (m : Moment). IsPlaying m c.self.inside.buffers) c.self.view_is c.self.invariant in
    let long = long_buffers m order e k.steps k.stands in
    let same = ap (λ (m : Moment). length m.buffers) c.self.view_is in
    let lt = c.requires.thread in
    omega (arith, long, same, lt)

pub remove-requires-clause-place : goal.remove-requires-clause-place
remove-requires-clause-place c =
    let m = c.args.self.now in
    let order = c.self.inside.order in
    let e : m.setup.target ≡ target_of order = ap (λ (m : Moment). m.setup.target) (sym c.self.view_is) in
    let k = subst (λ (m : Moment). IsPlaying m c.self.inside.buffers) c.self.view_is c.self.invariant in
    let t = c.args.thread in
    let within = enabled_place m.setup.target m.setup.fault m.setup.test (state_after m.setup k.steps) t c.args.place (c.requires.enabled k.steps k.stands) in
    let same = ap length (buffer_at m order e k.steps k.stands t c.requires.thread) in
    let entries = ap (λ (m : Moment). length (get_or m.buffers t [])) c.self.view_is in
    omega (arith, within, same, entries)

pub action-requires : goal.action-requires
action-requires c =
    let m = c.args.self.now in
    let order = c.self.inside.order in
    let e : m.setup.target ≡ target_of order = ap (λ (m : Moment). m.setup.target) (sym c.self.view_is) in
    let k = subst (λ (m : Moment). IsPlaying m c.self.inside.buffers) c.self.view_is c.self.invariant in
    let t = c.args.thread in
    let within = enabled_place m.setup.target m.setup.fault m.setup.test (state_after m.setup k.steps) t c.args.place (c.requires.enabled k.steps k.stands) in
    let same = ap length (buffer_at m order e k.steps k.stands t c.requires.thread) in
    let entries = ap length c.entries.ensures.entries in
    let below = c.entries.ensures.nodes c.args.place 0 (omega (arith, within, same, entries)) in
    subst (λ (m : Moment). get_or c.entries.result.now c.args.place 0 < op_count m.setup.test) (sym c.self.view_is) below

pub index-requires : goal.index-requires
index-requires c =
    let m = c.args.self.now in
    let order = c.self.inside.order in
    let e : m.setup.target ≡ target_of order = ap (λ (m : Moment). m.setup.target) (sym c.self.view_is) in
    let k = subst (λ (m : Moment). IsPlaying m c.self.inside.buffers) c.self.view_is c.self.invariant in
    let long = long_values m order e k.steps k.stands in
    let same = ap (λ (m : Moment). length m.values) c.self.view_is in
    let words = ap (λ (m : Moment). m.setup.test.words) c.self.view_is in
    let ok = c.self.inside.values.ok.0 in
    let lt = c.in-Store.ensures.word in
    omega (arith, long, same, words, ok, lt)

pub index_mut-requires : goal.index_mut-requires
index_mut-requires c =
    let m = c.args.self.now in
    let order = c.self.inside.order in
    let e : m.setup.target ≡ target_of order = ap (λ (m : Moment). m.setup.target) (sym c.self.view_is) in
    let k = subst (λ (m : Moment). IsPlaying m c.self.inside.buffers) c.self.view_is c.self.invariant in
    let long = long_values_before m order e k.steps k.stands in
    let same = ap (λ (m : Moment). length m.values_before) c.self.view_is in
    let words = ap (λ (m : Moment). m.setup.test.words) c.self.view_is in
    let ok = c.self.inside.values_before.ok.0 in
    let lt = c.in-Store.ensures.word in
    omega (arith, long, same, words, ok, lt)

pub value_of-requires : goal.value_of-requires
value_of-requires c =
    is_store_at-op c.self.inside.test (get_or c.entries.result.now c.args.place 0) (ops.Store c.in-Store.word)
    (op_at-action c.self.inside.test (get_or c.entries.result.now c.args.place 0) (Store c.in-Store.word) c.in-Store.ensures.found)

pub index_mut-requires-in-Store : goal.index_mut-requires-in-Store
index_mut-requires-in-Store c =
    let m = c.args.self.now in
    let order = c.self.inside.order in
    let e : m.setup.target ≡ target_of order = ap (λ (m : Moment). m.setup.target) (sym c.self.view_is) in
    let k = subst (λ (m : Moment). IsPlaying m c.self.inside.buffers) c.self.view_is c.self.invariant in
    let long = long_values m order e k.steps k.stands in
    let same = ap (λ (m : Moment). length m.values) c.self.view_is in
    let words = ap (λ (m : Moment). m.setup.test.words) c.self.view_is in
    let ok = c.self.inside.values.ok.0 in
    let lt = c.in-Store.ensures.word in
    omega (arith, long, same, words, ok, lt)

pub invariant_of-self : goal.invariant_of-self
invariant_of-self c =
    let i = c.self.inside in
    let back = sym c.self.view_is in
    let t = c.args.thread in
    let place = c.args.place in
    let k = subst (λ (m : Moment). IsPlaying m i.buffers) c.self.view_is c.self.invariant in
    let m = c.args.self.now in
    let order = i.order in
    let e : m.setup.target ≡ target_of order = ap (λ (m : Moment). m.setup.target) back in
    let long = ap length (buffer_at m order e k.steps k.stands t c.requires.thread) in
    let has = enabled_place m.setup.target m.setup.fault m.setup.test (state_after m.setup k.steps) t place (c.requires.enabled k.steps k.stands) in
    let within : place < length (get_or m.buffers t []) = omega (arith, long, has) in
    let lt = subst (λ (m : Moment). t < length m.setup.test.threads) back c.requires.thread in
    let enabled = subst (λ (m : Moment). IsEnabled m (Drain t place)) back c.requires.enabled in
    let inside = subst (λ (m : Moment). place < length (get_or m.buffers t [])) back within in
    let entries : get_or i.buffers.entries t [] ≡ c.entries.result.now = ap (λ (m : Moment). get_or m.buffers t []) c.self.view_is ∙ sym c.entries.ensures.entries in
    let n = get_or c.entries.result.now place 0 in
    let entry = ap (λ (xs : List ℕ). get_or xs place 0) entries in
    let values_long = long_values m order e k.steps k.stands in
    let values_same = ap (λ (m : Moment). length m.values) c.self.view_is in
    let words = ap (λ (m : Moment). m.setup.test.words) c.self.view_is in
    let word_in = c.in-Store.ensures.word in
    let was = get_or_read i.values.items c.in-Store.word c.index.result.now (omega (arith, values_long, values_same, words, word_in)) c.index.ensures 0 in
    (goes_store i.order i.fault i.test i.positions.items i.buffers i.values.items i.values_before.items i.loads.items c.self.invariant t place n lt inside entry enabled c.remove.new.self c.remove.ensures c.in-Store.word c.value_of.result c.index.result.now c.in-Store.ensures.found word_in c.value_of.ensures.value was).playing

pub invariant_of-self-in_default : goal.invariant_of-self-in_default
invariant_of-self-in_default c =
    let i = c.self.inside in
    let back = sym c.self.view_is in
    let t = c.args.thread in
    let place = c.args.place in
    let k = subst (λ (m : Moment). IsPlaying m i.buffers) c.self.view_is c.self.invariant in
    let m = c.args.self.now in
    let order = i.order in
    let e : m.setup.target ≡ target_of order = ap (λ (m : Moment). m.setup.target) back in
    let long = ap length (buffer_at m order e k.steps k.stands t c.requires.thread) in
    let has = enabled_place m.setup.target m.setup.fault m.setup.test (state_after m.setup k.steps) t place (c.requires.enabled k.steps k.stands) in
    let within : place < length (get_or m.buffers t []) = omega (arith, long, has) in
    let lt = subst (λ (m : Moment). t < length m.setup.test.threads) back c.requires.thread in
    let enabled = subst (λ (m : Moment). IsEnabled m (Drain t place)) back c.requires.enabled in
    let inside = subst (λ (m : Moment). place < length (get_or m.buffers t [])) back within in
    let entries : get_or i.buffers.entries t [] ≡ c.entries.result.now = ap (λ (m : Moment). get_or m.buffers t []) c.self.view_is ∙ sym c.entries.ensures.entries in
    let n = get_or c.entries.result.now place 0 in
    let entry = ap (λ (xs : List ℕ). get_or xs place 0) entries in
    (goes_out i.order i.fault i.test i.positions.items i.buffers i.values.items i.values_before.items i.loads.items c.self.invariant t place n lt inside entry enabled c.remove.new.self c.remove.ensures (op_of c.action.result) (op_at-action i.test n c.action.result c.action.ensures.found) (no_store c.action.result c.in_default.not-Store)).playing

pub returns-in-Store : goal.returns-in-Store
returns-in-Store c =
    let i = c.self.inside in
    let back = sym c.self.view_is in
    let t = c.args.thread in
    let place = c.args.place in
    let k = subst (λ (m : Moment). IsPlaying m i.buffers) c.self.view_is c.self.invariant in
    let m = c.args.self.now in
    let order = i.order in
    let e : m.setup.target ≡ target_of order = ap (λ (m : Moment). m.setup.target) back in
    let long = ap length (buffer_at m order e k.steps k.stands t c.requires.thread) in
    let has = enabled_place m.setup.target m.setup.fault m.setup.test (state_after m.setup k.steps) t place (c.requires.enabled k.steps k.stands) in
    let within : place < length (get_or m.buffers t []) = omega (arith, long, has) in
    let lt = subst (λ (m : Moment). t < length m.setup.test.threads) back c.requires.thread in
    let enabled = subst (λ (m : Moment). IsEnabled m (Drain t place)) back c.requires.enabled in
    let inside = subst (λ (m : Moment). place < length (get_or m.buffers t [])) back within in
    let entries : get_or i.buffers.entries t [] ≡ c.entries.result.now = ap (λ (m : Moment). get_or m.buffers t []) c.self.view_is ∙ sym c.entries.ensures.entries in
    let n = get_or c.entries.result.now place 0 in
    let entry = ap (λ (xs : List ℕ). get_or xs place 0) entries in
    let values_long = long_values m order e k.steps k.stands in
    let values_same = ap (λ (m : Moment). length m.values) c.self.view_is in
    let words = ap (λ (m : Moment). m.setup.test.words) c.self.view_is in
    let word_in = c.in-Store.ensures.word in
    let was = get_or_read i.values.items c.in-Store.word c.index.result.now (omega (arith, values_long, values_same, words, word_in)) c.index.ensures 0 in
    subst (λ (old : Moment). Takes old (moment_of i.order i.fault i.test i.positions.items c.remove.new.self (set i.values.items c.in-Store.word c.value_of.result) (set i.values_before.items c.in-Store.word c.index.result.now) i.loads.items)
    (Drain t place)) c.self.view_is
    (goes_store i.order i.fault i.test i.positions.items i.buffers i.values.items i.values_before.items i.loads.items c.self.invariant t place n lt inside entry enabled c.remove.new.self c.remove.ensures c.in-Store.word c.value_of.result c.index.result.now c.in-Store.ensures.found word_in c.value_of.ensures.value was).taken

pub returns-in_default : goal.returns-in_default
returns-in_default c =
    let i = c.self.inside in
    let back = sym c.self.view_is in
    let t = c.args.thread in
    let place = c.args.place in
    let k = subst (λ (m : Moment). IsPlaying m i.buffers) c.self.view_is c.self.invariant in
    let m = c.args.self.now in
    let order = i.order in
    let e : m.setup.target ≡ target_of order = ap (λ (m : Moment). m.setup.target) back in
    let long = ap length (buffer_at m order e k.steps k.stands t c.requires.thread) in
    let has = enabled_place m.setup.target m.setup.fault m.setup.test (state_after m.setup k.steps) t place (c.requires.enabled k.steps k.stands) in
    let within : place < length (get_or m.buffers t []) = omega (arith, long, has) in
    let lt = subst (λ (m : Moment). t < length m.setup.test.threads) back c.requires.thread in
    let enabled = subst (λ (m : Moment). IsEnabled m (Drain t place)) back c.requires.enabled in
    let inside = subst (λ (m : Moment). place < length (get_or m.buffers t [])) back within in
    let entries : get_or i.buffers.entries t [] ≡ c.entries.result.now = ap (λ (m : Moment). get_or m.buffers t []) c.self.view_is ∙ sym c.entries.ensures.entries in
    let n = get_or c.entries.result.now place 0 in
    let entry = ap (λ (xs : List ℕ). get_or xs place 0) entries in
    subst (λ (old : Moment). Takes old (moment_of i.order i.fault i.test i.positions.items c.remove.new.self i.values.items i.values_before.items i.loads.items) (Drain t place)) c.self.view_is
    (goes_out i.order i.fault i.test i.positions.items i.buffers i.values.items i.values_before.items i.loads.items c.self.invariant t place n lt inside entry enabled c.remove.new.self c.remove.ensures (op_of c.action.result) (op_at-action i.test n c.action.result c.action.ensures.found) (no_store c.action.result c.in_default.not-Store)).taken
