use Rattle.std.proofs.Common.{◌≡◌, ◌∙◌, length, get_or, ap, sym, subst, arith}
use Rattle.std.proofs.lemmas.List.{get_or_read}
use Rattle.test_lang.specs.Play.Faults.{is_stale}
use Rattle.tso_machine.specs.Moments.{Moment, target_of}
use Rattle.tso_machine.specs.Moves.{IsPlaying}
use Rattle.tso_machine.proofs.Bounds.{long_values, long_values_before}
use Rattle.tso_machine.proofs.Shown.{memory_before, memory_now}
use Rattle.tso_machine.proofs.playing.Playing.memory.Goals as goal

pub index-requires : goal.index-requires
index-requires c =
    let m = c.args.self.now in
    let order = c.self.inside.order in
    let e : m.setup.target ≡ target_of order = ap (λ (m : Moment). m.setup.target) (sym c.self.view_is) in
    let k = subst (λ (m : Moment). IsPlaying m c.self.inside.buffers) c.self.view_is c.self.invariant in
    let long = long_values_before m order e k.steps k.stands in
    let same = ap (λ (m : Moment). length m.values_before) c.self.view_is in
    let ok = c.self.inside.values_before.ok.0 in
    let lt = c.requires.word in
    omega (arith, long, same, ok, lt)

pub index-requires-else-is_stale : goal.index-requires-else-is_stale
index-requires-else-is_stale c =
    let m = c.args.self.now in
    let order = c.self.inside.order in
    let e : m.setup.target ≡ target_of order = ap (λ (m : Moment). m.setup.target) (sym c.self.view_is) in
    let k = subst (λ (m : Moment). IsPlaying m c.self.inside.buffers) c.self.view_is c.self.invariant in
    let long = long_values m order e k.steps k.stands in
    let same = ap (λ (m : Moment). length m.values) c.self.view_is in
    let ok = c.self.inside.values.ok.0 in
    let lt = c.requires.word in
    omega (arith, long, same, ok, lt)

pub returns-then-is_stale : goal.returns-then-is_stale
returns-then-is_stale c =
    let m = c.args.self.now in
    let order = c.self.inside.order in
    let e : m.setup.target ≡ target_of order = ap (λ (m : Moment). m.setup.target) (sym c.self.view_is) in
    let k = subst (λ (m : Moment). IsPlaying m c.self.inside.buffers) c.self.view_is c.self.invariant in
    let long = long_values_before m order e k.steps k.stands in
    let same = ap (λ (m : Moment). length m.values_before) c.self.view_is in
    let lt = c.requires.word in
    let read = get_or_read c.self.inside.values_before.items c.args.word c.index.result.now (omega (arith, long, same, lt)) c.index.ensures 0 in
    let stale = sym (c.if-is_stale.ensures ∙ ap (λ (m : Moment). is_stale m.setup.fault c.args.node) c.self.view_is) in
    λ steps s. read ∙ ap (λ (m : Moment). get_or m.values_before c.args.word 0) c.self.view_is ∙ memory_before m order e steps s c.args.node c.args.word c.requires.word c.requires.load stale

pub returns-else-is_stale : goal.returns-else-is_stale
returns-else-is_stale c =
    let m = c.args.self.now in
    let order = c.self.inside.order in
    let e : m.setup.target ≡ target_of order = ap (λ (m : Moment). m.setup.target) (sym c.self.view_is) in
    let k = subst (λ (m : Moment). IsPlaying m c.self.inside.buffers) c.self.view_is c.self.invariant in
    let long = long_values m order e k.steps k.stands in
    let same = ap (λ (m : Moment). length m.values) c.self.view_is in
    let lt = c.requires.word in
    let read = get_or_read c.self.inside.values.items c.args.word c.index-else-is_stale.result.now (omega (arith, long, same, lt)) c.index-else-is_stale.ensures 0 in
    let fresh = sym (c.if-is_stale.ensures ∙ ap (λ (m : Moment). is_stale m.setup.fault c.args.node) c.self.view_is) in
    λ steps s. read ∙ ap (λ (m : Moment). get_or m.values c.args.word 0) c.self.view_is ∙ memory_now m order e steps s c.args.node c.args.word c.requires.word c.requires.load fresh
