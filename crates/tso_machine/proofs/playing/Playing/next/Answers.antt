use Rattle.std.proofs.Common.{◌≡◌, ◌∙◌, ◌<◌, length, get_or, ap, sym, subst, arith}
use Rattle.std.proofs.lemmas.List.{get_or_read}
use Rattle.test_lang.specs.Program.{first_node, thread_length}
use Rattle.tso_machine.specs.Moments.{Moment, target_of}
use Rattle.tso_machine.specs.Moves.{IsPlaying}
use Rattle.tso_machine.proofs.Bounds.{long_positions, next_none, next_some}
use Rattle.tso_machine.proofs.playing.Playing.next.Goals as goal

pub index-position-requires : goal.index-position-requires
index-position-requires c =
    let m = c.args.self.now in
    let order = c.self.inside.order in
    let e : m.setup.target ≡ target_of order = ap (λ (m : Moment). m.setup.target) (sym c.self.view_is) in
    let k = subst (λ (m : Moment). IsPlaying m c.self.inside.buffers) c.self.view_is c.self.invariant in
    let long = long_positions m order e k.steps k.stands in
    let same = ap (λ (m : Moment). length m.positions) c.self.view_is in
    let ok = c.self.inside.positions.ok.0 in
    let lt = c.requires in
    omega (arith, long, same, ok, lt)

pub returns-then-position-end-clause-next : goal.returns-then-position-end-clause-next
returns-then-position-end-clause-next c =
    let m = c.args.self.now in
    let order = c.self.inside.order in
    let e : m.setup.target ≡ target_of order = ap (λ (m : Moment). m.setup.target) (sym c.self.view_is) in
    let k = subst (λ (m : Moment). IsPlaying m c.self.inside.buffers) c.self.view_is c.self.invariant in
    let long = long_positions m order e k.steps k.stands in
    let t = c.args.thread in
    let lt = c.requires in
    let same = ap (λ (m : Moment). length m.positions) c.self.view_is in
    let inside : t < length c.self.inside.positions.items = omega (arith, long, same, lt) in
    let at = get_or_read c.self.inside.positions.items t c.index-position.result.now inside c.index-position.ensures 0 ∙ ap (λ (m : Moment). get_or m.positions t 0) c.self.view_is in
    λ steps s. next_some m order e steps s t c.index-position.result.now c.first_of.result c.len_of.result lt at
    (c.first_of.ensures.first ∙ ap (λ (m : Moment). first_node m.setup.test t) c.self.view_is)
    (c.len_of.ensures.count ∙ ap (λ (m : Moment). thread_length m.setup.test t) c.self.view_is)
    c.if-position-end.true

pub returns-else-position-end-clause-next : goal.returns-else-position-end-clause-next
returns-else-position-end-clause-next c =
    let m = c.args.self.now in
    let order = c.self.inside.order in
    let e : m.setup.target ≡ target_of order = ap (λ (m : Moment). m.setup.target) (sym c.self.view_is) in
    let k = subst (λ (m : Moment). IsPlaying m c.self.inside.buffers) c.self.view_is c.self.invariant in
    let long = long_positions m order e k.steps k.stands in
    let t = c.args.thread in
    let lt = c.requires in
    let same = ap (λ (m : Moment). length m.positions) c.self.view_is in
    let inside : t < length c.self.inside.positions.items = omega (arith, long, same, lt) in
    let at = get_or_read c.self.inside.positions.items t c.index-position.result.now inside c.index-position.ensures 0 ∙ ap (λ (m : Moment). get_or m.positions t 0) c.self.view_is in
    λ steps s. next_none m order e steps s t c.index-position.result.now c.first_of.result c.len_of.result lt at
    (c.first_of.ensures.first ∙ ap (λ (m : Moment). first_node m.setup.test t) c.self.view_is)
    (c.len_of.ensures.count ∙ ap (λ (m : Moment). thread_length m.setup.test t) c.self.view_is)
    c.if-position-end.false
