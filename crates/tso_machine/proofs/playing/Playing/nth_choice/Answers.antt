use Rattle.std.proofs.Common.{◌∙◌, ℕ, ◌-◌, ap, sym, arith}
use Rattle.std.specs.Prelude.{slice_get}
use Rattle.tso_machine.specs.Moves.{drain_places}
use Rattle.tso_machine.proofs.Bytes.{byte_is}
use Rattle.tso_machine.proofs.Shown.{few_left, later_choice, order_of}
use Rattle.tso_machine.proofs.playing.Playing.nth_choice.Goals as goal

pub nth_drain-place-requires-clause-k : goal.nth_drain-place-requires-clause-k
nth_drain-place-requires-clause-k c = λ steps s.
    let m = c.args.self.now in
    let o = order_of m.setup.target s.has_buffers in
    let bit = c.from-executes.ensures ∙ byte_is c.may_execute.result in
    let le = c.if-k-executes.false in
    let left = few_left m o.0 o.1 steps s c.args.thread c.args.k c.may_execute.result (c.may_execute.ensures steps s) (omega (arith, bit, le)) (c.requires.k steps s) in
    omega (arith, bit, left)

pub returns : goal.returns
returns c = λ steps s.
    let m = c.args.self.now in
    let o = order_of m.setup.target s.has_buffers in
    let bit = c.from-executes.ensures ∙ byte_is c.may_execute.result in
    let le = c.if-k-executes.false in
    later_choice m o.0 o.1 steps s c.args.thread c.args.k c.nth_drain-place.result c.may_execute.result (c.may_execute.ensures steps s) (omega (arith, bit, le))
    (ap (λ (n : ℕ). slice_get (drain_places m.setup steps c.args.thread) (c.args.k - n)) (sym bit) ∙ c.nth_drain-place.ensures steps s)
