use Rattle.std.proofs.Common.{◌∙◌, ◌<◌, ap, sym, subst, arith}
use Rattle.test_lang.specs.Program.{op_count}
use Rattle.test_lang.specs.Runs.{base}
use Rattle.weak_machine.specs.Standing.{Standing}
use Rattle.weak_machine.specs.contracts.machine.WeakMachine.{the_view}
use Rattle.weak_machine.proofs.Telling.{bases-long, base-read, base-is_store, base-value, no_base-value}
use Rattle.weak_machine.proofs.machine.WeakMachine.base.Goals as goal

pub index-requires : goal.index-requires
index-requires c =
    let s = c.self.inside in
    let long = bases-long (the_view s) s.waiting s.bases.items _ _ c.self.invariant in
    let asked = c.requires in
    let same = ap (λ (m : Standing). op_count m.test) c.self.view_is in
    let ok = s.bases.ok.0 in
    omega (arith, long, asked, same, ok)

pub value_of-requires : goal.value_of-requires
value_of-requires c =
    let s = c.self.inside in
    let lt : c.args.node < op_count s.test = subst (λ (m : Standing). c.args.node < op_count m.test) (sym c.self.view_is) c.requires in
    let read = base-read (the_view s) s.waiting s.bases.items _ _ c.self.invariant c.args.node lt c.index.result.now c.index.ensures in
    base-is_store (the_view s) s.waiting s.bases.items _ _ c.self.invariant c.args.node lt c.in-Some.store (sym read ∙ c.in-Some.is)

pub returns-in-None : goal.returns-in-None
returns-in-None c =
    let s = c.self.inside in
    let lt : c.args.node < op_count s.test = subst (λ (m : Standing). c.args.node < op_count m.test) (sym c.self.view_is) c.requires in
    let read = base-read (the_view s) s.waiting s.bases.items _ _ c.self.invariant c.args.node lt c.index.result.now c.index.ensures in
    no_base-value (the_view s) s.waiting s.bases.items _ _ c.self.invariant c.args.node lt (sym read ∙ c.in-None.is) ∙ ap (λ (m : Standing). base m.test c.args.node) c.self.view_is

pub returns-in-Some : goal.returns-in-Some
returns-in-Some c =
    let s = c.self.inside in
    let lt : c.args.node < op_count s.test = subst (λ (m : Standing). c.args.node < op_count m.test) (sym c.self.view_is) c.requires in
    let read = base-read (the_view s) s.waiting s.bases.items _ _ c.self.invariant c.args.node lt c.index.result.now c.index.ensures in
    c.value_of.ensures.value ∙ base-value (the_view s) s.waiting s.bases.items _ _ c.self.invariant c.args.node lt c.in-Some.store (sym read ∙ c.in-Some.is) ∙ ap (λ (m : Standing). base m.test c.args.node) c.self.view_is
