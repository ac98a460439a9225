use Rattle.std.proofs.Common.{◌∙◌, ◌<◌, not, false, length, ap, sym, subst, arith}
use Rattle.std.proofs.lemmas.List.{get_or_read}
use Rattle.test_lang.specs.Program.{op_count}
use Rattle.weak_machine.specs.Standing.{Standing, base_is_left}
use Rattle.weak_machine.specs.contracts.machine.WeakMachine.{the_view}
use Rattle.weak_machine.proofs.Telling.{bases-long, performed-long, base-read, base-below, base-left, no_base-left}
use Rattle.weak_machine.proofs.machine.WeakMachine.base_is_left.Goals as goal

pub index-requires : goal.index-requires
index-requires c =
    let s = c.self.inside in
    let long = bases-long (the_view s) s.waiting s.bases.items _ _ c.self.invariant in
    let asked = c.requires in
    let same = ap (λ (m : Standing). op_count m.test) c.self.view_is in
    let ok = s.bases.ok.0 in
    omega (arith, long, asked, same, ok)

pub index-requires-in-Some : goal.index-requires-in-Some
index-requires-in-Some c =
    let s = c.self.inside in
    let lt : c.args.node < op_count s.test = subst (λ (m : Standing). c.args.node < op_count m.test) (sym c.self.view_is) c.requires in
    let read = base-read (the_view s) s.waiting s.bases.items _ _ c.self.invariant c.args.node lt c.index.result.now c.index.ensures in
    let below = base-below (the_view s) s.waiting s.bases.items _ _ c.self.invariant c.args.node lt c.in-Some.store (sym read ∙ c.in-Some.is) in
    let long = performed-long (the_view s) s.waiting s.bases.items _ _ c.self.invariant in
    let ok = s.progress.performed.ok.0 in
    omega (arith, below, long, ok)

pub returns-in-None : goal.returns-in-None
returns-in-None c =
    let s = c.self.inside in
    let lt : c.args.node < op_count s.test = subst (λ (m : Standing). c.args.node < op_count m.test) (sym c.self.view_is) c.requires in
    let read = base-read (the_view s) s.waiting s.bases.items _ _ c.self.invariant c.args.node lt c.index.result.now c.index.ensures in
    no_base-left (the_view s) s.waiting s.bases.items _ _ c.self.invariant c.args.node lt (sym read ∙ c.in-None.is) ∙ ap (λ (m : Standing). base_is_left m c.args.node) c.self.view_is

pub returns-in-Some : goal.returns-in-Some
returns-in-Some c =
    let s = c.self.inside in
    let lt : c.args.node < op_count s.test = subst (λ (m : Standing). c.args.node < op_count m.test) (sym c.self.view_is) c.requires in
    let read = base-read (the_view s) s.waiting s.bases.items _ _ c.self.invariant c.args.node lt c.index.result.now c.index.ensures in
    let e = sym read ∙ c.in-Some.is in
    let below = base-below (the_view s) s.waiting s.bases.items _ _ c.self.invariant c.args.node lt c.in-Some.store e in
    let long = performed-long (the_view s) s.waiting s.bases.items _ _ c.self.invariant in
    let inside : c.in-Some.store < length s.progress.performed.items = omega (arith, below, long) in
    ap not (get_or_read s.progress.performed.items c.in-Some.store c.index-in-Some.result.now inside c.index-in-Some.ensures false)
    ∙ base-left (the_view s) s.waiting s.bases.items _ _ c.self.invariant c.args.node lt c.in-Some.store e
    ∙ ap (λ (m : Standing). base_is_left m c.args.node) c.self.view_is
