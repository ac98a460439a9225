use Rattle.std.proofs.Common.{◌<◌, arith, refl, subst}
use Rattle.std.proofs.lemmas.List.{get_or_read}
use Rattle.sc_machine.specs.Standing.{Standing, Stands}
use Rattle.sc_machine.proofs.Choosing.{choice-is, count-is, keeps_threads}
use Rattle.sc_machine.proofs.Listing.{open_few}
use Rattle.sc_machine.proofs.machine.ScMachineMachine.choice.Goals as goal

pub index-requires : goal.index-requires
index-requires c =
    let steps = c.self.invariant.machine.stands_for.0 in
    let h = subst (λ (m : Standing). Stands m steps) c.self.view_is c.self.invariant.machine.stands_for.1 in
    let within = c.requires steps h in
    let all = count-is c.args.self.now steps h c.self.inside.threads.items (keeps_threads _ _ _ c.self.invariant.machine refl c.self.view_is) in
    let few = open_few c.self.inside.threads.items in
    let room = c.self.invariant.room in
    let long = c.self.inside.open_threads.ok.0 in
    omega (arith, within, all, few, room, long)

pub returns : goal.returns
returns c = λ steps h.
    let within = c.requires steps h in
    let keeps = keeps_threads _ _ _ c.self.invariant.machine refl c.self.view_is in
    let all = count-is c.args.self.now steps h c.self.inside.threads.items keeps in
    let counted = c.self.invariant.counted in
    let few = open_few c.self.inside.threads.items in
    let room = c.self.invariant.room in
    let there : c.args.k < c.self.inside.open_count = omega (arith, within, all, counted) in
    choice-is c.args.self.now steps h c.self.inside.threads.items keeps c.self.inside.open_threads.items c.self.inside.open_count c.args.k c.index.result.now c.self.invariant.listed_are counted there
    (get_or_read c.self.inside.open_threads.items c.args.k c.index.result.now (omega (arith, there, counted, few, room)) c.index.ensures 0)
