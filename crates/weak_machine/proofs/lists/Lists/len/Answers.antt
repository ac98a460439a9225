use Rattle.std.proofs.Common.{arith, ap, length}
use Rattle.weak_machine.proofs.FlatLists.{length-lists}
use Rattle.weak_machine.proofs.lists.Lists.len.Goals as goal

pub returns : goal.returns
returns c =
    let s = c.self.inside in
    let long = length-lists s.starts.items s.flat.items c.self.invariant in
    let view = ap length c.self.view_is in
    let ok = s.starts.ok.0 in
    let len = c.len.ensures in
    omega (arith, long, view, ok, len)
