use Rattle.std.proofs.Common.{refl}
use Rattle.digraph.proofs.LinkRows.{puts-one}
use Rattle.digraph.proofs.links.put_link.Goals as goal

pub returns : goal.returns
returns c = puts-one c.args.place c.args.links.now c.args.last.now c.args.key _ c.requires.room c.requires.linked c.requires.key refl
