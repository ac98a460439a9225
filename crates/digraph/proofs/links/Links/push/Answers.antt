use Rattle.std.proofs.Common.{◌∙◌, ◌+◌}
use Rattle.digraph.proofs.LinkRows.{refilled-sound}
use Rattle.digraph.proofs.links.Links.push.Goals as goal

pub returns-clause-sound : goal.returns-clause-sound
returns-clause-sound c =
    refilled-sound (c.self.inside.count + 1) c.self.inside.links.len c.self.inside.last.len c.put_link.new.links c.self.inside.links.items c.put_link.new.last c.self.inside.last.items c.put_link.ensures.linked
    (c.put_link.ensures.room ∙ c.deref_mut.ensures.len) (c.put_link.ensures.kinds ∙ c.deref_mut-2.ensures.len)
