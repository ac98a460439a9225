use Rattle.tally.proofs.PlacedRows.{holds-pop, times-within}
use Rattle.tally.proofs.queue.Queue.pop.Goals as goal

pub overflow_sub-self : goal.overflow_sub-self
overflow_sub-self c = times-within c.self.inside.words.items c.self.inside.width c.self.inside.places.items c.pop.new.self.items c.in-Some.place c.self.inside.len c.self.invariant c.in-Some.ensures.items

pub invariant_of-self : goal.invariant_of-self
invariant_of-self c = holds-pop c.self.inside.words.items c.self.inside.width c.self.inside.places.items c.pop.new.self.items c.in-Some.place c.self.inside.len c.self.invariant c.in-Some.ensures.items
