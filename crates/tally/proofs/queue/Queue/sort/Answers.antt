use Rattle.std.proofs.Common.{◌∙◌, sym}
use Rattle.std.proofs.lemmas.List.Sorted.{All-permutation, IsPermutation-map}
use Rattle.tally.specs.Rows.{FitsIn}
use Rattle.tally.proofs.PlacedRows.{Waits, length-permuted}
use Rattle.tally.proofs.queue.Queue.sort.Goals as goal

pub invariant_of-self : goal.invariant_of-self
invariant_of-self c = record {
  fits = All-permutation (FitsIn c.self.inside.words.items c.self.inside.width) _ _ c.sort_unstable_by.ensures.permutation c.self.invariant.fits;
  some = All-permutation Waits _ _ c.sort_unstable_by.ensures.permutation c.self.invariant.some;
  len_is = c.self.invariant.len_is ∙ sym (length-permuted c.self.inside.words.items c.self.inside.width _ _ c.sort_unstable_by.ensures.permutation);
}

pub returns-clause-permutation : goal.returns-clause-permutation
returns-clause-permutation c = rw (← c.self.view_is) (IsPermutation-map _ _ _ c.sort_unstable_by.ensures.permutation)
