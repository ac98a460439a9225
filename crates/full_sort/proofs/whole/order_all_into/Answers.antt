use Rattle.std.proofs.Common.{arith}
use Rattle.full_sort.proofs.whole.order_all_into.Goals as goal

pub returns-then-count-placed-clause-none : goal.returns-then-count-placed-clause-none
returns-then-count-placed-clause-none g c = c.place_all-count.ensures.none (omega arith)
