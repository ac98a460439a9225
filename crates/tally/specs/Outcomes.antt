-- Outcomes: which of them are equal, and their order.
use Rattle.std.specs.Prelude.{Bool, false, ◌&&◌, nat_eq}
use Rattle.std.specs.Cmp.Lexicographic.{pointwise, slice_cmp}
use Rattle.std.specs.Ordering.{nat_cmp, ordering_then}
use Rattle.std.specs.declared.cmp.Ordering.{Ordering}
use Rattle.std.specs.declared.cmp.Ordering.TheVariants.{Less, Greater}
use Rattle.tally.specs.declared.outcome.Outcome.{Outcome}
use Rattle.tally.specs.declared.outcome.Outcome.TheVariants.{Inside, Outside}

-- the two are the same outcome
abbrev pub outcome_eq : Outcome → Outcome → Bool
outcome_eq (Inside words) (Inside words') = pointwise nat_eq words words'
outcome_eq (Inside words) (Outside node value) = false
outcome_eq (Outside node value) (Inside words) = false
outcome_eq (Outside node value) (Outside node' value') = nat_eq node node' && nat_eq value value'

-- Inside by lists of words, first word first, where a list that begins another one stands before it; then outside by node and then by value.
abbrev pub outcome_cmp : Outcome → Outcome → Ordering
outcome_cmp (Inside words) (Inside words') = slice_cmp nat_cmp words words'
outcome_cmp (Inside words) (Outside node value) = Less
outcome_cmp (Outside node value) (Inside words) = Greater
outcome_cmp (Outside node value) (Outside node' value') = ordering_then (nat_cmp node node') (nat_cmp value value')
