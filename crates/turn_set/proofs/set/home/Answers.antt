use Rattle.std.proofs.Common.{◌≡◌, [], ◌∷◌, ◌++◌, List, Some, sym, ap, ◌∙◌, subst}
use Rattle.atomic_table.specs.Table.{opening}
use Rattle.tally.specs.declared.entered.Entered.{Entered}
use Rattle.turn_set.specs.Rule.{Slot, Holds, first_view}
use Rattle.turn_set.proofs.Moves.{starts}
use Rattle.turn_set.proofs.set.home.Goals as goal

pub new-requires-2 : goal.new-requires-2
new-requires-2 c =
    let is : c.push_reserved.new.self.items ≡ Some [] ∷ [] = c.push_reserved.ensures.items ∙ ap (λ (xs : List Slot). xs ++ Some c.new.result ∷ []) c.in_ok-slots.ensures.items ∙ ap (λ (h : List Entered). Some h ∷ []) c.new.ensures in
    subst (λ (xs : List Slot). Holds (opening (0 ∷ []) xs first_view)) (sym is) starts
