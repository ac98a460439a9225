-- What a try that added its batch did, from what its steps tell.
use Rattle.std.proofs.Common.{◌≡◌, ℕ, ◌+◌, List, [], ◌∷◌, ◌++◌, Some, sym, ap, ◌∙◌, subst}
use Rattle.atomic_table.specs.Table.{Me}
use Rattle.atomic_table.specs.Seated.{TableId}
use Rattle.tally.specs.declared.entered.Entered.{Entered}
use Rattle.tally.specs.declared.outcome.Outcome.{Outcome}
use Rattle.tally.specs.Histories.{added_by, entries, BeginsWith}
use Rattle.turn_set.specs.declared.rule.View.{View}
use Rattle.turn_set.specs.Rule.{Slot}
use Rattle.turn_set.specs.Steps.{own, book_in, winner, added}
use Rattle.turn_set.specs.Passes.{PassState, pass_state, IsAdded}
use Rattle.turn_set.proofs.Histories.{added_by-added}

-- the turn was won, with a history that begins with the pass's front and has what it added
abbrev IsWon : View → ℕ → Me Slot View → Type 0
IsWon v number m = (h : List Entered) × BeginsWith h (own v).front × (added_by h number ≡ (own v).list) × (m ≡ (winner v h, (0, Some h) ∷ []))

-- the book was brought back with the batch at its end
abbrev IsBroughtBack : ℕ → List Outcome → Me Slot View → Me Slot View → Type 0
IsBroughtBack number batch m n = n ≡ (m.0, (0, Some (book_in m.1 ++ entries number batch)) ∷ [])

module _ (v : View) (number number' : ℕ) (batch : List Outcome) (m n after : Me Slot View) (is : number ≡ (own v).number) (is' : number' ≡ (own v).number)
    (won : IsWon v number m) (back : IsBroughtBack number' batch m n) (given : after ≡ (added n.0 (book_in n.1), [])) where
  abbrev full : List Entered
  full = won.0 ++ entries (own v).number batch

  stands : n ≡ (winner v won.0, (0, Some full) ∷ [])
  stands = back ∙ (λ i. ((won.3 i).0, (0, Some (book_in ((won.3 i).1) ++ entries (is' i) batch)) ∷ []))

  after_is : after ≡ (added (winner v won.0) full, [])
  after_is = given ∙ (λ i. (added (stands i).0 (book_in (stands i).1), []))

  found_list : added_by won.0 (own v).number ≡ (own v).list
  found_list = ap (added_by won.0) (sym is) ∙ won.2

  list_is : added_by full (own v).number ≡ (own v).list ++ batch
  list_is = added_by-added won.0 (own v).number batch ∙ ap (λ (l : List Outcome). l ++ batch) found_list

  pub is_added : (p : PassState) (z z' : TableId) → pass_state z v ≡ p → z' ≡ z → IsAdded p batch (pass_state z' after.0)
  is_added p z z' seen there =
      let now : PassState = record { table = z; made = v.made; number = (own v).number; list = (own v).list ++ batch; front = full; turns = v.turns + 1; busy = v.busy } in
      let state : pass_state z' after.0 ≡ now =
      (λ i. pass_state (there i) (after_is i).0) ∙ (λ i. record { table = z; made = v.made; number = (own v).number; list = list_is i; front = full; turns = v.turns + 1; busy = v.busy }) in
      subst (λ (q : PassState). IsAdded q batch (pass_state z' after.0)) seen record { found = won.0; after = won.1; known = found_list; is = state }
