use Rattle.std.proofs.Common.{◌≡◌, ◌∙◌, ◌++◌, List, ap, sym, subst, arith}
use Rattle.std.proofs.lemmas.List.{length-map}
use Rattle.tally.specs.declared.entered.Entered.{Entered}
use Rattle.tally.specs.declared.outcome.Outcome.{Outcome}
use Rattle.tally.specs.Histories.{entries, outcomes_in}
use Rattle.tally.specs.Tallies.{IsTally}
use Rattle.tally.proofs.Shrinking.{total-tally}
use Rattle.turn_set.proofs.Histories.{outcomes_in-added}
use Rattle.turn_set.proofs.book.Book.add.Goals as goal

pub count_all-requires-clause-room : goal.count_all-requires-clause-room
count_all-requires-clause-room c =
    let history = c.self.inside.history in
    let total = total-tally (outcomes_in history.items) c.self.inside.tally c.self.invariant in
    let many = length-map history.items (λ (e : Entered). e.outcome) in
    let small = c.reserve.new.self.small in
    let whole = history.ok.0 in
    let room = c.in_ok-reserve.ensures.ok in
    let stays = c.reserve.ensures.len in
    let batch = c.len.ensures in
    let long = c.as_slice.ensures.len in
    omega (arith, total, many, small, whole, room, stays, batch, long)

pub invariant_of-self-in_err-count_all : goal.invariant_of-self-in_err-count_all
invariant_of-self-in_err-count_all c = rw c.reserve.ensures.items (c.in_err-count_all.ensures.refused (outcomes_in c.self.inside.history.items) c.self.invariant)

pub invariant_of-self-2 : goal.invariant_of-self-2
invariant_of-self-2 c =
    let history = c.self.inside.history.items in
    let batch = c.args.batch.now.items in
    let grown = c.in_ok-count_all.ensures.counted (outcomes_in history) c.self.invariant in
    let entered : c.enter_all.new.history.items ≡ history ++ entries c.args.pass batch = c.enter_all.ensures.history ∙ ap (λ (h : List Entered). h ++ entries c.args.pass batch) c.reserve.ensures.items in
    let outcomes : outcomes_in c.enter_all.new.history.items ≡ outcomes_in history ++ c.as_slice.result.now =
    ap outcomes_in entered ∙ outcomes_in-added history c.args.pass batch ∙ ap (λ (l : List Outcome). outcomes_in history ++ l) (sym c.as_slice.ensures.value) in
    subst (λ (l : List Outcome). IsTally l c.count_all.new.tally) (sym outcomes) grown
