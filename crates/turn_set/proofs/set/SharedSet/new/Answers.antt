use Rattle.std.proofs.Common.{◌≡◌, slice_get, Some, ◌∷◌, List, ℕ, pred, sym, ◌∙◌, subst}
use Rattle.turn_set.specs.Passes.{SetIdentity, PassState, pass_state, AreAllOf, IsFresh, fresh_first, fresh_others}
use Rattle.turn_set.proofs.Dealt.{all_of, all_fresh}
use Rattle.turn_set.proofs.set.SharedSet.new.Goals as goal

pub returns-clause-all : goal.returns-clause-all
returns-clause-all c =
    let d = c.deal.ensures in
    let seat = c.in_ok-table.ensures.seat in
    let z = c.in_ok-table.table.shared.table_id in
    let w : SetIdentity = record { table = z; passes = c.args.passes } in
    let first : pass_state c.deal.new.first.table_id c.deal.new.first.me.0 ≡ fresh_first w = λ i. pass_state ((d.first.0 ∙ seat.0) i) (d.first.1 i).0 in
    let is : c.insert.new.self.items ≡ fresh_first w ∷ fresh_others z (pred c.args.passes) = c.in_ok-insert.ensures.items ∙ (λ i. first i ∷ d.all i) in
    subst (AreAllOf w) (sym is) (all_of w c.requires.0)

pub returns-clause-fresh : goal.returns-clause-fresh
returns-clause-fresh c =
    let d = c.deal.ensures in
    let seat = c.in_ok-table.ensures.seat in
    let z = c.in_ok-table.table.shared.table_id in
    let w : SetIdentity = record { table = z; passes = c.args.passes } in
    let first : pass_state c.deal.new.first.table_id c.deal.new.first.me.0 ≡ fresh_first w = λ i. pass_state ((d.first.0 ∙ seat.0) i) (d.first.1 i).0 in
    let is : c.insert.new.self.items ≡ fresh_first w ∷ fresh_others z (pred c.args.passes) = c.in_ok-insert.ensures.items ∙ (λ i. first i ∷ d.all i) in
    subst (λ (ps : List PassState). (k : ℕ) (p : PassState) → slice_get ps k ≡ Some p → IsFresh p) (sym is) (all_fresh w c.requires.0)
