use Rattle.std.proofs.Common.{◌∙◌, List, Result, subst, sym, inr}
use Rattle.std.proofs.lemmas.Result.{err_from_is_err_and}
use Rattle.run_text.specs.declared.fault.RunFault.{RunFault}
use Rattle.run_count.specs.declared.piece.PieceCount.{PieceCount}
use Rattle.run_count.proofs.Joining.{IsJoinedTo, has_joined-step, is_false, is_true, joined-all, joined-done, joined-fits, joined-not_done, joined-refused}
use Rattle.run_count.proofs.join.join_pieces.Goals as goal

pub loop-next-preserved : goal.loop-next-preserved
loop-next-preserved c =
    let l = c.loop-next in
    record { so_far = has_joined-step c.args.most c.args.line c.args.counts.items l.next-iterator.rest.items c.next.new.self.rest.items c.in-Some.next l.all c.in_ok-all.all c.in-Some.ensures.steps.0 l.invariant.so_far c.in_ok-all.ensures }

pub join_next-requires-clause-next : goal.join_next-requires-clause-next
join_next-requires-clause-next c =
    let l = c.loop-next in
    joined-fits c.args.most c.requires.0 c.args.line c.requires.1 l.all c.in-Some.next c.next.new.self.rest.items
    (subst (λ (os : List (Result PieceCount RunFault)). IsJoinedTo c.args.most c.requires.0 c.args.line c.requires.1 os l.all) c.in-Some.ensures.steps.0 (l.invariant.so_far c.requires.0 c.requires.1 c.requires.2))

pub returns-in_err-all-clause-err : goal.returns-in_err-all-clause-err
returns-in_err-all-clause-err c =
    let l = c.loop-next in
    let e = err_from_is_err_and c.from_residual.result c.from_residual.ensures.1 in
    rw (e.1, e.2) (λ p texts read. joined-refused c.args.most p c.args.line texts l.all c.in-Some.next c.next.new.self.rest.items c.in_err-all.field-0.0 (c.in_err-all.ensures p)
    (subst (λ (os : List (Result PieceCount RunFault)). IsJoinedTo c.args.most p c.args.line texts os l.all) c.in-Some.ensures.steps.0 (l.invariant.so_far p texts read)))

pub returns-then-not-all-clause-err : goal.returns-then-not-all-clause-err
returns-then-not-all-clause-err c =
    let l = c.loop-next in
    let none = sym l.next-iterator.rest.ok.0 ∙ c.in-None.ensures.steps.0 in
    λ p texts read.
    inr (joined-not_done c.args.most p c.args.line texts l.all (joined-all c.args.most p c.args.line texts l.next-iterator.rest.items l.all none (l.invariant.so_far p texts read)) (is_false l.all.is_done c.if-not-all.true))

pub returns-clause-ok : goal.returns-clause-ok
returns-clause-ok c =
    let l = c.loop-next in
    let none = sym l.next-iterator.rest.ok.0 ∙ c.in-None.ensures.steps.0 in
    λ p texts read.
    let h = joined-all c.args.most p c.args.line texts l.next-iterator.rest.items l.all none (l.invariant.so_far p texts read) in
    (h.runs, joined-done c.args.most p c.args.line texts l.all h (is_true l.all.is_done c.if-not-all.false), h.counted.counted)
