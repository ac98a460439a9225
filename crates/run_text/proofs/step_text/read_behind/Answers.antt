use Rattle.std.proofs.Common.{refl, sym, length}
use Rattle.std.proofs.lemmas.Bool.{eqb-true, eqb-false}
use Rattle.run_text.proofs.ReadParts.{read-drain_first, read-drain, read-perform}
use Rattle.run_text.proofs.step_text.read_behind.Goals as goal

pub returns-in-33 : goal.returns-in-33
returns-in-33 c = λ n h.
    read-drain_first n c.args.rest.now c.in-Some.mark.now c.in-Some.second.now c.drain.result c.in-Some.ensures.cases.0 c.in-33.is
    (eqb-true (length c.in-Some.second.now) 0 (sym c.if-is_empty.ensures)) (c.drain.ensures n 0 h refl)

pub returns-in_ok-whole_numeral-in-33-2 : goal.returns-in_ok-whole_numeral-in-33-2
returns-in_ok-whole_numeral-in-33-2 c = λ n h.
    read-drain n c.args.rest.now c.in-Some.mark.now c.in-Some.second.now c.drain-in-33-2.result c.in-Some.ensures.cases.0 c.in-33.is
    (eqb-false (length c.in-Some.second.now) 0 (sym c.if-is_empty.ensures)) c.in_ok-whole_numeral-in-33-2.field-0 c.in_ok-whole_numeral-in-33-2.ensures (λ k held. c.drain-in-33-2.ensures n k h held)

pub returns-in_ok-whole_numeral-in-58 : goal.returns-in_ok-whole_numeral-in-58
returns-in_ok-whole_numeral-in-58 c = λ n h.
    read-perform n c.args.rest.now c.in-Some.mark.now c.in-Some.second.now c.perform.result c.in-Some.ensures.cases.0 c.in-58.is
    c.in_ok-whole_numeral-in-58.field-0 c.in_ok-whole_numeral-in-58.ensures (λ k held. c.perform.ensures n k h held)
