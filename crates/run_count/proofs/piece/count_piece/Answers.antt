use Rattle.std.proofs.Common.{◌∙◌, [], true, false, rules, length, refl, sym, ap}
use Rattle.std.proofs.lemmas.Result.{err_from_is_err_and}
use Rattle.run_count.specs.Counts.{text_of}
use Rattle.run_count.proofs.SoFar.{length_lent, reader_of, so_far-finished, so_far-none, so_far-push, so_far-refused, turn-done, turn-end, turn-run}
use Rattle.run_count.proofs.piece.count_piece.Goals as goal

pub runs-init : goal.runs-init
runs-init c = record {
  so_far = so_far-none c.args.most c.args.plan.now (text_of c.args.plan.now 0 c.args.text.now) c.new-lines.result c.new-counter.result
      (c.new-lines.ensures ∙ ap (reader_of c.args.text.now) c.loads-2.ensures.count) refl c.new-counter.ensures.counted c.new-counter.ensures.empty;
  words = search rules;
  width = search rules;
}

pub runs-preserved : goal.runs-preserved
runs-preserved c =
    let read = turn-run c.in_ok-next_run.field-0 c.runs.lines c.next_run.new.lines [] c.next_run.new.run.items c.in-Run.is c.in_ok-next_run.ensures.turn in
    record {
      so_far = so_far-push c.args.most c.args.plan.now (text_of c.args.plan.now 0 c.args.text.now) c.runs.lines c.next_run.new.lines c.runs.runs c.runs.counter c.count_run.new.counter
          c.next_run.new.run.items c.deref.result.now c.deref.ensures.value c.runs.invariant.so_far read
          c.in_ok-count_run.ensures.counted c.in_ok-count_run.ensures.total c.in_ok-count_run.ensures.few;
      words = length_lent c.runs.words.len c.count_run.new.words c.runs.words.items (c.count_run.auto.words ∙ ap length c.deref_mut.ensures.value) (sym c.deref_mut.ensures.len ∙ ap length c.deref_mut.ensures.value) ∙ c.runs.invariant.words;
      width = search rules;
    }

pub returns-in_err-next_run : goal.returns-in_err-next_run
returns-in_err-next_run c =
    let e = err_from_is_err_and c.from_residual-in_err-next_run.result c.from_residual-in_err-next_run.ensures.1 in
    rw (e.1, e.2)
    (so_far-refused c.args.most c.args.plan.now c.args.text.now c.runs.lines c.runs.runs c.runs.counter c.in_err-next_run.field-0.0 c.runs.invariant.so_far c.in_err-next_run.ensures.turn c.in_err-next_run.ensures.line)

pub returns-in-End : goal.returns-in-End
returns-in-End c =
    let end = turn-end c.in_ok-next_run.field-0 c.runs.lines c.next_run.new.lines [] c.next_run.new.run.items c.in-End.is c.in_ok-next_run.ensures.turn in
    so_far-finished c.args.most c.args.plan.now c.args.text.now c.runs.lines c.runs.runs c.runs.counter false c.finish.result c.runs.invariant.so_far end c.finish.ensures.counted c.finish.ensures.refused

pub returns-in-Done : goal.returns-in-Done
returns-in-Done c =
    let end = turn-done c.in_ok-next_run.field-0 c.runs.lines c.next_run.new.lines [] c.next_run.new.run.items c.in-Done.is c.in_ok-next_run.ensures.turn in
    so_far-finished c.args.most c.args.plan.now c.args.text.now c.runs.lines c.runs.runs c.runs.counter true c.finish-in-Done.result c.runs.invariant.so_far end c.finish-in-Done.ensures.counted c.finish-in-Done.ensures.refused
