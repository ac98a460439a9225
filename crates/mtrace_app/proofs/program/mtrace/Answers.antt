use Rattle.mtrace_app.specs.declared.refusal.Refusal.TheVariants.{Words}
use Rattle.mtrace_app.specs.Answers.{texts}
use Rattle.mtrace_app.specs.Outside.{change}
use Rattle.mtrace_app.proofs.Answered.{answers, ends_with, told_by, too_large_stays}
use Rattle.mtrace_app.proofs.Causes.{where_told}
use Rattle.mtrace_app.proofs.Due.{due_of}
use Rattle.mtrace_app.proofs.NoAlarm.{not_found}
use Rattle.mtrace_app.proofs.program.mtrace.Goals as goal

pub returns-clause-answered : goal.returns-clause-answered
returns-clause-answered g c =
    let source = change (g.S.Source.left c.args.source.now) (g.S.Source.left c.answer_words-answer.new.source) (g.S.Source.faults c.args.source.now) (g.S.Source.faults c.answer_words-answer.new.source) in
    let sink = change (g.K.Sink.held c.args.sink.now) (g.K.Sink.held c.put_output-status.new.sink) (g.K.Sink.faults c.args.sink.now) (g.K.Sink.faults c.put_output-status.new.sink) in
    let errs = change (g.E.Sink.held c.args.errs.now) (g.E.Sink.held c.put_all.new.sink) (g.E.Sink.faults c.args.errs.now) (g.E.Sink.faults c.put_all.new.sink) in (
      c.told.result.now,
      answers sink c.put_output-status.result (texts c.args.words.now) source c.answer_words-answer.result c.told.result.now c.answer_words-answer.ensures.answer c.put_output-status.ensures.put
          c.told.ensures.failed c.told.ensures.other,
      told_by c.put_all.result c.told.result.now errs c.put_all.ensures.whole c.put_all.ensures.fault c.put_all.ensures.front,
    )

pub returns-clause-by_words : goal.returns-clause-by_words
returns-clause-by_words g c = λ none.
    let h = c.answer_words-answer.ensures.by_words none in
    let sink = change (g.K.Sink.held c.args.sink.now) (g.K.Sink.held c.put_output-status.new.sink) (g.K.Sink.faults c.args.sink.now) (g.K.Sink.faults c.put_output-status.new.sink) in
    let ended = ends_with sink c.put_output-status.result Words c.answer_words-answer.result c.put_output-status.ensures.put h.0 in
    (ended.0, h.1, ended.1)

pub returns-clause-complete : goal.returns-clause-complete
returns-clause-complete g c = λ s settings quiet.
    let source = change (g.S.Source.left c.args.source.now) (g.S.Source.left c.answer_words-answer.new.source) (g.S.Source.faults c.args.source.now) (g.S.Source.faults c.answer_words-answer.new.source) in
    let sink = change (g.K.Sink.held c.args.sink.now) (g.K.Sink.held c.put_output-status.new.sink) (g.K.Sink.faults c.args.sink.now) (g.K.Sink.faults c.put_output-status.new.sink) in
    due_of (texts c.args.words.now) s source sink c.put_output-status.result c.told.result.now settings c.answer_words-answer.ensures.rest quiet
    (answers sink c.put_output-status.result (texts c.args.words.now) source c.answer_words-answer.result c.told.result.now c.answer_words-answer.ensures.answer c.put_output-status.ensures.put
    c.told.ensures.failed c.told.ensures.other)

pub returns-clause-no_alarm : goal.returns-clause-no_alarm
returns-clause-no_alarm g c = λ s settings free.
    let source = change (g.S.Source.left c.args.source.now) (g.S.Source.left c.answer_words-answer.new.source) (g.S.Source.faults c.args.source.now) (g.S.Source.faults c.answer_words-answer.new.source) in
    let sink = change (g.K.Sink.held c.args.sink.now) (g.K.Sink.held c.put_output-status.new.sink) (g.K.Sink.faults c.args.sink.now) (g.K.Sink.faults c.put_output-status.new.sink) in
    not_found (texts c.args.words.now) s source sink c.put_output-status.result c.told.result.now settings (λ bytes text is_clean out. c.machines_raise_no_alarm.ensures (texts c.args.words.now) s bytes text is_clean settings free out)
    (answers sink c.put_output-status.result (texts c.args.words.now) source c.answer_words-answer.result c.told.result.now c.answer_words-answer.ensures.answer c.put_output-status.ensures.put
    c.told.ensures.failed c.told.ensures.other)

pub returns-clause-too_large : goal.returns-clause-too_large
returns-clause-too_large g c =
    let sink = change (g.K.Sink.held c.args.sink.now) (g.K.Sink.held c.put_output-status.new.sink) (g.K.Sink.faults c.args.sink.now) (g.K.Sink.faults c.put_output-status.new.sink) in
    where_told (g.S.Source.left c.args.source.now) (g.S.Source.left c.answer_words-answer.new.source) _ _
    (λ before now large past. too_large_stays sink c.put_output-status.result c.answer_words-answer.result c.put_output-status.ensures.put (large past)) c.answer_words-answer.ensures.too_large
