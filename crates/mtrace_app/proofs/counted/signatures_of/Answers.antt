use Rattle.verdict_report.specs.Lines.{signatures}
use Rattle.mtrace_app.specs.Report.{words_of}
use Rattle.mtrace_app.proofs.ReportedSignatures.{copied-all}
use Rattle.mtrace_app.proofs.counted.signatures_of.Goals as goal

pub returns : goal.returns
returns c = copied-all (words_of (signatures c.args.tally.now)) c.loop-outcome.found.items c.loop-outcome.outcome-iterator c.in-None.ensures.steps.0 c.loop-outcome.invariant.so_far
