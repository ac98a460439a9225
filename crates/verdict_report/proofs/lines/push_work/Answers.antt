use Rattle.std.specs.Prelude.{codes}
use Rattle.verdict_report.specs.Lines.{named}
use Rattle.verdict_report.proofs.Whole.{line_of_five}
use Rattle.verdict_report.proofs.lines.push_work.Goals as goal

pub returns : goal.returns
returns c =
    let work = c.args.work in
    line_of_five c.args.out.now.items c.extend_from_slice.new.self.items c.push_named.new.out.items c.push_named-2.new.out.items c.push_named-3.new.out.items c.push_named-4.new.out.items c.push_named-5.new.out.items c.push.new.self.items
    (codes "work") (named (codes "chunks") work.chunks) (named (codes "full") work.full) (named (codes "kept") work.kept) (named (codes "resorted") work.resorted) (named (codes "nodes") work.nodes)
    c.in_ok-extend_from_slice.ensures.items c.in_ok-push_named.ensures c.in_ok-push_named-2.ensures c.in_ok-push_named-3.ensures c.in_ok-push_named-4.ensures c.in_ok-push_named-5.ensures c.in_ok-push.ensures.items
