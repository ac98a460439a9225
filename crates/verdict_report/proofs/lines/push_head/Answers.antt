use Rattle.std.proofs.Common.{append_assoc}
use Rattle.verdict_report.proofs.lines.push_head.Goals as goal

pub returns : goal.returns
returns c =
    rw (c.in_ok-push.ensures.items, c.in_ok-extend_from_slice-2.ensures.items, c.in_ok-extend_from_slice.ensures.items, c.as_bytes.ensures.value, c.name.ensures)
    (simp append_assoc)
