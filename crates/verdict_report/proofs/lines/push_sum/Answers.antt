use Rattle.std.proofs.Common.{◌≡◌, ◌∙◌, ◌-◌, ◌++◌, ℕ, length, ap}
use Rattle.std.specs.Prelude.{codes, count_by}
use Rattle.verdict_report.specs.Lines.{named, is_ok, is_cycle}
use Rattle.verdict_report.proofs.Counts.{cycle_count}
use Rattle.verdict_report.proofs.Whole.{line_of_four}
use Rattle.verdict_report.proofs.lines.push_sum.Goals as goal

pub returns : goal.returns
returns c =
    let found = c.args.found.now in
    let ok : c.push_named-2.new.out.items ≡ c.push_named.new.out.items ++ named (codes "ok") (count_by is_ok found) =
    c.in_ok-push_named-2.ensures ∙ ap (λ (n : ℕ). c.push_named.new.out.items ++ named (codes "ok") n) c.count_ok-ok.ensures in
    let cycle : c.push_named-3.new.out.items ≡ c.push_named-2.new.out.items ++ named (codes "cycle") (count_by is_cycle found) =
    c.in_ok-push_named-3.ensures ∙ ap (λ (n : ℕ). c.push_named-2.new.out.items ++ named (codes "cycle") (length found - n)) c.count_ok-ok.ensures
    ∙ ap (λ (n : ℕ). c.push_named-2.new.out.items ++ named (codes "cycle") n) (cycle_count found) in
    line_of_four c.args.out.now.items c.extend_from_slice.new.self.items c.push_named.new.out.items c.push_named-2.new.out.items c.push_named-3.new.out.items c.push_named-4.new.out.items c.push.new.self.items
    (codes "sum") (named (codes "signatures") (length found)) (named (codes "ok") (count_by is_ok found)) (named (codes "cycle") (count_by is_cycle found)) (named (codes "outside") c.args.outside)
    c.in_ok-extend_from_slice.ensures.items c.in_ok-push_named.ensures ok cycle c.in_ok-push_named-4.ensures c.in_ok-push.ensures.items
