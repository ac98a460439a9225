use Rattle.std.proofs.Common.{◌+◌, ◌≤◌, refl, rules}
use Rattle.run_count.proofs.Joining.{two-joined}
use Rattle.run_count.proofs.join.join_two.Goals as goal

pub returns-clause-counted : goal.returns-clause-counted
returns-clause-counted c =
    let fit : c.args.before.runs + c.args.after.runs ≤ c.args.most = search rules in
    λ p first second h k. two-joined c.args.most p first second c.args.before c.args.after _ refl h k fit c.in_ok-join.ensures.total c.in_ok-join.ensures.tally
