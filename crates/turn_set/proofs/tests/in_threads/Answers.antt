use Rattle.std.proofs.Common.{rules, arith}
use Rattle.turn_set.proofs.Dealt.{at_number, by_number}
use Rattle.turn_set.proofs.tests.in_threads.Goals as goal

pub each_in_a_thread-requires : goal.each_in_a_thread-requires
each_in_a_thread-requires g c = (search rules, (search rules, (λ k d low. at_number c.args.set.now c.args.passes.items c.requires k d low)))

pub returns : goal.returns
returns g c =
    let back = c.in_ok-back.back in
    let whole = back.ok.0 in
    let same = c.in_ok-back.ensures.len in
    let before = c.args.passes.ok.0 in
    let all = c.requires.length in
    by_number c.args.set.now back.items (omega (arith, whole, same, before, all)) c.in_ok-back.ensures.each
