use Rattle.std.proofs.Common.{◌≡◌, ◌∙◌, ◌+◌, ◌∷◌, ◌++◌, [], List, take, ap, sym, subst, arith}
use Rattle.std.proofs.lemmas.List.{take_all, take_more}
use Rattle.tally.specs.declared.outcome.Outcome.{Outcome}
use Rattle.tally.specs.Tallies.{IsTally}
use Rattle.turn_set.proofs.Counted.{one_more}
use Rattle.turn_set.proofs.counting.count_all.Goals as goal

pub take_all_back-requires : goal.take_all_back-requires
take_all_back-requires c =
    let stands = c.requires.stands in
    (stands.0, rw c.in-Err.ensures.refused (c.loop-counted.invariant.tally stands.0 stands.1))

pub returns-in-Err-clause-refused : goal.returns-in-Err-clause-refused
returns-in-Err-clause-refused c = λ outcomes h. c.take_all_back.ensures outcomes (rw c.in-Err.ensures.refused (c.loop-counted.invariant.tally outcomes h))

pub loop-counted-preserved : goal.loop-counted-preserved
loop-counted-preserved c =
    let batch = c.args.batch.now in
    let i = c.loop-counted.counted in
    let within = c.loop-counted-test.true in
    let outcome = c.index-batch-counted.result in
    let more : take (i + 1) batch ≡ take i batch ++ outcome ∷ [] = take_more batch i outcome within ∙ ap (λ (x : Outcome). take i batch ++ x ∷ []) (sym c.index-batch-counted.is) in
    let kept = c.loop-counted.invariant in
    let room = kept.room in
    let total = c.in_default.ensures.total in
    record {
      tally = λ outcomes h. one_more outcomes (take i batch) (take (i + 1) batch) outcome c.loop-counted.tally c.count_one.new.tally more c.in_default.ensures.counted (kept.tally outcomes h);
      room = omega (arith, room, total, within);
    }

pub returns-clause-counted : goal.returns-clause-counted
returns-clause-counted c = λ outcomes h.
    subst (λ (l : List Outcome). IsTally (outcomes ++ l) c.loop-counted.tally) (take_all c.loop-counted.counted c.args.batch.now c.loop-counted-test.false) (c.loop-counted.invariant.tally outcomes h)
