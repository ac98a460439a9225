use Rattle.std.proofs.Common.{◌∙◌, ◌<◌, ap, arith, length, get_or}
use Rattle.std.proofs.lemmas.List.{with_items_is}
use Rattle.weak_machine.proofs.Missing.{missing-more, missing-room, times}
use Rattle.weak_machine.proofs.progress.count_missing.Goals as goal

pub raise-requires-clause-room : goal.raise-requires-clause-room
raise-requires-clause-room c = λ t lt.
    let lists = c.args.lists.now in
    let place = c.loop-place.place in
    let end = c.len-place-end.ensures in
    let within : place < length lists = omega (arith, end) in
    let value = ap (λ xs. get_or xs t 0) c.deref_mut.ensures.value in
    let same = ap length c.deref_mut.ensures.value in
    let long = c.loop-place.invariant.long in
    let list = ap (times t) c.at.ensures in
    let counted = c.loop-place.invariant.counts t (omega (arith, lt, same, long)) in
    let room = missing-room lists place t within in
    let few = c.requires.few in
    omega (arith, value, list, counted, room, few)

pub loop-place-preserved : goal.loop-place-preserved
loop-place-preserved c =
    let lists = c.args.lists.now in
    let place = c.loop-place.place in
    let end = c.len-place-end.ensures in
    let within : place < length lists = omega (arith, end) in
    let items = with_items_is c.loop-place.missing c.raise.new.missing (c.raise.auto.missing ∙ c.deref_mut.ensures.len) in
    let same = ap length c.deref_mut.ensures.value in
    let long = c.loop-place.invariant.long in
    record {
      long = ap length items ∙ c.raise.auto.missing ∙ same ∙ long;
      counts = λ n lt.
          let value = ap (λ xs. get_or xs n 0) c.deref_mut.ensures.value in
          let list = ap (times n) c.at.ensures in
          let counted = c.loop-place.invariant.counts n lt in
          let more = c.raise.ensures.more n (omega (arith, lt, same, long)) in
          let next = missing-more lists place n within in
          ap (λ xs. get_or xs n 0) items ∙ omega (arith, value, list, counted, more, next);
    }
