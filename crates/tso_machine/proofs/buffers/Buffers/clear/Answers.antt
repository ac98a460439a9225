use Rattle.std.proofs.Common.{◌≡◌, ◌∙◌, ◌≤◌, ◌++◌, List, map, take, drop, length, get_or, ap, sym, subst, arith}
use Rattle.std.proofs.lemmas.List.{append-nil, drop_all, get_or_default, take_all, with_items_is}
use Rattle.std.proofs.lemmas.List.Edits.{map_over_more}
use Rattle.tso_machine.specs.declared.buffers.Range.{Range}
use Rattle.tso_machine.specs.Queues.{AreRanges, cleared, queues_of}
use Rattle.tso_machine.proofs.Ranges.{cleared_queues, cleared_ranges, emptied}
use Rattle.tso_machine.proofs.buffers.Buffers.clear.Goals as goal

pub loop-range-preserved : goal.loop-range-preserved
loop-range-preserved c =
    let long = c.loop-range.auto.range-items in
    let lt = c.loop-range-test.true in
    let d : Range = record { first = 0; begin = 0; end = 0; limit = 0 } in
    let x : Range = get_or c.loop-range.range-items c.loop-range.range-index d in
    map_over_more emptied c.deref_mut-range-items.result.now c.loop-range.range-items c.loop-range.range-index x lt c.loop-range.invariant
    (get_or_default c.loop-range.range-items c.loop-range.range-index d x (omega (arith, lt, long)))

all_emptied : (xs ys : List Range) (n : _) → length xs ≤ n → ys ≡ map emptied (take n xs) ++ drop n xs → ys ≡ map emptied xs
all_emptied xs ys n past e =
    e ∙ ap (λ (zs : List Range). map emptied zs ++ drop n xs) (take_all n xs past) ∙ ap (λ (zs : List Range). map emptied xs ++ zs) (drop_all n xs past) ∙ append-nil (map emptied xs)

pub invariant_of-self : goal.invariant_of-self
invariant_of-self c =
    let ranges = c.self.inside.ranges.items in
    let value = c.deref_mut-range-items.ensures.value in
    let items = with_items_is c.self.inside.ranges c.loop-range.range-items (c.loop-range.auto.range-items ∙ c.deref_mut-range-items.ensures.len) in
    let all = all_emptied c.deref_mut-range-items.result.now c.loop-range.range-items c.loop-range.range-index c.loop-range-test.false c.loop-range.invariant in
    subst (AreRanges (length c.self.inside.nodes.items)) (sym (items ∙ all ∙ ap (map emptied) value)) (cleared_ranges (length c.self.inside.nodes.items) ranges c.self.invariant)

pub returns : goal.returns
returns c =
    let nodes = c.self.inside.nodes.items in
    let ranges = c.self.inside.ranges.items in
    let value = c.deref_mut-range-items.ensures.value in
    let items = with_items_is c.self.inside.ranges c.loop-range.range-items (c.loop-range.auto.range-items ∙ c.deref_mut-range-items.ensures.len) in
    let all = all_emptied c.deref_mut-range-items.result.now c.loop-range.range-items c.loop-range.range-index c.loop-range-test.false c.loop-range.invariant in
    ap (queues_of nodes) (items ∙ all ∙ ap (map emptied) value) ∙ cleared_queues nodes ranges ∙ ap cleared c.self.view_is
