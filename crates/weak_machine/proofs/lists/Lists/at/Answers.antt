use Rattle.std.proofs.Common.{◌≡◌, ◌∙◌, ◌+◌, ◌<◌, ◌≤◌, [], ℕ, List, ap, arith, length, get_or}
use Rattle.std.specs.List.{slice_range}
use Rattle.std.proofs.lemmas.List.{get_or_read}
use Rattle.weak_machine.specs.Lists.{lists_of, AreStarts}
use Rattle.weak_machine.proofs.FlatLists.{length-lists, list-at, list-bounds}
use Rattle.weak_machine.proofs.lists.Lists.at.Goals as goal

-- the places of a list and of the next are places of the starts
within : (starts flat : List ℕ) (lists : List (List ℕ)) (place : ℕ) → AreStarts starts flat → lists_of starts flat ≡ lists → place < length lists → place + 1 < length starts
within starts flat lists place s view lt = let long = length-lists starts flat s in let same = ap length view in omega (arith, long, same, lt)

-- what was read there bounds a part of the flat list, which is the list
record Reads (starts flat : List ℕ) (lists : List (List ℕ)) (place from to : ℕ) : Type 0 where
  low : from ≤ to
  high : to ≤ length flat
  is_list : slice_range flat from to ≡ get_or lists place []

reads : (starts flat : List ℕ) (lists : List (List ℕ)) (place from to : ℕ) → AreStarts starts flat → lists_of starts flat ≡ lists → place < length lists → from ≡ get_or starts place from → to ≡ get_or starts (place + 1) to → Reads starts flat lists place from to
reads starts flat lists place from to s view lt first next =
    let room = within starts flat lists place s view lt in
    let same = ap length view in
    let bounds = list-bounds starts flat place s (omega (arith, lt, same)) in
    let lower = bounds.0 in
    let upper = bounds.1 in
    let begin = get_or_read starts place from (omega (arith, room)) first 0 in
    let end = get_or_read starts (place + 1) to room next 0 in
    record {
      low = omega (arith, lower, begin, end);
      high = omega (arith, upper, end);
      is_list = ap (λ (n : ℕ). slice_range flat n to) begin ∙ ap (slice_range flat (get_or starts place 0)) end ∙ list-at starts flat place s (omega (arith, lt, same)) ∙ ap (λ (all : List (List ℕ)). get_or all place []) view;
    }

pub index-requires : goal.index-requires
index-requires c =
    let s = c.self.inside in
    let lt = within s.starts.items s.flat.items c.args.self.now c.args.place c.self.invariant c.self.view_is c.requires in
    let ok = s.starts.ok.0 in
    omega (arith, lt, ok)

pub index-requires-2 : goal.index-requires-2
index-requires-2 c =
    let s = c.self.inside in
    let lt = within s.starts.items s.flat.items c.args.self.now c.args.place c.self.invariant c.self.view_is c.requires in
    let ok = s.starts.ok.0 in
    omega (arith, lt, ok)

pub slice_bounds-result-count : goal.slice_bounds-result-count
slice_bounds-result-count c = (reads c.self.inside.starts.items c.self.inside.flat.items c.args.self.now c.args.place c.index.result.now c.index-2.result.now c.self.invariant c.self.view_is c.requires c.index.ensures c.index-2.ensures).low

pub slice_bounds-result-start : goal.slice_bounds-result-start
slice_bounds-result-start c = (reads c.self.inside.starts.items c.self.inside.flat.items c.args.self.now c.args.place c.index.result.now c.index-2.result.now c.self.invariant c.self.view_is c.requires c.index.ensures c.index-2.ensures).low

pub slice_bounds-result-end : goal.slice_bounds-result-end
slice_bounds-result-end c =
    let high = (reads c.self.inside.starts.items c.self.inside.flat.items c.args.self.now c.args.place c.index.result.now c.index-2.result.now c.self.invariant c.self.view_is c.requires c.index.ensures c.index-2.ensures).high in
    let same = ap length c.deref.ensures.value in
    omega (arith, high, same)

pub returns : goal.returns
returns c =
    ap (λ (flat : List ℕ). slice_range flat c.index.result.now c.index-2.result.now) c.deref.ensures.value
    ∙ (reads c.self.inside.starts.items c.self.inside.flat.items c.args.self.now c.args.place c.index.result.now c.index-2.result.now c.self.invariant c.self.view_is c.requires c.index.ensures c.index-2.ensures).is_list
