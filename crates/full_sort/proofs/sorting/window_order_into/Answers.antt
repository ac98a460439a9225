-- A window of distinct nodes is no longer than the graph has nodes, so there is room for its order.
use Rattle.std.proofs.Common.{◌≡◌, ◌≢◌, ◌∙◌, ℕ, ◌<◌, ◌≤◌, List, length, take, sym, ap, arith}
use Rattle.std.specs.Prelude.{All, AllPairs}
use Rattle.std.proofs.lemmas.List.{length-take-le}
use Rattle.full_sort.proofs.Sums.{length-once}
use Rattle.full_sort.proofs.sorting.window_order_into.Goals as goal

-- as many of the placed nodes are taken as the window has
taken : (window placed : List ℕ) (nodes : ℕ) → AllPairs (λ a b. a ≢ b) window → All (λ n. n < nodes) window → nodes ≤ length placed → length window ≡ length (take (length window) placed)
taken window placed nodes once inside room =
    let fits = length-once window nodes once inside in
    sym (length-take-le (length window) placed (omega (arith, fits, room)))

pub order_into-found-requires-clause-placed : goal.order_into-found-requires-clause-placed
order_into-found-requires-clause-placed g c =
    let fits = length-once c.args.window.now c.args.graph.now.nodes c.requires.once c.requires.window in
    let list = ap (length {A = ℕ}) c.deref_mut-3.ensures.value in
    let nodes = c.scratch.view_is in
    let same = c.scratch.invariant.placed_room in
    omega (arith, fits, list, nodes, same)

pub slice_bounds-copy_from_slice-end : goal.slice_bounds-copy_from_slice-end
slice_bounds-copy_from_slice-end g c =
    let list = ap (length {A = ℕ}) c.deref_mut-3.ensures.value in
    let before = c.deref_mut-3.ensures.len in
    let after = c.deref.ensures.len in
    let nodes = c.scratch.view_is in
    let same = c.scratch.invariant.placed_room in
    taken c.args.window.now c.deref.result.now c.args.graph.now.nodes c.requires.once c.requires.window (omega (arith, list, before, after, nodes, same))

pub copy_from_slice-requires : goal.copy_from_slice-requires
copy_from_slice-requires g c =
    let list = ap (length {A = ℕ}) c.deref_mut-3.ensures.value in
    let before = c.deref_mut-3.ensures.len in
    let after = c.deref.ensures.len in
    let nodes = c.scratch.view_is in
    let same = c.scratch.invariant.placed_room in
    c.requires.order ∙ taken c.args.window.now c.deref.result.now c.args.graph.now.nodes c.requires.once c.requires.window (omega (arith, list, before, after, nodes, same))
