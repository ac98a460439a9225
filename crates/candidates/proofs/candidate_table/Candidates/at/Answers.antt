use Rattle.std.proofs.Common.{◌≡◌, ◌∙◌, ◌+◌, Some, get_or, ap, sym, arith}
use Rattle.std.specs.Prelude.{slice_get}
use Rattle.std.proofs.lemmas.Option.{get_or_from_slice_get, slice_get-get_or, slice_get_within}
use Rattle.candidates.specs.ByRank.{candidates_at}
use Rattle.candidates.specs.Tables.{TellsCandidates}
use Rattle.candidates.proofs.TableReads.{lists_of, row_told}
use Rattle.candidates.proofs.candidate_table.Candidates.at.Goals as goal
use Rattle.candidates.proofs.candidate_table.Candidates.at.Goals.{After-index}

told : (c : After-index) → TellsCandidates (candidates_at c.args.self.now c.args.rank) c.self.inside.lists.values.items c.index.result.now
told c =
    let p = c.args.self.now in
    let i = c.self.inside in
    let lists = lists_of i.test p i.lists.loads.items i.lists.values.items i.lists.places.items c.self.view_is c.self.invariant.2 in
    row_told p i.lists.loads.items i.lists.values.items i.lists.places.items lists c.args.rank c.index.result.now c.requires.rank c.index.ensures

-- where the candidate stands in the list
stands : (c : After-index) → slice_get c.self.inside.lists.values.items (c.index.result.now.first + c.args.place) ≡ Some (get_or (candidates_at c.args.self.now c.args.rank) c.args.place 0)
stands c =
    let candidates = candidates_at c.args.self.now c.args.rank in
    (told c).stand c.args.place (get_or candidates c.args.place 0) (slice_get-get_or candidates c.args.place 0 c.requires.place)

pub overflow_add-index : goal.overflow_add-index
overflow_add-index c =
    let fits = (told (goal.at.overflow_add-index c).After-index).end_fits in
    let lt = c.requires.place in
    record { fits = omega (arith, fits, lt) }

pub index-requires-2 : goal.index-requires-2
index-requires-2 c =
    let values = c.self.inside.lists.values in
    let within = slice_get_within values.items (c.index.result.now.first + c.args.place) _ (stands (goal.at.index-requires-2 c).After-index) in
    let long = values.ok.0 in
    omega (arith, within, long)

pub returns : goal.returns
returns c =
    let cands = candidates_at c.args.self.now c.args.rank in
    let other = c.index-2.result.now in
    let read = get_or_from_slice_get c.self.inside.lists.values.items (c.index.result.now.first + c.args.place) (get_or cands c.args.place 0) other (stands (goal.at.returns c).After-index) in
    slice_get-get_or cands c.args.place 0 c.requires.place ∙ ap Some (sym read ∙ sym c.index-2.ensures)
