-- The edges of one load that changed.
use Rattle.std.proofs.Common.{◌≡◌, ◌<◌, ◌∙◌, ℕ, List, ◌++◌, arith, ap, length, subst}
use Rattle.std.proofs.lemmas.List.{get_or_default}
use Rattle.digraph.specs.Roomed.{Roomed}
use Rattle.window_resort.specs.Changes.{LeadsBack, edges_at_rank}
use Rattle.window_resort.specs.Windows.{IsSpan}
use Rattle.window_resort.proofs.Loads.{rank_ends}
use Rattle.window_resort.proofs.Rows.{no_row}
use Rattle.window_resort.proofs.load_rows.compare_load.Goals as goal

pub widen_by-requires : goal.widen_by-requires
widen_by-requires g c =
    let p = c.args.fixed.now.test in
    let rows = c.list_load.new.rows in
    let all = c.list_load.ensures.room.loads in
    let below = c.requires.rank in
    let fits : c.args.rank < length rows = omega (arith, all, below) in
    let listed : c.list.result.now ≡ edges_at_rank p c.args.run.now c.args.rank =
    c.list.ensures ∙ ap (λ (r : Roomed (ℕ × ℕ)). r.list) (get_or_default rows c.args.rank c.index-fresh-rank.result no_row fits) ∙ c.list_load.ensures.listed in
    record { ends = rank_ends p c.args.run.now c.args.rank (length c.args.places.now) c.list.result.now c.requires.rank c.requires.places listed }

pub returns-clause-window : goal.returns-clause-window
returns-clause-window g c =
    let p = c.args.fixed.now.test in
    let rows = c.list_load.new.rows in
    let all = c.list_load.ensures.room.loads in
    let below = c.requires.rank in
    let fits : c.args.rank < length rows = omega (arith, all, below) in
    let listed : c.list.result.now ≡ edges_at_rank p c.args.run.now c.args.rank =
    c.list.ensures ∙ ap (λ (r : Roomed (ℕ × ℕ)). r.list) (get_or_default rows c.args.rank c.index-fresh-rank.result no_row fits) ∙ c.list_load.ensures.listed in
    λ before span. subst (λ (list : List (ℕ × ℕ)). IsSpan (LeadsBack c.args.places.now (before ++ list)) c.widen_by.result) listed (c.widen_by.ensures before span)
