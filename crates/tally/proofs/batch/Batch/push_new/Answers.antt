use Rattle.std.proofs.Common.{◌≡◌, ◌∙◌, ◌∷◌, [], ◌++◌, ap, rules, sym, length}
use Rattle.tally.specs.Counting.{all_rows}
use Rattle.tally.specs.Rows.{rows_in}
use Rattle.tally.proofs.PlacedRows.{all_rows-last}
use Rattle.tally.proofs.RowsInLine.{fills-push, rows_in-push}
use Rattle.tally.proofs.batch.Batch.push_new.Goals as goal

pub invariant_of-self-2 : goal.invariant_of-self-2
invariant_of-self-2 c =
    let wide : length c.args.row.now ≡ c.self.inside.width = c.requires.width ∙ ap (λ b. b.width) (sym c.self.view_is) in
    let items : c.push.new.self.items ≡ c.self.inside.times.items ++ 1 ∷ [] = search rules in
    rw (c.in_ok-extend_from_slice.ensures.items, items)
    (fills-push c.self.inside.width c.self.inside.words.items c.self.inside.times.items c.args.row.now c.self.inside.len c.self.invariant wide)

pub returns-clause-pushed : goal.returns-clause-pushed
returns-clause-pushed c =
    let wide : length c.args.row.now ≡ c.self.inside.width = c.requires.width ∙ ap (λ b. b.width) (sym c.self.view_is) in
    let items : c.push.new.self.items ≡ c.self.inside.times.items ++ 1 ∷ [] = search rules in
    rw (c.in_ok-extend_from_slice.ensures.items, items, ← c.self.view_is)
    (ap all_rows (rows_in-push c.self.inside.width c.self.inside.words.items c.self.inside.times.items c.args.row.now c.self.invariant.whole wide) ∙ all_rows-last (rows_in c.self.inside.words.items c.self.inside.width c.self.inside.times.items) c.args.row.now 1)
