use Rattle.std.proofs.Common.{◌≡◌, ◌∙◌, ◌≤◌, List, ◌∷◌, [], ◌++◌, All, arith, refl, subst, sym}
use Rattle.std.proofs.lemmas.List.{take_all}
use Rattle.std.proofs.lemmas.List.Elements.{All-get_or, All-push}
use Rattle.tally.specs.declared.place.Place.{Place}
use Rattle.tally.specs.Rows.{FitsIn, rows_in}
use Rattle.tally.proofs.RowsInLine.{length-rows_in, placed-more, row-within}
use Rattle.tally.proofs.batch.push_places.Goals as goal

all-more : (P : Place → Type 0) (new places : List Place) (place : Place) → new ≡ places ++ place ∷ [] → All P places → P place → All P new
all-more P new places place is before here = subst (All P) (sym is) (All-push P places place before here)

pub loop-index-preserved : goal.loop-index-preserved
loop-index-preserved c =
    let words = c.args.words.now in
    let times = c.args.times.now in
    let i = c.loop-index.index in
    let within = c.loop-index-test.true in
    let kept = c.loop-index.invariant in
    let waits = All-get_or (λ n. 1 ≤ n) times i 0 within c.requires.some in
    record {
      rows = placed-more c.args.width words times c.push.new.self.items c.loop-index.places.items _ i c.in_ok-push.ensures.items kept.rows within refl c.from.ensures;
      fits = all-more (FitsIn words c.args.width) c.push.new.self.items c.loop-index.places.items _ c.in_ok-push.ensures.items kept.fits (row-within c.args.width words times i c.requires.whole within);
      some = all-more (λ place. 1 ≤ place.times) c.push.new.self.items c.loop-index.places.items _ c.in_ok-push.ensures.items kept.some (subst (λ n. 1 ≤ n) (sym c.from.ensures) waits);
    }

pub returns-clause-rows : goal.returns-clause-rows
returns-clause-rows c =
    let words = c.args.words.now in
    let times = c.args.times.now in
    let ended = c.loop-index-test.false in
    let long = length-rows_in c.args.width words times in
    c.loop-index.invariant.rows ∙ take_all c.loop-index.index (rows_in words c.args.width times) (omega (arith, ended, long))
