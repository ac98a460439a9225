use Rattle.std.proofs.Common.{◌≡◌, ◌∙◌, refl, ap, sym, subst, arith}
use Rattle.std.specs.Prelude.{slice_index}
use Rattle.test_lang.specs.Values.{load_count}
use Rattle.candidates.specs.ByRank.{GivesCandidates, candidates_at}
use Rattle.candidates.proofs.RunLemmas.{all_inside, first_at, one_more_gives, found_contains}
use Rattle.candidates.proofs.candidate_table.Candidates.first_outside.Goals as goal

pub returns-then-is_inside : goal.returns-then-is_inside
returns-then-is_inside c = record { load = sym (all_inside c.args.self.now c.args.run.now (c.if-is_inside.ensures.0 refl)); rank = tt }

pub loop-rank-init : goal.loop-rank-init
loop-rank-init c = record { each = λ rank lt. absurd (omega (arith, lt)) }

pub loop-rank-preserved : goal.loop-rank-preserved
loop-rank-preserved c =
    let p = c.args.self.now in
    let run = c.args.run.now in
    let rank = c.loop-rank.rank in
    one_more_gives p run rank c.loop-rank.invariant (found_contains (candidates_at p rank) (slice_index run rank) c.index.result c.if-is_none.ensures c.index.ensures.found)

pub returns-then-is_none-clause-load : goal.returns-then-is_none-clause-load
returns-then-is_none-clause-load c =
    let p = c.args.self.now in
    let rank = c.loop-rank.rank in
    let before = c.loop-rank-test.true in
    let all = c.loads-rank-end.ensures.count ∙ ap load_count c.self.view_is in
    first_at p c.args.run.now rank (omega (arith, before, all)) c.loop-rank.invariant (c.index.ensures.none.0 c.if-is_none.ensures)

pub returns : goal.returns
returns c =
    let past = c.loop-rank-test.false in
    let until = c.loop-rank.auto.rank-end in
    let all = c.loads-rank-end.ensures.count ∙ ap load_count c.self.view_is in
    let same : c.loop-rank.rank ≡ load_count c.args.self.now = omega (arith, past, until, all) in
    record { load = sym (all_inside c.args.self.now c.args.run.now (subst (λ n. GivesCandidates c.args.self.now c.args.run.now n) same c.loop-rank.invariant)); rank = tt }
