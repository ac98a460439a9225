use Rattle.std.proofs.Common.{◌≡◌, ◌∙◌, ℕ, ◌+◌, ◌-◌, ◌<◌, length, Contains, Some, ap, sym, subst, arith}
use Rattle.std.specs.Prelude.{◌==◌, position, slice_index}
use Rattle.test_lang.specs.Values.{load_count}
use Rattle.test_lang.specs.Signatures.{candidate_count, place}
use Rattle.candidates.specs.ByRank.{candidates_at, load_at}
use Rattle.signature_plan.specs.Words.{loads_between, mixed_radix}
use Rattle.signature_plan.proofs.InsideRanks.{no_wrap, on_true, read_more}
use Rattle.signature_plan.proofs.RankLoads.{rank_contains, rank_place, next_word, next_fits}
use Rattle.signature_plan.proofs.plan.Plan.word_if_inside.Goals as goal

pub loop-rank-preserved : goal.loop-rank-preserved
loop-rank-preserved c =
    let p = c.args.self.now in
    let q = c.self.inside.candidates in
    let run = c.args.run.now in
    let rank = c.loop-rank.rank - 1 in
    let from = c.loop-rank-test.true in
    let until = c.loop-rank.auto.rank in
    let within = c.requires.within in
    let lt : rank < load_count p = omega (arith, from, until, within) in
    let next : c.loop-rank.rank ≡ rank + 1 = omega (arith, from) in
    let told = c.place_if_any-place.result in
    let count = c.from-count.ensures ∙ c.count.ensures.count ∙ ap (λ q. length (candidates_at q rank)) c.self.view_is in
    record {
      from = omega (arith, from);
      inside = read_more p run rank c.loop-rank.rank c.args.end c.loop-rank.inside told.1 next c.loop-rank.invariant.inside
          (λ has. subst (λ q. Contains (candidates_at q rank) (slice_index run rank)) c.self.view_is (c.place_if_any-place.ensures.candidate.0 has));
      word = λ inside.
          let has = c.place_if_any-place.ensures.candidate.1 (subst (λ q. Contains (candidates_at q rank) (slice_index run rank)) (sym c.self.view_is) (rank_contains p run inside rank lt)) in
          let found = on_true (position (λ candidate. candidate == slice_index run rank) (candidates_at q rank) ≡ Some told.0) told.1 has c.place_if_any-place.ensures.place in
          let same = ap (λ q. position (λ candidate. candidate == slice_index run rank) (candidates_at q rank)) c.self.view_is in
          let digit : place p run (load_at p rank) ≡ told.0 = rank_place p run inside rank told.0 lt (sym same ∙ found) in
          let word = c.loop-rank.invariant.word inside ∙ ap (λ (n : ℕ). mixed_radix (candidate_count p) (place p run) (loads_between p n c.args.end)) next in
          let is = c.from.ensures ∙ sym digit in
          let fits = next_fits p run inside c.args.first rank c.args.end c.loop-rank.word c.from-count.result c.from.result (omega (arith, from)) (omega (arith, from, until)) within c.requires.fits word count is in
          no_wrap c.loop-rank.word c.from-count.result c.from.result fits
          ∙ next_word p run inside rank c.args.end c.loop-rank.word c.from-count.result c.from.result (omega (arith, from, until)) within word count is;
    }
