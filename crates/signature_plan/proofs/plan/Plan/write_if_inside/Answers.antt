use Rattle.std.proofs.Common.{◌≡◌, ◌≢◌, ◌∙◌, [], ◌+◌, ◌<◌, length, get_or, set, refl, ap, sym, arith, below_more}
use Rattle.std.proofs.lemmas.Grind.{same_number_lists}
use Rattle.std.proofs.lemmas.List.{get_or-map, get_or-set_other, get_or-set_same, length-map}
use Rattle.test_lang.proofs.Ranks.{load_count-le}
use Rattle.test_lang.specs.Signatures.{candidate_count, group_word, groups, place, signature}
use Rattle.signature_plan.specs.Words.{mixed_radix}
use Rattle.signature_plan.proofs.GroupTables.{group_at, groups_all, rows_long, tables_of}
use Rattle.signature_plan.proofs.InsideRanks.{read_inside, read_join}
use Rattle.signature_plan.proofs.Meaning.{group_word-radix}
use Rattle.signature_plan.proofs.plan.Plan.write_if_inside.Goals as goal

pub loop-place-init : goal.loop-place-init
loop-place-init c = record { first = refl; inside = record { each = λ k from to. absurd (omega (arith, to)) }; written = λ inside k lt. absurd (omega (arith, lt)) }

pub index-requires : goal.index-requires
index-requires c =
    let p = c.args.self.now in
    let tables = tables_of c.self.inside.candidates p c.self.inside.groups.items c.self.view_is c.self.invariant in
    let long = rows_long p c.self.inside.groups.items tables.rows_are in
    let len = c.self.inside.groups.ok.0 in
    let before = c.loop-place-test.true in
    let words = c.requires.words in
    omega (arith, long, len, before, words)

pub overflow_add-end : goal.overflow_add-end
overflow_add-end c =
    let p = c.args.self.now in
    let tables = tables_of c.self.inside.candidates p c.self.inside.groups.items c.self.view_is c.self.invariant in
    let before = c.loop-place-test.true in
    let words = c.requires.words in
    let at = group_at p c.self.inside.groups.items c.loop-place.place c.loop-place.first c.index.result.now tables (omega (arith, before, words)) c.index.ensures c.loop-place.invariant.first in
    let within = at.within in
    let loads = load_count-le p in
    let few = tables.limits.operations in
    omega (arith, within, loads, few)

pub word_if_inside-found-requires : goal.word_if_inside-found-requires
word_if_inside-found-requires c =
    let p = c.args.self.now in
    let tables = tables_of c.self.inside.candidates p c.self.inside.groups.items c.self.view_is c.self.invariant in
    let before = c.loop-place-test.true in
    let words = c.requires.words in
    let at = group_at p c.self.inside.groups.items c.loop-place.place c.loop-place.first c.index.result.now tables (omega (arith, before, words)) c.index.ensures c.loop-place.invariant.first in
    record { order = omega arith; within = at.within; loads = c.requires.loads; fits = at.fits }

pub loop-place-preserved : goal.loop-place-preserved
loop-place-preserved c =
    let p = c.args.self.now in
    let run = c.args.run.now in
    let k = c.loop-place.place in
    let tables = tables_of c.self.inside.candidates p c.self.inside.groups.items c.self.view_is c.self.invariant in
    let before = c.loop-place-test.true in
    let words = c.requires.words in
    let lt : k < length (groups p) = omega (arith, before, words) in
    let at = group_at p c.self.inside.groups.items k c.loop-place.first c.index.result.now tables lt c.index.ensures c.loop-place.invariant.first in
    let long = c.loop-place.auto.out in
    let within : k < length c.loop-place.out = omega (arith, before, long) in
    let found = c.word_if_inside-found.result in
    record {
      first = at.next;
      inside = read_join p run c.loop-place.first (c.loop-place.first + c.index.result.now.loads) c.loop-place.inside found.1 c.loop-place.invariant.inside c.word_if_inside-found.ensures.inside;
      written = λ inside.
          let word : found.0 ≡ get_or (signature p run) k 0 =
          c.word_if_inside-found.ensures.word inside
          ∙ ap (mixed_radix (candidate_count p) (place p run)) at.between
          ∙ sym (group_word-radix p run (get_or (groups p) k []))
          ∙ sym (get_or-map (group_word p run) (groups p) k [] 0 lt) in
          below_more (λ j. get_or (set c.loop-place.out k found.0) j 0 ≡ get_or (signature p run) j 0) k
          (λ j below. let ne : j ≢ k = omega (arith, below) in get_or-set_other c.loop-place.out k j found.0 0 ne ∙ c.loop-place.invariant.written inside j below)
          (get_or-set_same c.loop-place.out k found.0 0 within ∙ word);
    }

pub returns : goal.returns
returns c =
    let p = c.args.self.now in
    let run = c.args.run.now in
    let past = c.loop-place-test.false in
    let long = c.loop-place.auto.out in
    let words = c.requires.words in
    let mapped = length-map (groups p) (group_word p run) in
    let all = groups_all p c.loop-place.place c.loop-place.first (omega (arith, past, words)) c.loop-place.invariant.first in
    record {
      inside = read_inside p run c.loop-place.first c.loop-place.inside (omega (arith, all)) c.requires.loads (λ k. (c.type_inv.run k).fits) c.loop-place.invariant.inside;
      written = λ inside. same_number_lists c.loop-place.out (signature p run) (omega (arith, long, words, mapped)) (λ k lt. c.loop-place.invariant.written inside k (omega (arith, past, long, lt)));
    }
