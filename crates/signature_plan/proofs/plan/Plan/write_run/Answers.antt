use Rattle.std.proofs.Common.{◌∙◌, ◌<◌, length, get_or, refl, sym, subst, arith}
use Rattle.test_lang.proofs.Ranks.{load_count-le}
use Rattle.test_lang.specs.Signatures.{Means, groups}
use Rattle.signature_plan.proofs.GroupTables.{group_at, rows_long, tables_of}
use Rattle.signature_plan.proofs.Meaning.{fit-means}
use Rattle.signature_plan.proofs.WritingRuns.{group_more, groups_done, length_fit}
use Rattle.signature_plan.proofs.plan.Plan.write_run.Goals as goal

pub loop-place-init : goal.loop-place-init
loop-place-init c = record { first = refl; written = refl }

pub index-requires : goal.index-requires
index-requires c =
    let p = c.args.self.now in
    let tables = tables_of c.self.inside.candidates p c.self.inside.groups.items c.self.view_is c.self.invariant in
    let long = rows_long p c.self.inside.groups.items tables.rows_are in
    let len = c.self.inside.groups.ok.0 in
    let before = c.loop-place-test.true in
    let words = length_fit p c.args.words.now c.requires.fit in
    omega (arith, long, len, before, words)

pub overflow_add-end : goal.overflow_add-end
overflow_add-end c =
    let p = c.args.self.now in
    let tables = tables_of c.self.inside.candidates p c.self.inside.groups.items c.self.view_is c.self.invariant in
    let before = c.loop-place-test.true in
    let words = length_fit p c.args.words.now c.requires.fit in
    let at = group_at p c.self.inside.groups.items c.loop-place.place c.loop-place.first c.index.result.now tables (omega (arith, before, words)) c.index.ensures c.loop-place.invariant.first in
    let within = at.within in
    let loads = load_count-le p in
    let few = tables.limits.operations in
    omega (arith, within, loads, few)

pub write_values-requires : goal.write_values-requires
write_values-requires c =
    let p = c.args.self.now in
    let tables = tables_of c.self.inside.candidates p c.self.inside.groups.items c.self.view_is c.self.invariant in
    let before = c.loop-place-test.true in
    let words = length_fit p c.args.words.now c.requires.fit in
    let at = group_at p c.self.inside.groups.items c.loop-place.place c.loop-place.first c.index.result.now tables (omega (arith, before, words)) c.index.ensures c.loop-place.invariant.first in
    record { order = omega arith; within = at.within; loads = c.loop-place.auto.out ∙ c.requires.loads }

pub loop-place-preserved : goal.loop-place-preserved
loop-place-preserved c =
    let p = c.args.self.now in
    let tables = tables_of c.self.inside.candidates p c.self.inside.groups.items c.self.view_is c.self.invariant in
    let before = c.loop-place-test.true in
    let words = length_fit p c.args.words.now c.requires.fit in
    let lt : c.loop-place.place < length (groups p) = omega (arith, before, words) in
    let at = group_at p c.self.inside.groups.items c.loop-place.place c.loop-place.first c.index.result.now tables lt c.index.ensures c.loop-place.invariant.first in
    record {
      first = at.next;
      written = group_more p c.loop-place.out c.write_values.new.out c.args.words.now (get_or c.args.words.now c.loop-place.place 0) c.loop-place.place c.loop-place.first c.index.result.now.loads at lt words
          (c.loop-place.auto.out ∙ c.requires.loads) refl c.write_values.ensures ∙ c.loop-place.invariant.written;
    }

pub returns : goal.returns
returns c =
    let p = c.args.self.now in
    let past = c.loop-place-test.false in
    let words = length_fit p c.args.words.now c.requires.fit in
    let tables = tables_of c.self.inside.candidates p c.self.inside.groups.items c.self.view_is c.self.invariant in
    let done =
    groups_done p c.loop-place.out c.args.words.now c.loop-place.place c.loop-place.first (omega (arith, past, words)) c.loop-place.invariant.first (c.loop-place.auto.out ∙ c.requires.loads) c.loop-place.invariant.written in
    subst (Means p c.args.words.now) (sym done) (fit-means p c.args.words.now tables.limits.operations c.requires.fit)
