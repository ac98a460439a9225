use Rattle.std.proofs.Common.{ap, arith}
use Rattle.test_lang.proofs.Ranks.{load_count-le}
use Rattle.signature_plan.specs.declared.group_rows.Group.{Group}
use Rattle.signature_plan.proofs.GroupTables.{groups_few, row_at, rows_long, tables_of}
use Rattle.signature_plan.proofs.WritingRuns.{none_too_large, too_large}
use Rattle.signature_plan.proofs.plan.Plan.first_too_large.Goals as goal

pub index-requires : goal.index-requires
index-requires c =
    let p = c.args.self.now in
    let tables = tables_of c.self.inside.candidates p c.self.inside.groups.items c.self.view_is c.self.invariant in
    let long = rows_long p c.self.inside.groups.items tables.rows_are in
    let len = c.self.inside.groups.ok.0 in
    let before = c.loop-place-test.true in
    let words = c.requires in
    omega (arith, long, len, before, words)

pub overflow_cast-result : goal.overflow_cast-result
overflow_cast-result c =
    let p = c.args.self.now in
    let tables = tables_of c.self.inside.candidates p c.self.inside.groups.items c.self.view_is c.self.invariant in
    let before = c.loop-place-test.true in
    let words = c.requires in
    let few = groups_few p tables.limits.operations in
    let loads = load_count-le p in
    let ops = tables.limits.operations in
    omega (arith, before, words, few, loads, ops)

pub returns-then-from-limit-clause-none : goal.returns-then-from-limit-clause-none
returns-then-from-limit-clause-none c =
    let p = c.args.self.now in
    let place = c.loop-place.place in
    let tables = tables_of c.self.inside.candidates p c.self.inside.groups.items c.self.view_is c.self.invariant in
    let before = c.loop-place-test.true in
    let words = c.requires in
    let row = row_at p c.self.inside.groups.items place c.index.result.now tables.rows_are (omega (arith, before, words)) c.index.ensures in
    let product = ap (λ (g : Group). g.product) row in
    let large = c.if-from-limit.true in
    let word = c.from.ensures in
    (λ e. cc, λ fit. absurd (too_large p c.args.words.now place before (omega (arith, product, large, word)) fit))

pub returns-clause-none : goal.returns-clause-none
returns-clause-none c =
    let past = c.loop-place-test.false in
    (λ e. none_too_large c.args.self.now c.args.words.now c.requires (λ k lt. c.loop-place.invariant k (omega (arith, past, lt))), λ fit. cc)
