use Rattle.std.proofs.Common.{[], get_or, ap, arith}
use Rattle.test_lang.specs.Signatures.{groups}
use Rattle.signature_plan.specs.declared.group_rows.Group.{Group}
use Rattle.signature_plan.proofs.GroupTables.{product-some, product_at-fits, row_at, rows_long, tables_of}
use Rattle.signature_plan.proofs.plan.Plan.limit.Goals as goal

pub index-requires : goal.index-requires
index-requires c =
    let p = c.args.self.now in
    let tables = tables_of c.self.inside.candidates p c.self.inside.groups.items c.self.view_is c.self.invariant in
    let long = rows_long p c.self.inside.groups.items tables.rows_are in
    let len = c.self.inside.groups.ok.0 in
    let place = c.requires in
    omega (arith, long, len, place)

pub returns : goal.returns
returns c =
    let p = c.args.self.now in
    let tables = tables_of c.self.inside.candidates p c.self.inside.groups.items c.self.view_is c.self.invariant in
    let row = row_at p c.self.inside.groups.items c.args.place c.index.result.now tables.rows_are c.requires c.index.ensures in
    let product = ap (λ (g : Group). g.product) row in
    let some = product-some p (get_or (groups p) c.args.place []) in
    let fits = product_at-fits p c.args.place tables.limits.operations c.requires in
    record { product = product; some = omega (arith, product, some); few = omega (arith, product, fits) }
