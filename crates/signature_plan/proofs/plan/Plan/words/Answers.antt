use Rattle.std.proofs.Common.{◌∙◌, arith}
use Rattle.signature_plan.proofs.GroupTables.{groups_few, rows_long, tables_of}
use Rattle.signature_plan.proofs.plan.Plan.words.Goals as goal

pub returns : goal.returns
returns c =
    let p = c.args.self.now in
    let tables = tables_of c.self.inside.candidates p c.self.inside.groups.items c.self.view_is c.self.invariant in
    let count = c.len.ensures ∙ c.self.inside.groups.ok.0 ∙ rows_long p c.self.inside.groups.items tables.rows_are in
    let few = groups_few p tables.limits.operations in
    record { count = count; few = omega (arith, count, few) }
