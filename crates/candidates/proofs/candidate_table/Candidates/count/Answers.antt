use Rattle.std.proofs.Common.{arith, subst}
use Rattle.test_lang.specs.Program.{IsWithinLimits}
use Rattle.candidates.specs.ByRank.{candidates_at}
use Rattle.candidates.specs.Tables.{TellsCandidates}
use Rattle.candidates.proofs.CandidateLaws.{count_at-le}
use Rattle.candidates.proofs.TableReads.{lists_of, row_told}
use Rattle.candidates.proofs.candidate_table.Candidates.count.Goals as goal

told : (c : goal.After-index) → TellsCandidates (candidates_at c.args.self.now c.args.rank) c.self.inside.lists.values.items c.index.result.now
told c =
    let p = c.args.self.now in
    let i = c.self.inside in
    row_told p i.lists.loads.items i.lists.values.items i.lists.places.items (lists_of i.test p i.lists.loads.items i.lists.values.items i.lists.places.items c.self.view_is c.self.invariant.2) c.args.rank c.index.result.now c.requires c.index.ensures

pub returns-clause-count : goal.returns-clause-count
returns-clause-count c = (told c).count_is

pub returns-clause-some : goal.returns-clause-some
returns-clause-some c = let count = (told c).count_is in omega (arith, count)

pub returns-clause-few : goal.returns-clause-few
returns-clause-few c =
    let count = (told c).count_is in
    let fewer = count_at-le c.args.self.now c.args.rank c.requires in
    let limits : IsWithinLimits c.args.self.now = subst (λ p. IsWithinLimits p) c.self.view_is c.self.invariant.0 in
    let operations = limits.operations in
    omega (arith, count, fewer, operations)
