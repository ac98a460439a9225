use Rattle.std.proofs.Common.{◌≡◌, ◌∙◌, Some, ap, arith}
use Rattle.std.specs.Prelude.{slice_get}
use Rattle.test_lang.specs.Values.{load_count, load_nodes}
use Rattle.test_lang.proofs.Ranks.{is_load_at-below, load_nodes-is_load, load_nodes-rank}
use Rattle.test_lang.proofs.Tabulated.{load_found, load_total}
use Rattle.test_lang.proofs.test.Test.load_at.Goals as goal

pub index-requires : goal.index-requires
index-requires c =
    let total = load_total _ _ _ _ _ c.self.invariant ∙ ap load_count c.self.view_is in
    let len = c.self.inside.load_nodes.ok.0 in
    omega (arith, total, len)

found : (c : goal.After-row_known-1) → slice_get (load_nodes c.args.self.now) c.args.rank ≡ Some c.index.result.now
found c = load_found _ _ _ _ _ _ c.self.invariant c.self.view_is c.args.rank _ c.requires c.index.ensures

pub returns-clause-is_load : goal.returns-clause-is_load
returns-clause-is_load c = load_nodes-is_load c.args.self.now c.args.rank c.index.result.now (found c)

pub returns-clause-rank : goal.returns-clause-rank
returns-clause-rank c = load_nodes-rank c.args.self.now c.args.rank c.index.result.now (found c)

pub returns-clause-listed : goal.returns-clause-listed
returns-clause-listed c = found c

pub returns-clause-in_range : goal.returns-clause-in_range
returns-clause-in_range c = is_load_at-below c.args.self.now c.index.result.now (load_nodes-is_load c.args.self.now c.args.rank c.index.result.now (found c))
