use Rattle.std.proofs.Common.{◌≡◌, ◌∙◌, ◌-◌, ◌<◌, Some, ap, arith}
use Rattle.std.specs.Prelude.{slice_get}
use Rattle.test_lang.specs.Values.{store_count}
use Rattle.test_lang.specs.Tables.{store_nodes}
use Rattle.test_lang.proofs.Ranks.{is_store_at-below, store_nodes-is_store, store_nodes-value}
use Rattle.test_lang.proofs.Tabulated.{store_found, store_total}
use Rattle.test_lang.proofs.test.Test.store_of.Goals as goal

pub index-requires : goal.index-requires
index-requires c =
    let total = store_total _ _ _ _ _ c.self.invariant ∙ ap store_count c.self.view_is in
    let len = c.self.inside.store_nodes.ok.0 in
    omega (arith, total, len)

found : (c : goal.After-row_known-1) → slice_get (store_nodes c.args.self.now) (c.args.value - 1) ≡ Some c.index.result.now
found c =
    let some = c.requires.some in
    let few = c.requires.few in
    let place : c.args.value - 1 < store_count c.args.self.now = omega (arith, some, few) in
    store_found _ _ _ _ _ _ c.self.invariant c.self.view_is _ _ place c.index.ensures

pub returns-clause-is_store : goal.returns-clause-is_store
returns-clause-is_store c = store_nodes-is_store c.args.self.now (c.args.value - 1) c.index.result.now (found c)

pub returns-clause-value : goal.returns-clause-value
returns-clause-value c =
    let value = store_nodes-value c.args.self.now (c.args.value - 1) c.index.result.now (found c) in
    let some = c.requires.some in
    omega (arith, value, some)

pub returns-clause-in_range : goal.returns-clause-in_range
returns-clause-in_range c = is_store_at-below c.args.self.now c.index.result.now (store_nodes-is_store c.args.self.now (c.args.value - 1) c.index.result.now (found c))
