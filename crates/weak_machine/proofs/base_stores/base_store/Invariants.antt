use Rattle.std.proofs.Common.{◌≡◌, None}
use Rattle.std.specs.Prelude.{filter}
use Rattle.std.specs.List.{last_or}
use Rattle.orders.specs.Orders.{nodes_below}
use Rattle.test_lang.specs.Runs.{own_earlier}
use Rattle.weak_machine.proofs.base_stores.base_store.Given as goal

abbrev pub invariant-loop-earlier : goal.invariant-loop-earlier
invariant-loop-earlier l = l.last ≡ last_or None (filter (own_earlier l.test l.node) (nodes_below l.earlier))
