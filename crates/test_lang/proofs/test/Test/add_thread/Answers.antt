use Rattle.std.proofs.Common.{◌∙◌, ◌<◌, length, ap}
use Rattle.test_lang.specs.Tables.{program_of}
use Rattle.test_lang.proofs.Steps.{thread_added, tabulates_thread_added}
use Rattle.test_lang.proofs.test.Test.add_thread.Goals as goal

pub invariant_of-self-2 : goal.invariant_of-self-2
invariant_of-self-2 c =
    let inside = c.self.inside in
    let room : length (program_of inside.version inside.words (length inside.first_nodes.items) inside.rows.items).threads < 16 = rw (ap (λ p. length p.threads) c.self.view_is) c.requires in
    rw c.in_ok-push.ensures.items
    (tabulates_thread_added inside.version inside.words inside.rows.items inside.load_nodes.items inside.store_nodes.items inside.first_nodes.items c.self.invariant _ room (c.len.ensures ∙ inside.rows.ok.0))

pub returns-clause-ok : goal.returns-clause-ok
returns-clause-ok c =
    let inside = c.self.inside in
    rw (← c.self.view_is, c.in_ok-push.ensures.items)
    (thread_added inside.version inside.words inside.rows.items inside.load_nodes.items inside.store_nodes.items inside.first_nodes.items c.self.invariant _)
