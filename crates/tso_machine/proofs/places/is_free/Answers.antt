use Rattle.std.proofs.Common.{◌≡◌, ◌∙◌, ℕ, false, not, ◌||◌, take, get_or, ap, sym}
use Rattle.std.specs.List.{list_any}
use Rattle.std.proofs.lemmas.List.{take_all}
use Rattle.std.proofs.lemmas.List.Folds.{list_any_more}
use Rattle.test_lang.specs.Play.Machines.{holds_back_at}
use Rattle.tso_machine.proofs.Drains.{holds_back_at-actions}
use Rattle.tso_machine.proofs.places.is_free.Goals as goal

pub loop-node-preserved : goal.loop-node-preserved
loop-node-preserved c =
    let p = c.args.test.now in
    let n = get_or c.args.entries.now c.args.place 0 in
    let front = take c.args.place c.args.entries.now in
    let k = c.loop-node.node-index in
    let held : holds_back_at p (get_or front k 0) n ≡ false = holds_back_at-actions p (get_or front k 0) n c.action.result c.action-second.result c.action.ensures.found c.action-second.ensures.found ∙ sym c.if-holds_back.ensures in
    list_any_more (λ (a : ℕ). holds_back_at p a n) front k 0 c.loop-node-test.true ∙ ap (λ b. b || holds_back_at p (get_or front k 0) n) c.loop-node.invariant ∙ held

pub returns : goal.returns
returns c =
    let p = c.args.test.now in
    let n = get_or c.args.entries.now c.args.place 0 in
    let front = take c.args.place c.args.entries.now in
    ap not (sym (sym (ap (list_any (λ (a : ℕ). holds_back_at p a n)) (take_all c.loop-node.node-index front c.loop-node-test.false)) ∙ c.loop-node.invariant))
