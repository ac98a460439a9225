use Rattle.std.proofs.Common.{◌∙◌, ◌-◌, ◌<◌, ℕ, Bool, List, [], true, false, Contains, ap, sym, subst, arith, length, get_or, set}
use Rattle.std.proofs.lemmas.List.{with_items_is}
use Rattle.std.proofs.lemmas.List.Elements.{All-contains}
use Rattle.weak_machine.specs.NodeSets.{has_flag}
use Rattle.weak_machine.specs.Progress.{IsProgress}
use Rattle.weak_machine.proofs.Missing.{IsReleased, performing-apart, performing-enough, progressed, released-all, times}
use Rattle.weak_machine.proofs.progress.Progress.perform.Goals as goal

pub release-requires-clause-enough : goal.release-requires-clause-enough
release-requires-clause-enough c = λ t lt.
    let old = c.args.self.now in
    let long = ap length c.deref_mut.ensures.value in
    let enough = performing-enough c.args.lists.now old.performed.items old.missing.items old.ready old.left c.args.node c.requires.progress c.requires.ready t (omega (arith, lt, long)) in
    let list = ap (times t) c.at.ensures in
    let value = ap (λ (xs : List ℕ). get_or xs t 0) c.deref_mut.ensures.value in
    omega (arith, enough, list, value)

pub release-requires-clause-apart : goal.release-requires-clause-apart
release-requires-clause-apart c = λ t there.
    let old = c.args.self.now in
    let listed = subst (λ (nodes : List ℕ). Contains nodes t) c.at.ensures there in
    let below = All-contains (λ n. n < length c.args.lists.now) (get_or c.args.lists.now c.args.node []) t c.requires.inside listed in
    let long = c.requires.progress.one_missing_each in
    ap (λ (flags : List Bool). has_flag flags t) c.remove.ensures
    ∙ performing-apart c.args.lists.now old.performed.items old.missing.items old.ready old.left c.args.node c.requires.progress c.requires.ready c.requires.apart c.requires.other t listed (omega (arith, below, long))

pub returns-clause-progress : goal.returns-clause-progress
returns-clause-progress c =
    let old = c.args.self.now in
    let lists = c.args.lists.now in
    let items = with_items_is old.missing c.release.new.missing (c.release.auto.missing ∙ c.deref_mut.ensures.len) in
    let as_released : IsReleased c.deref_mut.result.now c.remove.new.self c.at.result.now (length c.at.result.now) c.release.new.missing c.release.new.ready =
    released-all c.deref_mut.result.now c.remove.new.self c.at.result.now c.release.new.missing c.release.new.ready c.release.auto.missing c.release.ensures.same c.release.ensures.less c.release.ensures.ready in
    let with_old = subst (λ (missing : List ℕ). IsReleased missing c.remove.new.self c.at.result.now (length c.at.result.now) c.release.new.missing c.release.new.ready) c.deref_mut.ensures.value as_released in
    let with_ready = subst (λ (ready : List Bool). IsReleased old.missing.items ready c.at.result.now (length c.at.result.now) c.release.new.missing c.release.new.ready) c.remove.ensures with_old in
    let with_list = subst (λ (nodes : List ℕ). IsReleased old.missing.items (set old.ready c.args.node false) nodes (length nodes) c.release.new.missing c.release.new.ready) c.at.ensures with_ready in
    subst (λ (missing : List ℕ). IsProgress lists (set old.performed.items c.args.node true) missing c.release.new.ready (old.left - 1)) (sym items)
    (progressed lists old.performed.items old.missing.items old.ready old.left c.args.node c.requires.progress c.requires.ready c.requires.apart c.requires.other c.release.new.missing c.release.new.ready with_list)
