use Rattle.std.proofs.Common.{◌≡◌, ◌∙◌, ◌<◌, ℕ, List, false, ap, sym, subst, length, get_or, refl}
use Rattle.std.specs.Prelude.{◌==◌, replicate}
use Rattle.weak_machine.specs.NodeSets.{has_flag}
use Rattle.sim_core.proofs.BelowLists.{map_below-constant}
use Rattle.weak_machine.proofs.Missing.{begun}
use Rattle.weak_machine.proofs.progress.Progress.new.Goals as goal

pub returns-clause-progress : goal.returns-clause-progress
returns-clause-progress c =
    let lists = c.args.lists.now in
    let unset = c.in_ok-vec.ensures.items_if_clones_equal (λ y h. h) ∙ ap (λ (n : ℕ). replicate n false) c.len.ensures in
    let long = c.in_ok-missing.ensures.one_each in
    begun lists c.in_ok-vec.field-0.items c.in_ok-missing.missing.items c.in_ok-ready.ready c.len-2.result unset long c.in_ok-missing.ensures.counts
    (c.in_ok-ready.ensures.one_each ∙ ap length c.deref.ensures.value ∙ long)
    (λ n lt. subst (λ (missing : List ℕ). n < length missing → has_flag c.in_ok-ready.ready n ≡ (get_or missing n 0 == 0)) c.deref.ensures.value (c.in_ok-ready.ensures.found n) (subst (λ (count : ℕ). n < count) (sym long) lt))
    c.len-2.ensures

pub returns-clause-none : goal.returns-clause-none
returns-clause-none c =
    c.in_ok-vec.ensures.items_if_clones_equal (λ y h. h) ∙ ap (λ (n : ℕ). replicate n false) c.len.ensures ∙ sym (map_below-constant (λ k. false) false (length c.args.lists.now) (λ k. refl))
