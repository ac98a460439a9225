use Rattle.std.proofs.Common.{◌∙◌, [], ℕ, List, Bool, map, refl, ap, sym, subst}
use Rattle.std.specs.Prelude.{replicate}
use Rattle.orders.specs.Orders.{nodes_below}
use Rattle.weak_machine.specs.Progress.{IsProgress}
use Rattle.weak_machine.specs.Standing.{Stands}
use Rattle.weak_machine.specs.contracts.machine.WeakMachine.{the_view}
use Rattle.weak_machine.proofs.Performing.{stands-opening, values-long, values_before-long, loads-long}
use Rattle.weak_machine.proofs.machine.WeakMachineMachine.reset.Goals as goal

begun : (c : goal.After-fill) → Stands (record { test = c.self.inside.test; fault = c.self.inside.fault; performed = c.copy_from.new.self.performed.items; values = c.clear.new.self.values.items; values_before = c.clear.new.self.values_before.items; loads = c.fill.new.self.items }) []
begun c =
    let s = c.self.inside in
    let steps = c.self.invariant.stands_for.0 in
    let stands = c.self.invariant.stands_for.1 in
    stands-opening s.test s.fault c.copy_from.new.self.performed.items c.clear.new.self.values.items c.clear.new.self.values_before.items c.fill.new.self.items stands.limits
    (c.copy_from.ensures.performed ∙ c.self.invariant.opening_is)
    (c.clear.ensures.now ∙ ap (λ (n : ℕ). map (λ word. 0) (nodes_below n)) (values-long (the_view s) steps stands))
    (c.clear.ensures.before ∙ ap (λ (n : ℕ). map (λ word. 0) (nodes_below n)) (values_before-long (the_view s) steps stands))
    (c.fill.ensures.items (λ y h. h) ∙ ap (λ (n : ℕ). replicate n 0) (s.loads.ok.0 ∙ loads-long (the_view s) steps stands))

pub invariant_of-self : goal.invariant_of-self
invariant_of-self c =
    let i = c.self.invariant in
    let old = c.self.inside.opening in
    let new = c.copy_from.new.self in
    let waiting = c.self.inside.waiting in
    let e = c.copy_from.ensures in
    record {
      waiting_is = i.waiting_is;
      bases_are = i.bases_are;
      current_told =
          subst (λ (flags : List Bool). IsProgress waiting flags new.missing.items new.ready new.left) (sym e.performed)
          (subst (λ (missing : List ℕ). IsProgress waiting old.performed.items missing new.ready new.left) (sym e.missing)
          (subst (λ (flags : List Bool). IsProgress waiting old.performed.items old.missing.items flags new.left) (sym e.ready)
          (subst (IsProgress waiting old.performed.items old.missing.items old.ready) (sym e.left) i.opening_told)));
      opening_told = i.opening_told;
      current_is = refl;
      opening_is = i.opening_is;
      stands_for = ([], begun c);
    }

pub returns-clause-stands : goal.returns-clause-stands
returns-clause-stands c = begun c
