use Rattle.std.proofs.Common.{◌∙◌, ap, length, List, replicate, sym, take, ℕ}
use Rattle.std.proofs.lemmas.List.{with_items_is}
use Rattle.sc_machine.specs.declared.threads.Thread.{Thread}
use Rattle.sc_machine.specs.Threads.{open_numbers}
use Rattle.sc_machine.proofs.Opening.{limits_of, loads_each, machine_opening, stands_opening, words_before, words_now}
use Rattle.sc_machine.proofs.machine.ScMachineMachine.reset.Goals as goal

pub invariant_of-self : goal.invariant_of-self
invariant_of-self c =
    let i = c.self.inside in
    let m = c.self.invariant.machine in
    record {
      machine = machine_opening i.fault i.test (limits_of _ _ m) _ _ _ _ _
          (with_items_is i.threads c.rewind.new.threads (c.rewind.auto.threads ∙ c.deref_mut.ensures.len) ∙ c.rewind.ensures)
          (with_items_is i.now c.clear.new.values (c.clear.auto.values ∙ c.deref_mut-2.ensures.len) ∙ c.clear.ensures ∙ ap (λ (n : ℕ). replicate n 0) (ap length c.deref_mut-2.ensures.value ∙ words_now _ _ m))
          (with_items_is i.before c.clear-2.new.values (c.clear-2.auto.values ∙ c.deref_mut-3.ensures.len) ∙ c.clear-2.ensures ∙ ap (λ (n : ℕ). replicate n 0) (ap length c.deref_mut-3.ensures.value ∙ words_before _ _ m))
          (with_items_is i.loads c.clear-3.new.values (c.clear-3.auto.values ∙ c.deref_mut-4.ensures.len) ∙ c.clear-3.ensures ∙ ap (λ (n : ℕ). replicate n 0) (ap length c.deref_mut-4.ensures.value ∙ loads_each _ _ m))
          c.ops-self-inside.ensures.count;
      counted = c.list_open-self-inside.ensures.count ∙ ap (λ (threads : List Thread). length (open_numbers threads)) c.deref.ensures.value;
      room = ap length (with_items_is i.open_threads c.list_open-self-inside.new.listed (c.list_open-self-inside.auto.listed ∙ c.deref_mut-5.ensures.len)) ∙ c.list_open-self-inside.auto.listed ∙ ap length c.deref_mut-5.ensures.value ∙ c.self.invariant.room ∙ sym (ap length (with_items_is i.threads c.rewind.new.threads (c.rewind.auto.threads ∙ c.deref_mut.ensures.len)) ∙ c.rewind.auto.threads ∙ ap length c.deref_mut.ensures.value);
      listed_are = ap (take c.list_open-self-inside.result) (with_items_is i.open_threads c.list_open-self-inside.new.listed (c.list_open-self-inside.auto.listed ∙ c.deref_mut-5.ensures.len)) ∙ c.list_open-self-inside.ensures.listed ∙ ap open_numbers c.deref.ensures.value;
    }

pub returns-clause-stands : goal.returns-clause-stands
returns-clause-stands c =
    let i = c.self.inside in
    let m = c.self.invariant.machine in
    stands_opening i.fault i.test (limits_of _ _ m) _ _ _ _ _
    (with_items_is i.threads c.rewind.new.threads (c.rewind.auto.threads ∙ c.deref_mut.ensures.len) ∙ c.rewind.ensures)
    (with_items_is i.now c.clear.new.values (c.clear.auto.values ∙ c.deref_mut-2.ensures.len) ∙ c.clear.ensures ∙ ap (λ (n : ℕ). replicate n 0) (ap length c.deref_mut-2.ensures.value ∙ words_now _ _ m))
    (with_items_is i.before c.clear-2.new.values (c.clear-2.auto.values ∙ c.deref_mut-3.ensures.len) ∙ c.clear-2.ensures ∙ ap (λ (n : ℕ). replicate n 0) (ap length c.deref_mut-3.ensures.value ∙ words_before _ _ m))
    (with_items_is i.loads c.clear-3.new.values (c.clear-3.auto.values ∙ c.deref_mut-4.ensures.len) ∙ c.clear-3.ensures ∙ ap (λ (n : ℕ). replicate n 0) (ap length c.deref_mut-4.ensures.value ∙ loads_each _ _ m))
    c.ops-self-inside.ensures.count
