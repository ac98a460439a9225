use Rattle.std.proofs.Common.{◌∙◌, ap, length, List, replicate, sym, take, ℕ, arith}
use Rattle.std.proofs.lemmas.List.{length-replicate, with_items_is}
use Rattle.sc_machine.specs.declared.threads.Thread.{Thread}
use Rattle.sc_machine.specs.Threads.{open_numbers, opening_thread}
use Rattle.sim_core.proofs.BelowLists.{length-map_below}
use Rattle.sc_machine.proofs.Opening.{machine_opening, stands_opening}
use Rattle.sc_machine.proofs.machine.ScMachine.new.Goals as goal

pub list_open-open_count-requires-clause-few : goal.list_open-open_count-requires-clause-few
list_open-open_count-requires-clause-few c =
    let long = ap length (c.deref.ensures.value ∙ c.in_ok-threads.ensures) ∙ length-map_below (opening_thread c.args.test.now) (length c.args.test.now.threads) in
    let few = c.words-words.ensures.limits.threads in
    omega (arith, long, few)

pub invariant_of-result : goal.invariant_of-result
invariant_of-result c =
    rw c.in_ok-clone.ensures.cases
    (record {
      machine = machine_opening c.args.fault c.args.test.now c.words-words.ensures.limits _ _ _ _ _
          c.in_ok-threads.ensures
          (c.in_ok-vec.ensures.items_if_clones_equal (λ y same. same) ∙ ap (λ (n : ℕ). replicate n 0) c.words-words.ensures.count)
          (c.in_ok-vec-2.ensures.items_if_clones_equal (λ y same. same) ∙ ap (λ (n : ℕ). replicate n 0) c.words-words.ensures.count)
          (c.in_ok-vec-3.ensures.items_if_clones_equal (λ y same. same) ∙ ap (λ (n : ℕ). replicate n 0) c.loads.ensures.count)
          c.ops.ensures.count;
      counted = c.list_open-open_count.ensures.count ∙ ap (λ (threads : List Thread). length (open_numbers threads)) c.deref.ensures.value;
      room = ap length (with_items_is c.in_ok-open_threads.open_threads c.list_open-open_count.new.listed (c.list_open-open_count.auto.listed ∙ c.deref_mut.ensures.len)) ∙ c.list_open-open_count.auto.listed ∙ ap length c.deref_mut.ensures.value ∙ ap length (c.in_ok-open_threads.ensures.items_if_clones_equal (λ y same. same)) ∙ length-replicate c.len.result 0 ∙ c.len.ensures ∙ sym c.deref.ensures.len ∙ ap length c.deref.ensures.value;
      listed_are = ap (take c.list_open-open_count.result) (with_items_is c.in_ok-open_threads.open_threads c.list_open-open_count.new.listed (c.list_open-open_count.auto.listed ∙ c.deref_mut.ensures.len)) ∙ c.list_open-open_count.ensures.listed ∙ ap open_numbers c.deref.ensures.value;
    })

pub returns-clause-stands : goal.returns-clause-stands
returns-clause-stands c =
    rw c.in_ok-clone.ensures.cases
    (stands_opening c.args.fault c.args.test.now c.words-words.ensures.limits _ _ _ _ _
    c.in_ok-threads.ensures
    (c.in_ok-vec.ensures.items_if_clones_equal (λ y same. same) ∙ ap (λ (n : ℕ). replicate n 0) c.words-words.ensures.count)
    (c.in_ok-vec-2.ensures.items_if_clones_equal (λ y same. same) ∙ ap (λ (n : ℕ). replicate n 0) c.words-words.ensures.count)
    (c.in_ok-vec-3.ensures.items_if_clones_equal (λ y same. same) ∙ ap (λ (n : ℕ). replicate n 0) c.loads.ensures.count)
    c.ops.ensures.count)
