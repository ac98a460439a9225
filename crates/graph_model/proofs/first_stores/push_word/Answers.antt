-- A thread's first store is put at the end, where it has one.
use Rattle.std.proofs.Common.{◌≡◌, ◌∙◌, ℕ, Option, Some, None, get_or, refl, ap, sym, arith}
use Rattle.graph_model.specs.StoreTables.{first_store_to}
use Rattle.graph_model.proofs.FirstLists.{some-more, none-more}
use Rattle.graph_model.proofs.first_stores.push_word.Goals as goal
use Rattle.graph_model.proofs.first_stores.push_word.Goals.{in-Some+in_ok-push, in_default}

none_of : (o : Option ℕ) → ((x : ℕ) → o ≡ Some x → ⊥) → o ≡ None
none_of None h = refl
none_of (Some x) h = absurd (h x refl)

pub loop-thread-preserved : goal.loop-thread-preserved
loop-thread-preserved c =
    let p = c.args.test.now in
    let thread : ℕ = c.loop-thread.thread in
    let at : get_or c.args.table.now c.place_of.result None ≡ first_store_to p c.args.word thread =
    ap (λ (k : ℕ). get_or c.args.table.now k None) c.place_of.ensures.place ∙ c.requires.table.each c.args.word thread c.requires.word (let lt = c.loop-thread-test.true in let count = c.threads-thread-end.ensures.count in omega (arith, lt, count)) in
    elim c.match-table-place_of.branch [
      | in-Some+in_ok-push w ↦ rw w.stores-is (w.in_ok-push.ensures.items ∙ some-more (first_store_to p c.args.word) c.args.stores.now.items c.loop-thread.stores.items thread c.loop-thread.invariant w.in-Some.first (sym at ∙ w.in-Some.is))
      | in_default w ↦ rw w.stores-is (none-more (first_store_to p c.args.word) c.args.stores.now.items c.loop-thread.stores.items thread c.loop-thread.invariant (sym at ∙ none_of (get_or c.args.table.now c.place_of.result None) w.in_default.not-Some))
    ]
