use Rattle.std.proofs.Common.{◌≡◌, ◌∙◌, ◌<◌, ◌&&◌, ℕ, List, Bool, not, true, false, refl, get_or, ap, sym, subst, arith}
use Rattle.std.proofs.lemmas.List.{get_or_read}
use Rattle.test_lang.specs.declared.step.Step.{Step}
use Rattle.test_lang.specs.Program.{op_count}
use Rattle.test_lang.specs.Values.{word_at}
use Rattle.test_lang.specs.Play.Faults.{forwards_nothing}
use Rattle.weak_machine.specs.Standing.{Standing, Stands, base_is_left, given_by}
use Rattle.weak_machine.specs.contracts.machine.WeakMachine.{the_view}
use Rattle.weak_machine.proofs.Performing.{word-within, values-long, values_before-long, given-before, given-now}
use Rattle.weak_machine.proofs.machine.WeakMachine.value_of_load.Goals as goal
use Rattle.weak_machine.proofs.machine.WeakMachine.value_of_load.Goals.{else-base_is_left-via-then-base_is_left+else-not-forwards_nothing, else-base_is_left-via-else-base_is_left}

-- the word of the load is one of the test
word_within : (m now : Standing) (steps : List Step) (node word : ℕ) → Stands m steps → m ≡ now → node < op_count now.test → word ≡ word_at now.test node → word < m.test.words
word_within m now steps node word s view lt is =
    let below = word-within m.test node s.limits (subst (λ (standing : Standing). node < op_count standing.test) (sym view) lt) in
    let same = is ∙ ap (λ (standing : Standing). word_at standing.test node) (sym view) in
    omega (arith, below, same)

nothing_given : (x y : Bool) → y ≡ true → (x && not y) ≡ false
nothing_given true y e = ap not e
nothing_given false y e = refl

none_left : (x y : Bool) → x ≡ false → (x && not y) ≡ false
none_left x y e = ap (λ b. b && not y) e

pub index-requires : goal.index-requires
index-requires c =
    let m = the_view c.self.inside in
    let steps = c.self.invariant.stands_for.0 in
    let stands = c.self.invariant.stands_for.1 in
    let below = word_within m c.args.self.now steps c.args.node c.args.word stands c.self.view_is c.requires.node c.requires.word in
    let long = values_before-long m steps stands in
    let ok = c.self.inside.memory.values_before.ok.0 in
    omega (arith, below, long, ok)

pub index-requires-else-is_stale : goal.index-requires-else-is_stale
index-requires-else-is_stale c =
    let m = the_view c.self.inside in
    let steps = c.self.invariant.stands_for.0 in
    let stands = c.self.invariant.stands_for.1 in
    let below = word_within m c.args.self.now steps c.args.node c.args.word stands c.self.view_is c.requires.node c.requires.word in
    let long = values-long m steps stands in
    let ok = c.self.inside.memory.values.ok.0 in
    omega (arith, below, long, ok)

pub returns-then-is_stale : goal.returns-then-is_stale
returns-then-is_stale c =
    let s = c.self.inside in
    let m = the_view c.self.inside in
    let steps = c.self.invariant.stands_for.0 in
    let stands = c.self.invariant.stands_for.1 in
    let node = c.args.node in
    let below = word_within m c.args.self.now steps node c.args.word stands c.self.view_is c.requires.node c.requires.word in
    let long = values_before-long m steps stands in
    let none : (base_is_left m node && not (forwards_nothing s.fault)) ≡ false = elim c.else-base_is_left.branch [
      | else-base_is_left-via-then-base_is_left+else-not-forwards_nothing w ↦ nothing_given (base_is_left m node) (forwards_nothing s.fault) (sym w.forwards_nothing.ensures ∙ w.if-not-forwards_nothing.false)
      | else-base_is_left-via-else-base_is_left w ↦
          none_left (base_is_left m node) (forwards_nothing s.fault) (ap (λ (standing : Standing). base_is_left standing node) c.self.view_is ∙ sym c.base_is_left.ensures ∙ w.if-base_is_left.false)
    ] in
    get_or_read s.memory.values_before.items c.args.word c.index.result.now (omega (arith, below, long)) c.index.ensures 0
    ∙ ap (λ (word : ℕ). get_or s.memory.values_before.items word 0) (c.requires.word ∙ ap (λ (standing : Standing). word_at standing.test node) (sym c.self.view_is))
    ∙ given-before m node none (sym c.is_stale.ensures ∙ c.if-is_stale.true)
    ∙ ap (λ (standing : Standing). given_by standing node) c.self.view_is

pub returns-else-is_stale : goal.returns-else-is_stale
returns-else-is_stale c =
    let s = c.self.inside in
    let m = the_view c.self.inside in
    let steps = c.self.invariant.stands_for.0 in
    let stands = c.self.invariant.stands_for.1 in
    let node = c.args.node in
    let below = word_within m c.args.self.now steps node c.args.word stands c.self.view_is c.requires.node c.requires.word in
    let long = values-long m steps stands in
    let none : (base_is_left m node && not (forwards_nothing s.fault)) ≡ false = elim c.else-base_is_left.branch [
      | else-base_is_left-via-then-base_is_left+else-not-forwards_nothing w ↦ nothing_given (base_is_left m node) (forwards_nothing s.fault) (sym w.forwards_nothing.ensures ∙ w.if-not-forwards_nothing.false)
      | else-base_is_left-via-else-base_is_left w ↦
          none_left (base_is_left m node) (forwards_nothing s.fault) (ap (λ (standing : Standing). base_is_left standing node) c.self.view_is ∙ sym c.base_is_left.ensures ∙ w.if-base_is_left.false)
    ] in
    get_or_read s.memory.values.items c.args.word c.index-else-is_stale.result.now (omega (arith, below, long)) c.index-else-is_stale.ensures 0
    ∙ ap (λ (word : ℕ). get_or s.memory.values.items word 0) (c.requires.word ∙ ap (λ (standing : Standing). word_at standing.test node) (sym c.self.view_is))
    ∙ given-now m node none (sym c.is_stale.ensures ∙ c.if-is_stale.false)
    ∙ ap (λ (standing : Standing). given_by standing node) c.self.view_is
