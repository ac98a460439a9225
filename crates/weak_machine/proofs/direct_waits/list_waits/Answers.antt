use Rattle.std.proofs.Common.{◌∙◌, ◌+◌, ◌<◌, ◌++◌, ◌∷◌, ℕ, [], List, Vec, Global, All, ap, sym, subst, arith}
use Rattle.test_lang.specs.Program.{op_count}
use Rattle.test_lang.proofs.Threads.{thread_at-stands}
use Rattle.weak_machine.specs.Waiting.{waits_for_any}
use Rattle.weak_machine.proofs.Waits.{AreListed, all-nodes, listed-all, listed-direct, listed-indirect, listed-other, none-listed, pair-thread}
use Rattle.weak_machine.proofs.direct_waits.list_waits.Goals as goal
use Rattle.weak_machine.proofs.direct_waits.list_waits.Goals.{then-waits_for+in_ok-push-2, then-not-waits_for_any+in_ok-push, else-not-waits_for_any, else-waits_for}

pub loop-b-init : goal.loop-b-init
loop-b-init c =
    let a = c.args.a in
    subst (λ (all : List ℕ). AreListed c.args.fault c.args.test.now a (a + 1) all c.clear-2.new.self.items) (sym c.clear.ensures.items)
    (subst (AreListed c.args.fault c.args.test.now a (a + 1) []) (sym c.clear-2.ensures.items) (none-listed c.args.fault c.args.test.now a))

pub waits_for_any-requires-clause-nodes : goal.waits_for_any-requires-clause-nodes
waits_for_any-requires-clause-nodes c =
    subst (All (λ n. n < op_count c.args.test.now)) (sym c.deref.ensures.value) (all-nodes c.args.fault c.args.test.now c.args.a c.loop-b.b c.loop-b.all.items c.loop-b.invariant.all_are)

pub loop-b-preserved : goal.loop-b-preserved
loop-b-preserved c =
    let fault = c.args.fault in
    let p = c.args.test.now in
    let a = c.args.a in
    let b = c.loop-b.b in
    let all = c.loop-b.all.items in
    let direct = c.loop-b.direct.items in
    let turn = c.loop-b-test.true in
    let first = c.first_of.ensures.first in
    let within = c.len_of.ensures.within in
    let lt : c.loop-b.b < op_count c.args.test.now = omega (arith, turn, first, within) in
    elim c.if-waits_for.branch [
      | then-waits_for+in_ok-push-2 w ↦
          let waits = sym c.waits_for.ensures ∙ w.if-waits_for.true in
          let all_are = ap (λ (v : Vec ℕ Global). v.items) w.all-is ∙ w.in_ok-push-2.ensures.items in
          let tested = sym w.waits_for_any.ensures in
          let value = ap (λ (nodes : List ℕ). waits_for_any fault p nodes b) (sym w.deref.ensures.value) in
          elim w.if-not-waits_for_any.branch [
            | then-not-waits_for_any+in_ok-push w' ↦
                let direct_are = ap (λ (v : Vec ℕ Global). v.items) (w.direct-is ∙ w'.direct-is) ∙ w'.in_ok-push.ensures.items in
                subst (λ (nodes : List ℕ). AreListed fault p a (b + 1) nodes c.if-waits_for.direct.items) (sym all_are)
                (subst (AreListed fault p a (b + 1) (all ++ b ∷ [])) (sym direct_are) (listed-direct fault p a b all direct c.loop-b.invariant waits lt (value ∙ tested ∙ w'.if-not-waits_for_any.true)))
            | else-not-waits_for_any w' ↦
                let direct_are = ap (λ (v : Vec ℕ Global). v.items) (w.direct-is ∙ w'.direct-is) in
                subst (λ (nodes : List ℕ). AreListed fault p a (b + 1) nodes c.if-waits_for.direct.items) (sym all_are)
                (subst (AreListed fault p a (b + 1) (all ++ b ∷ [])) (sym direct_are) (listed-indirect fault p a b all direct c.loop-b.invariant waits lt (value ∙ tested ∙ w'.if-not-waits_for_any.false)))
          ]
      | else-waits_for w ↦
          subst (λ (nodes : List ℕ). AreListed fault p a (b + 1) nodes c.if-waits_for.direct.items) (sym (ap (λ (v : Vec ℕ Global). v.items) w.all-is))
          (subst (AreListed fault p a (b + 1) all) (sym (ap (λ (v : Vec ℕ Global). v.items) w.direct-is)) (listed-other fault p a b all direct c.loop-b.invariant (sym c.waits_for.ensures ∙ w.if-waits_for.false)))
    ]

pub returns : goal.returns
returns c =
    let p = c.args.test.now in
    let thread = c.thread_of-thread.result in
    let s = thread_at-stands p c.args.a thread c.thread_of-thread.ensures.found in
    let to = s.to in
    let first = c.first_of.ensures.first in
    let len = c.len_of.ensures.count in
    let within = c.len_of.ensures.within in
    let past = c.loop-b-test.false in
    let most = c.loop-b.auto.b-end in
    listed-all c.args.fault p c.args.a c.loop-b.b c.loop-b.all.items c.loop-b.direct.items c.loop-b.invariant (omega (arith, to, first, len, within, most))
    (λ b pair. let stands = (pair-thread p c.args.a b thread c.thread_of-thread.ensures.found pair).to in omega (arith, stands, first, len, past))
