use Rattle.std.proofs.Common.{◌∙◌, ◌++◌, ◌∷◌, [], ℕ, List, ap, arith, length}
use Rattle.std.specs.Prelude.{filter, sum_by}
use Rattle.std.proofs.lemmas.List.Sums.{sum_by_push}
use Rattle.test_lang.specs.Program.{all_nodes}
use Rattle.weak_machine.specs.Waiting.{waits_directly}
use Rattle.sim_core.proofs.BelowLists.{map_below-push}
use Rattle.weak_machine.proofs.Waits.{length-direct}
use Rattle.weak_machine.proofs.direct_waits.direct_waits.Goals as goal

pub push-requires : goal.push-requires
push-requires c =
    let list = ap length (c.deref.ensures.value ∙ c.in_ok-list_waits.ensures) in
    let le = length-direct c.args.fault c.args.test.now c.loop-a.a in
    let count = c.ops-a-end.ensures.count in
    let few = c.ops-a-end.ensures.few in
    let before = c.loop-a.invariant.few in
    let turn = c.loop-a-test.true in
    omega (arith, list, le, count, few, before, turn)

pub loop-a-preserved : goal.loop-a-preserved
loop-a-preserved c =
    let a = c.loop-a.a in
    let p = c.args.test.now in
    let list = c.deref.ensures.value ∙ c.in_ok-list_waits.ensures in
    record {
      direct = c.in_ok-push.ensures ∙ ap (λ (nodes : List ℕ). c.loop-a.lists ++ nodes ∷ []) list ∙ ap (λ (lists : List (List ℕ)). lists ++ filter (waits_directly c.args.fault p a) (all_nodes p) ∷ []) c.loop-a.invariant.direct
          ∙ map_below-push (λ n. filter (waits_directly c.args.fault p n) (all_nodes p)) a;
      few =
          let all = ap (λ (lists : List (List ℕ)). sum_by length lists) c.in_ok-push.ensures in
          let more = sum_by_push length c.loop-a.lists c.deref.result.now in
          let long = ap length list in
          let le = length-direct c.args.fault p a in
          let count = c.ops-a-end.ensures.count in
          let most = c.ops-a-end.ensures.few in
          let before = c.loop-a.invariant.few in
          omega (arith, all, more, long, le, count, most, before);
    }
