use Rattle.std.proofs.Common.{◌≤◌, List, ℕ, arith, subst, sym}
use Rattle.signature_plan.proofs.AllLoads.{thread_counts}
use Rattle.signature_plan.proofs.LongestCuts.{longest_cut}
use Rattle.signature_plan.proofs.OneCut.{one_cut}
use Rattle.signature_plan.specs.Cuts.{IsLongestCut}
use Rattle.test_lang.specs.Signatures.{candidate_count}
use Rattle.test_lang.specs.Values.{thread_loads}
use Rattle.signature_plan.proofs.laws.one_longest_cut.Goals as goal

pub returns : goal.returns
returns c = λ p thread cut limits.
    let some = λ (load : ℕ). (let h : 1 ≤ candidate_count p load = omega arith in h) in (
      one_cut (candidate_count p) some (thread_loads p thread) cut,
      λ same. subst (λ (groups : List (List ℕ)). IsLongestCut (candidate_count p) (thread_loads p thread) groups) (sym same) (longest_cut (candidate_count p) (thread_loads p thread) (thread_counts p thread limits.operations)),
    )
