use Rattle.signature_plan.proofs.AllLoads.{concat-groups, thread_counts}
use Rattle.signature_plan.proofs.LongestCuts.{longest_cut}
use Rattle.test_lang.specs.Signatures.{candidate_count}
use Rattle.test_lang.specs.Values.{thread_loads}
use Rattle.signature_plan.proofs.laws.groups_are_longest.Goals as goal

pub returns-clause-threads : goal.returns-clause-threads
returns-clause-threads c = λ p thread limits. longest_cut (candidate_count p) (thread_loads p thread) (thread_counts p thread limits.operations)

pub returns-clause-whole : goal.returns-clause-whole
returns-clause-whole c = λ p. concat-groups p
