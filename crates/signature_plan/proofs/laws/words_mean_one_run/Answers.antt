use Rattle.std.proofs.Common.{◌∙◌, ap, sym}
use Rattle.signature_plan.specs.Words.{run_of}
use Rattle.signature_plan.proofs.Meaning.{fit-means, means-run_of, means-fit, run_of-signature}
use Rattle.signature_plan.proofs.laws.words_mean_one_run.Goals as goal

pub returns-clause-some : goal.returns-clause-some
returns-clause-some c = λ p words limits fit. fit-means p words limits.operations fit

pub returns-clause-only : goal.returns-clause-only
returns-clause-only c = λ p words run m. means-run_of p words run m

pub returns-clause-fit : goal.returns-clause-fit
returns-clause-fit c = λ p words run m. means-fit p words run m

pub returns-clause-injective : goal.returns-clause-injective
returns-clause-injective c = λ p a b inside other same. sym (run_of-signature p a inside) ∙ ap (run_of p) same ∙ run_of-signature p b other
