use Rattle.std.proofs.Common.{◌∙◌, ◌%◌, ℕ, ap}
use Rattle.rand_pcg.specs.Lcg.{Lcg}
use Rattle.rand_pcg.specs.Pcg.{pcg32}
use Rattle.mt_base.proofs.WordLemmas.{next_draws, next_word}
use Rattle.mt_base.proofs.draws.Draws.below.Goals as goal

pub returns-clause-word : goal.returns-clause-word
returns-clause-word c = λ seed stream j old.
    let step = c.next_word.ensures ∙ ap pcg32 (c.self.view_is ∙ old) in
    ap (λ (s : ℕ × Lcg). s.0 % c.args.n) step ∙ ap (λ (w : ℕ). w % c.args.n) (next_word seed stream j)

pub returns-clause-behind : goal.returns-clause-behind
returns-clause-behind c = λ seed stream j old.
    let step = c.next_word.ensures ∙ ap pcg32 (c.self.view_is ∙ old) in
    ap (λ (s : ℕ × Lcg). s.1) step ∙ next_draws seed stream j
