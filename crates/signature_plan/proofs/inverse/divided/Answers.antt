-- The guess is the quotient, or one less where the rest is the count or more.
use Rattle.std.proofs.Common.{◌≡◌, ◌∙◌, ℕ, ◌*◌, ◌/◌, ◌^◌, ap, arith}
use Rattle.signature_plan.proofs.Inverses.{guess-low, right-guess, low-guess}
use Rattle.signature_plan.proofs.inverse.divided.Goals as goal

pub overflow_sub-rest : goal.overflow_sub-rest
overflow_sub-rest c =
    let g : ℕ = c.from.result * c.from-2.result / 2 ^ 64 in
    let is : g ≡ c.args.word * c.args.inverse / 2 ^ 64 = ap (λ (n : ℕ). n * c.from-2.result / 2 ^ 64) c.from.ensures ∙ ap (λ (n : ℕ). c.args.word * n / 2 ^ 64) c.from-2.ensures in
    guess-low c.args.word c.args.count c.args.inverse c.requires.some (omega arith) c.requires.inverse g is

pub returns-then-rest-count-clause-quotient : goal.returns-then-rest-count-clause-quotient
returns-then-rest-count-clause-quotient c =
    let g : ℕ = c.from.result * c.from-2.result / 2 ^ 64 in
    let is : g ≡ c.args.word * c.args.inverse / 2 ^ 64 = ap (λ (n : ℕ). n * c.from-2.result / 2 ^ 64) c.from.ensures ∙ ap (λ (n : ℕ). c.args.word * n / 2 ^ 64) c.from-2.ensures in
    let lt = c.if-rest-count.true in
    (right-guess c.args.word c.args.count c.args.inverse c.requires.some (omega arith) c.requires.inverse g is (omega (arith, lt))).0

pub returns-then-rest-count-clause-rest : goal.returns-then-rest-count-clause-rest
returns-then-rest-count-clause-rest c =
    let g : ℕ = c.from.result * c.from-2.result / 2 ^ 64 in
    let is : g ≡ c.args.word * c.args.inverse / 2 ^ 64 = ap (λ (n : ℕ). n * c.from-2.result / 2 ^ 64) c.from.ensures ∙ ap (λ (n : ℕ). c.args.word * n / 2 ^ 64) c.from-2.ensures in
    let lt = c.if-rest-count.true in
    (right-guess c.args.word c.args.count c.args.inverse c.requires.some (omega arith) c.requires.inverse g is (omega (arith, lt))).1

pub returns-else-rest-count-clause-quotient : goal.returns-else-rest-count-clause-quotient
returns-else-rest-count-clause-quotient c =
    let g : ℕ = c.from.result * c.from-2.result / 2 ^ 64 in
    let is : g ≡ c.args.word * c.args.inverse / 2 ^ 64 = ap (λ (n : ℕ). n * c.from-2.result / 2 ^ 64) c.from.ensures ∙ ap (λ (n : ℕ). c.args.word * n / 2 ^ 64) c.from-2.ensures in
    let ge = c.if-rest-count.false in
    (low-guess c.args.word c.args.count c.args.inverse c.requires.some (omega arith) c.requires.inverse g is (omega (arith, ge))).0

pub returns-else-rest-count-clause-rest : goal.returns-else-rest-count-clause-rest
returns-else-rest-count-clause-rest c =
    let g : ℕ = c.from.result * c.from-2.result / 2 ^ 64 in
    let is : g ≡ c.args.word * c.args.inverse / 2 ^ 64 = ap (λ (n : ℕ). n * c.from-2.result / 2 ^ 64) c.from.ensures ∙ ap (λ (n : ℕ). c.args.word * n / 2 ^ 64) c.from-2.ensures in
    let ge = c.if-rest-count.false in
    (low-guess c.args.word c.args.count c.args.inverse c.requires.some (omega arith) c.requires.inverse g is (omega (arith, ge))).1
