-- Pieces of a size by the number of workers are no more than the workers.
use Rattle.std.proofs.Common.{◌≡◌, ◌∙◌, ◌⊎◌, ℕ, ◌+◌, ◌*◌, ◌/◌, ◌<◌, ◌≤◌, ap, arith, inl, inr, Result, Ok, Err}
use Rattle.std.specs.Prelude.{IfOk}
use Rattle.std.proofs.Math.Nat.{add-mul, lt-div-mul-add, mul-add, mul-le-mul_left, mul-le-mul_right, mul-one, one-mul}
use Rattle.std.proofs.lemmas.Bool.{cases_lt}

pub few_pieces : (size len workers count : ℕ) → 0 < workers → len / workers + 1 ≤ size → size * count < len + size → count ≤ workers
few_pieces size len workers count some large few = by (cases_lt workers count)
  where
    by : (workers < count) ⊎ (count ≤ workers) → count ≤ workers
    by (inr no_more) = no_more
    by (inl more) =
        let longer : size * (workers + 1) ≤ size * count = mul-le-mul_left size (omega (arith, more)) in
        let parts : size * (workers + 1) ≡ size * workers + size = mul-add size workers 1 ∙ ap (λ (k : ℕ). size * workers + k) (mul-one size) in
        let all : (len / workers + 1) * workers ≤ size * workers = mul-le-mul_right workers large in
        let rest : (len / workers + 1) * workers ≡ len / workers * workers + workers = add-mul (len / workers) 1 workers ∙ ap (λ (k : ℕ). len / workers * workers + k) (one-mul workers) in
        let past : len < len / workers * workers + workers = lt-div-mul-add some in
        absurd (omega (arith, longer, parts, all, rest, past, few))

-- what holds of a result holds of it in a weaker form
pub if_ok_more : {X E : Type 0} (r : Result X E) (P Q : X → Type 0) → ((x : X) → P x → Q x) → IfOk r P → IfOk r Q
if_ok_more (Ok x) P Q more h = more x h
if_ok_more (Err e) P Q more h = h

pub if_ok_both : {X E : Type 0} (r : Result X E) (P Q R : X → Type 0) → ((x : X) → P x → Q x → R x) → IfOk r P → IfOk r Q → IfOk r R
if_ok_both (Ok x) P Q R both h k = both x h k
if_ok_both (Err e) P Q R both h k = h
