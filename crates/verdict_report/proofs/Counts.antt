-- Each verdict is `Ok` or a cycle.
use Rattle.std.proofs.Common.{◌≡◌, ◌+◌, ◌-◌, List, [], ◌∷◌, length, cond, arith, refl}
use Rattle.std.specs.Prelude.{count_by}
use Rattle.std.proofs.lemmas.List.Sums.{sum_by-cons}
use Rattle.verdict_report.specs.declared.report.Judged.{Judged}
use Rattle.verdict_report.specs.declared.report.Judged.TheVariants.{Ok, Cycle}
use Rattle.verdict_report.specs.Lines.{is_ok, is_cycle}

each_counts : (found : List Judged) → count_by is_ok found + count_by is_cycle found ≡ length found
each_counts [] = refl
each_counts (judged ∷ found) =
    let ok = sum_by-cons (λ (x : Judged). cond (is_ok x) 1 0) judged found in
    let cycle = sum_by-cons (λ (x : Judged). cond (is_cycle x) 1 0) judged found in
    omega (arith, ok, cycle, one judged, each_counts found)
  where
    one : (x : Judged) → cond (is_ok x) 1 0 + cond (is_cycle x) 1 0 ≡ 1
    one Ok = refl
    one (Cycle nodes) = refl

pub cycle_count : (found : List Judged) → length found - count_by is_ok found ≡ count_by is_cycle found
cycle_count found = omega (arith, each_counts found)
