use Rattle.std.proofs.Common.{◌≡◌, ◌<◌, ◌^◌, ◌++◌, take}
use Rattle.std.specs.Prelude.{All, codes}
use Rattle.std.specs.Fmt.{decimal}
use Rattle.std.specs.List.{flat_map}
use Rattle.test_lang.specs.Text.Numeral.{part}
use Rattle.verdict_report.proofs.run.run_line.Given as goal

abbrev pub invariant-loop-value : goal.invariant-loop-value
invariant-loop-value l = record {
  written : l.out.items ≡ codes "run" ++ flat_map (λ value. part (decimal value)) (take l.value-index l.values);
  small : All (λ value. value < 2 ^ 32) (take l.value-index l.values);
}
