use Rattle.std.proofs.Common.{◌≡◌, ◌++◌, take}
use Rattle.std.specs.Prelude.{codes}
use Rattle.std.specs.List.{flat_map}
use Rattle.verdict_report.specs.Numbers.{hex_word}
use Rattle.verdict_report.proofs.numbers.push_later.Given as goal

abbrev pub invariant-loop-word : goal.invariant-loop-word
invariant-loop-word l = l.out.items ≡ l.fn.out.items ++ flat_map (λ later. codes "." ++ hex_word later) (take l.word-index l.words)
