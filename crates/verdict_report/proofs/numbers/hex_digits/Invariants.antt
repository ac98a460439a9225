use Rattle.std.proofs.Common.{◌≡◌, ◌≤◌, ◌++◌, drop, length}
use Rattle.verdict_report.specs.Numbers.{hex_word, last_hex_digits}
use Rattle.verdict_report.proofs.numbers.hex_digits.Given as goal

-- The digits so far, behind those of what is left of the word.
abbrev pub invariant-loop-place : goal.invariant-loop-place
invariant-loop-place l = record {
  within : l.place ≤ 16;
  long : length l.digits ≡ 16;
  digits : last_hex_digits l.place l.rest ++ drop l.place l.digits ≡ hex_word l.word;
}

abbrev pub decreases-loop-place : goal.decreases-loop-place
decreases-loop-place l = l.place
