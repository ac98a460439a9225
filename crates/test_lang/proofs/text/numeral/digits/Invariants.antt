use Rattle.std.proofs.Common.{◌≡◌, ◌^◌, ◌≤◌, drop}
use Rattle.test_lang.specs.Text.Numeral.{digits_at, held_front}
use Rattle.test_lang.proofs.text.numeral.digits.Given as goal

-- What is left to read, behind the number so far, gives what the whole text gives.
abbrev pub invariant-loop-at : goal.invariant-loop-at
invariant-loop-at l = record { small : l.number ≤ 2 ^ 32; so_far : held_front (digits_at l.number (drop l.at l.text)) ≡ held_front (digits_at l.first l.text) }
