-- What a run came to.
use Rattle.std.specs.Prelude.{ℕ, List, Option, None, Some}
use Rattle.tally.specs.declared.outcome.Outcome.{Outcome}
use Rattle.tally.specs.declared.outcome.Outcome.TheVariants.{Inside, Outside}
use Rattle.test_lang.specs.Program.{Program}
use Rattle.test_lang.specs.Runs.{outside_of}
use Rattle.test_lang.specs.Signatures.{signature}

-- by the first load outside and its value, where there is one
abbrev pub outcome_by : Program → List ℕ → Option (ℕ × ℕ) → Outcome
outcome_by p run None = Inside (signature p run)
outcome_by p run (Some load) = Outside load.0 load.1

-- The outcome of a run: inside with its signature, or outside with the first load, in node order, whose value is no candidate's, and that value.
abbrev pub outcome_of : Program → List ℕ → Outcome
outcome_of p run = outcome_by p run (outside_of p run)
