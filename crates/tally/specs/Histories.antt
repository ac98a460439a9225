-- Histories of a set that passes add to: the outcomes in the order in which they were added, each with the number of its pass.
use Rattle.std.specs.Prelude.{◌≡◌, ℕ, ◌==◌, List, [], ◌∷◌, ◌++◌, map, if◌then◌else◌}
use Rattle.tally.specs.declared.entered.Entered.{Entered}
use Rattle.tally.specs.declared.outcome.Outcome.{Outcome}
use Rattle.tally.specs.Tallies.{IsTally}

-- the outcomes of a history, in order
abbrev pub outcomes_in : List Entered → List Outcome
outcomes_in history = map (λ (e : Entered). e.outcome) history

-- the outcomes that a pass added, in order
abbrev pub added_by : List Entered → ℕ → List Outcome
added_by [] pass = []
added_by (e ∷ history) pass = if e.pass == pass then (e.outcome ∷ added_by history pass) else added_by history pass

-- the entry of an outcome that a pass added
abbrev pub entry : ℕ → Outcome → Entered
entry number x = record { pass = number; outcome = x }

-- a batch of a pass, as entries
abbrev pub entries : ℕ → List Outcome → List Entered
entries number batch = map (entry number) batch

-- the history begins with this front
abbrev pub BeginsWith : List Entered → List Entered → Type 0
BeginsWith history front = (rest : List Entered) × (history ≡ front ++ rest)

-- A set stands for a history where its tally is that of the history's outcomes.
abbrev pub StandsFor : List (Outcome × ℕ) → List Entered → Type 0
StandsFor pairs history = IsTally (outcomes_in history) pairs
