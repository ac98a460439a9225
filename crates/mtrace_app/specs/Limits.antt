-- The limits on runs, by their number and by how many values each has.
use Rattle.std.specs.Prelude.{◌≡◌, ℕ, ◌*◌, ◌<◌, ◌≤◌}
use Rattle.mtrace_app.specs.declared.refusal.Size.{Size}
use Rattle.mtrace_app.specs.declared.refusal.Size.TheVariants.{Bytes, Runs, Values}

-- at most a million runs, and at most 67,108,864 values in all
abbrev pub FitLimits : ℕ → ℕ → Type 0
FitLimits runs loads = (runs ≤ 1000000) × (runs * loads ≤ 67108864)

-- They pass a limit, which this size names: that on their number before that on their values.
abbrev pub PassLimit : ℕ → ℕ → Size → Type 0
PassLimit runs loads Bytes = ⊥
PassLimit runs loads (Runs count) = (1000000 < runs) × (count ≡ runs)
PassLimit runs loads (Values count) = (runs ≤ 1000000) × (67108864 < runs * loads) × (count ≡ runs * loads)
