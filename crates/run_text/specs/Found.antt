-- What a reader of parts finds and keeps.
use Rattle.std.specs.Prelude.{◌≡◌, ℕ, ◌+◌, ◌*◌, ◌≤◌, ◌-◌, ◌^◌, List, [], ◌∷◌, ◌++◌, ◌&&◌, Option, Some, None, nat_lt, if◌then◌else◌, min, map, take, length}
use Rattle.run_text.specs.declared.parts.Found.{Found}
use Rattle.run_text.specs.Parts.{fits, all_fit, gap, in_front, parts}

-- a value as it is kept, which is itself where it fits
abbrev pub kept : ℕ → ℕ
kept v = min v (2 ^ 32 - 1)

-- one more value, unless there are as many as wanted
abbrev pub add_value : ℕ → ℕ → ℕ → List ℕ → List ℕ
add_value count want v old = if nat_lt count want then old ++ kept v ∷ [] else old

abbrev pub with_value : Found → ℕ → Found
with_value found v = record { count = found.count + 1; all_fit = found.all_fit && fits v }

-- What was found and kept of these values: how many they are, whether all fit, and the first of them.
pub record IsKept (want : ℕ) (old : List ℕ) (found : Found) (new vs : List ℕ) : Type 0 where
  pub count : found.count ≡ length vs
  pub fit : found.all_fit ≡ all_fit vs
  pub values : new ≡ old ++ map kept (take want vs)

abbrev pub MayKeep : ℕ → List ℕ → Option Found → List ℕ → Option (List ℕ) → Type 0
MayKeep want old (Some found) new (Some vs) = IsKept want old found new vs
MayKeep want old (Some found) new None = ⊥
MayKeep want old None new (Some vs) = ⊥
MayKeep want old None new None = Unit {0}

-- These values were read so far, and these bytes are left of all. Each value took two bytes at least.
pub record SoFar (want : ℕ) (bytes left old : List ℕ) (found : Found) (new vs : List ℕ) : Type 0 where
  pub few : 2 * found.count + length left ≤ length bytes
  pub keeps : IsKept want old found new vs
  pub rest : in_front vs (parts gap left) ≡ parts gap bytes
