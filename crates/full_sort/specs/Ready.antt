-- Ready nodes: a set, and one node that may be kept apart from it.
use Rattle.std.specs.Prelude.{◌≡◌, ◌≢◌, ◌↔◌, ◌⊎◌, ◌==◌, ℕ, ◌*◌, ◌<◌, List, Bool, true, Option, Some, None, count_by, length, slice_index}
use Rattle.full_sort.specs.Bits.{bit_of}
use Rattle.full_sort.specs.Waiting.{is_marked}

-- the node is in the set, or kept apart
abbrev pub IsHeld : List ℕ → Option ℕ → ℕ → Type 0
IsHeld set kept t = (bit_of set t ≡ 1) ⊎ (kept ≡ Some t)

-- the set has room for the node that is kept apart
abbrev pub HasRoom : List ℕ → Option ℕ → Type 0
HasRoom set None = Unit {0}
HasRoom set (Some node) = node < 64 * length set

-- The least node that is held is taken, and the others are in the set; none exactly where none is held.
abbrev pub TakesHeld : List ℕ → Option ℕ → List ℕ → Option ℕ → Type 0
TakesHeld old kept new None = (new ≡ old) × ((t : ℕ) → ¬ IsHeld old kept t)
TakesHeld old kept new (Some n) = (length new ≡ length old) × IsHeld old kept n × ((t : ℕ) → t < n → ¬ IsHeld old kept t)
    × ((t : ℕ) → (bit_of new t ≡ 1) ↔ (IsHeld old kept t × (t ≢ n)))

-- how often the number stands in the list
abbrev pub times_in : List ℕ → ℕ → ℕ
times_in xs t = count_by (λ x. x == t) xs

-- Those that were held before are held, and the marked nodes whose count fell to 0.
abbrev pub GainsFreed : (ℕ → Type 0) → (ℕ → Type 0) → List Bool → List ℕ → List ℕ → Type 0
GainsFreed before after marks old new = (t : ℕ) → after t ↔ (before t ⊎ ((slice_index old t ≢ 0) × (slice_index new t ≡ 0) × (is_marked marks t ≡ true)))
