-- Lists that stand in one, one behind the other.
use Rattle.std.specs.Prelude.{◌≡◌, ℕ, ◌≤◌, List, [], ◌∷◌, length}
use Rattle.std.specs.List.{slice_range}

-- the lists that end at these places, of which the first begins at a place
abbrev pub lists_from : ℕ → List ℕ → List ℕ → List (List ℕ)
lists_from from [] flat = []
lists_from from (end ∷ ends) flat = slice_range flat from end ∷ lists_from end ends flat

-- the lists that begin at these places but the last, which is the end of the last one
abbrev pub lists_of : List ℕ → List ℕ → List (List ℕ)
lists_of [] flat = []
lists_of (from ∷ ends) flat = lists_from from ends flat

-- the places rise from the first to the total
abbrev pub Rise : ℕ → List ℕ → ℕ → Type 0
Rise from [] total = from ≡ total
Rise from (end ∷ ends) total = (from ≤ end) × Rise end ends total

-- they begin at the front of the flat list and go to its end
abbrev pub AreStarts : List ℕ → List ℕ → Type 0
AreStarts [] flat = ⊥
AreStarts (from ∷ ends) flat = (from ≡ 0) × Rise from ends (length flat)
