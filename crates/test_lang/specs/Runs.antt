-- Runs, and the candidates of loads.
use Rattle.std.specs.Prelude.{◌≡◌, ℕ, ◌^◌, ◌<◌, List, ◌∷◌, map, filter, find, length, Bool, not, ◌&&◌, ◌==◌, nat_lt, Option, None, slice_index, All}
use Rattle.std.specs.List.{list_any, last_or}
use Rattle.std.specs.Option.{option_map, option_map_or}
use Rattle.test_lang.specs.Program.{Program, all_nodes}
use Rattle.test_lang.specs.Values.{is_store_at, same_thread, one_word, value_of, rank_of, load_count, load_nodes}

-- as many values as there are loads, each below 2^32
pub record IsRunOf (loads : ℕ) (run : List ℕ) : Type 0 where
  pub whole : length run ≡ loads
  pub values : All (λ value. value < 2 ^ 32) run

-- A run: one value for each load, by rank.
abbrev pub IsRun : Program → List ℕ → Type 0
IsRun p run = IsRunOf (load_count p) run

-- the value that a load gives in the run
abbrev pub value_read : Program → List ℕ → ℕ → ℕ
value_read p run load = slice_index run (rank_of p load)

-- a store to the load's word
abbrev pub writes_for : Program → ℕ → ℕ → Bool
writes_for p load n = is_store_at p n && one_word p load n

-- an earlier store to the load's word in its own thread
abbrev pub own_earlier : Program → ℕ → ℕ → Bool
own_earlier p load n = writes_for p load n && (same_thread p load n && nat_lt n load)

-- the last of them, if there is one
abbrev pub base_store : Program → ℕ → Option ℕ
base_store p load = last_or None (filter (own_earlier p load) (all_nodes p))

-- its value, or the initial value 0 where there is none
abbrev pub base : Program → ℕ → ℕ
base p load = option_map_or (value_of p) (base_store p load) 0

-- the values of all stores to the load's word in other threads, in node order
abbrev pub others : Program → ℕ → List ℕ
others p load = map (value_of p) (filter (λ n. writes_for p load n && not (same_thread p load n)) (all_nodes p))

-- The candidates of a load: the base first.
abbrev pub candidates : Program → ℕ → List ℕ
candidates p load = base p load ∷ others p load

-- the load gives the value of one of its candidates
abbrev pub reads_candidate : Program → List ℕ → ℕ → Bool
reads_candidate p run load = list_any (λ candidate. candidate == value_read p run load) (candidates p load)

-- the first load in node order whose value is no candidate's
abbrev pub first_outside : Program → List ℕ → Option ℕ
first_outside p run = find (λ load. not (reads_candidate p run load)) (load_nodes p)

-- that load, and the value that it gives
abbrev pub outside_of : Program → List ℕ → Option (ℕ × ℕ)
outside_of p run = option_map (λ load. (load, value_read p run load)) (first_outside p run)

-- A run is inside where each of its values is a candidate's.
pub record IsInside (p : Program) (run : List ℕ) : Type 0 where
  pub is_run : IsRun p run
  pub none_outside : first_outside p run ≡ None
