-- What a play has done so far. Next operations, buffers and memory follow from it.
use Rattle.std.specs.Prelude.{ℕ, ◌-◌, List, [], ◌∷◌, map, filter, find, take, length, Bool, not, ◌&&◌, ◌==◌, if◌then◌else◌, Option}
use Rattle.std.specs.List.{list_any}
use Rattle.test_lang.specs.Program.{Program, all_nodes, at_node}
use Rattle.test_lang.specs.Values.{is_store_to, value_of, load_nodes}

-- A node is executed once, and takes effect once: then or later.
pub record State : Type 0 where
  -- the nodes that were executed, in that order
  pub executed : List ℕ
  -- the nodes that took effect, in that order
  pub effects : List ℕ
  -- the loads that were executed, each with the value that it gave, the last one first
  pub loads : List (ℕ × ℕ)

abbrev pub opening : State
opening = record { executed = []; effects = []; loads = [] }

-- the node stands in the list
abbrev pub has : List ℕ → ℕ → Bool
has nodes n = list_any (λ other. other == n) nodes

-- the value that a load gave, or 0 where it wasn't executed
abbrev pub value_given : List (ℕ × ℕ) → ℕ → ℕ
value_given [] load = 0
value_given (entry ∷ more) load = if entry.0 == load then entry.1 else value_given more load

-- the run: the value of each load, by rank
abbrev pub loads_of : Program → State → List ℕ
loads_of p st = map (value_given st.loads) (load_nodes p)

abbrev pub is_of_thread : Program → ℕ → ℕ → Bool
is_of_thread p thread n = at_node (λ node. node.0 == thread) p n

-- the next operation of a thread: its first that wasn't executed
abbrev pub next_of : Program → State → ℕ → Option ℕ
next_of p st thread = find (λ n. is_of_thread p thread n && not (has st.executed n)) (all_nodes p)

-- The buffer of a thread: its operations that were executed and haven't taken effect, the oldest first.
abbrev pub buffer : Program → State → ℕ → List ℕ
buffer p st thread = filter (λ n. is_of_thread p thread n && not (has st.effects n)) st.executed

-- Memory, after these nodes took effect.

abbrev pub stores_to : Program → ℕ → ℕ → Bool
stores_to p word n = at_node (λ node. is_store_to word node.1) p n

-- the history of a word: the values of the stores to it that took effect, the oldest first
abbrev pub history : Program → List ℕ → ℕ → List ℕ
history p effects word = map (value_of p) (filter (stores_to p word) effects)

-- the last of some values, or the initial value 0 where there is none
abbrev pub last_value : List ℕ → ℕ
last_value [] = 0
last_value (value ∷ []) = value
last_value (value ∷ next ∷ more) = last_value (next ∷ more)

-- the value now of a word
abbrev pub value_now : Program → List ℕ → ℕ → ℕ
value_now p effects word = last_value (history p effects word)

-- the value before of a word: the one that the last store to it took away
abbrev pub value_before : Program → List ℕ → ℕ → ℕ
value_before p effects word = last_value (take (length (history p effects word) - 1) (history p effects word))
