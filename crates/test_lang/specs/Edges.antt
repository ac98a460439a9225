-- The constraint edges of a run, and its orders.
use Rattle.std.specs.Prelude.{◌≡◌, ℕ, ◌<◌, List, IsTrue, IsFalse, Some}
use Rattle.orders.specs.Orders.{IsOrder, IsLeastOrder, IsAcyclic, HasNoOrder}
use Rattle.orders.specs.Cycles.{IsCycle, IsCanonicalCycle}
use Rattle.test_lang.specs.declared.op.MemModel.{MemModel}
use Rattle.test_lang.specs.Program.{Program, all_nodes}
use Rattle.test_lang.specs.Values.{is_load_at, is_store_at, same_thread, one_word, value_of}
use Rattle.test_lang.specs.Kept.{IsKept}
use Rattle.test_lang.specs.Runs.{value_read, base_store}

-- The edges of a run, one case for each kind, over any pairs of nodes whose order is kept. They are meant for a run that is inside.
pub data RunEdge (Kept : ℕ → ℕ → Type 0) (p : Program) (run : List ℕ) (a b : ℕ) : Type 0 where
  -- the order of a and b is kept
  kept : Kept a b → RunEdge Kept p run a b
  -- the load b gives the value of the store a of another thread
  reads_from : IsTrue (is_store_at p a) → IsTrue (is_load_at p b) → value_read p run b ≡ value_of p a → IsFalse (same_thread p a b) → RunEdge Kept p run a b
  -- the load a gives the value of a store, and b is a later store of that store's thread to the same word
  before_later : (store : ℕ) → IsTrue (is_load_at p a) → IsTrue (is_store_at p store) → value_read p run a ≡ value_of p store → IsTrue (is_store_at p b) →
      IsTrue (same_thread p store b) → store < b → IsTrue (one_word p store b) → RunEdge Kept p run a b
  -- the load a gives the initial value, and b is a store to its word
  before_any : IsTrue (is_load_at p a) → value_read p run a ≡ 0 → IsTrue (is_store_at p b) → IsTrue (one_word p a b) → RunEdge Kept p run a b
  -- a load gives the value of the store b of another thread, and a is the last store to its word before it in its own thread
  written_before : (load : ℕ) → IsTrue (is_store_at p b) → IsTrue (is_load_at p load) → value_read p run load ≡ value_of p b → IsFalse (same_thread p b load) →
      base_store p load ≡ Some a → RunEdge Kept p run a b

-- the edges under a memory model
abbrev pub Edge : MemModel → Program → List ℕ → ℕ → ℕ → Type 0
Edge m p run = RunEdge (IsKept m p) p run

-- an order of the run: of all nodes, along all edges
abbrev pub IsRunOrder : MemModel → Program → List ℕ → List ℕ → Type 0
IsRunOrder m p run order = IsOrder (Edge m p run) (all_nodes p) order

abbrev pub IsLeastRunOrder : MemModel → Program → List ℕ → List ℕ → Type 0
IsLeastRunOrder m p run order = IsLeastOrder (Edge m p run) (all_nodes p) order

-- the run has an order
abbrev pub IsRunAcyclic : MemModel → Program → List ℕ → Type 0
IsRunAcyclic m p run = IsAcyclic (Edge m p run) (all_nodes p)

-- the run has none
abbrev pub HasNoRunOrder : MemModel → Program → List ℕ → Type 0
HasNoRunOrder m p run = HasNoOrder (Edge m p run) (all_nodes p)

-- a cycle of the run
abbrev pub IsRunCycle : MemModel → Program → List ℕ → List ℕ → Type 0
IsRunCycle m p run cycle = IsCycle (Edge m p run) cycle

-- the canonical one
abbrev pub IsCanonicalRunCycle : MemModel → Program → List ℕ → List ℕ → Type 0
IsCanonicalRunCycle m p run cycle = IsCanonicalCycle (Edge m p run) cycle
