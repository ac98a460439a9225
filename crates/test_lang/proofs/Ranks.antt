-- The ranks of loads and the values of stores.
use Rattle.std.proofs.Common.{◌≡◌, ◌∙◌, ℕ, ◌+◌, ◌<◌, ◌≤◌, ◌↔◌, length, ap, arith, sym, Some}
use Rattle.std.specs.Prelude.{IsTrue, slice_get}
use Rattle.std.proofs.lemmas.List.Sums.{count_by-le-length}
use Rattle.test_lang.specs.Program.{Program, nodes, op_count}
use Rattle.test_lang.specs.Values.{is_load_at, is_store_at, load_count, store_count, load_nodes, rank_of, value_of}
use Rattle.test_lang.specs.Tables.{store_nodes}
use Rattle.test_lang.proofs.Places.{length-places_all, load_node, passes-below, passing-lt, passing-rises, passing_same, place_at, places_all-passing, store_node}

-- loads

pub is_load_at-below : (p : Program) (node : ℕ) → IsTrue (is_load_at p node) → node < op_count p
is_load_at-below p node h = passes-below load_node (nodes p) node h

pub load_count-le : (p : Program) → load_count p ≤ op_count p
load_count-le p = count_by-le-length load_node (nodes p)

pub length-load_nodes : (p : Program) → length (load_nodes p) ≡ load_count p
length-load_nodes p = length-places_all load_node (nodes p)

pub rank_of-lt : (p : Program) (node : ℕ) → IsTrue (is_load_at p node) → rank_of p node < load_count p
rank_of-lt p node h = passing-lt load_node (nodes p) node h

-- the load of a rank

pub load_nodes-rank_of : (p : Program) (node : ℕ) → IsTrue (is_load_at p node) → slice_get (load_nodes p) (rank_of p node) ≡ Some node
load_nodes-rank_of p node h = places_all-passing load_node (nodes p) node h

pub load_nodes-is_load : (p : Program) (rank node : ℕ) → slice_get (load_nodes p) rank ≡ Some node → IsTrue (is_load_at p node)
load_nodes-is_load p rank node e = (place_at load_node (nodes p) (op_count p) rank node (omega arith) e).passed

pub load_nodes-rank : (p : Program) (rank node : ℕ) → slice_get (load_nodes p) rank ≡ Some node → rank_of p node ≡ rank
load_nodes-rank p rank node e = (place_at load_node (nodes p) (op_count p) rank node (omega arith) e).place_is

pub load_nodes_iff : (p : Program) (rank node : ℕ) → (slice_get (load_nodes p) rank ≡ Some node) ↔ (IsTrue (is_load_at p node) × (rank_of p node ≡ rank))
load_nodes_iff p rank node =
    (λ e. (load_nodes-is_load p rank node e, load_nodes-rank p rank node e), λ h. ap (slice_get (load_nodes p)) (sym h.1) ∙ load_nodes-rank_of p node h.0)

-- two loads with one rank are one node
pub one_load : (p : Program) (a b : ℕ) → IsTrue (is_load_at p a) → IsTrue (is_load_at p b) → rank_of p a ≡ rank_of p b → a ≡ b
one_load p a b h k e = passing_same load_node (nodes p) a b h k e

-- ranks rise in node order
pub rank_of-rises : (p : Program) (a b : ℕ) → IsTrue (is_load_at p a) → a < b → rank_of p a < rank_of p b
rank_of-rises p a b h lt = passing-rises load_node (nodes p) a b h lt

-- stores

pub is_store_at-below : (p : Program) (node : ℕ) → IsTrue (is_store_at p node) → node < op_count p
is_store_at-below p node h = passes-below store_node (nodes p) node h

pub store_count-le : (p : Program) → store_count p ≤ op_count p
store_count-le p = count_by-le-length store_node (nodes p)

pub length-store_nodes : (p : Program) → length (store_nodes p) ≡ store_count p
length-store_nodes p = length-places_all store_node (nodes p)

pub value_of-le : (p : Program) (node : ℕ) → IsTrue (is_store_at p node) → value_of p node ≤ store_count p
value_of-le p node h = let lt = passing-lt store_node (nodes p) node h in omega (arith, lt)

-- the store of a value

pub store_nodes-is_store : (p : Program) (place node : ℕ) → slice_get (store_nodes p) place ≡ Some node → IsTrue (is_store_at p node)
store_nodes-is_store p place node e = (place_at store_node (nodes p) (op_count p) place node (omega arith) e).passed

pub store_nodes-value : (p : Program) (place node : ℕ) → slice_get (store_nodes p) place ≡ Some node → value_of p node ≡ place + 1
store_nodes-value p place node e = ap (λ (n : ℕ). n + 1) (place_at store_node (nodes p) (op_count p) place node (omega arith) e).place_is

-- two stores with one value are one node
pub one_store : (p : Program) (a b : ℕ) → IsTrue (is_store_at p a) → IsTrue (is_store_at p b) → value_of p a ≡ value_of p b → a ≡ b
one_store p a b h k e = passing_same store_node (nodes p) a b h k (omega (arith, e))

-- values rise in node order
pub value_of-rises : (p : Program) (a b : ℕ) → IsTrue (is_store_at p a) → a < b → value_of p a < value_of p b
value_of-rises p a b h lt = let rises = passing-rises store_node (nodes p) a b h lt in omega (arith, rises)
