-- The edges of a run as a list, told by a test of two nodes.
use Rattle.std.specs.Prelude.{ℕ, List, map, filter, Bool, false, not, ◌&&◌, ◌||◌, ◌==◌, nat_lt}
use Rattle.std.specs.List.{flat_map, list_any}
use Rattle.std.specs.Option.{option_map_or}
use Rattle.test_lang.specs.declared.op.MemModel.{MemModel}
use Rattle.test_lang.specs.Program.{Program, all_nodes}
use Rattle.test_lang.specs.Values.{is_load_at, is_store_at, same_thread, one_word, value_of}
use Rattle.test_lang.specs.Kept.{is_kept}
use Rattle.test_lang.specs.Runs.{value_read, base_store}

abbrev pub is_reads_from : Program → List ℕ → ℕ → ℕ → Bool
is_reads_from p run a b = (is_store_at p a && is_load_at p b) && ((value_read p run b == value_of p a) && not (same_thread p a b))

abbrev pub is_before_later_of : Program → List ℕ → ℕ → ℕ → ℕ → Bool
is_before_later_of p run a b store =
    (is_load_at p a && (is_store_at p store && (value_read p run a == value_of p store)))
    && ((is_store_at p b && same_thread p store b) && (nat_lt store b && one_word p store b))

abbrev pub is_before_later : Program → List ℕ → ℕ → ℕ → Bool
is_before_later p run a b = list_any (is_before_later_of p run a b) (all_nodes p)

abbrev pub is_before_any : Program → List ℕ → ℕ → ℕ → Bool
is_before_any p run a b = (is_load_at p a && (value_read p run a == 0)) && (is_store_at p b && one_word p a b)

-- whether a is the last own store to the load's word before the load
abbrev pub is_base_store : Program → ℕ → ℕ → Bool
is_base_store p load a = option_map_or (λ store. store == a) (base_store p load) false

abbrev pub is_written_before : Program → List ℕ → ℕ → ℕ → Bool
is_written_before p run a b = list_any (λ load. is_base_store p load a) (filter (is_reads_from p run b) (all_nodes p))

-- whether an edge leads from a to b, over any test of kept pairs
abbrev pub is_run_edge : (ℕ → ℕ → Bool) → Program → List ℕ → ℕ → ℕ → Bool
is_run_edge keeps p run a b =
    keeps a b || (is_reads_from p run a b || (is_before_later p run a b || (is_before_any p run a b || is_written_before p run a b)))

abbrev pub is_edge : MemModel → Program → List ℕ → ℕ → ℕ → Bool
is_edge m p run = is_run_edge (is_kept m p) p run

-- the pairs of nodes that pass a test, rising by the first and then by the second
abbrev pub pairs_where : (ℕ → ℕ → Bool) → Program → List (ℕ × ℕ)
pairs_where test p = flat_map (λ a. map (λ b. (a, b)) (filter (test a) (all_nodes p))) (all_nodes p)

abbrev pub kept_list : MemModel → Program → List (ℕ × ℕ)
kept_list m p = pairs_where (is_kept m p) p

-- all edges of a run
abbrev pub edge_list : MemModel → Program → List ℕ → List (ℕ × ℕ)
edge_list m p run = pairs_where (is_edge m p run) p
