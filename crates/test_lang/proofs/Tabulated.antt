-- The tables of a test that grew.
use Rattle.std.proofs.Common.{◌≡◌, ◌∙◌, ℕ, suc, ◌+◌, ◌<◌, ◌≤◌, List, [], ◌∷◌, ◌++◌, length, cond, Some, refl, ap, arith, sym, subst, get_or, ⊎_elim, append-nil, length-append}
use Rattle.std.specs.Prelude.{IsTrue, slice_get}
use Rattle.std.proofs.lemmas.Bool.{cases_lt}
use Rattle.std.proofs.lemmas.List.{get_or_append_left, get_or_push}
use Rattle.std.proofs.lemmas.List.Elements.{All-get_or}
use Rattle.std.proofs.lemmas.Option.{slice_get_read, slice_get_within, slice_get-get_or, get_or_from_slice_get}
use Rattle.test_lang.specs.declared.op.Op.{Op}
use Rattle.test_lang.specs.declared.op.Action.{Action}
use Rattle.test_lang.specs.declared.test.Row.{Row}
use Rattle.test_lang.specs.Actions.{op_of, allows}
use Rattle.test_lang.specs.Program.{Program, nodes, actions, op_count, with_thread, with_action, HasWord}
use Rattle.test_lang.specs.Values.{is_load, is_store, load_count, load_nodes, store_count}
use Rattle.test_lang.specs.Tables.{Describes, TabulatesTest, store_nodes}
use Rattle.test_lang.proofs.ActionNodes.{length-actions}
use Rattle.test_lang.proofs.Places.{load_node, passing, passing-append, passing_all, places, slice_get-append_left, slice_get_cases_end, slice_get_end, store_node}
use Rattle.test_lang.proofs.Ranks.{length-load_nodes, length-store_nodes, load_count-le, store_count-le}
use Rattle.test_lang.proofs.Threads.{first_node_all}
use Rattle.test_lang.proofs.Growth.{limits_thread, limits_action, actions-with_thread, actions-with_action, first_node-with_action, first_node-with_thread, load_nodes_push, nodes-with_action, nodes-with_thread, store_nodes_push, threads-with_action}

-- a row describes its node still
describes_still : (p q : Program) (more : List (ℕ × Op)) (others : List (ℕ × Action)) → nodes q ≡ nodes p ++ more → actions q ≡ actions p ++ others → length p.threads ≤ length q.threads → (node : ℕ) (row : Row) → Describes p node row
    → Describes q node row
describes_still p q more others e all threads node row d =
    let within = slice_get_within (nodes p) node (row.thread, op_of row.action) d.is_node in
    let short : node ≤ length (nodes p) = omega (arith, within) in
    let stores : passing store_node (nodes q) node ≡ passing store_node (nodes p) node = ap (λ xs. passing store_node xs node) e ∙ passing-append store_node (nodes p) more node short in
    let loads : passing load_node (nodes q) node ≡ passing load_node (nodes p) node = ap (λ xs. passing load_node xs node) e ∙ passing-append load_node (nodes p) more node short in
    record {
      is_node = ap (λ xs. slice_get xs node) e ∙ slice_get-append_left (nodes p) more node (row.thread, op_of row.action) d.is_node;
      is_action = ap (λ xs. slice_get xs node) all ∙ slice_get-append_left (actions p) others node (row.thread, row.action) d.is_action;
      has_value = d.has_value ∙ ap (λ (n : ℕ). n + 1) (sym stores);
      has_rank = d.has_rank ∙ sym loads;
      has_thread = let lt = d.has_thread in omega (arith, lt, threads);
    }

-- the row of a node that was added
record FitsEnd (p : Program) (row : Row) : Type 0 where
  last_thread : suc row.thread ≡ length p.threads
  next_value : row.value ≡ store_count p + 1
  next_rank : row.rank ≡ load_count p

describes_last : (p q : Program) (row : Row) → nodes q ≡ nodes p ++ (row.thread, op_of row.action) ∷ [] → actions q ≡ actions p ++ (row.thread, row.action) ∷ [] → length p.threads ≡ length q.threads → FitsEnd p row → Describes q (op_count p) row
describes_last p q row e all threads fits =
    let here : ℕ × Op = (row.thread, op_of row.action) in
    let stores : passing store_node (nodes q) (op_count p) ≡ store_count p =
    ap (λ xs. passing store_node xs (op_count p)) e ∙ passing-append store_node (nodes p) (here ∷ []) (op_count p) (omega arith) ∙ passing_all store_node (nodes p) in
    let loads : passing load_node (nodes q) (op_count p) ≡ load_count p =
    ap (λ xs. passing load_node xs (op_count p)) e ∙ passing-append load_node (nodes p) (here ∷ []) (op_count p) (omega arith) ∙ passing_all load_node (nodes p) in
    record {
      is_node = ap (λ xs. slice_get xs (op_count p)) e ∙ slice_get_end (nodes p) here (op_count p) refl;
      is_action = ap (λ xs. slice_get xs (op_count p)) all ∙ slice_get_end (actions p) (row.thread, row.action) (op_count p) (sym (length-actions p));
      has_value = fits.next_value ∙ ap (λ (n : ℕ). n + 1) (sym stores);
      has_rank = fits.next_rank ∙ sym loads;
      has_thread = let last = fits.last_thread in omega (arith, last, threads);
    }

pub tabulates-with_thread : (p : Program) (rows : List Row) (loads stores firsts : List ℕ) (first : ℕ) → TabulatesTest p rows loads stores firsts → length p.threads < 16 → first ≡ length rows
    → TabulatesTest (with_thread p) rows loads stores (firsts ++ first ∷ [])
tabulates-with_thread p rows loads stores firsts first t room is_first =
    let q = with_thread p in
    let same : nodes q ≡ nodes p = nodes-with_thread p in
    let count : op_count q ≡ op_count p = ap length same in
    let one_row_each = t.one_row_each in
    let one_first_each = t.one_first_each in
    let threads : length q.threads ≡ length p.threads + 1 = length-append p.threads ([] ∷ []) in
    let firsts_more : length (firsts ++ first ∷ []) ≡ length firsts + 1 = length-append firsts (first ∷ []) in
    record {
      limits = limits_thread p t.limits room;
      one_row_each = omega (arith, one_row_each, count);
      rows_describe = λ node row e. describes_still p q [] [] (same ∙ sym (append-nil (nodes p))) (actions-with_thread p ∙ sym (append-nil (actions p))) (omega (arith, threads)) node row (t.rows_describe node row e);
      loads_are = t.loads_are ∙ ap (λ xs. places load_node xs (length xs)) (sym same);
      stores_are = t.stores_are ∙ ap (λ xs. places store_node xs (length xs)) (sym same);
      one_first_each = omega (arith, one_first_each, threads, firsts_more);
      firsts_are = λ thread h.
          ⊎_elim
          (λ (old : thread < length firsts).
          get_or_append_left firsts (first ∷ []) 0 thread old ∙ t.firsts_are thread old ∙ sym (first_node-with_thread p thread (omega (arith, old, one_first_each))))
          (λ (new : length firsts ≤ thread).
          let is_last : length firsts ≡ thread = omega (arith, new, h, firsts_more) in
          get_or_push firsts first 0 thread is_last ∙ is_first ∙ one_row_each ∙ sym (first_node_all p thread (omega (arith, is_last, one_first_each)))
          ∙ sym (first_node-with_thread p thread (omega (arith, is_last, one_first_each))))
          (cases_lt thread (length firsts));
    }

pub tabulates-with_action : (p : Program) (rows : List Row) (loads stores firsts : List ℕ) (row : Row) → TabulatesTest p rows loads stores firsts → suc row.thread ≡ length p.threads → row.value ≡ length stores + 1
    → row.rank ≡ length loads → op_count p < 2048 → HasWord p (op_of row.action) → IsTrue (allows p.version row.action)
    → TabulatesTest (with_action p row.action) (rows ++ row ∷ []) (loads ++ cond (is_load (op_of row.action)) (length rows ∷ []) []) (stores ++ cond (is_store (op_of row.action)) (length rows ∷ []) []) firsts
tabulates-with_action p rows loads stores firsts row t last value rank room word kind =
    let q = with_action p row.action in
    let grown : nodes q ≡ nodes p ++ (row.thread, op_of row.action) ∷ [] = nodes-with_action p row.action row.thread (sym last) in
    let all : actions q ≡ actions p ++ (row.thread, row.action) ∷ [] = actions-with_action p row.action row.thread (sym last) in
    let count : op_count q ≡ op_count p + 1 = ap length grown ∙ length-append (nodes p) ((row.thread, op_of row.action) ∷ []) in
    let threads : length q.threads ≡ length p.threads = threads-with_action p row.action in
    let one_row_each = t.one_row_each in
    let one_first_each = t.one_first_each in
    let stores_now : length stores ≡ store_count p = ap length t.stores_are ∙ length-store_nodes p in
    let loads_now : length loads ≡ load_count p = ap length t.loads_are ∙ length-load_nodes p in
    let rows_more : length (rows ++ row ∷ []) ≡ length rows + 1 = length-append rows (row ∷ []) in
    let fits : FitsEnd p row = record { last_thread = last; next_value = value ∙ ap (λ (n : ℕ). n + 1) stores_now; next_rank = rank ∙ loads_now } in
    record {
      limits = limits_action p row.action row.thread (sym last) t.limits room word kind;
      one_row_each = omega (arith, one_row_each, count, rows_more);
      rows_describe = λ node other e.
          ⊎_elim
          (λ (old : slice_get rows node ≡ Some other). describes_still p q ((row.thread, op_of row.action) ∷ []) ((row.thread, row.action) ∷ []) grown all (omega (arith, threads)) node other (t.rows_describe node other old))
          (λ (new : (node ≡ length rows) × (row ≡ other)).
          let place : op_count p ≡ node = sym (new.0 ∙ one_row_each) in
          subst (λ (n : ℕ). Describes q n other) place (subst (λ (r : Row). Describes q (op_count p) r) new.1 (describes_last p q row grown all (sym threads) fits)))
          (slice_get_cases_end rows row node other e);
      loads_are = ap (λ list. list ++ cond (is_load (op_of row.action)) (length rows ∷ []) []) t.loads_are ∙ ap (λ (n : ℕ). load_nodes p ++ cond (is_load (op_of row.action)) (n ∷ []) []) one_row_each
          ∙ sym (load_nodes_push p q row.thread (op_of row.action) grown);
      stores_are = ap (λ list. list ++ cond (is_store (op_of row.action)) (length rows ∷ []) []) t.stores_are ∙ ap (λ (n : ℕ). store_nodes p ++ cond (is_store (op_of row.action)) (n ∷ []) []) one_row_each
          ∙ sym (store_nodes_push p q row.thread (op_of row.action) grown);
      one_first_each = omega (arith, one_first_each, threads);
      firsts_are = λ thread h. t.firsts_are thread h ∙ sym (first_node-with_action p row.action thread (omega (arith, h, one_first_each)));
    }

-- what the tables count

pub load_total : (p : Program) (rows : List Row) (loads stores firsts : List ℕ) → TabulatesTest p rows loads stores firsts → length loads ≡ load_count p
load_total p rows loads stores firsts t = ap length t.loads_are ∙ length-load_nodes p

pub store_total : (p : Program) (rows : List Row) (loads stores firsts : List ℕ) → TabulatesTest p rows loads stores firsts → length stores ≡ store_count p
store_total p rows loads stores firsts t = ap length t.stores_are ∙ length-store_nodes p

pub few_loads : (p : Program) (rows : List Row) (loads stores firsts : List ℕ) → TabulatesTest p rows loads stores firsts → length loads ≤ op_count p
few_loads p rows loads stores firsts t = let total = load_total p rows loads stores firsts t in let le = load_count-le p in omega (arith, total, le)

pub few_stores : (p : Program) (rows : List Row) (loads stores firsts : List ℕ) → TabulatesTest p rows loads stores firsts → length stores ≤ op_count p
few_stores p rows loads stores firsts t = let total = store_total p rows loads stores firsts t in let le = store_count-le p in omega (arith, total, le)

-- what a read of a table finds

pub load_found : (p q : Program) (rows : List Row) (loads stores firsts : List ℕ) → TabulatesTest p rows loads stores firsts → p ≡ q → (rank node : ℕ) → rank < load_count q → node ≡ get_or loads rank node
    → slice_get (load_nodes q) rank ≡ Some node
load_found p q rows loads stores firsts t same rank node lt read =
    let listed : loads ≡ load_nodes q = t.loads_are ∙ ap load_nodes same in
    ap (λ list. slice_get list rank) (sym listed) ∙ slice_get_read loads (load_count q) rank node (sym (ap length listed ∙ length-load_nodes q)) lt read

pub store_found : (p q : Program) (rows : List Row) (loads stores firsts : List ℕ) → TabulatesTest p rows loads stores firsts → p ≡ q → (place node : ℕ) → place < store_count q → node ≡ get_or stores place node
    → slice_get (store_nodes q) place ≡ Some node
store_found p q rows loads stores firsts t same place node lt read =
    let listed : stores ≡ store_nodes q = t.stores_are ∙ ap store_nodes same in
    ap (λ list. slice_get list place) (sym listed) ∙ slice_get_read stores (store_count q) place node (sym (ap length listed ∙ length-store_nodes q)) lt read

-- the row of a node tells it, and the word of its operation is one of the test
pub row_found : (p q : Program) (rows : List Row) (loads stores firsts : List ℕ) → TabulatesTest p rows loads stores firsts → p ≡ q → (node : ℕ) (row : Row) → node < op_count q → row ≡ get_or rows node row
    → Describes q node row × HasWord q (op_of row.action)
row_found p q rows loads stores firsts t same node row within is =
    let h : TabulatesTest q rows loads stores firsts = subst (λ (x : Program). TabulatesTest x rows loads stores firsts) same t in
    let each = h.one_row_each in
    let lt : node < length rows = omega (arith, each, within) in
    let told : Describes q node row = h.rows_describe node row (slice_get-get_or rows node row lt ∙ ap (λ (x : Row). Some x) (sym is)) in
    let entry : ℕ × Op = (row.thread, op_of row.action) in
    (told, subst (λ (x : ℕ × Op). HasWord q x.1) (get_or_from_slice_get (nodes q) node entry entry told.is_node) (All-get_or (λ (x : ℕ × Op). HasWord q x.1) (nodes q) node entry within h.limits.words_of))
