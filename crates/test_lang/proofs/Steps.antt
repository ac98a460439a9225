-- What a test's fields stand for after a thread or an action was added.
use Rattle.std.proofs.Common.{◌≡◌, ◌∙◌, ℕ, suc, ◌+◌, ◌<◌, List, [], ◌∷◌, ◌++◌, length, cond, ap, arith, sym, subst, length-append}
use Rattle.std.specs.Prelude.{IsTrue}
use Rattle.test_lang.specs.declared.test.Row.{Row}
use Rattle.test_lang.specs.Actions.{op_of, allows}
use Rattle.test_lang.specs.Program.{op_count, with_thread, with_action, HasWord}
use Rattle.test_lang.specs.Values.{is_load, is_store}
use Rattle.test_lang.specs.Tables.{TabulatesTest, program_of}
use Rattle.test_lang.proofs.Rows.{length-threads_of, program_of-suc, program_of_push}
use Rattle.test_lang.proofs.Tabulated.{tabulates-with_thread, tabulates-with_action}

module _ (version words : ℕ) (rows : List Row) (loads stores firsts : List ℕ) (t : TabulatesTest (program_of version words (length firsts) rows) rows loads stores firsts) where
  pub thread_added : (first : ℕ) → program_of version words (length (firsts ++ first ∷ [])) rows ≡ with_thread (program_of version words (length firsts) rows)
  thread_added first =
      let more = length-append firsts (first ∷ []) in
      let long : length (firsts ++ first ∷ []) ≡ suc (length firsts) = omega (arith, more) in
      let threads = length-threads_of (length firsts) rows in
      ap (λ (n : ℕ). program_of version words n rows) long
      ∙ program_of-suc version words (length firsts) rows (λ k row e. let lt = (t.rows_describe k row e).has_thread in omega (arith, lt, threads))

  pub tabulates_thread_added : (first : ℕ) → length (program_of version words (length firsts) rows).threads < 16 → first ≡ length rows
      → TabulatesTest (program_of version words (length (firsts ++ first ∷ [])) rows) rows loads stores (firsts ++ first ∷ [])
  tabulates_thread_added first room is_first =
      subst (λ p. TabulatesTest p rows loads stores (firsts ++ first ∷ [])) (sym (thread_added first)) (tabulates-with_thread (program_of version words (length firsts) rows) rows loads stores firsts first t room is_first)

  pub action_added : (row : Row) → suc row.thread ≡ length firsts → program_of version words (length firsts) (rows ++ row ∷ []) ≡ with_action (program_of version words (length firsts) rows) row.action
  action_added row last = program_of_push version words (length firsts) rows row last

  -- the row of an action that is added
  pub record IsNext (row : Row) : Type 0 where
    pub last_thread : suc row.thread ≡ length firsts
    pub next_value : row.value ≡ length stores + 1
    pub next_rank : row.rank ≡ length loads
    pub room : op_count (program_of version words (length firsts) rows) < 2048
    pub some_word : HasWord (program_of version words (length firsts) rows) (op_of row.action)
    pub some_kind : IsTrue (allows version row.action)

  pub tabulates_action_added : (row : Row) → IsNext row
      → TabulatesTest (program_of version words (length firsts) (rows ++ row ∷ [])) (rows ++ row ∷ []) (loads ++ cond (is_load (op_of row.action)) (length rows ∷ []) []) (stores ++ cond (is_store (op_of row.action)) (length rows ∷ []) []) firsts
  tabulates_action_added row next =
      let threads = length-threads_of (length firsts) rows in
      let last = next.last_thread in
      subst (λ p. TabulatesTest p (rows ++ row ∷ []) (loads ++ cond (is_load (op_of row.action)) (length rows ∷ []) []) (stores ++ cond (is_store (op_of row.action)) (length rows ∷ []) []) firsts) (sym (action_added row last))
      (tabulates-with_action (program_of version words (length firsts) rows) rows loads stores firsts row t (omega (arith, last, threads)) next.next_value next.next_rank next.room next.some_word next.some_kind)
