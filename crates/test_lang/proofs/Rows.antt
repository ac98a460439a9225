-- The threads that rows make, as the rows grow.
use Rattle.std.proofs.Common.{◌≡◌, ◌∙◌, ℕ, zero, suc, ◌<◌, List, [], ◌∷◌, ◌++◌, length, Some, refl, ap, arith}
use Rattle.std.specs.Prelude.{slice_get}
use Rattle.test_lang.specs.declared.op.Action.{Action}
use Rattle.test_lang.specs.declared.test.Row.{Row}
use Rattle.test_lang.specs.Program.{with_last, with_thread, with_action}
use Rattle.test_lang.specs.Tables.{empty_threads, with_first, threads_of, program_of}

length-empty_threads : (n : ℕ) → length (empty_threads n) ≡ n
length-empty_threads zero = refl
length-empty_threads (suc n) = ap suc (length-empty_threads n)

length-with_first : (k : ℕ) (action : Action) (threads : List (List Action)) → length (with_first k action threads) ≡ length threads
length-with_first zero action [] = refl
length-with_first (suc k) action [] = refl
length-with_first zero action (thread ∷ more) = refl
length-with_first (suc k) action (thread ∷ more) = ap suc (length-with_first k action more)

pub length-threads_of : (n : ℕ) (rows : List Row) → length (threads_of n rows) ≡ n
length-threads_of n [] = length-empty_threads n
length-threads_of n (row ∷ rows) = length-with_first row.thread row.action (threads_of n rows) ∙ length-threads_of n rows

-- one more thread

empty_threads-suc : (n : ℕ) → empty_threads (suc n) ≡ empty_threads n ++ [] ∷ []
empty_threads-suc zero = refl
empty_threads-suc (suc n) = ap (λ threads. [] ∷ threads) (empty_threads-suc n)

with_first-thread : (k : ℕ) (action : Action) (threads : List (List Action)) → k < length threads → with_first k action (threads ++ [] ∷ []) ≡ with_first k action threads ++ [] ∷ []
with_first-thread k action [] h = absurd (omega (arith, h))
with_first-thread zero action (thread ∷ more) h = refl
with_first-thread (suc k) action (thread ∷ more) h = ap (λ rest. thread ∷ rest) (with_first-thread k action more (omega (arith, h)))

threads_of-suc : (n : ℕ) (rows : List Row) → ((k : ℕ) (row : Row) → slice_get rows k ≡ Some row → row.thread < n) → threads_of (suc n) rows ≡ threads_of n rows ++ [] ∷ []
threads_of-suc n [] h = empty_threads-suc n
threads_of-suc n (row ∷ rows) h =
    let head : row.thread < n = h 0 row refl in
    let long = length-threads_of n rows in
    ap (with_first row.thread row.action) (threads_of-suc n rows (λ k other e. h (suc k) other e)) ∙ with_first-thread row.thread row.action (threads_of n rows) (omega (arith, head, long))

pub program_of-suc : (version words n : ℕ) (rows : List Row) → ((k : ℕ) (row : Row) → slice_get rows k ≡ Some row → row.thread < n) → program_of version words (suc n) rows ≡ with_thread (program_of version words n rows)
program_of-suc version words n rows h = ap (λ threads. record { version = version; words = words; threads = threads }) (threads_of-suc n rows h)

-- one more row of the last thread

empty_threads-with_last : (n : ℕ) (action : Action) → with_first n action (empty_threads (suc n)) ≡ with_last (empty_threads (suc n)) action
empty_threads-with_last zero action = refl
empty_threads-with_last (suc n) action = ap (λ rest. [] ∷ rest) (empty_threads-with_last n action)

with_first-with_last : (k : ℕ) (first : Action) (threads : List (List Action)) (action : Action) → with_first k first (with_last threads action) ≡ with_last (with_first k first threads) action
with_first-with_last zero first [] action = refl
with_first-with_last (suc k) first [] action = refl
with_first-with_last zero first (thread ∷ []) action = refl
with_first-with_last (suc zero) first (thread ∷ []) action = refl
with_first-with_last (suc (suc k)) first (thread ∷ []) action = refl
with_first-with_last zero first (thread ∷ next ∷ more) action = refl
with_first-with_last (suc zero) first (thread ∷ next ∷ more) action = ap (λ rest. thread ∷ rest) (with_first-with_last zero first (next ∷ more) action)
with_first-with_last (suc (suc k)) first (thread ∷ next ∷ more) action = ap (λ rest. thread ∷ rest) (with_first-with_last (suc k) first (next ∷ more) action)

threads_of_push : (n : ℕ) (rows : List Row) (row : Row) → row.thread ≡ n → threads_of (suc n) (rows ++ row ∷ []) ≡ with_last (threads_of (suc n) rows) row.action
threads_of_push n [] row e = ap (λ k. with_first k row.action (empty_threads (suc n))) e ∙ empty_threads-with_last n row.action
threads_of_push n (first ∷ rows) row e =
    ap (with_first first.thread first.action) (threads_of_push n rows row e) ∙ with_first-with_last first.thread first.action (threads_of (suc n) rows) row.action

pub program_of_push : (version words threads : ℕ) (rows : List Row) (row : Row) → suc row.thread ≡ threads → program_of version words threads (rows ++ row ∷ []) ≡ with_action (program_of version words threads rows) row.action
program_of_push version words zero rows row e = absurd (omega (arith, e))
program_of_push version words (suc n) rows row e = ap (λ threads. record { version = version; words = words; threads = threads }) (threads_of_push n rows row (omega (arith, e)))
