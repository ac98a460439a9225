-- The generated test and its draws, as far as they are made.
use Rattle.std.proofs.Common.{◌≡◌, ◌∙◌, ℕ, zero, suc, ◌+◌, ◌*◌, ◌<◌, ◌≤◌, List, [], ◌∷◌, ◌++◌, length, refl, ap, sym, subst, arith, add-one}
use Rattle.std.specs.Prelude.{sum_by}
use Rattle.std.proofs.Math.Nat.{mul-le-mul_right}
use Rattle.std.proofs.lemmas.List.{length_push}
use Rattle.std.proofs.lemmas.List.FromFn.{length-map-range_with_len, map-range_with_len_more, sum_by-map-range_with_len_more}
use Rattle.std.proofs.lemmas.List.Sums.{sum_by-append, sum_by-cons}
use Rattle.mt_base.specs.declared.draws.Draws.{Draws}
use Rattle.mt_base.specs.Words.{draws_after}
use Rattle.test_lang.specs.declared.op.Op.{Op}
use Rattle.test_lang.specs.declared.op.Action.{Action}
use Rattle.test_lang.specs.Actions.{action_of}
use Rattle.test_lang.specs.Program.{Program, empty_program, with_last, with_thread, with_op, op_count, HasWord, HasWordBelow}
use Rattle.test_lang.proofs.TextLemmas.Bodies.{op_count-sum_by}
use Rattle.test_gen.specs.declared.settings.GenSettings.{GenSettings}
use Rattle.test_gen.specs.Generated.{op_from, words_for, words_before, op_at, first_ops, first_threads, generated}

-- the last of some threads gets the action
with_last-push : (threads : List (List Action)) (thread : List Action) (action : Action) → with_last (threads ++ thread ∷ []) action ≡ threads ++ (thread ++ action ∷ []) ∷ []
with_last-push [] thread action = refl
with_last-push (first ∷ []) thread action = refl
with_last-push (first ∷ next ∷ more) thread action = ap (λ (rest : List (List Action)). first ∷ rest) (with_last-push (next ∷ more) thread action)

-- the test of these threads
abbrev test_of : GenSettings → List (List Action) → Program
test_of s threads = record { version = 1; words = s.words; threads = threads }

module _ (s : GenSettings) where
  -- whole threads are made
  pub record HasThreads (n : ℕ) (test : Program) (draws : Draws) : Type 0 where
    pub test_is : test ≡ record { version = 1; words = s.words; threads = first_threads s n }
    pub draws_are : draws ≡ draws_after s.seed 54 (words_before s (n * s.ops))

  -- whole threads and the first operations of the next one are made
  pub record HasOps (thread n : ℕ) (test : Program) (draws : Draws) : Type 0 where
    pub test_is : test ≡ record { version = 1; words = s.words; threads = first_threads s thread ++ first_ops s thread n ∷ [] }
    pub draws_are : draws ≡ draws_after s.seed 54 (words_before s (thread * s.ops + n))

  pub no_thread : (test : Program) (draws : Draws) → test ≡ empty_program 1 s.words → draws ≡ draws_after s.seed 54 0 → HasThreads 0 test draws
  no_thread test draws empty first =
      let none : 0 ≡ 0 * s.ops = omega arith in
      record { test_is = empty; draws_are = first ∙ ap (λ (k : ℕ). draws_after s.seed 54 (words_before s k)) none }

  pub thread_begun : (thread : ℕ) (test new : Program) (draws : Draws) → HasThreads thread test draws → new ≡ with_thread test → HasOps thread 0 new draws
  thread_begun thread test new draws h added =
      let same : thread * s.ops ≡ thread * s.ops + 0 = omega arith in
      record { test_is = added ∙ ap with_thread h.test_is; draws_are = h.draws_are ∙ ap (λ (k : ℕ). draws_after s.seed 54 (words_before s k)) same }

  words_before-next : (n : ℕ) → words_before s n + words_for (op_from s (words_before s n)) ≡ words_before s (n + 1)
  words_before-next n = ap (words_before s) (sym (add-one n))

  pub op_added : (thread n : ℕ) (test new : Program) (draws behind : Draws) (op : Op) → HasOps thread n test draws → op ≡ op_at s thread n
      → behind ≡ draws_after s.seed 54 (words_before s (thread * s.ops + n) + words_for op) → new ≡ with_op test op → HasOps thread (n + 1) new behind
  op_added thread n test new draws behind op h is_op is_behind added =
      let threads : List (List Action) = first_threads s thread in
      let ops : List Action = first_ops s thread n in
      let here : Op = op_at s thread n in
      let longer : ops ++ action_of here ∷ [] ≡ first_ops s thread (n + 1) = sym (map-range_with_len_more (λ (place : ℕ). action_of (op_at s thread place)) 0 n n (omega arith)) in
      let made : with_last (threads ++ ops ∷ []) (action_of here) ≡ threads ++ first_ops s thread (n + 1) ∷ [] =
      with_last-push threads ops (action_of here) ∙ ap (λ (list : List Action). threads ++ list ∷ []) longer in
      let count : thread * s.ops + n + 1 ≡ thread * s.ops + (n + 1) = omega arith in
      record {
        test_is = added ∙ ap (λ (p : Program). with_op p op) h.test_is ∙ ap (λ (o : Op). with_op (test_of s (threads ++ ops ∷ [])) o) is_op ∙ ap (test_of s) made;
        draws_are = is_behind ∙ ap (λ (o : Op). draws_after s.seed 54 (words_before s (thread * s.ops + n) + words_for o)) is_op
            ∙ ap (draws_after s.seed 54) (words_before-next (thread * s.ops + n) ∙ ap (words_before s) count);
      }

  pub thread_done : (thread n : ℕ) (test : Program) (draws : Draws) → HasOps thread n test draws → n ≡ s.ops → HasThreads (thread + 1) test draws
  thread_done thread n test draws h all =
      let longer : first_threads s thread ++ first_ops s thread s.ops ∷ [] ≡ first_threads s (thread + 1) = sym (map-range_with_len_more (λ (t : ℕ). first_ops s t s.ops) 0 thread thread (omega arith)) in
      let count : thread * s.ops + n ≡ (thread + 1) * s.ops = omega (arith, all) in
      record {
        test_is = h.test_is ∙ ap (λ (k : ℕ). test_of s (first_threads s thread ++ first_ops s thread k ∷ [])) all ∙ ap (test_of s) longer;
        draws_are = h.draws_are ∙ ap (λ (k : ℕ). draws_after s.seed 54 (words_before s k)) count;
      }

  pub all_made : (n : ℕ) (test : Program) (draws : Draws) → HasThreads n test draws → n ≡ s.threads → test ≡ generated s
  all_made n test draws h all = h.test_is ∙ ap (λ (k : ℕ). test_of s (first_threads s k)) all

  -- how much is made

  length-first_threads : (n : ℕ) → length (first_threads s n) ≡ n
  length-first_threads n = length-map-range_with_len (λ (t : ℕ). first_ops s t s.ops) 0 n

  length-first_ops : (thread n : ℕ) → length (first_ops s thread n) ≡ n
  length-first_ops thread n = length-map-range_with_len (λ (place : ℕ). action_of (op_at s thread place)) 0 n

  ops-first_threads : (n : ℕ) → sum_by length (first_threads s n) ≡ n * s.ops
  ops-first_threads zero = omega arith
  ops-first_threads (suc n) =
      let one : sum_by length (first_threads s (suc n)) ≡ sum_by length (first_threads s (n + 1)) = ap (λ (k : ℕ). sum_by length (first_threads s k)) (sym (add-one n)) in
      let more = sum_by-map-range_with_len_more length (λ (t : ℕ). first_ops s t s.ops) 0 n n (omega arith) in
      let last = length-first_ops n s.ops in
      let before = ops-first_threads n in
      omega (arith, one, more, last, before)

  pub threads_made : (n : ℕ) (test : Program) (draws : Draws) → HasThreads n test draws → length test.threads ≡ n
  threads_made n test draws h = ap (λ (p : Program). length p.threads) h.test_is ∙ length-first_threads n

  pub some_thread : (thread n : ℕ) (test : Program) (draws : Draws) → HasOps thread n test draws → 0 < length test.threads
  some_thread thread n test draws h =
      let push = length_push (first_threads s thread) (first_ops s thread n) in
      let long = ap (λ (p : Program). length p.threads) h.test_is in
      omega (arith, push, long)

  ops_made : (thread n : ℕ) (test : Program) (draws : Draws) → HasOps thread n test draws → op_count test ≡ thread * s.ops + n
  ops_made thread n test draws h =
      let all = op_count-sum_by test in
      let lists = ap (λ (p : Program). sum_by length p.threads) h.test_is in
      let both = sum_by-append length (first_threads s thread) (first_ops s thread n ∷ []) in
      let last = sum_by-cons length (first_ops s thread n) [] in
      let part = length-first_ops thread n in
      let whole = ops-first_threads thread in
      omega (arith, all, lists, both, last, part, whole)

  -- before the end there is room for one more
  pub room_left : (thread n : ℕ) (test : Program) (draws : Draws) → HasOps thread n test draws → thread < s.threads → n < s.ops → s.threads * s.ops ≤ 2048 → op_count test < 2048
  room_left thread n test draws h before within few =
      let made = ops_made thread n test draws h in
      let rows : (thread + 1) * s.ops ≤ s.threads * s.ops = mul-le-mul_right s.ops (omega (arith, before)) in
      let row : (thread + 1) * s.ops ≡ thread * s.ops + s.ops = omega arith in
      omega (arith, made, rows, row, within, few)

  pub word_fits : (thread n : ℕ) (test : Program) (draws : Draws) (op : Op) → HasOps thread n test draws → HasWordBelow s.words op → HasWord test op
  word_fits thread n test draws op h below = subst (λ (words : ℕ). HasWordBelow words op) (sym (ap (λ (p : Program). p.words) h.test_is)) below
