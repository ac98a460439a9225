-- A test that is generated is within the limits of tests.
use Rattle.std.proofs.Common.{◌≡◌, ◌∙◌, ℕ, suc, ◌+◌, ◌*◌, ◌<◌, ◌≤◌, List, [], ◌∷◌, map, length, Bool, true, false, cond, All, ap, refl, arith}
use Rattle.std.specs.Prelude.{IsTrue, sum_by}
use Rattle.std.specs.List.{range_with_len}
use Rattle.std.proofs.Math.Nat.{mod-lt}
use Rattle.std.proofs.lemmas.List.Elements.{All-append, All-cons, All-nil}
use Rattle.std.proofs.lemmas.List.FromFn.{length-map-range_with_len, length-range_with_len}
use Rattle.std.proofs.lemmas.List.Sums.{sum_by-cons}
use Rattle.test_lang.specs.declared.op.Op.{Op}
use Rattle.test_lang.specs.declared.op.Op.TheVariants.{Load, Store, Fence}
use Rattle.test_lang.specs.declared.op.Action.{Action}
use Rattle.test_lang.specs.Actions.{action_of, allows, op_of}
use Rattle.test_lang.specs.Program.{HasWordBelow, IsWithinLimits, actions_from, nodes_from, op_count}
use Rattle.test_lang.proofs.TextLemmas.Bodies.{op_count-sum_by}
use Rattle.test_gen.specs.declared.settings.GenSettings.{GenSettings}
use Rattle.test_gen.specs.Generated.{first_ops, generated, op_at}
use Rattle.command_line.specs.Settings.{IsGenWithinRanges}

-- what holds of each value of a function holds of all elements of a list that are mapped by it, and then by another
all_mapped : {A B C : Type 0} (P : C → Type 0) (f : A → B) (h : B → C) (xs : List A) → ((x : A) → P (h (f x))) → All P (map h (map f xs))
all_mapped P f h [] each = All-nil P
all_mapped P f h (x ∷ xs) each = All-cons P (h (f x)) (map h (map f xs)) (each x) (all_mapped P f h xs each)

word_fits : (words x : ℕ) (fence store : Bool) → x < words → HasWordBelow words (op_of (action_of (cond fence Fence (cond store (Store x) (Load x)))))
word_fits words x true store below = tt
word_fits words x false true below = below
word_fits words x false false below = below

is_allowed : (op : Op) → IsTrue (allows 1 (action_of op))
is_allowed (Load x) = refl
is_allowed (Store x) = refl
is_allowed Fence = refl

module _ (g : GenSettings) where
  op_fits : 1 ≤ g.words → (thread place : ℕ) → HasWordBelow g.words (op_of (action_of (op_at g thread place)))
  op_fits some thread place = word_fits g.words _ _ _ (mod-lt _ some)

  -- the threads of these numbers
  abbrev rows : List ℕ → List (List Action)
  rows ts = map (λ thread. first_ops g thread g.ops) ts

  nodes_fit : 1 ≤ g.words → (k : ℕ) (ts : List ℕ) → All (λ node. HasWordBelow g.words node.1) (nodes_from k (rows ts))
  nodes_fit some k [] = All-nil (λ node. HasWordBelow g.words node.1)
  nodes_fit some k (t ∷ ts) =
      let has : ℕ × Op → Type 0 = λ node. HasWordBelow g.words node.1 in
      All-append has (map (λ action. (k, op_of action)) (first_ops g t g.ops)) (nodes_from (suc k) (rows ts))
      (all_mapped has (λ place. action_of (op_at g t place)) (λ action. (k, op_of action)) (range_with_len 0 g.ops) (λ place. op_fits some t place)) (nodes_fit some (suc k) ts)

  actions_allowed : (k : ℕ) (ts : List ℕ) → All (λ node. IsTrue (allows 1 node.1)) (actions_from k (rows ts))
  actions_allowed k [] = All-nil (λ node. IsTrue (allows 1 node.1))
  actions_allowed k (t ∷ ts) =
      let has : ℕ × Action → Type 0 = λ node. IsTrue (allows 1 node.1) in
      All-append has (map (λ action. (k, action)) (first_ops g t g.ops)) (actions_from (suc k) (rows ts))
      (all_mapped has (λ place. action_of (op_at g t place)) (λ action. (k, action)) (range_with_len 0 g.ops) (λ place. is_allowed (op_at g t place))) (actions_allowed (suc k) ts)

  ops_in_rows : (ts : List ℕ) → sum_by length (rows ts) ≡ length ts * g.ops
  ops_in_rows [] = omega arith
  ops_in_rows (t ∷ ts) =
      let first = sum_by-cons length (first_ops g t g.ops) (rows ts) in
      let here = length-map-range_with_len (λ (place : ℕ). action_of (op_at g t place)) 0 g.ops in
      let more = ops_in_rows ts in
      let row : suc (length ts) * g.ops ≡ length ts * g.ops + g.ops = omega arith in
      omega (arith, first, here, more, row)

  ops_of_generated : op_count (generated g) ≡ g.threads * g.ops
  ops_of_generated = op_count-sum_by (generated g) ∙ ops_in_rows (range_with_len 0 g.threads) ∙ ap (λ (n : ℕ). n * g.ops) (length-range_with_len 0 g.threads)

  pub generated_limits : IsGenWithinRanges g → g.threads * g.ops ≤ 2048 → IsWithinLimits (generated g)
  generated_limits ranges few =
      let count = ops_of_generated in
      let threads = length-map-range_with_len (λ (thread : ℕ). first_ops g thread g.ops) 0 g.threads in
      let most = ranges.threads in
      record {
        version = (omega arith, omega arith);
        some_word = ranges.some_words;
        words = ranges.words;
        threads = omega (arith, threads, most);
        operations = omega (arith, count, few);
        words_of = nodes_fit ranges.some_words 0 (range_with_len 0 g.threads);
        kinds_of = actions_allowed 0 (range_with_len 0 g.threads);
      }
