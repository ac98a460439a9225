-- The lines of a test, and its limits, as it grows.
use Rattle.std.proofs.Common.{◌≡◌, ℕ, zero, suc, ◌<◌, ◌≤◌, List, [], ◌∷◌, ◌++◌, length, refl, ap, arith, ◌∙◌, sym, append_assoc, append-nil}
use Rattle.std.specs.Prelude.{codes, sum_by, IsTrue}
use Rattle.std.specs.List.{flat_map}
use Rattle.std.proofs.lemmas.List.{map-append, take_all}
use Rattle.std.proofs.lemmas.List.Concat.{flat_map-append}
use Rattle.std.proofs.lemmas.List.Elements.{All-nil}
use Rattle.test_lang.specs.declared.op.Action.{Action}
use Rattle.test_lang.specs.Actions.{op_of, allows}
use Rattle.test_lang.specs.Program.{Program, empty_program, with_last, with_thread, with_action, op_count, HasWord, IsVersion, IsWithinLimits}
use Rattle.test_lang.specs.Text.Grammar.{action_line, thread_lines, body_lines}
use Rattle.test_lang.proofs.Threads.{first_node_all}
use Rattle.test_lang.proofs.Growth.{limits_thread, limits_action}

pub body_lines-with_thread : (p : Program) → body_lines (with_thread p) ≡ body_lines p ++ codes "thread" ∷ []
body_lines-with_thread p = flat_map-append thread_lines p.threads ([] ∷ [])

flat_map-with_last : (threads : List (List Action)) (action : Action) → 0 < length threads → flat_map thread_lines (with_last threads action) ≡ flat_map thread_lines threads ++ action_line action ∷ []
flat_map-with_last [] action h = absurd (omega arith)
flat_map-with_last (thread ∷ []) action h = grind (arith, map-append, append-nil)
flat_map-with_last (thread ∷ next ∷ more) action h =
    let rest = flat_map thread_lines (next ∷ more) in
    ap (λ (ls : List (List ℕ)). thread_lines thread ++ ls) (flat_map-with_last (next ∷ more) action (omega arith)) ∙ sym (append_assoc (thread_lines thread) rest (action_line action ∷ []))

pub body_lines-with_action : (p : Program) (action : Action) → 0 < length p.threads → body_lines (with_action p action) ≡ body_lines p ++ action_line action ∷ []
body_lines-with_action p action h = flat_map-with_last p.threads action h

-- the number of operations

pub op_count-sum_by : (p : Program) → op_count p ≡ sum_by length p.threads
op_count-sum_by p =
    let whole : length p.threads ≤ length p.threads = omega arith in
    sym (first_node_all p (length p.threads) whole) ∙ ap (sum_by length) (take_all (length p.threads) p.threads whole)

-- the number of the last thread
last_thread : (p : Program) → 0 < length p.threads → (n : ℕ) × (length p.threads ≡ suc n)
last_thread p h = go (length p.threads) refl h
  where
    go : (k : ℕ) → length p.threads ≡ k → 0 < k → (n : ℕ) × (length p.threads ≡ suc n)
    go zero e some = absurd (omega (arith, some))
    go (suc n) e some = (n, e)

-- the limits

pub limits-empty : (version n : ℕ) → IsVersion version → 1 ≤ n → n ≤ 256 → IsWithinLimits (empty_program version n)
limits-empty version n is some few = record {
  version = is;
  some_word = some;
  words = few;
  threads = omega arith;
  operations = omega arith;
  words_of = All-nil (λ node. HasWord (empty_program version n) node.1);
  kinds_of = All-nil (λ node. IsTrue (allows version node.1));
}

pub limits-with_thread : (p : Program) → IsWithinLimits p → length p.threads < 16 → IsWithinLimits (with_thread p)
limits-with_thread p h room = limits_thread p h room

pub limits-with_action : (p : Program) (action : Action) → IsWithinLimits p → 0 < length p.threads → HasWord p (op_of action) → op_count p < 2048 → IsTrue (allows p.version action)
    → IsWithinLimits (with_action p action)
limits-with_action p action h some word room kind = let last = last_thread p some in limits_action p action (last.0) (last.1) h room word kind
