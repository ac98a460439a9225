-- The operations of a test are those of its actions.
use Rattle.std.proofs.Common.{◌≡◌, ◌∙◌, ℕ, suc, List, [], ◌∷◌, ◌++◌, map, length, false, Option, None, Some, refl, ap, sym}
use Rattle.std.specs.Prelude.{◌==◌, IsTrue, slice_get}
use Rattle.std.specs.Option.{option_map, option_map_or}
use Rattle.std.proofs.lemmas.List.{map-append, length-map}
use Rattle.std.proofs.lemmas.Option.{same_Some, slice_get-map}
use Rattle.test_lang.specs.declared.op.Op.{Op}
use Rattle.test_lang.specs.declared.op.Op.TheVariants.{Load, Store, Fence}
use Rattle.test_lang.specs.declared.op.Action.{Action}
use Rattle.test_lang.specs.Actions.{op_of, action_of, allows}
use Rattle.test_lang.specs.Program.{Program, nodes, nodes_from, actions, actions_from, action_at, op_at, thread_at, op_count, HasWordBelow, passes_after, at_actions}
use Rattle.test_lang.specs.Values.{same_thread}

-- the operation of an action
abbrev pub node_of : ℕ × Action → ℕ × Op
node_of node = (node.0, op_of node.1)

map-thread : (k : ℕ) (thread : List Action) → map node_of (map (λ action. (k, action)) thread) ≡ map (λ action. (k, op_of action)) thread
map-thread k [] = refl
map-thread k (action ∷ thread) = ap (λ rest. (k, op_of action) ∷ rest) (map-thread k thread)

map-actions_from : (k : ℕ) (threads : List (List Action)) → map node_of (actions_from k threads) ≡ nodes_from k threads
map-actions_from k [] = refl
map-actions_from k (thread ∷ more) =
    let here : List (ℕ × Action) = map (λ action. (k, action)) thread in
    let rest : List (ℕ × Op) = nodes_from (suc k) more in
    map-append node_of here (actions_from (suc k) more)
    ∙ ap (λ list. list ++ map node_of (actions_from (suc k) more)) (map-thread k thread)
    ∙ ap (λ list. map (λ action. (k, op_of action)) thread ++ list) (map-actions_from (suc k) more)

pub nodes-actions : (p : Program) → nodes p ≡ map node_of (actions p)
nodes-actions p = sym (map-actions_from 0 p.threads)

pub node-action : (p : Program) (n : ℕ) → slice_get (nodes p) n ≡ option_map node_of (slice_get (actions p) n)
node-action p n = ap (λ list. slice_get list n) (nodes-actions p) ∙ slice_get-map node_of (actions p) n

-- a node's thread and operation are those of its action
pub node-is : (p : Program) (n t : ℕ) (action : Action) → slice_get (actions p) n ≡ Some (t, action) → slice_get (nodes p) n ≡ Some (t, op_of action)
node-is p n t action e = node-action p n ∙ ap (option_map node_of) e

found_op : (found : Option (ℕ × Action)) → option_map (λ (node : ℕ × Op). node.1) (option_map node_of found) ≡ option_map op_of (option_map (λ (node : ℕ × Action). node.1) found)
found_op None = refl
found_op (Some node) = refl

pub op_at-action_at : (p : Program) (n : ℕ) → op_at p n ≡ option_map op_of (action_at p n)
op_at-action_at p n = ap (option_map (λ (node : ℕ × Op). node.1)) (node-action p n) ∙ found_op (slice_get (actions p) n)

pub op_at-action : (p : Program) (n : ℕ) (action : Action) → action_at p n ≡ Some action → op_at p n ≡ Some (op_of action)
op_at-action p n action e = op_at-action_at p n ∙ ap (option_map op_of) e

-- there are as many actions as nodes
pub length-actions : (p : Program) → length (actions p) ≡ op_count p
length-actions p = sym (length-map (actions p) node_of) ∙ ap length (sym (nodes-actions p))

-- a node's thread and action are all of it

thread_at-action : (p : Program) (n : ℕ) → thread_at p n ≡ option_map (λ (node : ℕ × Action). node.0) (slice_get (actions p) n)
thread_at-action p n = ap (option_map (λ (node : ℕ × Op). node.0)) (node-action p n) ∙ found_thread (slice_get (actions p) n) where
  found_thread : (found : Option (ℕ × Action)) → option_map (λ (node : ℕ × Op). node.0) (option_map node_of found) ≡ option_map (λ (node : ℕ × Action). node.0) found
  found_thread None = refl
  found_thread (Some node) = refl

pair_from : (found : Option (ℕ × Action)) (t : ℕ) (action : Action) → option_map (λ node. node.0) found ≡ Some t → option_map (λ node. node.1) found ≡ Some action → found ≡ Some (t, action)
pair_from None t action e f = absurd cc
pair_from (Some node) t action e f = ap (λ k. Some (k, node.1)) (same_Some node.0 t e) ∙ ap (λ a. Some (t, a)) (same_Some node.1 action f)

pub action-is : (p : Program) (n t : ℕ) (action : Action) → thread_at p n ≡ Some t → action_at p n ≡ Some action → slice_get (actions p) n ≡ Some (t, action)
action-is p n t action thread found = pair_from (slice_get (actions p) n) t action (sym (thread_at-action p n) ∙ thread) found

-- tests of two nodes by their actions

threads_by : (x y : Option (ℕ × Action)) → passes_after (λ first second. first.0 == second.0) (option_map node_of x) (option_map node_of y)
    ≡ option_map_or (λ first. option_map_or (λ second. first.0 == second.0) y false) x false
threads_by None y = refl
threads_by (Some x) None = refl
threads_by (Some x) (Some y) = refl

pub same_thread-actions : (p : Program) (a b : ℕ) → same_thread p a b ≡ at_actions (λ first second. first.0 == second.0) p a b
same_thread-actions p a b =
    ap (λ (x : Option (ℕ × Op)). passes_after (λ first second. first.0 == second.0) x (slice_get (nodes p) b)) (node-action p a)
    ∙ ap (passes_after (λ first second. first.0 == second.0) (option_map node_of (slice_get (actions p) a))) (node-action p b)
    ∙ threads_by (slice_get (actions p) a) (slice_get (actions p) b)

-- the action that an operation stands for

pub word_of-op : (n : ℕ) (op : Op) → HasWordBelow n op → HasWordBelow n (op_of (action_of op))
word_of-op n (Load word) h = h
word_of-op n (Store word) h = h
word_of-op n Fence h = tt

pub kind_of-op : (version : ℕ) (op : Op) → IsTrue (allows version (action_of op))
kind_of-op version (Load word) = refl
kind_of-op version (Store word) = refl
kind_of-op version Fence = refl
