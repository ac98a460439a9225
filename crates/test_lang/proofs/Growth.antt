-- What an added thread and an added action leave as it was.
use Rattle.std.proofs.Common.{◌≡◌, ◌∙◌, ℕ, zero, suc, ◌+◌, ◌<◌, ◌≤◌, List, [], ◌∷◌, ◌++◌, map, take, length, cond, refl, ap, arith, sym, subst, All, append_assoc, append-nil, length-append}
use Rattle.std.specs.Prelude.{IsTrue, sum_by}
use Rattle.std.proofs.lemmas.List.{map-append, take-append-le}
use Rattle.std.proofs.lemmas.List.Elements.{All-append, All-cons, All-nil}
use Rattle.test_lang.specs.declared.op.Op.{Op}
use Rattle.test_lang.specs.declared.op.Action.{Action}
use Rattle.test_lang.specs.Actions.{op_of, allows}
use Rattle.test_lang.specs.Program.{Program, nodes, nodes_from, actions, actions_from, op_count, first_node, with_last, with_thread, with_action, HasWord, IsWithinLimits}
use Rattle.test_lang.specs.Values.{is_load, is_store, load_nodes}
use Rattle.test_lang.specs.Tables.{store_nodes}
use Rattle.test_lang.proofs.Places.{load_node, places, places_push, store_node}

-- an empty thread adds no node

nodes_from-thread : (k : ℕ) (threads : List (List Action)) → nodes_from k (threads ++ [] ∷ []) ≡ nodes_from k threads
nodes_from-thread k [] = refl
nodes_from-thread k (thread ∷ more) = ap (λ rest. map (λ action. (k, op_of action)) thread ++ rest) (nodes_from-thread (suc k) more)

pub nodes-with_thread : (p : Program) → nodes (with_thread p) ≡ nodes p
nodes-with_thread p = nodes_from-thread 0 p.threads

actions_from-thread : (k : ℕ) (threads : List (List Action)) → actions_from k (threads ++ [] ∷ []) ≡ actions_from k threads
actions_from-thread k [] = refl
actions_from-thread k (thread ∷ more) = ap (λ rest. map (λ action. (k, action)) thread ++ rest) (actions_from-thread (suc k) more)

pub actions-with_thread : (p : Program) → actions (with_thread p) ≡ actions p
actions-with_thread p = actions_from-thread 0 p.threads

pub first_node-with_thread : (p : Program) (t : ℕ) → t ≤ length p.threads → first_node (with_thread p) t ≡ first_node p t
first_node-with_thread p t h = ap (sum_by length) (take-append-le t p.threads ([] ∷ []) h)

-- an action is the last node

nodes_from-with_last : (k n : ℕ) (threads : List (List Action)) (action : Action) → length threads ≡ suc n → nodes_from k (with_last threads action) ≡ nodes_from k threads ++ (k + n, op_of action) ∷ []
nodes_from-with_last k n [] action h = absurd (omega (arith, h))
nodes_from-with_last k zero (thread ∷ []) action h = grind (arith, map-append, append-nil)
nodes_from-with_last k (suc n) (thread ∷ []) action h = absurd (omega (arith, h))
nodes_from-with_last k zero (thread ∷ next ∷ more) action h = absurd (omega (arith, h))
nodes_from-with_last k (suc n) (thread ∷ next ∷ more) action h =
    let here : List (ℕ × Op) = map (λ action. (k, op_of action)) thread in
    let rest : List (ℕ × Op) = nodes_from (suc k) (next ∷ more) in
    let later : nodes_from (suc k) (with_last (next ∷ more) action) ≡ rest ++ (suc k + n, op_of action) ∷ [] = nodes_from-with_last (suc k) n (next ∷ more) action (omega (arith, h)) in
    let same : suc k + n ≡ k + suc n = omega arith in
    ap (λ list. here ++ list) (later ∙ ap (λ j. rest ++ (j, op_of action) ∷ []) same) ∙ sym (append_assoc here rest ((k + suc n, op_of action) ∷ []))

length-with_last : (threads : List (List Action)) (action : Action) → length (with_last threads action) ≡ length threads
length-with_last [] action = refl
length-with_last (thread ∷ []) action = refl
length-with_last (thread ∷ next ∷ more) action = ap suc (length-with_last (next ∷ more) action)

take-with_last : (threads : List (List Action)) (action : Action) (t : ℕ) → t < length threads → take t (with_last threads action) ≡ take t threads
take-with_last [] action t h = absurd (omega (arith, h))
take-with_last (thread ∷ []) action zero h = refl
take-with_last (thread ∷ []) action (suc t) h = absurd (omega (arith, h))
take-with_last (thread ∷ next ∷ more) action zero h = refl
take-with_last (thread ∷ next ∷ more) action (suc t) h = ap (λ rest. thread ∷ rest) (take-with_last (next ∷ more) action t (omega (arith, h)))

pub nodes-with_action : (p : Program) (action : Action) (n : ℕ) → length p.threads ≡ suc n → nodes (with_action p action) ≡ nodes p ++ (n, op_of action) ∷ []
nodes-with_action p action n h = let same : 0 + n ≡ n = omega arith in nodes_from-with_last 0 n p.threads action h ∙ ap (λ j. nodes p ++ (j, op_of action) ∷ []) same

actions_from-with_last : (k n : ℕ) (threads : List (List Action)) (action : Action) → length threads ≡ suc n → actions_from k (with_last threads action) ≡ actions_from k threads ++ (k + n, action) ∷ []
actions_from-with_last k n [] action h = absurd (omega (arith, h))
actions_from-with_last k zero (thread ∷ []) action h = grind (arith, map-append, append-nil)
actions_from-with_last k (suc n) (thread ∷ []) action h = absurd (omega (arith, h))
actions_from-with_last k zero (thread ∷ next ∷ more) action h = absurd (omega (arith, h))
actions_from-with_last k (suc n) (thread ∷ next ∷ more) action h =
    let here : List (ℕ × Action) = map (λ action. (k, action)) thread in
    let rest : List (ℕ × Action) = actions_from (suc k) (next ∷ more) in
    let later : actions_from (suc k) (with_last (next ∷ more) action) ≡ rest ++ (suc k + n, action) ∷ [] = actions_from-with_last (suc k) n (next ∷ more) action (omega (arith, h)) in
    let same : suc k + n ≡ k + suc n = omega arith in
    ap (λ list. here ++ list) (later ∙ ap (λ j. rest ++ (j, action) ∷ []) same) ∙ sym (append_assoc here rest ((k + suc n, action) ∷ []))

pub actions-with_action : (p : Program) (action : Action) (n : ℕ) → length p.threads ≡ suc n → actions (with_action p action) ≡ actions p ++ (n, action) ∷ []
actions-with_action p action n h = let same : 0 + n ≡ n = omega arith in actions_from-with_last 0 n p.threads action h ∙ ap (λ j. actions p ++ (j, action) ∷ []) same

pub threads-with_action : (p : Program) (action : Action) → length (with_action p action).threads ≡ length p.threads
threads-with_action p action = length-with_last p.threads action

pub first_node-with_action : (p : Program) (action : Action) (t : ℕ) → t < length p.threads → first_node (with_action p action) t ≡ first_node p t
first_node-with_action p action t h = ap (sum_by length) (take-with_last p.threads action t h)

-- the lists of loads and of stores

pub load_nodes_push : (p q : Program) (n : ℕ) (op : Op) → nodes q ≡ nodes p ++ (n, op) ∷ [] → load_nodes q ≡ load_nodes p ++ cond (is_load op) (op_count p ∷ []) []
load_nodes_push p q n op e = ap (λ xs. places load_node xs (length xs)) e ∙ places_push load_node (nodes p) (n, op)

pub store_nodes_push : (p q : Program) (n : ℕ) (op : Op) → nodes q ≡ nodes p ++ (n, op) ∷ [] → store_nodes q ≡ store_nodes p ++ cond (is_store op) (op_count p ∷ []) []
store_nodes_push p q n op e = ap (λ xs. places store_node xs (length xs)) e ∙ places_push store_node (nodes p) (n, op)

-- the limits

pub limits_thread : (p : Program) → IsWithinLimits p → length p.threads < 16 → IsWithinLimits (with_thread p)
limits_thread p limits room =
    let more = length-append p.threads ([] ∷ []) in
    let same = nodes-with_thread p in
    let count = ap length same in
    let few = limits.operations in
    record {
      version = limits.version;
      some_word = limits.some_word;
      words = limits.words;
      threads = omega (arith, room, more);
      operations = omega (arith, few, count);
      words_of = subst (All (λ node. HasWord p node.1)) (sym same) limits.words_of;
      kinds_of = subst (All (λ node. IsTrue (allows p.version node.1))) (sym (actions-with_thread p)) limits.kinds_of;
    }

pub limits_action : (p : Program) (action : Action) (n : ℕ) → length p.threads ≡ suc n → IsWithinLimits p → op_count p < 2048 → HasWord p (op_of action) → IsTrue (allows p.version action)
    → IsWithinLimits (with_action p action)
limits_action p action n last limits room word kind =
    let threads = threads-with_action p action in
    let few = limits.threads in
    let grown = nodes-with_action p action n last in
    let count = ap length grown in
    let more = length-append (nodes p) ((n, op_of action) ∷ []) in
    let has : ℕ × Op → Type 0 = λ node. HasWord p node.1 in
    let allowed : ℕ × Action → Type 0 = λ node. IsTrue (allows p.version node.1) in
    record {
      version = limits.version;
      some_word = limits.some_word;
      words = limits.words;
      threads = omega (arith, few, threads);
      operations = omega (arith, room, count, more);
      words_of = subst (All has) (sym grown) (All-append has (nodes p) ((n, op_of action) ∷ []) limits.words_of (All-cons has (n, op_of action) [] word (All-nil has)));
      kinds_of = subst (All allowed) (sym (actions-with_action p action n last))
          (All-append allowed (actions p) ((n, action) ∷ []) limits.kinds_of (All-cons allowed (n, action) [] kind (All-nil allowed)));
    }
