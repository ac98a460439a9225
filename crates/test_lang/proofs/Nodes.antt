-- What a node's thread and operation tell of it.
use Rattle.std.proofs.Common.{◌≡◌, ◌∙◌, ℕ, ◌↔◌, Option, None, Some, ap, sym}
use Rattle.std.specs.Prelude.{◌==◌, IsTrue, slice_get}
use Rattle.std.specs.Option.{option_map}
use Rattle.std.proofs.lemmas.Bool.{eqb-true, eq-eqb}
use Rattle.std.proofs.lemmas.Option.{same_Some}
use Rattle.test_lang.specs.declared.op.Op.{Op}
use Rattle.test_lang.specs.Program.{Program, nodes, op_at, thread_at, passes, passes_after}
use Rattle.test_lang.specs.Values.{is_load, is_store, is_fence, same_word, is_load_at, is_store_at, is_fence_at, same_thread, one_word}

node_from : (found : Option (ℕ × Op)) (t : ℕ) (op : Op) → option_map (λ node. node.0) found ≡ Some t → option_map (λ node. node.1) found ≡ Some op → found ≡ Some (t, op)
node_from None t op e f = absurd cc
node_from (Some node) t op e f = ap (λ k. Some (k, node.1)) (same_Some node.0 t e) ∙ ap (λ o. Some (t, o)) (same_Some node.1 op f)

-- the node's thread and operation are all of it
pub node_at : (p : Program) (n t : ℕ) (op : Op) → thread_at p n ≡ Some t → op_at p n ≡ Some op → slice_get (nodes p) n ≡ Some (t, op)
node_at p n t op thread found = node_from (slice_get (nodes p) n) t op thread found

load_from : (found : Option (ℕ × Op)) (op : Op) → option_map (λ node. node.1) found ≡ Some op → passes (λ node. is_load node.1) found ≡ is_load op
load_from None op e = absurd cc
load_from (Some node) op e = ap is_load (same_Some node.1 op e)

pub is_load_at-op : (p : Program) (n : ℕ) (op : Op) → op_at p n ≡ Some op → is_load_at p n ≡ is_load op
is_load_at-op p n op e = load_from (slice_get (nodes p) n) op e

store_from : (found : Option (ℕ × Op)) (op : Op) → option_map (λ node. node.1) found ≡ Some op → passes (λ node. is_store node.1) found ≡ is_store op
store_from None op e = absurd cc
store_from (Some node) op e = ap is_store (same_Some node.1 op e)

pub is_store_at-op : (p : Program) (n : ℕ) (op : Op) → op_at p n ≡ Some op → is_store_at p n ≡ is_store op
is_store_at-op p n op e = store_from (slice_get (nodes p) n) op e

fence_from : (found : Option (ℕ × Op)) (op : Op) → option_map (λ node. node.1) found ≡ Some op → passes (λ node. is_fence node.1) found ≡ is_fence op
fence_from None op e = absurd cc
fence_from (Some node) op e = ap is_fence (same_Some node.1 op e)

pub is_fence_at-op : (p : Program) (n : ℕ) (op : Op) → op_at p n ≡ Some op → is_fence_at p n ≡ is_fence op
is_fence_at-op p n op e = fence_from (slice_get (nodes p) n) op e

word_from : (first second : Option (ℕ × Op)) (x y : Op) → option_map (λ node. node.1) first ≡ Some x → option_map (λ node. node.1) second ≡ Some y
    → passes_after (λ a b. same_word a.1 b.1) first second ≡ same_word x y
word_from None second x y e f = absurd cc
word_from (Some a) None x y e f = absurd cc
word_from (Some a) (Some b) x y e f = ap (λ o. same_word o b.1) (same_Some a.1 x e) ∙ ap (same_word x) (same_Some b.1 y f)

pub one_word-op : (p : Program) (a b : ℕ) (x y : Op) → op_at p a ≡ Some x → op_at p b ≡ Some y → one_word p a b ≡ same_word x y
one_word-op p a b x y e f = word_from (slice_get (nodes p) a) (slice_get (nodes p) b) x y e f

threads_from : (first second : Option (ℕ × Op)) (t u : ℕ) → option_map (λ node. node.0) first ≡ Some t → option_map (λ node. node.0) second ≡ Some u
    → passes_after (λ a b. a.0 == b.0) first second ≡ (t == u)
threads_from None second t u e f = absurd cc
threads_from (Some a) None t u e f = absurd cc
threads_from (Some a) (Some b) t u e f = ap (λ k. k == b.0) (same_Some a.0 t e) ∙ ap (λ k. t == k) (same_Some b.0 u f)

pub same_thread-thread_at : (p : Program) (a b t u : ℕ) → thread_at p a ≡ Some t → thread_at p b ≡ Some u → same_thread p a b ≡ (t == u)
same_thread-thread_at p a b t u e f = threads_from (slice_get (nodes p) a) (slice_get (nodes p) b) t u e f

-- two nodes are of one thread where their threads are the same
pub same_thread_iff : (p : Program) (a b t u : ℕ) → thread_at p a ≡ Some t → thread_at p b ≡ Some u → IsTrue (same_thread p a b) ↔ (t ≡ u)
same_thread_iff p a b t u e f =
    (λ same. eqb-true t u (sym (same_thread-thread_at p a b t u e f) ∙ same), λ same. same_thread-thread_at p a b t u e f ∙ eq-eqb t u same)
