-- Threads and words of nodes, and the pairs that a model keeps.
use Rattle.std.proofs.Common.{◌≡◌, ℕ, ◌<◌, Bool, true, false, not, ◌&&◌, refl, sym, ap, subst, Option, None, Some}
use Rattle.std.specs.Prelude.{◌==◌, slice_get, nat_lt}
use Rattle.std.specs.Option.{option_map, option_map_or}
use Rattle.std.proofs.lemmas.Bool.{eqb-true, eq-eqb}
use Rattle.std.proofs.lemmas.Bool.Decides.{Decides-ltb}
use Rattle.test_lang.specs.declared.op.Op.{Op}
use Rattle.test_lang.specs.declared.op.Op.TheVariants.{Load, Store, Fence}
use Rattle.test_lang.specs.declared.op.Action.{Action}
use Rattle.test_lang.specs.declared.op.Action.TheVariants.{Load as LoadAction, Store as StoreAction, Fence as FenceAction}
use Rattle.test_lang.specs.declared.op.MemModel.{MemModel}
use Rattle.test_lang.specs.declared.op.MemModel.TheVariants.{Sc, Tso, Pso, Weak}
use Rattle.test_lang.specs.Actions.{op_of}
use Rattle.test_lang.specs.Program.{Program, nodes, actions, at_actions, passes, passes_after}
use Rattle.test_lang.specs.Values.{is_load, is_store, is_of, is_store_to, same_word, word_of, is_load_at, is_store_at, same_thread, one_word, word_at}
use Rattle.test_lang.specs.Kept.{keeps, is_kept, IsKept}
use Rattle.test_lang.specs.Runs.{writes_for}
use Rattle.test_lang.specs.Play.States.{stores_to}
use Rattle.test_lang.specs.Play.Explanations.{KeepsOneWord}
use Rattle.test_lang.proofs.ActionNodes.{node_of, node-action}
use Rattle.test_lang.proofs.PlayLaws.Lasts.{both, both_true}

word_as : (x y z : Op) → same_word x y ≡ true → same_word x z ≡ same_word y z
word_as (Load w) (Load v) z h = ap (λ (k : ℕ). is_of k z) (eqb-true w v h)
word_as (Load w) (Store v) z h = ap (λ (k : ℕ). is_of k z) (eqb-true w v h)
word_as (Load w) Fence z h = absurd cc
word_as (Store w) (Load v) z h = ap (λ (k : ℕ). is_of k z) (eqb-true w v h)
word_as (Store w) (Store v) z h = ap (λ (k : ℕ). is_of k z) (eqb-true w v h)
word_as (Store w) Fence z h = absurd cc
word_as Fence y z h = absurd cc

word_from : (a b c : Option (ℕ × Op)) → passes_after (λ x y. same_word x.1 y.1) a b ≡ true → passes_after (λ x y. same_word x.1 y.1) a c ≡ passes_after (λ x y. same_word x.1 y.1) b c
word_from None b c h = absurd cc
word_from (Some a) None c h = absurd cc
word_from (Some a) (Some b) None h = refl
word_from (Some a) (Some b) (Some c) h = word_as a.1 b.1 c.1 h

-- nodes of one word have the same word as each third node, or not
pub one_word-as : (p : Program) (a b c : ℕ) → one_word p a b ≡ true → one_word p a c ≡ one_word p b c
one_word-as p a b c h = word_from (slice_get (nodes p) a) (slice_get (nodes p) b) (slice_get (nodes p) c) h

thread_from : (a b c : Option (ℕ × Op)) → passes_after (λ x y. x.0 == y.0) a b ≡ true → passes_after (λ x y. x.0 == y.0) a c ≡ passes_after (λ x y. x.0 == y.0) b c
thread_from None b c h = absurd cc
thread_from (Some a) None c h = absurd cc
thread_from (Some a) (Some b) None h = refl
thread_from (Some a) (Some b) (Some c) h = ap (λ (k : ℕ). k == c.0) (eqb-true a.0 b.0 h)

pub same_thread-as : (p : Program) (a b c : ℕ) → same_thread p a b ≡ true → same_thread p a c ≡ same_thread p b c
same_thread-as p a b c h = thread_from (slice_get (nodes p) a) (slice_get (nodes p) b) (slice_get (nodes p) c) h

thread_back : (a b : Option (ℕ × Op)) → passes_after (λ x y. x.0 == y.0) a b ≡ true → passes_after (λ x y. x.0 == y.0) b a ≡ true
thread_back None b h = absurd cc
thread_back (Some a) None h = absurd cc
thread_back (Some a) (Some b) h = eq-eqb b.0 a.0 (sym (eqb-true a.0 b.0 h))

pub same_thread-back : (p : Program) (a b : ℕ) → same_thread p a b ≡ true → same_thread p b a ≡ true
same_thread-back p a b h = thread_back (slice_get (nodes p) a) (slice_get (nodes p) b) h

op_not_both : (x : Op) → is_load x ≡ true → is_store x ≡ true → ⊥
op_not_both (Load w) h k = absurd cc
op_not_both (Store w) h k = absurd cc
op_not_both Fence h k = absurd cc

not_both_from : (a : Option (ℕ × Op)) → passes (λ x. is_load x.1) a ≡ true → passes (λ x. is_store x.1) a ≡ true → ⊥
not_both_from None h k = absurd cc
not_both_from (Some a) h k = op_not_both a.1 h k

-- a node is no load and store at once
pub not_both : (p : Program) (n : ℕ) → is_load_at p n ≡ true → is_store_at p n ≡ true → ⊥
not_both p n h k = not_both_from (slice_get (nodes p) n) h k

-- the stores to the word of a load, told by the load

stores_op : (a b : Op) → is_load a ≡ true → is_store_to (word_of a) b ≡ (is_store b && same_word a b)
stores_op (Load w) (Load v) h = refl
stores_op (Load w) (Store v) h = refl
stores_op (Load w) Fence h = refl
stores_op (Store w) b h = absurd cc
stores_op Fence b h = absurd cc

stores_from : (a b : Option (ℕ × Op)) → passes (λ node. is_load node.1) a ≡ true →
    passes (λ node. is_store_to (option_map_or word_of (option_map (λ node. node.1) a) 0) node.1) b ≡ (passes (λ node. is_store node.1) b && passes_after (λ first second. same_word first.1 second.1) a b)
stores_from None b h = absurd cc
stores_from (Some a) None h = refl
stores_from (Some a) (Some b) h = stores_op a.1 b.1 h

pub stores_to-as : (p : Program) (load : ℕ) → is_load_at p load ≡ true → (n : ℕ) → stores_to p (word_at p load) n ≡ writes_for p load n
stores_to-as p load h n = stores_from (slice_get (nodes p) load) (slice_get (nodes p) n) h

-- what a model keeps before a store

not_both_ways : (b : Bool) → not (b && false) ≡ true
not_both_ways true = refl
not_both_ways false = refl

action_one_word : (m : MemModel) (a b : Action) → same_word (op_of a) (op_of b) ≡ true → is_store (op_of b) ≡ true → keeps m a b ≡ true
action_one_word m a (LoadAction y) w s = absurd cc
action_one_word m a (FenceAction kind) w s = absurd cc
action_one_word m (FenceAction kind) (StoreAction y) w s = absurd cc
action_one_word Sc (LoadAction x) (StoreAction y) w s = refl
action_one_word Sc (StoreAction x) (StoreAction y) w s = refl
action_one_word Tso (LoadAction x) (StoreAction y) w s = refl
action_one_word Tso (StoreAction x) (StoreAction y) w s = refl
action_one_word Pso (LoadAction x) (StoreAction y) w s = refl
action_one_word Pso (StoreAction x) (StoreAction y) w s = ap (λ e. true && not (true && not e)) w
action_one_word Weak (LoadAction x) (StoreAction y) w s = ap (λ e. e && true) w
action_one_word Weak (StoreAction x) (StoreAction y) w s = ap (λ e. e && true) w

kept_from : (m : MemModel) (a b : Option (ℕ × Action)) → passes_after (λ first second. first.0 == second.0) (option_map node_of a) (option_map node_of b) ≡ true →
    passes_after (λ first second. same_word first.1 second.1) (option_map node_of a) (option_map node_of b) ≡ true → passes (λ node. is_store node.1) (option_map node_of b) ≡ true →
    option_map_or (λ first. option_map_or (λ second. (first.0 == second.0) && keeps m first.1 second.1) b false) a false ≡ true
kept_from m None b t w s = absurd cc
kept_from m (Some a) None t w s = absurd cc
kept_from m (Some a) (Some b) t w s = both_true (a.0 == b.0) (keeps m a.1 b.1) t (action_one_word m a.1 b.1 w s)

-- each model keeps what stands before a store of its thread to the same word
pub models_one_word : (m : MemModel) (p : Program) → KeepsOneWord (IsKept m p) p
models_one_word m p a b lt t w s =
    let at_a = node-action p a in
    let at_b = node-action p b in
    both_true (nat_lt a b) (at_actions (λ first second. (first.0 == second.0) && keeps m first.1 second.1) p a b) ((Decides-ltb a b).1 lt)
    (kept_from m (slice_get (actions p) a) (slice_get (actions p) b)
    (subst (λ x. passes_after (λ first second. first.0 == second.0) x (option_map node_of (slice_get (actions p) b)) ≡ true) at_a
    (subst (λ y. passes_after (λ first second. first.0 == second.0) (slice_get (nodes p) a) y ≡ true) at_b t))
    (subst (λ x. passes_after (λ first second. same_word first.1 second.1) x (option_map node_of (slice_get (actions p) b)) ≡ true) at_a
    (subst (λ y. passes_after (λ first second. same_word first.1 second.1) (slice_get (nodes p) a) y ≡ true) at_b w))
    (subst (λ y. passes (λ node. is_store node.1) y ≡ true) at_b s))

-- a pair that a model keeps is one of a thread, in its order

pub record IsKeptPair (p : Program) (a b : ℕ) : Type 0 where
  pub earlier : a < b
  pub thread : same_thread p a b ≡ true

threads_from : (m : MemModel) (a b : Option (ℕ × Action)) → option_map_or (λ first. option_map_or (λ second. (first.0 == second.0) && keeps m first.1 second.1) b false) a false ≡ true →
    passes_after (λ first second. first.0 == second.0) (option_map node_of a) (option_map node_of b) ≡ true
threads_from m None b h = absurd cc
threads_from m (Some a) None h = absurd cc
threads_from m (Some a) (Some b) h = (both (a.0 == b.0) (keeps m a.1 b.1) h).0

pub kept_actions : (m : MemModel) (p : Program) (a b : ℕ) → is_kept m p a b ≡ true → at_actions (λ first second. (first.0 == second.0) && keeps m first.1 second.1) p a b ≡ true
kept_actions m p a b h = (both (nat_lt a b) (at_actions (λ first second. (first.0 == second.0) && keeps m first.1 second.1) p a b) h).1

pub kept_pair : (m : MemModel) (p : Program) (a b : ℕ) → is_kept m p a b ≡ true → IsKeptPair p a b
kept_pair m p a b h = record {
  earlier = (Decides-ltb a b).0 (both (nat_lt a b) (at_actions (λ first second. (first.0 == second.0) && keeps m first.1 second.1) p a b) h).0;
  thread = subst (λ x. passes_after (λ first second. first.0 == second.0) x (slice_get (nodes p) b) ≡ true) (sym (node-action p a))
      (subst (λ y. passes_after (λ first second. first.0 == second.0) (option_map node_of (slice_get (actions p) a)) y ≡ true) (sym (node-action p b))
      (threads_from m (slice_get (actions p) a) (slice_get (actions p) b) (kept_actions m p a b h)));
}
