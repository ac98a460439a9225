-- Nodes by their threads and actions.
use Rattle.std.proofs.Common.{◌≡◌, ℕ, ◌<◌, Bool, true, false, refl, sym, ap, subst, ◌∙◌, arith}
use Rattle.std.specs.Prelude.{Option, Some, None, slice_get, nat_lt, ◌==◌, ◌&&◌}
use Rattle.std.specs.Option.{option_map, option_map_or}
use Rattle.std.proofs.lemmas.Bool.{eqb-true, eq-eqb}
use Rattle.std.proofs.lemmas.Bool.Decides.{nat_tests}
use Rattle.test_lang.specs.declared.op.Action.{Action}
use Rattle.test_lang.specs.declared.op.MemModel.{MemModel}
use Rattle.test_lang.proofs.ActionNodes.{action-is}
use Rattle.test_lang.specs.Program.{Program, actions, action_at, at_action, at_actions, thread_at}
use Rattle.test_lang.specs.Kept.{keeps, is_kept}
use Rattle.graph_model.specs.declared.kinds.Kind.{Kind}
use Rattle.graph_model.specs.FewKept.{is_kind, is_kind_beside}

-- the node is in the thread and has the action
abbrev pub Is : Program → ℕ → ℕ → Action → Type 0
Is p n t action = slice_get (actions p) n ≡ Some (t, action)

pub both : (x y : Bool) → (x && y) ≡ true → (x ≡ true) × (y ≡ true)
both true y h = (refl, h)
both false y h = absurd cc

pub both_true : (x y : Bool) → x ≡ true → y ≡ true → (x && y) ≡ true
both_true true y h k = k
both_true false y h k = absurd cc

pub action_at-is : (p : Program) (n t : ℕ) (action : Action) → Is p n t action → action_at p n ≡ Some action
action_at-is p n t action h = ap (option_map (λ (node : ℕ × Action). node.1)) h

-- a kept pair of nodes
pub record IsKeptPair (m : MemModel) (p : Program) (a b : ℕ) : Type 0 where
  pub earlier : a < b
  pub thread : ℕ
  pub first : Action
  pub second : Action
  pub first_is : Is p a thread first
  pub second_is : Is p b thread second
  pub keeps : keeps m first second ≡ true

pair_from : (m : MemModel) (p : Program) (a b : ℕ) (x y : Option (ℕ × Action)) → slice_get (actions p) a ≡ x → slice_get (actions p) b ≡ y →
    nat_lt a b ≡ true → option_map_or (λ first. option_map_or (λ second. (first.0 == second.0) && keeps m first.1 second.1) y false) x false ≡ true → IsKeptPair m p a b
pair_from m p a b None y e f lt h = absurd cc
pair_from m p a b (Some x) None e f lt h = absurd cc
pair_from m p a b (Some x) (Some y) e f lt h =
    let parts = both (x.0 == y.0) (keeps m x.1 y.1) h in
    let same : x.0 ≡ y.0 = eqb-true x.0 y.0 parts.0 in
    record {
      earlier = grind (arith, nat_tests);
      thread = x.0;
      first = x.1;
      second = y.1;
      first_is = e;
      second_is = f ∙ ap (λ (t : ℕ). Some (t, y.1)) (sym same);
      keeps = parts.1;
    }

pub kept_pair : (m : MemModel) (p : Program) (a b : ℕ) → is_kept m p a b ≡ true → IsKeptPair m p a b
kept_pair m p a b h =
    let parts = both (nat_lt a b) (at_actions (λ first second. (first.0 == second.0) && keeps m first.1 second.1) p a b) h in
    pair_from m p a b (slice_get (actions p) a) (slice_get (actions p) b) refl refl parts.0 parts.1

pub kept_of_pair : (m : MemModel) (p : Program) (a b : ℕ) → IsKeptPair m p a b → is_kept m p a b ≡ true
kept_of_pair m p a b h =
    let test : ℕ × Action → ℕ × Action → Bool = λ first second. (first.0 == second.0) && keeps m first.1 second.1 in
    let lt = h.earlier in
    both_true (nat_lt a b) (at_actions test p a b) (grind (arith, nat_tests))
    (ap (λ (x : Option (ℕ × Action)). option_map_or (λ first. at_action (test first) p b) x false) h.first_is
    ∙ ap (λ (y : Option (ℕ × Action)). option_map_or (test (h.thread, h.first)) y false) h.second_is
    ∙ both_true (h.thread == h.thread) (keeps m h.first h.second) (eq-eqb h.thread h.thread refl) h.keeps)

-- a node of the kind in the thread of another
beside_from : (kind : Kind) (t : ℕ) (action : Action) (found : Option (ℕ × Action)) → option_map_or (λ other. (t == other.0) && is_kind kind action other.1) found false ≡ true →
    (other : Action) × (found ≡ Some (t, other)) × (is_kind kind action other ≡ true)
beside_from kind t action None h = absurd cc
beside_from kind t action (Some x) h =
    let parts = both (t == x.0) (is_kind kind action x.1) h in
    (x.1, ap (λ (u : ℕ). Some (u, x.1)) (sym (eqb-true t x.0 parts.0)), parts.1)

pub beside : (p : Program) (kind : Kind) (n k t : ℕ) (action : Action) → Is p n t action → is_kind_beside kind p n k ≡ true → (other : Action) × Is p k t other × (is_kind kind action other ≡ true)
beside p kind n k t action e h =
    beside_from kind t action (slice_get (actions p) k)
    (subst (λ (x : Option (ℕ × Action)). option_map_or (λ own. at_action (λ other. (own.0 == other.0) && is_kind kind own.1 other.1) p k) x false ≡ true) e h)

pub is_beside : (p : Program) (kind : Kind) (n k t : ℕ) (action other : Action) → Is p n t action → Is p k t other → is_kind kind action other ≡ true → is_kind_beside kind p n k ≡ true
is_beside p kind n k t action other e f h =
    ap (λ (x : Option (ℕ × Action)). option_map_or (λ own. at_action (λ other. (own.0 == other.0) && is_kind kind own.1 other.1) p k) x false) e
    ∙ ap (λ (y : Option (ℕ × Action)). option_map_or (λ other. (t == other.0) && is_kind kind action other.1) y false) f
    ∙ both_true (t == t) (is_kind kind action other) (eq-eqb t t refl) h

-- whether a pair is kept, by the threads and the actions of its nodes
pub kept_of : (m : MemModel) (p : Program) (a b t u : ℕ) (x y : Action) → thread_at p a ≡ Some t → thread_at p b ≡ Some u → action_at p a ≡ Some x → action_at p b ≡ Some y
    → is_kept m p a b ≡ (nat_lt a b && ((t == u) && keeps m x y))
kept_of m p a b t u x y a_in b_in a_is b_is =
    ap (λ (r : Bool). nat_lt a b && r)
    (ap (λ (found : Option (ℕ × Action)). option_map_or (λ first. option_map_or (λ second. (first.0 == second.0) && keeps m first.1 second.1) (slice_get (actions p) b) false) found false) (action-is p a t x a_in a_is)
    ∙ ap (λ (found : Option (ℕ × Action)). option_map_or (λ second. (t == second.0) && keeps m x second.1) found false) (action-is p b u y b_in b_is))
