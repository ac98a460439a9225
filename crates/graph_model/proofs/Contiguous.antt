-- The nodes of a thread stand in a row: so a node of a kind that is nearest in all threads is the nearest in a thread, or there is none in it.
use Rattle.std.proofs.Common.{◌≡◌, ℕ, zero, suc, ◌<◌, ◌≤◌, Bool, true, false, ◌&&◌, cond, inl, inr, arith, refl, sym, ap, ◌∙◌}
use Rattle.std.specs.Prelude.{◌-◌, Option, Some, None, IfSome, slice_get, ◌==◌}
use Rattle.std.specs.Option.{option_map, option_map_or}
use Rattle.std.proofs.lemmas.Bool.{cases_order}
use Rattle.test_lang.specs.declared.op.Action.{Action}
use Rattle.test_lang.specs.Program.{Program, actions, action_at, thread_at, op_count, at_action}
use Rattle.test_lang.specs.Values.{same_thread}
use Rattle.test_lang.proofs.ActionNodes.{same_thread-actions}
use Rattle.test_lang.proofs.EdgeTests.{at_nodes-below}
use Rattle.test_lang.proofs.Nodes.{same_thread_iff}
use Rattle.test_lang.proofs.Threads.{StandsIn, thread_at-stands, thread_at_some, earlier_thread}
use Rattle.graph_model.specs.declared.kinds.Kind.{Kind}
use Rattle.graph_model.specs.FirstLast.{last_below, first_from}
use Rattle.graph_model.specs.FewKept.{is_kind, is_kind_beside, in_thread, last_of_kind, next_of_kind}
use Rattle.graph_model.specs.NearestNodes.{last_node, first_passing}
use Rattle.graph_model.proofs.Near.{last_below-some, first_from-some}

-- a node between two of a thread is in it

between_threads : (p : Program) (a k b t u : ℕ) → a < k → k < b → StandsIn p t a → StandsIn p t b → StandsIn p u k → u ≡ t
between_threads p a k b t u lt lt' i j h = elim (cases_order u t) [
  | inl same ↦ same
  | inr (inl before) ↦ let no = earlier_thread p k a u t h i before in absurd (omega (arith, no, lt))
  | inr (inr after) ↦ let no = earlier_thread p b k t u j h after in absurd (omega (arith, no, lt'))
]

same_from : (p : Program) (a b : ℕ) → same_thread p a b ≡ true → (t : ℕ) × (thread_at p a ≡ Some t) × (thread_at p b ≡ Some t)
same_from p a b h =
    let below = at_nodes-below (λ first second. first.0 == second.0) p a b h in
    let t = thread_at_some p a below.0 in
    let u = thread_at_some p b below.1 in
    let same : t.0 ≡ u.0 = (same_thread_iff p a b t.0 u.0 t.1 u.1).0 h in
    (t.0, t.1, u.1 ∙ ap Some (sym same))

-- with n as one end, and the nodes on either side of it

pub between_before : (p : Program) (a k n : ℕ) → a < k → k < n → same_thread p n a ≡ true → same_thread p n k ≡ true
between_before p a k n lt lt' h =
    let e = same_from p n a h in
    let below = (at_nodes-below (λ first second. first.0 == second.0) p n a h).0 in
    let u = thread_at_some p k (omega (arith, lt', below)) in
    let same = between_threads p a k n e.0 u.0 lt lt' (thread_at-stands p a e.0 e.2) (thread_at-stands p n e.0 e.1) (thread_at-stands p k u.0 u.1) in
    (same_thread_iff p n k e.0 u.0 e.1 u.1).1 (sym same)

pub between_after : (p : Program) (n k b : ℕ) → n < k → k < b → same_thread p n b ≡ true → same_thread p n k ≡ true
between_after p n k b lt lt' h =
    let e = same_from p n b h in
    let below = (at_nodes-below (λ first second. first.0 == second.0) p n b h).1 in
    let u = thread_at_some p k (omega (arith, lt', below)) in
    let same = between_threads p n k b e.0 u.0 lt lt' (thread_at-stands p n e.0 e.1) (thread_at-stands p b e.0 e.2) (thread_at-stands p k u.0 u.1) in
    (same_thread_iff p n k e.0 u.0 e.1 u.1).1 (sym same)

-- one more node in front of what was found
step : (p : Program) (n b : ℕ) (v w : Bool) (found rest : Option ℕ) → same_thread p n b ≡ w → in_thread p n found ≡ rest → (w ≡ false → rest ≡ None) →
    in_thread p n (cond v (Some b) found) ≡ cond (w && v) (Some b) rest
step p n b true true found rest e h none = ap (λ (z : Bool). cond z (Some b) None) e
step p n b true false found rest e h none = ap (λ (z : Bool). cond z (Some b) None) e ∙ sym (none refl)
step p n b false true found rest e h none = h
step p n b false false found rest e h none = h

both_first : (x y : Bool) → (x && y) ≡ true → x ≡ true
both_first true y h = refl
both_first false y h = absurd cc

module _ (p : Program) (n : ℕ) (test : ℕ → Bool) where
  none_before : (b : ℕ) → b < n → same_thread p n b ≡ false → (found : Option ℕ) → last_below (λ k. same_thread p n k && test k) b ≡ found → found ≡ None
  none_before b lt apart None e = refl
  none_before b lt apart (Some last) e =
      let l = last_below-some (λ k. same_thread p n k && test k) b last e in
      let joined = between_before p last b n l.below lt (both_first (same_thread p n last) (test last) l.passes) in
      absurd cc

  pub last_in_thread : (b : ℕ) → b ≤ n → in_thread p n (last_below test b) ≡ last_below (λ k. same_thread p n k && test k) b
  last_in_thread zero h = refl
  last_in_thread (suc b) h =
      step p n b (test b) (same_thread p n b) (last_below test b) (last_below (λ k. same_thread p n k && test k) b) refl (last_in_thread b (omega (arith, h)))
      (λ apart. none_before b (omega (arith, h)) apart (last_below (λ k. same_thread p n k && test k) b) refl)

  none_after : (d c : ℕ) → n < c → same_thread p n c ≡ false → (found : Option ℕ) → first_from (λ k. same_thread p n k && test k) d (suc c) ≡ found → found ≡ None
  none_after d c lt apart None e = refl
  none_after d c lt apart (Some first) e =
      let f = first_from-some (λ k. same_thread p n k && test k) d (suc c) first e in
      let behind = f.not_before in
      let joined = between_after p n c first lt (omega (arith, behind)) (both_first (same_thread p n first) (test first) f.passes) in
      absurd cc

  pub first_in_thread : (d c : ℕ) → n < c → in_thread p n (first_from test d c) ≡ first_from (λ k. same_thread p n k && test k) d c
  first_in_thread zero c h = refl
  first_in_thread (suc d) c h =
      step p n c (test c) (same_thread p n c) (first_from test d (suc c)) (first_from (λ k. same_thread p n k && test k) d (suc c)) refl (first_in_thread d (suc c) (omega (arith, h)))
      (λ apart. none_after d c h apart (first_from (λ k. same_thread p n k && test k) d (suc c)) refl)

-- equal tests find the same

cond_same : (v w : Bool) (k : ℕ) (x y : Option ℕ) → v ≡ w → x ≡ y → cond v (Some k) x ≡ cond w (Some k) y
cond_same v w k x y e f = ap (λ (z : Bool). cond z (Some k) x) e ∙ ap (cond w (Some k)) f

last_below-same : (test other : ℕ → Bool) → ((k : ℕ) → test k ≡ other k) → (n : ℕ) → last_below test n ≡ last_below other n
last_below-same test other h zero = refl
last_below-same test other h (suc n) = cond_same (test n) (other n) n (last_below test n) (last_below other n) (h n) (last_below-same test other h n)

first_from-same : (test other : ℕ → Bool) → ((k : ℕ) → test k ≡ other k) → (n k : ℕ) → first_from test n k ≡ first_from other n k
first_from-same test other h zero k = refl
first_from-same test other h (suc n) k = cond_same (test k) (other k) k (first_from test n (suc k)) (first_from other n (suc k)) (h k) (first_from-same test other h n (suc k))

-- a node of a kind in a thread
beside_is : (kind : Kind) (action : Action) (x y : Option (ℕ × Action)) → option_map (λ (node : ℕ × Action). node.1) x ≡ Some action →
    (option_map_or (λ first. option_map_or (λ second. first.0 == second.0) y false) x false && option_map_or (λ node. is_kind kind action node.1) y false)
    ≡ option_map_or (λ own. option_map_or (λ other. (own.0 == other.0) && is_kind kind own.1 other.1) y false) x false
beside_is kind action None y e = absurd cc
beside_is kind action (Some x) None e = refl
beside_is kind action (Some x) (Some y) e = let same : action ≡ x.1 = cc in ap (λ (o : Action). (x.0 == y.0) && is_kind kind o y.1) same

kind_beside : (p : Program) (kind : Kind) (n k : ℕ) (action : Action) → action_at p n ≡ Some action → (same_thread p n k && at_action (λ node. is_kind kind action node.1) p k) ≡ is_kind_beside kind p n k
kind_beside p kind n k action e =
    ap (λ (b : Bool). b && at_action (λ node. is_kind kind action node.1) p k) (same_thread-actions p n k) ∙ beside_is kind action (slice_get (actions p) n) (slice_get (actions p) k) e

pub last_of_kind_told : (p : Program) (kind : Kind) (n : ℕ) (action : Action) → action_at p n ≡ Some action → in_thread p n (last_node p n (is_kind kind action)) ≡ last_of_kind kind p n
last_of_kind_told p kind n action e =
    let test : ℕ → Bool = at_action (λ node. is_kind kind action node.1) p in
    last_in_thread p n test n (omega arith)
    ∙ last_below-same (λ k. same_thread p n k && test k) (is_kind_beside kind p n) (λ k. kind_beside p kind n k action e) n

pub next_of_kind_told : (p : Program) (kind : Kind) (n : ℕ) (action : Action) → n < op_count p → action_at p n ≡ Some action →
    in_thread p n (first_passing p (op_count p - suc n) (is_kind kind action)) ≡ next_of_kind kind p n
next_of_kind_told p kind n action lt e =
    let test : ℕ → Bool = at_action (λ node. is_kind kind action node.1) p in
    let k : ℕ = op_count p - suc n in
    let from : op_count p - k ≡ suc n = omega (arith, lt) in
    ap (λ (c : ℕ). in_thread p n (first_from test k c)) from
    ∙ first_in_thread p n test k (suc n) (omega arith)
    ∙ first_from-same (λ k. same_thread p n k && test k) (is_kind_beside kind p n) (λ k. kind_beside p kind n k action e) k (suc n)

-- what is found is a node

pub last_node-below : (p : Program) (n : ℕ) (test : Action → Bool) (x : ℕ) → n ≤ op_count p → last_node p n test ≡ Some x → x < op_count p
last_node-below p n test x h e = let lt = (last_below-some (at_action (λ node. test node.1) p) n x e).below in omega (arith, lt, h)

pub first_passing-below : (p : Program) (k : ℕ) (test : Action → Bool) (x : ℕ) → k ≤ op_count p → first_passing p k test ≡ Some x → x < op_count p
first_passing-below p k test x h e = let lt = (first_from-some (at_action (λ node. test node.1) p) k (op_count p - k) x e).before_end in omega (arith, lt, h)

in_thread-some : (p : Program) (n : ℕ) (found : Option ℕ) (x : ℕ) → in_thread p n found ≡ Some x → found ≡ Some x
in_thread-some p n None x e = e
in_thread-some p n (Some k) x e = at (same_thread p n k) e where
  at : (b : Bool) → cond b (Some k) None ≡ Some x → Some k ≡ Some x
  at true h = h
  at false h = absurd cc

if_some : (found : Option ℕ) (P : ℕ → Type 0) → ((x : ℕ) → found ≡ Some x → P x) → IfSome found P
if_some None P h = tt
if_some (Some x) P h = h x refl

pub in_thread-below : (p : Program) (n : ℕ) (found : Option ℕ) → ((x : ℕ) → found ≡ Some x → x < op_count p) → IfSome (in_thread p n found) (λ k. k < op_count p)
in_thread-below p n found h = if_some (in_thread p n found) (λ k. k < op_count p) (λ x e. h x (in_thread-some p n found x e))
