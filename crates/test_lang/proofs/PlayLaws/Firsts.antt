-- The first node that passes a test, and the next operation of a thread.
use Rattle.std.proofs.Common.{◌≡◌, ◌∙◌, ℕ, zero, suc, ◌<◌, List, [], ◌∷◌, ◌++◌, Bool, true, false, not, ◌&&◌, cond, Contains, inl, inr, arith, refl, sym, ap, subst, Option, None, Some}
use Rattle.std.specs.Prelude.{◌==◌, ◌⊎◌, find, slice_get}
use Rattle.std.proofs.lemmas.Bool.{eqb-true, eq-eqb}
use Rattle.orders.specs.Orders.{nodes_below}
use Rattle.orders.proofs.Below.{has-below}
use Rattle.orders.proofs.Members.{Contains-nil, Contains-cons_cases}
use Rattle.test_lang.specs.declared.op.Op.{Op}
use Rattle.test_lang.specs.Program.{Program, op_count, nodes, passes, passes_after}
use Rattle.test_lang.specs.Values.{same_thread}
use Rattle.test_lang.specs.Play.States.{State, has, is_of_thread, next_of}
use Rattle.test_lang.proofs.EdgeTests.{not-true}
use Rattle.test_lang.proofs.PlayLaws.Lasts.{both, both_true, has_true, has_false}

-- the first number that passes
pub record IsFirst (test : ℕ → Bool) (n found : ℕ) : Type 0 where
  pub below : found < n
  pub passed : test found ≡ true
  pub none : (k : ℕ) → k < found → test k ≡ false

find_push : (test : ℕ → Bool) (xs : List ℕ) (y x : ℕ) → find test (xs ++ y ∷ []) ≡ Some x → (find test xs ≡ Some x) ⊎ ((find test xs ≡ None) × (y ≡ x) × (test y ≡ true))
find_push test [] y x e = at (test y) refl e where
  at : (b : Bool) → test y ≡ b → cond b (Some y) None ≡ Some x → (find test [] ≡ Some x) ⊎ ((find test [] ≡ None) × (y ≡ x) × (test y ≡ true))
  at true t k = inr (refl, cc, t)
  at false t k = absurd cc
find_push test (z ∷ xs) y x e = at (test z) refl e (find_push test xs y x) where
  at : (b : Bool) → test z ≡ b → cond b (Some z) (find test (xs ++ y ∷ [])) ≡ Some x → (find test (xs ++ y ∷ []) ≡ Some x → (find test xs ≡ Some x) ⊎ ((find test xs ≡ None) × (y ≡ x) × (test y ≡ true))) →
      (find test (z ∷ xs) ≡ Some x) ⊎ ((find test (z ∷ xs) ≡ None) × (y ≡ x) × (test y ≡ true))
  at true t k more = inl (ap (λ b. cond b (Some z) (find test xs)) t ∙ k)
  at false t k more = elim (more k) [ inl l ↦ inl (ap (λ b. cond b (Some z) (find test xs)) t ∙ l) | inr r ↦ inr (ap (λ b. cond b (Some z) (find test xs)) t ∙ r.0, r.1, r.2) ]

none_of : (test : ℕ → Bool) (xs : List ℕ) → find test xs ≡ None → (x : ℕ) → Contains xs x → test x ≡ false
none_of test [] e x h = absurd (Contains-nil x h)
none_of test (y ∷ ys) e x h = at (test y) refl e (λ rest more. none_of test ys rest x more) where
  at : (b : Bool) → test y ≡ b → cond b (Some y) (find test ys) ≡ None → (find test ys ≡ None → Contains ys x → test x ≡ false) → test x ≡ false
  at true t e rest = absurd cc
  at false t e rest = elim (Contains-cons_cases y ys x h) [ inl same ↦ subst (λ (z : ℕ). test z ≡ false) same t | inr more ↦ rest e more ]

pub find_none : (test : ℕ → Bool) (n k : ℕ) → find test (nodes_below n) ≡ None → k < n → test k ≡ false
find_none test n k e lt = none_of test (nodes_below n) e k (has-below n k lt)

pub find_first : (test : ℕ → Bool) (n x : ℕ) → find test (nodes_below n) ≡ Some x → IsFirst test n x
find_first test zero x e = absurd cc
find_first test (suc n) x e = elim (find_push test (nodes_below n) n x e) [
  | inl before ↦ let f = find_first test n x before in record { below = let lt = f.below in omega (arith, lt); passed = f.passed; none = f.none }
  | inr here ↦
      let same = here.1 in
      record { below = omega (arith, same); passed = subst (λ (k : ℕ). test k ≡ true) here.1 here.2; none = λ k lt. find_none test n k here.0 (omega (arith, lt, same)) }
]

thread_of_first : (t : ℕ) (a b : Option (ℕ × Op)) → passes (λ node. node.0 == t) b ≡ true → passes_after (λ x y. x.0 == y.0) a b ≡ true → passes (λ node. node.0 == t) a ≡ true
thread_of_first t None b h s = absurd cc
thread_of_first t (Some a) None h s = absurd cc
thread_of_first t (Some a) (Some b) h s = eq-eqb a.0 t (eqb-true a.0 b.0 s ∙ eqb-true b.0 t h)

pub in_thread : (p : Program) (t a b : ℕ) → is_of_thread p t b ≡ true → same_thread p a b ≡ true → is_of_thread p t a ≡ true
in_thread p t a b h s = thread_of_first t (slice_get (nodes p) a) (slice_get (nodes p) b) h s

one_thread : (t : ℕ) (a b : Option (ℕ × Op)) → passes (λ node. node.0 == t) a ≡ true → passes (λ node. node.0 == t) b ≡ true → passes_after (λ x y. x.0 == y.0) a b ≡ true
one_thread t None b h k = absurd cc
one_thread t (Some a) None h k = absurd cc
one_thread t (Some a) (Some b) h k = eq-eqb a.0 b.0 (eqb-true a.0 t h ∙ sym (eqb-true b.0 t k))

pub of_one_thread : (p : Program) (t a b : ℕ) → is_of_thread p t a ≡ true → is_of_thread p t b ≡ true → same_thread p a b ≡ true
of_one_thread p t a b h k = one_thread t (slice_get (nodes p) a) (slice_get (nodes p) b) h k

-- what a thread's next operation is
pub record IsNextOf (p : Program) (st : State) (thread n : ℕ) : Type 0 where
  pub below : n < op_count p
  pub thread_is : is_of_thread p thread n ≡ true
  pub new : Contains st.executed n → ⊥
  pub before : (a : ℕ) → a < n → same_thread p a n ≡ true → Contains st.executed a

pub next_is : (p : Program) (st : State) (thread n : ℕ) → next_of p st thread ≡ Some n → IsNextOf p st thread n
next_is p st thread n e =
    let f = find_first (λ k. is_of_thread p thread k && not (has st.executed k)) (op_count p) n e in
    let parts = both (is_of_thread p thread n) (not (has st.executed n)) f.passed in
    record {
      below = f.below;
      thread_is = parts.0;
      new = has_false st.executed n (not-true (has st.executed n) parts.1);
      before = λ a lt same. done a (in_thread p thread a n parts.0 same) (has st.executed a) refl (f.none a lt);
    } where
      done : (a : ℕ) → is_of_thread p thread a ≡ true → (b : Bool) → has st.executed a ≡ b → (is_of_thread p thread a && not (has st.executed a)) ≡ false → Contains st.executed a
      done a t true h no_pass = has_true st.executed a h
      done a t false h no_pass = let yes : (is_of_thread p thread a && not (has st.executed a)) ≡ true = both_true (is_of_thread p thread a) (not (has st.executed a)) t (ap not h) in absurd cc
