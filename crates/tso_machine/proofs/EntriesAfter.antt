-- The buffers after one more node was executed or took effect.
use Rattle.std.proofs.Common.{◌≡◌, ◌∙◌, ℕ, suc, List, [], ◌∷◌, ◌++◌, Bool, true, false, not, ◌&&◌, ◌||◌, cond, take, drop, Contains, refl, sym, ap, subst, Some, append-nil}
use Rattle.std.specs.Prelude.{◌==◌, filter, slice_get}
use Rattle.std.proofs.lemmas.Bool.{eq-eqb, ne_eqb}
use Rattle.std.proofs.lemmas.List.Elements.{filter-append}
use Rattle.test_lang.specs.Program.{Program}
use Rattle.test_lang.specs.Play.States.{has, is_of_thread}
use Rattle.test_lang.proofs.PlayLaws.Lasts.{has_true}
use Rattle.sim_core.proofs.NextOperations.{has-push}
use Rattle.tso_machine.proofs.ListChanges.{IsOnce, once_filter, filter_same_in, filter-filter, filter_without, or_false}

-- the nodes of the thread that wait, among those that were executed
abbrev pub waiting : Program → ℕ → List ℕ → ℕ → Bool
waiting p t effects n = is_of_thread p t n && not (has effects n)

and_false : (a : Bool) → (a && false) ≡ false
and_false true = refl
and_false false = refl

and_true_right : (a : Bool) → (a && true) ≡ a
and_true_right true = refl
and_true_right false = refl

lacks : (xs : List ℕ) (n : ℕ) → (Contains xs n → ⊥) → has xs n ≡ false
lacks xs n out = at (has xs n) refl where
  at : (b : Bool) → has xs n ≡ b → has xs n ≡ false
  at true e = absurd (out (has_true xs n e))
  at false e = e

or_true : (b : Bool) → (b || true) ≡ true
or_true true = refl
or_true false = refl

module _ (p : Program) (executed effects : List ℕ) (n t : ℕ) where
  -- a node that is executed and waits
  pub waits_own : (Contains effects n → ⊥) → is_of_thread p t n ≡ true → filter (waiting p t effects) (executed ++ n ∷ []) ≡ filter (waiting p t effects) executed ++ n ∷ []
  waits_own out own =
      let passes : waiting p t effects n ≡ true = ap (λ b. b && not (has effects n)) own ∙ ap not (lacks effects n out) in
      filter-append (waiting p t effects) executed (n ∷ []) ∙ ap (λ b. filter (waiting p t effects) executed ++ cond b (n ∷ []) []) passes

  pub waits_other : is_of_thread p t n ≡ false → filter (waiting p t effects) (executed ++ n ∷ []) ≡ filter (waiting p t effects) executed
  waits_other other =
      let fails : waiting p t effects n ≡ false = ap (λ b. b && not (has effects n)) other in
      filter-append (waiting p t effects) executed (n ∷ []) ∙ ap (λ b. filter (waiting p t effects) executed ++ cond b (n ∷ []) []) fails ∙ append-nil (filter (waiting p t effects) executed)

  -- another node waits as before
  waits_as : (m : ℕ) → (n ≡ m → ⊥) → waiting p t (effects ++ n ∷ []) m ≡ waiting p t effects m
  waits_as m apart = ap (λ b. is_of_thread p t m && not b) (has-push effects n m ∙ ap (λ b. has effects m || b) (ne_eqb n m apart) ∙ or_false (has effects m))

  -- a node that is executed and takes effect at once
  pub waits_not : (Contains executed n → ⊥) → filter (waiting p t (effects ++ n ∷ [])) (executed ++ n ∷ []) ≡ filter (waiting p t effects) executed
  waits_not new =
      let done : has (effects ++ n ∷ []) n ≡ true = has-push effects n n ∙ ap (λ b. has effects n || b) (eq-eqb n n refl) ∙ or_true (has effects n) in
      let fails : waiting p t (effects ++ n ∷ []) n ≡ false = ap (λ b. is_of_thread p t n && not b) done ∙ and_false (is_of_thread p t n) in
      filter-append (waiting p t (effects ++ n ∷ [])) executed (n ∷ [])
      ∙ ap (λ b. filter (waiting p t (effects ++ n ∷ [])) executed ++ cond b (n ∷ []) []) fails
      ∙ append-nil (filter (waiting p t (effects ++ n ∷ [])) executed)
      ∙ filter_same_in (waiting p t (effects ++ n ∷ [])) (waiting p t effects) executed (λ m there. waits_as m (λ is. new (subst (Contains executed) (sym is) there)))

  waits_less : (m : ℕ) → waiting p t (effects ++ n ∷ []) m ≡ (waiting p t effects m && not (n == m))
  waits_less m = ap (λ b. is_of_thread p t m && not b) (has-push effects n m) ∙ parts (is_of_thread p t m) (has effects m) (n == m) where
    parts : (x y z : Bool) → (x && not (y || z)) ≡ ((x && not y) && not z)
    parts true true z = refl
    parts true false z = refl
    parts false y z = refl

  -- a node that waited and takes effect
  pub leaves : (k : ℕ) → IsOnce executed → slice_get (filter (waiting p t effects) executed) k ≡ Some n
      → filter (waiting p t (effects ++ n ∷ [])) executed ≡ take k (filter (waiting p t effects) executed) ++ drop (suc k) (filter (waiting p t effects) executed)
  leaves k once e =
      filter_same_in (waiting p t (effects ++ n ∷ [])) (λ m. waiting p t effects m && not (n == m)) executed (λ m there. waits_less m)
      ∙ sym (filter-filter (λ m. not (n == m)) (waiting p t effects) executed)
      ∙ filter_without (filter (waiting p t effects) executed) k n (once_filter (waiting p t effects) executed once) e

  pub leaves_other : is_of_thread p t n ≡ false → filter (waiting p t (effects ++ n ∷ [])) executed ≡ filter (waiting p t effects) executed
  leaves_other other = filter_same_in (waiting p t (effects ++ n ∷ [])) (waiting p t effects) executed (λ m there. at m (is_of_thread p t m) refl) where
    at : (m : ℕ) (b : Bool) → is_of_thread p t m ≡ b → waiting p t (effects ++ n ∷ []) m ≡ waiting p t effects m
    at m false e = ap (λ b. b && not (has (effects ++ n ∷ []) m)) e ∙ sym (ap (λ b. b && not (has effects m)) e)
    at m true e = waits_as m (λ is. let no : is_of_thread p t m ≡ false = subst (λ (k : ℕ). is_of_thread p t k ≡ false) is other in absurd cc)
