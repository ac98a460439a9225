-- Least orders of literals, by a test that computes: at each place stands the least node whose predecessors all stand before it.
use Rattle.std.proofs.Common.{◌≡◌, ℕ, zero, suc, ◌<◌, List, [], ◌∷◌, ◌++◌, Bool, true, not, ◌&&◌, ◌||◌, length, get_or, take, arith, Contains, inl, inr, sym, subst, append_assoc}
use Rattle.std.specs.Prelude.{nat_lt}
use Rattle.std.specs.Bool.{Decides}
use Rattle.std.specs.List.{list_all}
use Rattle.std.proofs.lemmas.Bool.{cases_lt, or_cases}
use Rattle.std.proofs.lemmas.Bool.Decides.{Decides-ltb}
use Rattle.std.proofs.lemmas.List.{append-nil}
use Rattle.orders.specs.Orders.{IsLeastOrder}
use Rattle.orders.specs.Choices.{IsReady, IsNext}
use Rattle.orders.proofs.NextNodes.{next-least}
use Rattle.test_lang.proofs.ListTests.{and_true, not_true, implied, implies, all_true, all_of, has, decides_has}

abbrev pub is_ready : (ℕ → ℕ → Bool) → List ℕ → List ℕ → ℕ → Bool
is_ready edge nodes placed x = list_all (λ a. not (edge a x) || has placed a) nodes

abbrev pub is_next : (ℕ → ℕ → Bool) → List ℕ → List ℕ → ℕ → Bool
is_next edge nodes placed x =
    (has nodes x && not (has placed x))
    && (is_ready edge nodes placed x && list_all (λ z. not (is_ready edge nodes placed z) || (has placed z || not (nat_lt z x))) nodes)

-- the list takes the next node at each place, where these are placed
abbrev pub takes_next : (ℕ → ℕ → Bool) → List ℕ → List ℕ → List ℕ → Bool
takes_next edge nodes placed [] = list_all (has placed) nodes
takes_next edge nodes placed (x ∷ xs) = is_next edge nodes placed x && takes_next edge nodes (placed ++ x ∷ []) xs

module _ (E : ℕ → ℕ → Type 0) (edge : ℕ → ℕ → Bool) (told : (a b : ℕ) → Decides (edge a b) (E a b)) (nodes : List ℕ) where
  ready_of : (placed : List ℕ) (x : ℕ) → is_ready edge nodes placed x ≡ true → IsReady E nodes placed x
  ready_of placed x h a at e =
      (decides_has placed a).0 (implied (edge a x) (has placed a) (all_true (λ z. not (edge z x) || has placed z) nodes h a at) ((told a x).1 e))

  of_ready : (placed : List ℕ) (x : ℕ) → IsReady E nodes placed x → is_ready edge nodes placed x ≡ true
  of_ready placed x ready =
      all_of (λ z. not (edge z x) || has placed z) nodes (λ a at. implies (edge a x) (has placed a) (λ e. (decides_has placed a).1 (ready a at ((told a x).0 e))))

  next_of : (placed : List ℕ) (x : ℕ) → is_next edge nodes placed x ≡ true → IsNext E nodes placed x
  next_of placed x h =
      let none : ℕ → Bool = λ z. not (is_ready edge nodes placed z) || (has placed z || not (nat_lt z x)) in
      let parts = and_true (has nodes x && not (has placed x)) (is_ready edge nodes placed x && list_all none nodes) h in
      let place = and_true (has nodes x) (not (has placed x)) parts.0 in
      let choice = and_true (is_ready edge nodes placed x) (list_all none nodes) parts.1 in
      record {
        inside = (decides_has nodes x).0 place.0;
        unplaced = λ at. let there : has placed x ≡ true = (decides_has placed x).1 at in let free = not_true (has placed x) place.1 in absurd cc;
        ready = ready_of placed x choice.0;
        least = λ z at free ready. elim (or_cases (has placed z) (not (nat_lt z x))
            (implied (is_ready edge nodes placed z) (has placed z || not (nat_lt z x)) (all_true none nodes choice.1 z at) (of_ready placed z ready))) [
              | inl stands ↦ absurd (free ((decides_has placed z).0 stands))
              | inr later ↦ elim (cases_lt z x) [
                | inl lt ↦ let earlier : nat_lt z x ≡ true = (Decides-ltb z x).1 lt in let not_earlier = not_true (nat_lt z x) later in absurd cc
                | inr le ↦ le
              ]
            ];
      }

  places : (placed rest : List ℕ) → takes_next edge nodes placed rest ≡ true → (i : ℕ) → i < length rest → IsNext E nodes (placed ++ take i rest) (get_or rest i 0)
  places placed [] h i lt = absurd (omega (arith, lt))
  places placed (x ∷ xs) h zero lt =
      subst (λ (q : List ℕ). IsNext E nodes q x) (sym (append-nil placed))
      (next_of placed x (and_true (is_next edge nodes placed x) (takes_next edge nodes (placed ++ x ∷ []) xs) h).0)
  places placed (x ∷ xs) h (suc i) lt =
      subst (λ (q : List ℕ). IsNext E nodes q (get_or xs i 0)) (append_assoc placed (x ∷ []) (take i xs))
      (places (placed ++ x ∷ []) xs (and_true (is_next edge nodes placed x) (takes_next edge nodes (placed ++ x ∷ []) xs) h).1 i (omega (arith, lt)))

  whole : (placed rest : List ℕ) → takes_next edge nodes placed rest ≡ true → (x : ℕ) → Contains nodes x → Contains (placed ++ rest) x
  whole placed [] h x at = subst (λ (q : List ℕ). Contains q x) (sym (append-nil placed)) ((decides_has placed x).0 (all_true (has placed) nodes h x at))
  whole placed (y ∷ ys) h x at =
      subst (λ (q : List ℕ). Contains q x) (append_assoc placed (y ∷ []) ys)
      (whole (placed ++ y ∷ []) ys (and_true (is_next edge nodes placed y) (takes_next edge nodes (placed ++ y ∷ []) ys) h).1 x at)

  -- the test tells the least order
  pub least_of_test : (order : List ℕ) → takes_next edge nodes [] order ≡ true → IsLeastOrder E nodes order
  least_of_test order h = next-least E nodes order (record { next = places [] order h; whole = whole [] order h })
