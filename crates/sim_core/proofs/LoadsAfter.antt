-- The values of the loads after one more load was executed.
use Rattle.std.proofs.Common.{◌≡◌, ◌≢◌, ◌∙◌, ℕ, zero, suc, List, [], ◌∷◌, map, set, Bool, cond, Some, arith, refl, sym, ap, replicate}
use Rattle.std.specs.Prelude.{IsTrue, slice_get}
use Rattle.std.proofs.lemmas.Bool.{eq-eqb, ne_eqb}
use Rattle.std.proofs.lemmas.Option.{same_Some}
use Rattle.test_lang.specs.Program.{Program}
use Rattle.test_lang.specs.Values.{is_load_at, load_count, load_nodes, rank_of}
use Rattle.test_lang.specs.Play.States.{value_given, loads_of, opening}
use Rattle.test_lang.proofs.Ranks.{length-load_nodes, load_nodes-rank_of, load_nodes-rank}
use Rattle.sim_core.proofs.BelowLists.{map-constant}

map-same_at : {X Y : Type 0} (f g : X → Y) (xs : List X) → ((j : ℕ) (y : X) → slice_get xs j ≡ Some y → g y ≡ f y) → map g xs ≡ map f xs
map-same_at f g [] same = refl
map-same_at {X} {Y} f g (x ∷ xs) same = ap (λ (y : Y). y ∷ map g xs) (same 0 x refl) ∙ ap (λ (ys : List Y). f x ∷ ys) (map-same_at f g xs (λ j y e. same (suc j) y e))

-- functions that agree on a list but at one place of it
map-changed_at : {X Y : Type 0} (f g : X → Y) (xs : List X) (k : ℕ) (x : X) → slice_get xs k ≡ Some x → ((j : ℕ) (y : X) → slice_get xs j ≡ Some y → j ≢ k → g y ≡ f y) → map g xs ≡ set (map f xs) k (g x)
map-changed_at f g [] k x e same = absurd cc
map-changed_at {X} {Y} f g (y ∷ ys) zero x e same =
    ap (λ (z : Y). z ∷ map g ys) (ap g (same_Some y x e))
    ∙ ap (λ (zs : List Y). g x ∷ zs) (map-same_at f g ys (λ j z there. same (suc j) z there (λ (no : suc j ≡ 0). absurd (omega (arith, no)))))
map-changed_at {X} {Y} f g (y ∷ ys) (suc k) x e same =
    ap (λ (z : Y). z ∷ map g ys) (same 0 y refl (λ (no : 0 ≡ suc k). absurd (omega (arith, no))))
    ∙ ap (λ (zs : List Y). f y ∷ zs) (map-changed_at f g ys k x e (λ j z there other. same (suc j) z there (λ (no : suc j ≡ suc k). other (omega (arith, no)))))

-- A load gives a value.
module _ (p : Program) (given : List (ℕ × ℕ)) (n value : ℕ) where
  pub given-here : value_given ((n, value) ∷ given) n ≡ value
  given-here = ap (λ (b : Bool). cond b value (value_given given n)) (eq-eqb n n refl)

  pub given-other : (load : ℕ) → n ≢ load → value_given ((n, value) ∷ given) load ≡ value_given given load
  given-other load other = ap (λ (b : Bool). cond b value (value_given given load)) (ne_eqb n load other)

  pub loads-given : IsTrue (is_load_at p n) → map (value_given ((n, value) ∷ given)) (load_nodes p) ≡ set (map (value_given given) (load_nodes p)) (rank_of p n) value
  loads-given is =
      map-changed_at (value_given given) (value_given ((n, value) ∷ given)) (load_nodes p) (rank_of p n) n (load_nodes-rank_of p n is)
      (λ j load there other. given-other load (λ (same : n ≡ load). other (sym (load_nodes-rank p j load there) ∙ ap (rank_of p) (sym same))))
      ∙ ap (set (map (value_given given) (load_nodes p)) (rank_of p n)) given-here

-- No load was executed.
pub loads-opening : (p : Program) → loads_of p opening ≡ replicate (load_count p) 0
loads-opening p = map-constant (value_given []) 0 (load_nodes p) (λ load. refl) ∙ ap (λ (n : ℕ). replicate n 0) (length-load_nodes p)
