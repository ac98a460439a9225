-- The table of loads of each word.
use Rattle.std.proofs.Common.{◌≡◌, ◌∙◌, ℕ, zero, suc, ◌+◌, ◌<◌, ◌≤◌, List, [], ◌∷◌, Bool, true, false, cond, length, get_or, set, inl, inr, arith, refl, sym, ap, get_or-set_same, get_or-set_other}
use Rattle.std.specs.Prelude.{Option, Some, None, slice_get}
use Rattle.std.specs.Option.{option_map}
use Rattle.std.proofs.lemmas.Bool.{cases_eq}
use Rattle.test_lang.specs.declared.op.Action.{Action}
use Rattle.test_lang.specs.Program.{Program, actions, action_at, op_count}
use Rattle.test_lang.proofs.ActionNodes.{length-actions}
use Rattle.graph_model.specs.FirstLast.{last_below}
use Rattle.graph_model.specs.WordLoads.{last_load}
use Rattle.graph_model.proofs.Near.{last_found}

one_action : (found : Option Action) (x y : Action) → found ≡ Some x → found ≡ Some y → x ≡ y
one_action found x y e f = let both : Some x ≡ Some y = sym e ∙ f in cc

-- one more node
pub loads_more : (p : Program) (n : ℕ) (table : List (Option ℕ)) (found : Option ℕ) (own : Action) → n < length table → action_at p n ≡ Some own → found ≡ last_load p n own →
    ((k : ℕ) (action : Action) → k < n → action_at p k ≡ Some action → get_or table k None ≡ last_load p k action) →
    (k : ℕ) (action : Action) → k < n + 1 → action_at p k ≡ Some action → get_or (set table n found) k None ≡ last_load p k action
loads_more p n table found own lt at told each k action below e = elim (cases_eq k n) [
  | inl same ↦
      let here : action_at p n ≡ Some action = ap (action_at p) (sym same) ∙ e in
      ap (λ (j : ℕ). get_or (set table n found) j None) same
      ∙ get_or-set_same table n found None lt
      ∙ told
      ∙ ap (last_load p n) (one_action (action_at p n) own action at here)
      ∙ ap (λ (j : ℕ). last_load p j action) (sym same)
  | inr other ↦ get_or-set_other table n k found None other ∙ each k action (omega (arith, below, other)) e
]

action_within : (xs : List (ℕ × Action)) (n : ℕ) (action : Action) → option_map (λ node. node.1) (slice_get xs n) ≡ Some action → n < length xs
action_within [] n action e = absurd cc
action_within (x ∷ xs) zero action e = omega arith
action_within (x ∷ xs) (suc n) action e = let below = action_within xs n action e in omega (arith, below)

-- a node with an action is a node
pub action_at-below : (p : Program) (n : ℕ) (action : Action) → action_at p n ≡ Some action → n < op_count p
action_at-below p n action e = let within = action_within (actions p) n action e in let all = length-actions p in omega (arith, within, all)

-- one more than what was found, or 0
abbrev pub above : Option ℕ → ℕ
above None = 0
above (Some k) = k + 1

above_step : (test : ℕ → Bool) (n : ℕ) (b : Bool) → above (last_below test n) ≤ n → above (cond b (Some n) (last_below test n)) ≤ suc n
above_step test n true h = omega arith
above_step test n false h = omega (arith, h)

pub above-le : (test : ℕ → Bool) (n : ℕ) → above (last_below test n) ≤ n
above-le test zero = omega arith
above-le test (suc n) = above_step test n (test n) (above-le test n)

not_true : (b : Bool) → (b ≡ true → ⊥) → b ≡ false
not_true true h = absurd (h refl)
not_true false h = refl

-- where none is found, none passes
pub none_passes : (test : ℕ → Bool) (n : ℕ) → last_below test n ≡ None → (k : ℕ) → k < n → test k ≡ true → ⊥
none_passes test n e k lt h =
    let found = last_found test n k lt h in
    let differ : ◌≡◌ {A = Option ℕ} None (Some found.0) = sym e ∙ found.1 in
    cc
