-- The least node that reaches itself is the least on a cycle.
use Rattle.std.proofs.Common.{ℕ, ◌<◌, List, Option, Some, None, All, inl, inr}
use Rattle.std.specs.Prelude.{IfSome, IfNone}
use Rattle.std.proofs.lemmas.Bool.{cases_lt}
use Rattle.std.proofs.lemmas.List.Elements.{All-contains}
use Rattle.orders.specs.Paths.{Reach}
use Rattle.orders.specs.Cycles.{IsOnCycle, IsLeastOnCycle}
use Rattle.orders.proofs.CyclesOfPaths.{cycle_of_reach, reach_of_cycle}
use Rattle.digraph.specs.Digraph.{HasEdge}
use Rattle.full_sort.proofs.LevelSteps.{first_inside}

pub least_from : (E : ℕ → ℕ → Type 0) (o : Option ℕ) → IfSome o (λ node. Reach E node node) → IfSome o (λ node. (t : ℕ) → t < node → Reach E t t → ⊥) → IfSome o (IsLeastOnCycle E)
least_from E None some least = tt
least_from E (Some v) some least = record {
  on_cycle = cycle_of_reach E v some;
  least = λ other c. elim (cases_lt other v) [ inl lower ↦ absurd (least other lower (reach_of_cycle E other c)) | inr high ↦ high ];
}

pub none_from : (E : ℕ → ℕ → Type 0) (n : ℕ) (o : Option ℕ) → ((a b : ℕ) → E a b → (a < n) × (b < n)) → IfNone o ((t : ℕ) → t < n → Reach E t t → ⊥) → IfNone o ((node : ℕ) → IsOnCycle E node → ⊥)
none_from E n (Some v) inside none = tt
none_from E n None inside none = λ node c. none node (first_inside E n inside node c.0 node c.1.0) (reach_of_cycle E node c)

pub edges_inside : (es : List (ℕ × ℕ)) (n : ℕ) → All (λ e. (e.0 < n) × (e.1 < n)) es → (a b : ℕ) → HasEdge es a b → (a < n) × (b < n)
edges_inside es n ends a b h = All-contains (λ (e : ℕ × ℕ). (e.0 < n) × (e.1 < n)) es (a, b) ends h
