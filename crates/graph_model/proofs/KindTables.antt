-- What the kinds of actions before and after an action give.
use Rattle.std.proofs.Common.{◌≡◌, ◌≤◌, ◌⊎◌, ℕ, length, List, [], ◌∷◌, true, not, inl, inr, subst, refl, arith}
use Rattle.std.proofs.lemmas.Bool.Decides.{nat_tests}
use Rattle.test_lang.specs.declared.op.FenceKind.TheVariants.{Full, Store as StoreFence, Load as LoadFence}
use Rattle.test_lang.specs.declared.op.Action.{Action}
use Rattle.test_lang.specs.declared.op.Action.TheVariants.{Load, Store, Fence}
use Rattle.test_lang.specs.declared.op.MemModel.{MemModel}
use Rattle.test_lang.specs.declared.op.MemModel.TheVariants.{Sc, Tso, Pso, Weak}
use Rattle.test_lang.specs.Actions.{is_store_fence, is_store_like, is_load_like}
use Rattle.test_lang.specs.Kept.{keeps}
use Rattle.graph_model.specs.declared.kinds.Kind.{Kind}
use Rattle.graph_model.specs.declared.kinds.Kind.TheVariants.{Any, NotStoreLike, StoreLike, AnyStoreFence, StoreBarrier, LoadBarrier, LoadOfWord, StoreOfWord}
use Rattle.graph_model.specs.FewKept.{is_kind, kinds_before, kinds_after}

-- a kind stands in a list
abbrev pub IsListed : Kind → List Kind → Type 0
IsListed kind [] = ⊥
IsListed kind (k ∷ ks) = (k ≡ kind) ⊎ IsListed kind ks

-- so do all of them
abbrev pub Each : (Kind → Type 0) → List Kind → Type 0
Each P [] = Unit {0}
Each P (k ∷ ks) = P k × Each P ks

-- an action of a kind listed is kept before the action, or behind it

before_kept : (m : MemModel) (x y : Action) → Each (λ kind. is_kind kind y x ≡ true → keeps m x y ≡ true) (kinds_before m y)
before_kept Sc x y = ((λ h. refl), tt)
before_kept Tso x (Load word) = ((λ h. grind (arith, nat_tests)), tt)
before_kept Tso x (Store word) = ((λ h. grind (arith, nat_tests)), ((λ h. grind (arith, nat_tests)), tt))
before_kept Tso x (Fence Full) = ((λ h. grind (arith, nat_tests)), ((λ h. grind (arith, nat_tests)), tt))
before_kept Tso x (Fence StoreFence) = ((λ h. grind (arith, nat_tests)), ((λ h. grind (arith, nat_tests)), tt))
before_kept Tso x (Fence LoadFence) = ((λ h. grind (arith, nat_tests)), tt)
before_kept Pso x (Load word) = ((λ h. grind (arith, nat_tests)), tt)
before_kept Pso x (Store word) = ((λ h. grind (arith, nat_tests)), ((λ h. grind (arith, nat_tests)), ((λ h. grind (arith, nat_tests)), tt)))
before_kept Pso x (Fence kind) = ((λ h. grind (arith, nat_tests)), tt)
before_kept Weak x (Load word) = ((λ h. grind (arith, nat_tests)), ((λ h. grind (arith, nat_tests)), tt))
before_kept Weak x (Store word) = ((λ h. grind (arith, nat_tests)), ((λ h. grind (arith, nat_tests)), ((λ h. grind (arith, nat_tests)), tt)))
before_kept Weak x (Fence Full) = ((λ h. grind (arith, nat_tests)), ((λ h. grind (arith, nat_tests)), tt))
before_kept Weak x (Fence StoreFence) = ((λ h. grind (arith, nat_tests)), tt)
before_kept Weak x (Fence LoadFence) = ((λ h. grind (arith, nat_tests)), tt)

after_kept : (m : MemModel) (x y : Action) → Each (λ kind. is_kind kind x y ≡ true → keeps m x y ≡ true) (kinds_after m x)
after_kept Sc x y = tt
after_kept Tso x y = tt
after_kept Pso (Load word) y = tt
after_kept Pso (Store word) y = ((λ h. grind (arith, nat_tests)), tt)
after_kept Pso (Fence Full) y = tt
after_kept Pso (Fence StoreFence) y = ((λ h. grind (arith, nat_tests)), tt)
after_kept Pso (Fence LoadFence) y = tt
after_kept Weak (Load word) y = ((λ h. grind (arith, nat_tests)), tt)
after_kept Weak (Store word) y = ((λ h. grind (arith, nat_tests)), tt)
after_kept Weak (Fence kind) y = tt

each_listed : (P : Kind → Type 0) (kinds : List Kind) → Each P kinds → (kind : Kind) → IsListed kind kinds → P kind
each_listed P [] h kind l = absurd l
each_listed P (k ∷ ks) h kind (inl same) = subst P same h.0
each_listed P (k ∷ ks) h kind (inr more) = each_listed P ks h.1 kind more

pub listed_kept : (m : MemModel) (x y : Action) (kind : Kind) → IsListed kind (kinds_before m y) → is_kind kind y x ≡ true → keeps m x y ≡ true
listed_kept m x y kind l = each_listed (λ kind. is_kind kind y x ≡ true → keeps m x y ≡ true) (kinds_before m y) (before_kept m x y) kind l

pub listed_after_kept : (m : MemModel) (x y : Action) (kind : Kind) → IsListed kind (kinds_after m x) → is_kind kind x y ≡ true → keeps m x y ≡ true
listed_after_kept m x y kind l = each_listed (λ kind. is_kind kind x y ≡ true → keeps m x y ≡ true) (kinds_after m x) (after_kept m x y) kind l

-- How a kept pair is reached: it is of a kind listed, and is kept before each action of this kind, or behind each.
pub data Way (m : MemModel) (x y : Action) : Type 0 where
  by_last : (kind : Kind) → IsListed kind (kinds_before m y) → is_kind kind y x ≡ true → ((z : Action) → is_kind kind y z ≡ true → keeps m x z ≡ true) → Way m x y
  by_next : (kind : Kind) → IsListed kind (kinds_after m x) → is_kind kind x y ≡ true → ((z : Action) → is_kind kind x z ≡ true → keeps m z y ≡ true) → Way m x y

-- what is store-like isn't load-like
no_load_like : (z : Action) → is_store_like z ≡ true → not (is_load_like z) ≡ true
no_load_like (Load word) h = absurd cc
no_load_like (Store word) h = refl
no_load_like (Fence Full) h = absurd cc
no_load_like (Fence StoreFence) h = refl
no_load_like (Fence LoadFence) h = absurd cc

-- under `pso`

pso_stores : (w v : ℕ) → keeps Pso (Store w) (Store v) ≡ true → is_kind StoreOfWord (Store v) (Store w) ≡ true
pso_stores w v h = grind (arith, nat_tests)

pso_stores_kept : (w v : ℕ) (z : Action) → keeps Pso (Store w) (Store v) ≡ true → is_kind StoreOfWord (Store v) z ≡ true → keeps Pso (Store w) z ≡ true
pso_stores_kept w v (Load word) h k = grind (arith, nat_tests)
pso_stores_kept w v (Store word) h k = grind (arith, nat_tests)
pso_stores_kept w v (Fence kind) h k = absurd cc

pso_fence_kept : (z : Action) → is_store_fence z ≡ true → keeps Pso (Fence StoreFence) z ≡ true
pso_fence_kept (Load word) h = absurd cc
pso_fence_kept (Store word) h = absurd cc
pso_fence_kept (Fence Full) h = absurd cc
pso_fence_kept (Fence StoreFence) h = refl
pso_fence_kept (Fence LoadFence) h = absurd cc

pso_full_last : (z : Action) → keeps Pso z (Fence Full) ≡ true
pso_full_last (Load word) = refl
pso_full_last (Store word) = refl
pso_full_last (Fence Full) = refl
pso_full_last (Fence StoreFence) = refl
pso_full_last (Fence LoadFence) = refl

pso_store_fence_last : (z : Action) → keeps Pso z (Fence StoreFence) ≡ true
pso_store_fence_last (Load word) = refl
pso_store_fence_last (Store word) = refl
pso_store_fence_last (Fence Full) = refl
pso_store_fence_last (Fence StoreFence) = refl
pso_store_fence_last (Fence LoadFence) = refl

-- under `weak`

load_load : (w v : ℕ) → keeps Weak (Load w) (Load v) ≡ true → is_kind LoadOfWord (Load v) (Load w) ≡ true
load_load w v h = grind (arith, nat_tests)

load_store : (w v : ℕ) → keeps Weak (Load w) (Store v) ≡ true → is_kind LoadOfWord (Store v) (Load w) ≡ true
load_store w v h = grind (arith, nat_tests)

store_store : (w v : ℕ) → keeps Weak (Store w) (Store v) ≡ true → is_kind StoreOfWord (Store v) (Store w) ≡ true
store_store w v h = grind (arith, nat_tests)

load_load_kept : (w v : ℕ) (z : Action) → keeps Weak (Load w) (Load v) ≡ true → is_kind LoadOfWord (Load v) z ≡ true → keeps Weak (Load w) z ≡ true
load_load_kept w v (Load word) h k = grind (arith, nat_tests)
load_load_kept w v (Store word) h k = grind (arith, nat_tests)
load_load_kept w v (Fence kind) h k = absurd cc

load_store_kept : (w v : ℕ) (z : Action) → keeps Weak (Load w) (Store v) ≡ true → is_kind LoadOfWord (Store v) z ≡ true → keeps Weak (Load w) z ≡ true
load_store_kept w v (Load word) h k = grind (arith, nat_tests)
load_store_kept w v (Store word) h k = grind (arith, nat_tests)
load_store_kept w v (Fence kind) h k = absurd cc

store_store_kept : (w v : ℕ) (z : Action) → keeps Weak (Store w) (Store v) ≡ true → is_kind StoreOfWord (Store v) z ≡ true → keeps Weak (Store w) z ≡ true
store_store_kept w v (Load word) h k = grind (arith, nat_tests)
store_store_kept w v (Store word) h k = grind (arith, nat_tests)
store_store_kept w v (Fence kind) h k = absurd cc

weak_store_load : (w v : ℕ) → keeps Weak (Store w) (Load v) ≡ true → ⊥
weak_store_load w v h = grind (arith, nat_tests)

-- a store fence before what holds stores back, and what holds stores back before a store fence

store_fence_kept : (y z : Action) → is_kind StoreBarrier y z ≡ true → keeps Weak (Fence StoreFence) z ≡ true
store_fence_kept y (Load word) h = absurd cc
store_fence_kept y (Store word) h = absurd cc
store_fence_kept y (Fence Full) h = refl
store_fence_kept y (Fence StoreFence) h = refl
store_fence_kept y (Fence LoadFence) h = absurd cc

store_barrier_kept : (x z : Action) → is_kind StoreBarrier x z ≡ true → keeps Weak z (Fence StoreFence) ≡ true
store_barrier_kept x (Load word) h = absurd cc
store_barrier_kept x (Store word) h = absurd cc
store_barrier_kept x (Fence Full) h = refl
store_barrier_kept x (Fence StoreFence) h = refl
store_barrier_kept x (Fence LoadFence) h = absurd cc

-- the same of loads

load_fence_kept : (y z : Action) → is_kind LoadBarrier y z ≡ true → keeps Weak (Fence LoadFence) z ≡ true
load_fence_kept y (Load word) h = absurd cc
load_fence_kept y (Store word) h = absurd cc
load_fence_kept y (Fence Full) h = refl
load_fence_kept y (Fence StoreFence) h = absurd cc
load_fence_kept y (Fence LoadFence) h = refl

load_barrier_kept : (x z : Action) → is_kind LoadBarrier x z ≡ true → keeps Weak z (Fence LoadFence) ≡ true
load_barrier_kept x (Load word) h = absurd cc
load_barrier_kept x (Store word) h = absurd cc
load_barrier_kept x (Fence Full) h = refl
load_barrier_kept x (Fence StoreFence) h = absurd cc
load_barrier_kept x (Fence LoadFence) h = refl

weak_full_last : (z : Action) → keeps Weak z (Fence Full) ≡ true
weak_full_last (Load word) = refl
weak_full_last (Store word) = refl
weak_full_last (Fence Full) = refl
weak_full_last (Fence StoreFence) = refl
weak_full_last (Fence LoadFence) = refl

-- each kept pair has a way

tso_way : (x y : Action) → keeps Tso x y ≡ true → Way Tso x y
tso_way (Load w) (Load v) h = by_last NotStoreLike (inl refl) refl (λ z k. refl)
tso_way (Load w) (Store v) h = by_last NotStoreLike (inl refl) refl (λ z k. refl)
tso_way (Load w) (Fence Full) h = by_last NotStoreLike (inl refl) refl (λ z k. refl)
tso_way (Load w) (Fence StoreFence) h = by_last NotStoreLike (inl refl) refl (λ z k. refl)
tso_way (Load w) (Fence LoadFence) h = by_last NotStoreLike (inl refl) refl (λ z k. refl)
tso_way (Fence Full) (Load v) h = by_last NotStoreLike (inl refl) refl (λ z k. refl)
tso_way (Fence Full) (Store v) h = by_last NotStoreLike (inl refl) refl (λ z k. refl)
tso_way (Fence Full) (Fence Full) h = by_last NotStoreLike (inl refl) refl (λ z k. refl)
tso_way (Fence Full) (Fence StoreFence) h = by_last NotStoreLike (inl refl) refl (λ z k. refl)
tso_way (Fence Full) (Fence LoadFence) h = by_last NotStoreLike (inl refl) refl (λ z k. refl)
tso_way (Fence LoadFence) (Load v) h = by_last NotStoreLike (inl refl) refl (λ z k. refl)
tso_way (Fence LoadFence) (Store v) h = by_last NotStoreLike (inl refl) refl (λ z k. refl)
tso_way (Fence LoadFence) (Fence Full) h = by_last NotStoreLike (inl refl) refl (λ z k. refl)
tso_way (Fence LoadFence) (Fence StoreFence) h = by_last NotStoreLike (inl refl) refl (λ z k. refl)
tso_way (Fence LoadFence) (Fence LoadFence) h = by_last NotStoreLike (inl refl) refl (λ z k. refl)
tso_way (Store w) (Load v) h = absurd cc
tso_way (Store w) (Store v) h = by_last StoreLike (inr (inl refl)) refl no_load_like
tso_way (Store w) (Fence Full) h = by_last StoreLike (inr (inl refl)) refl no_load_like
tso_way (Store w) (Fence StoreFence) h = by_last StoreLike (inr (inl refl)) refl no_load_like
tso_way (Store w) (Fence LoadFence) h = absurd cc
tso_way (Fence StoreFence) (Load v) h = absurd cc
tso_way (Fence StoreFence) (Store v) h = by_last StoreLike (inr (inl refl)) refl no_load_like
tso_way (Fence StoreFence) (Fence Full) h = by_last StoreLike (inr (inl refl)) refl no_load_like
tso_way (Fence StoreFence) (Fence StoreFence) h = by_last StoreLike (inr (inl refl)) refl no_load_like
tso_way (Fence StoreFence) (Fence LoadFence) h = absurd cc

pso_way : (x y : Action) → keeps Pso x y ≡ true → Way Pso x y
pso_way (Load w) (Load v) h = by_last NotStoreLike (inl refl) refl (λ z k. refl)
pso_way (Load w) (Store v) h = by_last NotStoreLike (inl refl) refl (λ z k. refl)
pso_way (Load w) (Fence kind) h = by_last NotStoreLike (inl refl) refl (λ z k. refl)
pso_way (Fence Full) (Load v) h = by_last NotStoreLike (inl refl) refl (λ z k. refl)
pso_way (Fence Full) (Store v) h = by_last NotStoreLike (inl refl) refl (λ z k. refl)
pso_way (Fence Full) (Fence kind) h = by_last NotStoreLike (inl refl) refl (λ z k. refl)
pso_way (Fence LoadFence) (Load v) h = by_last NotStoreLike (inl refl) refl (λ z k. refl)
pso_way (Fence LoadFence) (Store v) h = by_last NotStoreLike (inl refl) refl (λ z k. refl)
pso_way (Fence LoadFence) (Fence kind) h = by_last NotStoreLike (inl refl) refl (λ z k. refl)
pso_way (Store w) (Load v) h = absurd cc
pso_way (Store w) (Store v) h = by_last StoreOfWord (inr (inl refl)) (pso_stores w v h) (λ z k. pso_stores_kept w v z h k)
pso_way (Store w) (Fence Full) h = by_next StoreBarrier (inl refl) refl (λ z k. pso_full_last z)
pso_way (Store w) (Fence StoreFence) h = by_next StoreBarrier (inl refl) refl (λ z k. pso_store_fence_last z)
pso_way (Store w) (Fence LoadFence) h = absurd cc
pso_way (Fence StoreFence) (Load v) h = absurd cc
pso_way (Fence StoreFence) (Store v) h = by_last AnyStoreFence (inr (inr (inl refl))) refl pso_fence_kept
pso_way (Fence StoreFence) (Fence Full) h = by_next StoreBarrier (inl refl) refl (λ z k. pso_full_last z)
pso_way (Fence StoreFence) (Fence StoreFence) h = by_next StoreBarrier (inl refl) refl (λ z k. pso_store_fence_last z)
pso_way (Fence StoreFence) (Fence LoadFence) h = absurd cc

weak_way : (x y : Action) → keeps Weak x y ≡ true → Way Weak x y
weak_way (Fence Full) (Load v) h = by_last LoadBarrier (inr (inl refl)) refl (λ z k. refl)
weak_way (Fence Full) (Store v) h = by_last StoreBarrier (inr (inr (inl refl))) refl (λ z k. refl)
weak_way (Fence Full) (Fence Full) h = by_last LoadBarrier (inl refl) refl (λ z k. refl)
weak_way (Fence Full) (Fence StoreFence) h = by_last StoreBarrier (inl refl) refl (λ z k. refl)
weak_way (Fence Full) (Fence LoadFence) h = by_last LoadBarrier (inl refl) refl (λ z k. refl)
weak_way (Fence StoreFence) (Load v) h = absurd cc
weak_way (Fence StoreFence) (Store v) h = by_last StoreBarrier (inr (inr (inl refl))) refl (store_fence_kept (Store v))
weak_way (Fence StoreFence) (Fence Full) h = by_last StoreBarrier (inr (inl refl)) refl (store_fence_kept (Fence Full))
weak_way (Fence StoreFence) (Fence StoreFence) h = by_last StoreBarrier (inl refl) refl (store_fence_kept (Fence StoreFence))
weak_way (Fence StoreFence) (Fence LoadFence) h = absurd cc
weak_way (Fence LoadFence) (Load v) h = by_last LoadBarrier (inr (inl refl)) refl (load_fence_kept (Load v))
weak_way (Fence LoadFence) (Store v) h = absurd cc
weak_way (Fence LoadFence) (Fence Full) h = by_last LoadBarrier (inl refl) refl (load_fence_kept (Fence Full))
weak_way (Fence LoadFence) (Fence StoreFence) h = absurd cc
weak_way (Fence LoadFence) (Fence LoadFence) h = by_last LoadBarrier (inl refl) refl (load_fence_kept (Fence LoadFence))
weak_way (Load w) (Load v) h = by_last LoadOfWord (inl refl) (load_load w v h) (λ z k. load_load_kept w v z h k)
weak_way (Load w) (Store v) h = by_last LoadOfWord (inl refl) (load_store w v h) (λ z k. load_store_kept w v z h k)
weak_way (Load w) (Fence Full) h = by_next LoadBarrier (inl refl) refl (λ z k. weak_full_last z)
weak_way (Load w) (Fence StoreFence) h = absurd cc
weak_way (Load w) (Fence LoadFence) h = by_next LoadBarrier (inl refl) refl (load_barrier_kept (Load w))
weak_way (Store w) (Load v) h = absurd (weak_store_load w v h)
weak_way (Store w) (Store v) h = by_last StoreOfWord (inr (inl refl)) (store_store w v h) (λ z k. store_store_kept w v z h k)
weak_way (Store w) (Fence Full) h = by_next StoreBarrier (inl refl) refl (λ z k. weak_full_last z)
weak_way (Store w) (Fence StoreFence) h = by_next StoreBarrier (inl refl) refl (store_barrier_kept (Store w))
weak_way (Store w) (Fence LoadFence) h = absurd cc

pub way : (m : MemModel) (x y : Action) → keeps m x y ≡ true → Way m x y
way Sc x y h = by_last Any (inl refl) refl (λ z k. refl)
way Tso x y h = tso_way x y h
way Pso x y h = pso_way x y h
way Weak x y h = weak_way x y h

-- how many kinds are listed

pub few_before : (m : MemModel) (action : Action) → length (kinds_before m action) ≤ 3
few_before m action = grind (arith, nat_tests)

pub few_after : (m : MemModel) (action : Action) → length (kinds_after m action) ≤ 1
few_after m action = grind (arith, nat_tests)
