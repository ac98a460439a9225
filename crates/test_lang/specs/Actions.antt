-- Actions of a thread. An action tells the kind of a fence; an operation doesn't.
use Rattle.std.specs.Prelude.{ℕ, Bool, true, false, ◌==◌}
use Rattle.test_lang.specs.declared.op.Op.{Op}
use Rattle.test_lang.specs.declared.op.Op.TheVariants.{Load as LoadOp, Store as StoreOp, Fence as FenceOp}
use Rattle.test_lang.specs.declared.op.FenceKind.{FenceKind}
use Rattle.test_lang.specs.declared.op.FenceKind.TheVariants.{Full, Store as StoreFence, Load as LoadFence}
use Rattle.test_lang.specs.declared.op.Action.{Action}
use Rattle.test_lang.specs.declared.op.Action.TheVariants.{Load, Store, Fence}

-- the operation that an action is
abbrev pub op_of : Action → Op
op_of (Load word) = LoadOp word
op_of (Store word) = StoreOp word
op_of (Fence kind) = FenceOp

-- the action that an operation stands for: a fence that tells no kind is a full one
abbrev pub action_of : Op → Action
action_of (LoadOp word) = Load word
action_of (StoreOp word) = Store word
action_of FenceOp = Fence Full

-- Whether a test of this version may have a fence of this kind: only version 2 has store fences and load fences.
abbrev pub allows_kind : ℕ → FenceKind → Bool
allows_kind version Full = true
allows_kind version StoreFence = version == 2
allows_kind version LoadFence = version == 2

-- whether it may have the action
abbrev pub allows : ℕ → Action → Bool
allows version (Load word) = true
allows version (Store word) = true
allows version (Fence kind) = allows_kind version kind

abbrev pub is_full_fence : Action → Bool
is_full_fence (Load word) = false
is_full_fence (Store word) = false
is_full_fence (Fence Full) = true
is_full_fence (Fence StoreFence) = false
is_full_fence (Fence LoadFence) = false

abbrev pub is_store_fence : Action → Bool
is_store_fence (Load word) = false
is_store_fence (Store word) = false
is_store_fence (Fence Full) = false
is_store_fence (Fence StoreFence) = true
is_store_fence (Fence LoadFence) = false

abbrev pub is_load_fence : Action → Bool
is_load_fence (Load word) = false
is_load_fence (Store word) = false
is_load_fence (Fence Full) = false
is_load_fence (Fence StoreFence) = false
is_load_fence (Fence LoadFence) = true

-- a store or a store fence
abbrev pub is_store_like : Action → Bool
is_store_like (Load word) = false
is_store_like (Store word) = true
is_store_like (Fence Full) = false
is_store_like (Fence StoreFence) = true
is_store_like (Fence LoadFence) = false

-- a load or a load fence
abbrev pub is_load_like : Action → Bool
is_load_like (Load word) = true
is_load_like (Store word) = false
is_load_like (Fence Full) = false
is_load_like (Fence StoreFence) = false
is_load_like (Fence LoadFence) = true
