-- A few kept pairs in place of all: an edge to each action from the last one of some kinds before it in its thread, and an edge from it to the
-- next one of some kinds.
use Rattle.std.specs.Prelude.{ℕ, suc, ◌-◌, List, [], ◌∷◌, ◌++◌, Bool, true, not, ◌&&◌, ◌||◌, ◌==◌, Option, Some, None, if◌then◌else◌}
use Rattle.std.specs.List.{flat_map}
use Rattle.orders.specs.Orders.{nodes_below}
use Rattle.test_lang.specs.declared.op.FenceKind.TheVariants.{Full, Store as StoreFence, Load as LoadFence}
use Rattle.test_lang.specs.declared.op.Action.{Action}
use Rattle.test_lang.specs.declared.op.Action.TheVariants.{Load, Store, Fence}
use Rattle.test_lang.specs.declared.op.MemModel.{MemModel}
use Rattle.test_lang.specs.declared.op.MemModel.TheVariants.{Sc, Tso, Pso, Weak}
use Rattle.test_lang.specs.Actions.{op_of, is_full_fence, is_store_fence, is_load_fence, is_store_like}
use Rattle.test_lang.specs.Program.{Program, action_at, op_count, at_actions}
use Rattle.test_lang.specs.Values.{is_load, is_store, same_word, same_thread}
use Rattle.digraph.specs.Digraph.{Digraph}
use Rattle.graph_model.specs.declared.kinds.Kind.{Kind}
use Rattle.graph_model.specs.declared.kinds.Kind.TheVariants.{Any, NotStoreLike, StoreLike, AnyStoreFence, StoreBarrier, LoadBarrier, LoadOfWord, StoreOfWord}
use Rattle.graph_model.specs.FirstLast.{last_below, first_from}

-- the second action is of the kind, which may speak of the word of the first
abbrev pub is_kind : Kind → Action → Action → Bool
is_kind Any own action = true
is_kind NotStoreLike own action = not (is_store_like action)
is_kind StoreLike own action = is_store_like action
is_kind AnyStoreFence own action = is_store_fence action
is_kind StoreBarrier own action = is_store_fence action || is_full_fence action
is_kind LoadBarrier own action = is_load_fence action || is_full_fence action
is_kind LoadOfWord own action = same_word (op_of own) (op_of action) && is_load (op_of action)
is_kind StoreOfWord own action = same_word (op_of own) (op_of action) && is_store (op_of action)

-- the kinds from whose last action an edge leads to the action
abbrev pub kinds_before : MemModel → Action → List Kind
kinds_before Sc action = Any ∷ []
kinds_before Tso (Load word) = NotStoreLike ∷ []
kinds_before Tso (Store word) = NotStoreLike ∷ StoreLike ∷ []
kinds_before Tso (Fence Full) = NotStoreLike ∷ StoreLike ∷ []
kinds_before Tso (Fence StoreFence) = NotStoreLike ∷ StoreLike ∷ []
kinds_before Tso (Fence LoadFence) = NotStoreLike ∷ []
kinds_before Pso (Load word) = NotStoreLike ∷ []
kinds_before Pso (Store word) = NotStoreLike ∷ StoreOfWord ∷ AnyStoreFence ∷ []
kinds_before Pso (Fence kind) = NotStoreLike ∷ []
kinds_before Weak (Load word) = LoadOfWord ∷ LoadBarrier ∷ []
kinds_before Weak (Store word) = LoadOfWord ∷ StoreOfWord ∷ StoreBarrier ∷ []
kinds_before Weak (Fence Full) = LoadBarrier ∷ StoreBarrier ∷ []
kinds_before Weak (Fence StoreFence) = StoreBarrier ∷ []
kinds_before Weak (Fence LoadFence) = LoadBarrier ∷ []

-- the kinds to whose next action an edge leads from the action
abbrev pub kinds_after : MemModel → Action → List Kind
kinds_after Sc action = []
kinds_after Tso action = []
kinds_after Pso (Load word) = []
kinds_after Pso (Store word) = StoreBarrier ∷ []
kinds_after Pso (Fence Full) = []
kinds_after Pso (Fence StoreFence) = StoreBarrier ∷ []
kinds_after Pso (Fence LoadFence) = []
kinds_after Weak (Load word) = LoadBarrier ∷ []
kinds_after Weak (Store word) = StoreBarrier ∷ []
kinds_after Weak (Fence kind) = []

-- the node k is in the thread of n, and is of the kind
abbrev pub is_kind_beside : Kind → Program → ℕ → ℕ → Bool
is_kind_beside kind p n k = at_actions (λ own other. (own.0 == other.0) && is_kind kind own.1 other.1) p n k

-- the last such node before n, and the first such node after it

abbrev pub last_of_kind : Kind → Program → ℕ → Option ℕ
last_of_kind kind p n = last_below (is_kind_beside kind p n) n

abbrev pub next_of_kind : Kind → Program → ℕ → Option ℕ
next_of_kind kind p n = first_from (is_kind_beside kind p n) (op_count p - suc n) (suc n)

-- the node that was found, where it is in the thread of n
abbrev pub in_thread : Program → ℕ → Option ℕ → Option ℕ
in_thread p n None = None
in_thread p n (Some k) = if same_thread p n k then Some k else None

-- an edge to n from the one node, or to the one node from n, if there is one

abbrev pub edge_from : ℕ → Option ℕ → List (ℕ × ℕ)
edge_from n None = []
edge_from n (Some k) = (k, n) ∷ []

abbrev pub edge_to : ℕ → Option ℕ → List (ℕ × ℕ)
edge_to n None = []
edge_to n (Some k) = (n, k) ∷ []

-- a graph with more edges
abbrev pub with_edges : Digraph → List (ℕ × ℕ) → Digraph
with_edges g more = record g { edges = g.edges ++ more }

-- of an action, if there is one
abbrev pub kinds_of : (Action → List Kind) → Option Action → List Kind
kinds_of kinds None = []
kinds_of kinds (Some action) = kinds action

abbrev pub edges_into : MemModel → Program → ℕ → List (ℕ × ℕ)
edges_into m p n = flat_map (λ kind. edge_from n (last_of_kind kind p n)) (kinds_of (kinds_before m) (action_at p n))

abbrev pub edges_onward : MemModel → Program → ℕ → List (ℕ × ℕ)
edges_onward m p n = flat_map (λ kind. edge_to n (next_of_kind kind p n)) (kinds_of (kinds_after m) (action_at p n))

-- the edges into all nodes, and then those onward from all nodes, the last node first
abbrev pub few_kept : MemModel → Program → List (ℕ × ℕ)
few_kept m p =
    flat_map (edges_into m p) (nodes_below (op_count p))
    ++ flat_map (λ k. edges_onward m p (op_count p - suc k)) (nodes_below (op_count p))
