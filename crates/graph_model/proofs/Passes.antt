-- A pass over all nodes, in either direction: the edges so far, and what the table of nearest nodes tells.
use Rattle.std.proofs.Common.{◌≡◌, ℕ, suc, ◌+◌, ◌-◌, ◌*◌, ◌<◌, ◌≤◌, List, [], ◌∷◌, ◌++◌, Bool, false, cond, length, arith, refl, sym, ap, subst, ◌∙◌, length-append, append-nil, append_assoc}
use Rattle.std.specs.Prelude.{Option, Some, None, slice_get}
use Rattle.std.specs.Option.{option_map, option_map_or}
use Rattle.std.specs.List.{flat_map}
use Rattle.std.proofs.lemmas.Grind.{flat_map-append}
use Rattle.orders.specs.Orders.{nodes_below}
use Rattle.test_lang.specs.declared.op.Action.{Action}
use Rattle.test_lang.specs.declared.op.MemModel.{MemModel}
use Rattle.test_lang.specs.Program.{Program, actions, action_at, op_count, at_action}
use Rattle.digraph.specs.Digraph.{Digraph}
use Rattle.graph_model.specs.declared.nearest.Nearest.{Nearest}
use Rattle.graph_model.specs.FirstLast.{first_from}
use Rattle.graph_model.specs.FewKept.{edges_into, edges_onward, with_edges}
use Rattle.graph_model.specs.NearestNodes.{Tells, with_node, last_node, first_passing}
use Rattle.graph_model.proofs.Sizes.{length-into, length-onward}

-- the edges so far

flat_map-below : (f : ℕ → List (ℕ × ℕ)) (n : ℕ) → flat_map f (nodes_below n) ++ f n ≡ flat_map f (nodes_below (suc n))
flat_map-below f n = ap (λ (more : List (ℕ × ℕ)). flat_map f (nodes_below n) ++ more) (sym (append-nil (f n))) ∙ sym (flat_map-append f (nodes_below n) (n ∷ []))

edges_more : (f : ℕ → List (ℕ × ℕ)) (n : ℕ) (g h k : Digraph) (more : List (ℕ × ℕ)) → h ≡ with_edges g (flat_map f (nodes_below n)) → k ≡ with_edges h more → more ≡ f n →
    k ≡ with_edges g (flat_map f (nodes_below (suc n)))
edges_more f n g h k more e d same =
    d
    ∙ ap (λ (x : Digraph). with_edges x more) e
    ∙ ap (λ (edges : List (ℕ × ℕ)). record g { edges = edges }) (append_assoc g.edges (flat_map f (nodes_below n)) more)
    ∙ ap (with_edges g) (ap (λ (x : List (ℕ × ℕ)). flat_map f (nodes_below n) ++ x) same ∙ flat_map-below f n)

pub into_more : (m : MemModel) (p : Program) (n : ℕ) (g h k : Digraph) → h ≡ with_edges g (flat_map (edges_into m p) (nodes_below n)) → k ≡ with_edges h (edges_into m p n) →
    k ≡ with_edges g (flat_map (edges_into m p) (nodes_below (n + 1)))
into_more m p n g h k e d =
    let next : suc n ≡ n + 1 = omega arith in
    edges_more (edges_into m p) n g h k (edges_into m p n) e d refl ∙ ap (λ (j : ℕ). with_edges g (flat_map (edges_into m p) (nodes_below j))) next

pub onward_more : (m : MemModel) (p : Program) (end : ℕ) (g h k : Digraph) → 0 < end → end ≤ op_count p →
    h ≡ with_edges g (flat_map (λ k. edges_onward m p (op_count p - suc k)) (nodes_below (op_count p - end))) → k ≡ with_edges h (edges_onward m p (end - 1)) →
    k ≡ with_edges g (flat_map (λ k. edges_onward m p (op_count p - suc k)) (nodes_below (op_count p - (end - 1))))
onward_more m p end g h k some within e d =
    let f : ℕ → List (ℕ × ℕ) = λ k. edges_onward m p (op_count p - suc k) in
    let next : suc (op_count p - end) ≡ op_count p - (end - 1) = omega (arith, some, within) in
    let node : end - 1 ≡ op_count p - suc (op_count p - end) = omega (arith, some, within) in
    edges_more f (op_count p - end) g h k (edges_onward m p (end - 1)) e d (ap (edges_onward m p) node) ∙ ap (λ (j : ℕ). with_edges g (flat_map f (nodes_below j))) next

-- there is room

pub into_room : (m : MemModel) (p : Program) (n : ℕ) (g h : Digraph) → h ≡ with_edges g (flat_map (edges_into m p) (nodes_below n)) → g.edges ≡ [] → 4 * op_count p ≤ g.room → n < op_count p →
    length h.edges + 3 ≤ h.room
into_room m p n g h e empty room lt =
    let few = length-into m p n in
    let same : length h.edges ≡ length (flat_map (edges_into m p) (nodes_below n)) =
    ap (λ (x : Digraph). length x.edges) e ∙ ap (λ (edges : List (ℕ × ℕ)). length (edges ++ flat_map (edges_into m p) (nodes_below n))) empty in
    let room' : h.room ≡ g.room = ap (λ (x : Digraph). x.room) e in
    omega (arith, few, same, room', room, lt)

pub onward_room : (m : MemModel) (p : Program) (n : ℕ) (g h : Digraph) → h ≡ with_edges g (flat_map (λ k. edges_onward m p (op_count p - suc k)) (nodes_below n)) →
    length g.edges + op_count p ≤ g.room → n < op_count p → length h.edges + 1 ≤ h.room
onward_room m p n g h e room lt =
    let few = length-onward m p n in
    let both = length-append g.edges (flat_map (λ k. edges_onward m p (op_count p - suc k)) (nodes_below n)) in
    let same : length h.edges ≡ length (g.edges ++ flat_map (λ k. edges_onward m p (op_count p - suc k)) (nodes_below n)) = ap (λ (x : Digraph). length x.edges) e in
    let room' : h.room ≡ g.room = ap (λ (x : Digraph). x.room) e in
    omega (arith, few, both, same, room', room, lt)

pub all_into_room : (m : MemModel) (p : Program) (g h : Digraph) → h ≡ with_edges g (flat_map (edges_into m p) (nodes_below (op_count p))) → g.edges ≡ [] → g.room ≡ 4 * op_count p →
    length h.edges + op_count p ≤ h.room
all_into_room m p g h e empty room =
    let few = length-into m p (op_count p) in
    let same : length h.edges ≡ length (flat_map (edges_into m p) (nodes_below (op_count p))) =
    ap (λ (x : Digraph). length x.edges) e ∙ ap (λ (edges : List (ℕ × ℕ)). length (edges ++ flat_map (edges_into m p) (nodes_below (op_count p)))) empty in
    let room' : h.room ≡ g.room = ap (λ (x : Digraph). x.room) e in
    omega (arith, few, same, room', room)

-- what the table tells

tells_same : (f g : (Action → Bool) → Option ℕ) (table : Nearest) → ((test : Action → Bool) → f test ≡ g test) → Tells f table → Tells g table
tells_same f g table h t = record {
  any = t.any ∙ h _;
  not_store_like = t.not_store_like ∙ h _;
  store_like = t.store_like ∙ h _;
  store_fence = t.store_fence ∙ h _;
  store_barrier = t.store_barrier ∙ h _;
  load_barrier = t.load_barrier ∙ h _;
  loads = λ word lt. t.loads word lt ∙ h _;
  stores = λ word lt. t.stores word lt ∙ h _;
  nothing = sym (h _) ∙ t.nothing;
}

test_from : (test : Action → Bool) (found : Option (ℕ × Action)) (action : Action) → option_map (λ (node : ℕ × Action). node.1) found ≡ Some action → test action ≡ option_map_or (λ node. test node.1) found false
test_from test None action e = absurd cc
test_from test (Some x) action e = let same : action ≡ x.1 = cc in ap test same

pub tells_last : (p : Program) (n : ℕ) (action : Action) (table : Nearest) → action_at p n ≡ Some action → Tells (with_node (last_node p n) n action) table → Tells (last_node p (n + 1)) table
tells_last p n action table e t =
    let next : suc n ≡ n + 1 = omega arith in
    subst (λ (k : ℕ). Tells (last_node p k) table) next
    (tells_same (with_node (last_node p n) n action) (last_node p (suc n)) table (λ test. ap (λ (b : Bool). cond b (Some n) (last_node p n test)) (test_from test (slice_get (actions p) n) action e)) t)

pub tells_first : (p : Program) (end : ℕ) (action : Action) (table : Nearest) → 0 < end → end ≤ op_count p → action_at p (end - 1) ≡ Some action →
    Tells (with_node (first_passing p (op_count p - end)) (end - 1) action) table → Tells (first_passing p (op_count p - (end - 1))) table
tells_first p end action table some within e t =
    let next : suc (op_count p - end) ≡ op_count p - (end - 1) = omega (arith, some, within) in
    let from : op_count p - suc (op_count p - end) ≡ end - 1 = omega (arith, some, within) in
    let behind : op_count p - (op_count p - end) ≡ suc (end - 1) = omega (arith, some, within) in
    subst (λ (k : ℕ). Tells (first_passing p k) table) next
    (tells_same (with_node (first_passing p (op_count p - end)) (end - 1) action) (first_passing p (suc (op_count p - end))) table (λ test.
    ap (λ (b : Bool). cond b (Some (end - 1)) (first_passing p (op_count p - end) test)) (test_from test (slice_get (actions p) (end - 1)) action e)
    ∙ ap (λ (c : ℕ). cond (at_action (λ node. test node.1) p (end - 1)) (Some (end - 1)) (first_from (at_action (λ node. test node.1) p) (op_count p - end) c)) behind
    ∙ ap (λ (c : ℕ). cond (at_action (λ node. test node.1) p c) (Some c) (first_from (at_action (λ node. test node.1) p) (op_count p - end) (suc c))) (sym from)) t)
