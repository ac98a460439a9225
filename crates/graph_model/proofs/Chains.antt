-- The few kept pairs are kept, and reach each kept pair.
use Rattle.std.proofs.Common.{◌≡◌, ℕ, zero, suc, ◌+◌, ◌-◌, ◌<◌, ◌≤◌, List, [], ◌∷◌, true, Contains, inl, inr, arith, refl, sym, ap, subst}
use Rattle.std.specs.Prelude.{Option, Some, None, slice_get}
use Rattle.std.specs.List.{flat_map}
use Rattle.std.proofs.lemmas.Bool.{cases_lt}
use Rattle.std.proofs.lemmas.List.Elements.{Contains-append_left, Contains-append_right, Contains-append_cases}
use Rattle.std.proofs.lemmas.Option.{slice_get_within}
use Rattle.orders.specs.Orders.{nodes_below}
use Rattle.orders.specs.Paths.{Reach}
use Rattle.orders.specs.Reductions.{IsAmong, IsReaching}
use Rattle.orders.proofs.Below.{has-below}
use Rattle.orders.proofs.FewEdges.{reach_append}
use Rattle.orders.proofs.Members.{Contains-nil, Contains-head, Contains-tail, Contains-cons_cases, Contains-flat_map, Contains-flat_map_back}
use Rattle.test_lang.specs.declared.op.Action.{Action}
use Rattle.test_lang.specs.declared.op.MemModel.{MemModel}
use Rattle.test_lang.specs.Program.{Program, actions, action_at, op_count}
use Rattle.test_lang.specs.Kept.{is_kept, IsKept}
use Rattle.test_lang.proofs.ActionNodes.{length-actions}
use Rattle.digraph.specs.Digraph.{HasEdge}
use Rattle.graph_model.specs.declared.kinds.Kind.{Kind}
use Rattle.graph_model.specs.FewKept.{is_kind_beside, last_of_kind, next_of_kind, kinds_before, kinds_after, kinds_of, edge_from, edge_to, edges_into, edges_onward, few_kept}
use Rattle.graph_model.proofs.Near.{last_below-some, last_found, first_from-some, first_found}
use Rattle.graph_model.proofs.KindTables.{IsListed, Way, way, listed_kept, listed_after_kept}
use Rattle.graph_model.proofs.KindTables.Way.{by_last, by_next}
use Rattle.graph_model.proofs.Beside.{Is, IsKeptPair, kept_pair, kept_of_pair, beside, is_beside, action_at-is}

listed_contains : (kinds : List Kind) (kind : Kind) → IsListed kind kinds → Contains kinds kind
listed_contains [] kind h = absurd h
listed_contains (k ∷ ks) kind (inl same) = Contains-head k ks kind same
listed_contains (k ∷ ks) kind (inr more) = Contains-tail k ks kind (listed_contains ks kind more)

contains_listed : (kinds : List Kind) (kind : Kind) → Contains kinds kind → IsListed kind kinds
contains_listed [] kind h = absurd (Contains-nil kind h)
contains_listed (k ∷ ks) kind h = elim (Contains-cons_cases k ks kind h) [ inl same ↦ inl same | inr more ↦ inr (contains_listed ks kind more) ]

pub only : (x y a b : ℕ) → Contains {X = ℕ × ℕ} ((x, y) ∷ []) (a, b) → (x ≡ a) × (y ≡ b)
only x y a b h = elim (Contains-cons_cases (x, y) [] (a, b) h) [ inl same ↦ (ap (λ (e : ℕ × ℕ). e.0) same, ap (λ (e : ℕ × ℕ). e.1) same) | inr more ↦ absurd (Contains-nil (a, b) more) ]

pub edge_from_is : (n : ℕ) (found : Option ℕ) (a b : ℕ) → Contains (edge_from n found) (a, b) → (found ≡ Some a) × (n ≡ b)
edge_from_is n None a b h = absurd (Contains-nil (a, b) h)
edge_from_is n (Some k) a b h = let e = only k n a b h in (ap Some e.0, e.1)

pub edge_to_is : (n : ℕ) (found : Option ℕ) (a b : ℕ) → Contains (edge_to n found) (a, b) → (n ≡ a) × (found ≡ Some b)
edge_to_is n None a b h = absurd (Contains-nil (a, b) h)
edge_to_is n (Some k) a b h = let e = only n k a b h in (e.0, ap Some e.1)

-- the action that has a kind listed
action_of_kind : (kinds : Action → List Kind) (found : Option Action) (kind : Kind) → Contains (kinds_of kinds found) kind → (action : Action) × (found ≡ Some action) × IsListed kind (kinds action)
action_of_kind kinds None kind h = absurd (Contains-nil kind h)
action_of_kind kinds (Some action) kind h = (action, refl, contains_listed (kinds action) kind h)

is_from : (found : Option (ℕ × Action)) (action : Action) → Rattle.std.specs.Option.option_map (λ (node : ℕ × Action). node.1) found ≡ Some action → (t : ℕ) × (found ≡ Some (t, action))
is_from None action e = absurd cc
is_from (Some x) action e = let same : x.1 ≡ action = cc in (x.0, ap (λ (o : Action). Some (x.0, o)) same)

is_of_action : (p : Program) (n : ℕ) (action : Action) → action_at p n ≡ Some action → (t : ℕ) × Is p n t action
is_of_action p n action e = is_from (slice_get (actions p) n) action e

-- a node with an action is a node
action-below : (p : Program) (n t : ℕ) (action : Action) → Is p n t action → n < op_count p
action-below p n t action is = let within = slice_get_within (actions p) n (t, action) is in let all = length-actions p in omega (arith, within, all)

module _ (m : MemModel) (p : Program) where
  into_kept : (n a b : ℕ) → Contains (edges_into m p n) (a, b) → is_kept m p a b ≡ true
  into_kept n a b h =
      let at = Contains-flat_map_back (λ kind. edge_from n (last_of_kind kind p n)) (kinds_of (kinds_before m) (action_at p n)) (a, b) h in
      let kind = at.0 in
      let here = action_of_kind (kinds_before m) (action_at p n) kind at.1 in
      let node = is_of_action p n here.0 here.1 in
      let edge = edge_from_is n (last_of_kind kind p n) a b at.2 in
      let last = last_below-some (is_kind_beside kind p n) n a edge.0 in
      let source = beside p kind n a node.0 here.0 node.1 last.passes in
      let pair : IsKeptPair m p a n = record {
        earlier = last.below;
        thread = node.0;
        first = source.0;
        second = here.0;
        first_is = source.1;
        second_is = node.1;
        keeps = listed_kept m source.0 here.0 kind here.2 source.2;
      } in
      subst (λ (k : ℕ). is_kept m p a k ≡ true) edge.1 (kept_of_pair m p a n pair)

  onward_kept : (n a b : ℕ) → Contains (edges_onward m p n) (a, b) → is_kept m p a b ≡ true
  onward_kept n a b h =
      let at = Contains-flat_map_back (λ kind. edge_to n (next_of_kind kind p n)) (kinds_of (kinds_after m) (action_at p n)) (a, b) h in
      let kind = at.0 in
      let here = action_of_kind (kinds_after m) (action_at p n) kind at.1 in
      let node = is_of_action p n here.0 here.1 in
      let edge = edge_to_is n (next_of_kind kind p n) a b at.2 in
      let first = first_from-some (is_kind_beside kind p n) (op_count p - suc n) (suc n) b edge.1 in
      let target = beside p kind n b node.0 here.0 node.1 first.passes in
      let not_before = first.not_before in
      let pair : IsKeptPair m p n b = record {
        earlier = omega (arith, not_before);
        thread = node.0;
        first = here.0;
        second = target.0;
        first_is = node.1;
        second_is = target.1;
        keeps = listed_after_kept m here.0 target.0 kind here.2 target.2;
      } in
      subst (λ (k : ℕ). is_kept m p k b ≡ true) edge.0 (kept_of_pair m p n b pair)

  pub few_kept-among : IsAmong (HasEdge (few_kept m p)) (IsKept m p)
  few_kept-among a b h =
      elim (Contains-append_cases (flat_map (edges_into m p) (nodes_below (op_count p))) (flat_map (λ k. edges_onward m p (op_count p - suc k)) (nodes_below (op_count p))) (a, b) h) [
        | inl before ↦ let n = Contains-flat_map_back (edges_into m p) (nodes_below (op_count p)) (a, b) before in into_kept n.0 a b n.2
        | inr after ↦
            let k = Contains-flat_map_back (λ k. edges_onward m p (op_count p - suc k)) (nodes_below (op_count p)) (a, b) after in
            onward_kept (op_count p - suc k.0) a b k.2
      ]

  -- the edges are there
  has_into : (kind : Kind) (a b t : ℕ) (action : Action) → Is p b t action → IsListed kind (kinds_before m action) → last_of_kind kind p b ≡ Some a → HasEdge (few_kept m p) a b
  has_into kind a b t action is listed e =
      let f : Kind → List (ℕ × ℕ) = λ kind. edge_from b (last_of_kind kind p b) in
      let edge : Contains (f kind) (a, b) = subst (λ (found : Option ℕ). Contains (edge_from b found) (a, b)) (sym e) (Contains-head (a, b) [] (a, b) refl) in
      let here : Contains (flat_map f (kinds_before m action)) (a, b) = Contains-flat_map f (kinds_before m action) kind (a, b) (listed_contains (kinds_before m action) kind listed) edge in
      let into : Contains (edges_into m p b) (a, b) = subst (λ (found : Option Action). Contains (flat_map f (kinds_of (kinds_before m) found)) (a, b)) (sym (action_at-is p b t action is)) here in
      Contains-append_left (flat_map (edges_into m p) (nodes_below (op_count p))) (flat_map (λ k. edges_onward m p (op_count p - suc k)) (nodes_below (op_count p))) (a, b)
      (Contains-flat_map (edges_into m p) (nodes_below (op_count p)) b (a, b) (has-below (op_count p) b (action-below p b t action is)) into)

  has_onward : (kind : Kind) (a b t : ℕ) (action : Action) → Is p a t action → IsListed kind (kinds_after m action) → next_of_kind kind p a ≡ Some b → HasEdge (few_kept m p) a b
  has_onward kind a b t action is listed e =
      let f : Kind → List (ℕ × ℕ) = λ kind. edge_to a (next_of_kind kind p a) in
      let edge : Contains (f kind) (a, b) = subst (λ (found : Option ℕ). Contains (edge_to a found) (a, b)) (sym e) (Contains-head (a, b) [] (a, b) refl) in
      let here : Contains (flat_map f (kinds_after m action)) (a, b) = Contains-flat_map f (kinds_after m action) kind (a, b) (listed_contains (kinds_after m action) kind listed) edge in
      let onward : Contains (edges_onward m p a) (a, b) = subst (λ (found : Option Action). Contains (flat_map f (kinds_of (kinds_after m) found)) (a, b)) (sym (action_at-is p a t action is)) here in
      let below : a < op_count p = action-below p a t action is in
      let k : ℕ = op_count p - suc a in
      let back : a ≡ op_count p - suc k = omega (arith, below) in
      Contains-append_right (flat_map (edges_into m p) (nodes_below (op_count p))) (flat_map (λ k. edges_onward m p (op_count p - suc k)) (nodes_below (op_count p))) (a, b)
      (Contains-flat_map (λ k. edges_onward m p (op_count p - suc k)) (nodes_below (op_count p)) k (a, b) (has-below (op_count p) k (omega (arith, below)))
      (subst (λ (n : ℕ). Contains (edges_onward m p n) (a, b)) back onward))

  -- a kept pair is a few pair, or goes by one from or to a node between, and the rest of it is kept
  by_way : (d : ℕ) → ((a b : ℕ) → b ≤ a + d → IsKeptPair m p a b → Reach (HasEdge (few_kept m p)) a b) → (a b : ℕ) → b ≤ a + suc d → (h : IsKeptPair m p a b) → Way m h.first h.second →
      Reach (HasEdge (few_kept m p)) a b
  by_way d shorter a b near h (by_last kind listed is kept) =
      let lt = h.earlier in
      let found = last_found (is_kind_beside kind p b) b a h.earlier (is_beside p kind b a h.thread h.second h.first h.second_is h.first_is is) in
      let not_before = found.2 in
      let last = last_below-some (is_kind_beside kind p b) b found.0 found.1 in
      let below = last.below in
      let edge : HasEdge (few_kept m p) found.0 b = has_into kind found.0 b h.thread h.second h.second_is listed found.1 in
      elim (cases_lt a found.0) [
        | inl before ↦
            let source = beside p kind b found.0 h.thread h.second h.second_is last.passes in
            let rest : IsKeptPair m p a found.0 = record {
              earlier = before;
              thread = h.thread;
              first = h.first;
              second = source.0;
              first_is = h.first_is;
              second_is = source.1;
              keeps = kept source.0 source.2;
            } in
            reach_append (HasEdge (few_kept m p)) a found.0 b (shorter a found.0 (omega (arith, near, below)) rest) ([], edge)
        | inr here ↦ let same : found.0 ≡ a = omega (arith, here, not_before) in ([], subst (λ (k : ℕ). HasEdge (few_kept m p) k b) same edge)
      ]
  by_way d shorter a b near h (by_next kind listed is kept) =
      let lt = h.earlier in
      let within : b < op_count p = action-below p b h.thread h.second h.second_is in
      let found = first_found (is_kind_beside kind p a) (op_count p - suc a) (suc a) b (omega (arith, lt)) (omega (arith, lt, within)) (is_beside p kind a b h.thread h.first h.second h.first_is h.second_is is) in
      let not_behind = found.2 in
      let first = first_from-some (is_kind_beside kind p a) (op_count p - suc a) (suc a) found.0 found.1 in
      let above = first.not_before in
      let edge : HasEdge (few_kept m p) a found.0 = has_onward kind a found.0 h.thread h.first h.first_is listed found.1 in
      elim (cases_lt found.0 b) [
        | inl before ↦
            let target = beside p kind a found.0 h.thread h.first h.first_is first.passes in
            let rest : IsKeptPair m p found.0 b = record {
              earlier = before;
              thread = h.thread;
              first = target.0;
              second = h.second;
              first_is = target.1;
              second_is = h.second_is;
              keeps = kept target.0 target.2;
            } in
            reach_append (HasEdge (few_kept m p)) a found.0 b ([], edge) (shorter found.0 b (omega (arith, near, above)) rest)
        | inr here ↦ let same : found.0 ≡ b = omega (arith, here, not_behind) in ([], subst (λ (k : ℕ). HasEdge (few_kept m p) a k) same edge)
      ]

  kept_within : (d a b : ℕ) → b ≤ a + d → IsKeptPair m p a b → Reach (HasEdge (few_kept m p)) a b
  kept_within zero a b near h = let lt = h.earlier in absurd (omega (arith, near, lt))
  kept_within (suc d) a b near h = by_way d (kept_within d) a b near h (way m h.first h.second h.keeps)

  pub few_kept-reaching : IsReaching (HasEdge (few_kept m p)) (IsKept m p)
  few_kept-reaching a b h = kept_within b a b (omega arith) (kept_pair m p a b h)
