-- A graph that is seen as its two lists of ends.
use Rattle.std.proofs.Common.{◌≡◌, ◌∙◌, ℕ, ◌<◌, ◌≤◌, List, [], ◌∷◌, ◌++◌, All, Option, length, get_or, map, take, sym, ap, subst}
use Rattle.std.specs.List.{zip}
use Rattle.digraph.specs.Digraph.{Digraph, IsDigraph, IsLastBelow, IsLastOut, IsLastIn, source_of, target_of}
use Rattle.digraph.specs.KeyList.{KeyList, ArePaired, digraph_of}
use Rattle.digraph.proofs.Ends.{zip-begins, zip-push, zip-push_all, zip-take, zip-count, zip-source, zip-target, zip-last_out, zip-last_in, zip-inside}

abbrev with_edges : Digraph → List (ℕ × ℕ) → Digraph
with_edges g es = record { nodes = g.nodes; room = g.room; edges = es }

module _ (s t : KeyList) (pair : ArePaired s t) (g : Digraph) (view : digraph_of s t ≡ g) where
  viewed-edges : zip s.keys t.keys ≡ g.edges
  viewed-edges = ap (λ (g : Digraph). g.edges) view

  pub viewed-count : length g.edges ≡ length s.keys
  viewed-count = ap (λ (es : List (ℕ × ℕ)). length es) (sym viewed-edges) ∙ zip-count s.keys t.keys pair.count

  pub viewed-count_in : length g.edges ≡ length t.keys
  viewed-count_in = viewed-count ∙ sym pair.count

  pub viewed-sound : IsDigraph g
  viewed-sound = subst IsDigraph view (record {
    ends = zip-inside s.keys t.keys pair.count s.kinds pair.sound_sources.kinds (subst (λ (n : ℕ). All (λ b. b < n) t.keys) pair.kinds pair.sound_targets.kinds);
    room = rw (zip-count s.keys t.keys pair.count) pair.sound_sources.room;
    few_nodes = pair.sound_sources.few_kinds;
    few_edges = pair.sound_sources.few_keys;
  })

  module _ (edge : ℕ) (lt : edge < length s.keys) where
    pub viewed-source : source_of g.edges edge ≡ get_or s.keys edge 0
    viewed-source = ap (λ (es : List (ℕ × ℕ)). source_of es edge) (sym viewed-edges) ∙ zip-source s.keys t.keys pair.count edge lt

    pub viewed-target : target_of g.edges edge ≡ get_or t.keys edge 0
    viewed-target = ap (λ (es : List (ℕ × ℕ)). target_of es edge) (sym viewed-edges) ∙ zip-target s.keys t.keys pair.count edge lt

  module _ (node bound : ℕ) (r given : Option ℕ) (same : given ≡ r) (le : bound ≤ length s.keys) where
    pub viewed-last_out : IsLastBelow (λ k. get_or s.keys k 0) node bound r → IsLastOut g.edges node bound given
    viewed-last_out last =
        subst (λ (o : Option ℕ). IsLastOut g.edges node bound o) (sym same)
        (subst (λ (es : List (ℕ × ℕ)). IsLastOut es node bound r) viewed-edges (zip-last_out s.keys t.keys pair.count node bound r le last))

    pub viewed-last_in : IsLastBelow (λ k. get_or t.keys k 0) node bound r → IsLastIn g.edges node bound given
    viewed-last_in last =
        subst (λ (o : Option ℕ). IsLastIn g.edges node bound o) (sym same)
        (subst (λ (es : List (ℕ × ℕ)). IsLastIn es node bound r) viewed-edges (zip-last_in s.keys t.keys pair.count node bound r le last))

-- one edge more, and the first ones alone
module _ (s t : KeyList) (pair : ArePaired s t) (g : Digraph) (view : digraph_of s t ≡ g) where
  pub viewed-add : (a b : ℕ) → digraph_of (record s { keys = s.keys ++ a ∷ [] }) (record t { keys = t.keys ++ b ∷ [] }) ≡ record g { edges = g.edges ++ (a, b) ∷ [] }
  viewed-add a b =
      ap (λ (es : List (ℕ × ℕ)). with_edges (digraph_of s t) es) (zip-push s.keys t.keys a b pair.count)
      ∙ ap (λ (g : Digraph). with_edges g (g.edges ++ (a, b) ∷ [])) view

  pub viewed-add_all : (more : List (ℕ × ℕ)) → digraph_of (record s { keys = s.keys ++ map (λ e. e.0) more }) (record t { keys = t.keys ++ map (λ e. e.1) more }) ≡ record g { edges = g.edges ++ more }
  viewed-add_all more =
      ap (λ (es : List (ℕ × ℕ)). with_edges (digraph_of s t) es) (zip-push_all s.keys t.keys more pair.count)
      ∙ ap (λ (g : Digraph). with_edges g (g.edges ++ more)) view

  -- where the edges begin with those of another graph, so do their ends
  pub viewed-begins : (s0 t0 : KeyList) → ArePaired s0 t0 → (g0 : Digraph) → digraph_of s0 t0 ≡ g0 → take (length g0.edges) g.edges ≡ g0.edges →
      (take (length s0.keys) s.keys ≡ s0.keys) × (take (length t0.keys) t.keys ≡ t0.keys)
  viewed-begins s0 t0 pair0 g0 view0 e =
      let edges : zip s.keys t.keys ≡ g.edges = ap (λ (g : Digraph). g.edges) view in
      let begun : zip s0.keys t0.keys ≡ g0.edges = ap (λ (g : Digraph). g.edges) view0 in
      let count : length g0.edges ≡ length s0.keys = ap (λ (es : List (ℕ × ℕ)). length es) (sym begun) ∙ zip-count s0.keys t0.keys pair0.count in
      zip-begins s.keys t.keys s0.keys t0.keys pair.count pair0.count
      (ap (take (length s0.keys)) edges ∙ ap (λ (n : ℕ). take n g.edges) (sym count) ∙ e ∙ sym begun)

  pub viewed-take : (n : ℕ) → digraph_of (record s { keys = take n s.keys }) (record t { keys = take n t.keys }) ≡ record g { edges = take n g.edges }
  viewed-take n =
      ap (λ (es : List (ℕ × ℕ)). with_edges (digraph_of s t) es) (zip-take n s.keys t.keys)
      ∙ ap (λ (g : Digraph). with_edges g (take n g.edges)) view
