-- Each edge from a node of a search ticks once: how many were not looked at yet.
use Rattle.std.proofs.Common.{◌≡◌, ◌∙◌, ℕ, suc, ◌+◌, ◌<◌, ◌≤◌, List, Bool, true, Option, [], ◌∷◌, ◌++◌, length, get_or, set, take, drop, arith, refl, ap, subst}
use Rattle.std.proofs.lemmas.List.{drop_all, drop_more, drop-set, drop-set-lt, take_all, take_more_set, take-set-le}
use Rattle.std.proofs.lemmas.List.Sums.{sum_by-append, sum_by-cons, sum_by-drop_more, sum_by_push}
use Rattle.digraph.specs.Digraph.{IsLastOut, edges_out, out_degree, source_of, target_of}
use Rattle.full_sort.specs.Finishing.{HasSeen, unseen}
use Rattle.full_sort.specs.Waiting.{is_marked}
use Rattle.full_sort.proofs.Edges.{degrees-le}
use Rattle.full_sort.proofs.EdgeWalks.{IsWalkOver, walk_from}
use Rattle.full_sort.proofs.Sums.{IsOnce}
use Rattle.full_sort.proofs.Ticks.{ahead, ticks-begin}
use Rattle.full_sort.proofs.Walk.{given}

-- a walk goes on behind the edges that were looked at
module _ (es : List (ℕ × ℕ)) (marks : List Bool) (node seen e : ℕ) (r : Option ℕ) where
  pub seen_walk : seen ≡ suc e → HasSeen es marks node seen → IsLastOut es (source_of es e) e r → IsWalkOver (source_of es) node (length es) (λ (k : ℕ). is_marked marks (target_of es k) ≡ true) r
  seen_walk is s last =
      let now : HasSeen es marks node (suc e) = subst (HasSeen es marks node) is s in
      let inside = now.inside in
      walk_from (source_of es) node (length es) (λ (k : ℕ). is_marked marks (target_of es k) ≡ true) e r (omega (arith, inside)) (subst (λ (n : ℕ). IsLastOut es n e r) (now.own e refl) last) now.marked

  pub seen_ticks : (old new : ℕ) → seen ≡ suc e → HasSeen es marks node seen → IsLastOut es (source_of es e) e r → new ≡ old + given r → new + ahead (λ x. x.0) es node r ≡ old + unseen es node seen
  seen_ticks old new is s last ticks =
      let now : HasSeen es marks node (suc e) = subst (HasSeen es marks node) is s in
      let inside = now.inside in
      let ticked = ticks-begin (λ x. x.0) es node old new e r (omega (arith, inside)) (subst (λ (n : ℕ). IsLastOut es n e r) (now.own e refl) last) ticks in
      let same : unseen es node seen ≡ unseen es node (suc e) = ap (unseen es node) is in
      omega (arith, ticked, same)

-- the edges from the nodes of the path that were not looked at
abbrev pub path_unseen : List (ℕ × ℕ) → List ℕ → List ℕ → ℕ
path_unseen es [] path = 0
path_unseen es (last ∷ seen) [] = 0
path_unseen es (last ∷ seen) (node ∷ path) = unseen es node last + path_unseen es seen path

path_none : (es : List (ℕ × ℕ)) (seen : List ℕ) → path_unseen es seen [] ≡ 0
path_none es [] = refl
path_none es (last ∷ seen) = refl

-- of the first node of the path, and of those behind it
path_parts : (es : List (ℕ × ℕ)) (seen order xs ys : List ℕ) (last node : ℕ) → seen ≡ last ∷ xs → order ≡ node ∷ ys → path_unseen es seen order ≡ unseen es node last + path_unseen es xs ys
path_parts es seen order xs ys last node e e' = rw (e, e') refl

path_grown : (es : List (ℕ × ℕ)) (seen order : List ℕ) (place node : ℕ) → place < length seen → place < length order →
    path_unseen es (drop place (set seen place 0)) (drop place (set order place node)) ≡ out_degree es node + path_unseen es (drop (place + 1) seen) (drop (place + 1) order)
path_grown es seen order place node lt lt' =
    let parts = path_parts es (drop place (set seen place 0)) (drop place (set order place node)) (drop (place + 1) seen) (drop (place + 1) order) 0 node (drop-set seen place 0 lt) (drop-set order place node lt') in
    let all : unseen es node 0 ≡ out_degree es node = ap (λ (xs : List (ℕ × ℕ)). out_degree xs node) (take_all (length es) es (omega arith)) in
    omega (arith, parts, all)

out_grown : (es : List (ℕ × ℕ)) (order : List ℕ) (place node : ℕ) → place < length order → edges_out es (drop place (set order place node)) ≡ out_degree es node + edges_out es (drop (place + 1) order)
out_grown es order place node lt = ap (edges_out es) (drop-set order place node lt) ∙ sum_by-cons (out_degree es) node (drop (place + 1) order)

-- the path begins with a node
pub path_begun : (es : List (ℕ × ℕ)) (seen seen' order order' : List ℕ) (done place node steps : ℕ) → place + 1 ≡ length order → place < length seen → done ≤ place → seen' ≡ set seen place 0 → order' ≡ set order place node →
    steps + path_unseen es (drop place seen') (drop place order') + edges_out es (take done order) ≤ steps + edges_out es (take done order') + edges_out es (drop place order')
path_begun es seen seen' order order' done place node steps last room before p o =
    let lt : place < length order = omega (arith, last) in
    let path = path_grown es seen order place node room lt in
    let none = ap (λ (xs : List ℕ). path_unseen es (drop (place + 1) seen) xs) (drop_all (place + 1) order (omega (arith, last))) ∙ path_none es (drop (place + 1) seen) in
    let out = out_grown es order place node lt in
    let front = ap (edges_out es) (take-set-le done order place node before) in
    rw (p, o) (omega (arith, path, none, out, front))

-- a node is put on top of the path, after a look at the edges of the last one
pub path_more : (es : List (ℕ × ℕ)) (seen seen' order order' : List ℕ) (done top place node last finished old now new : ℕ) → place + 1 ≡ top → top < length order → top < length seen → place < length (set seen top last) → done ≤ place →
    seen' ≡ set (set seen top last) place 0 → order' ≡ set order place node →
    now + path_unseen es (drop top seen) (drop top order) + finished ≤ old + edges_out es (take done order) + edges_out es (drop top order) →
    new + unseen es (get_or order top 0) last ≤ now + unseen es (get_or order top 0) (get_or seen top 0) →
    new + path_unseen es (drop place seen') (drop place order') + finished ≤ old + edges_out es (take done order') + edges_out es (drop place order')
path_more es seen seen' order order' done top place node last finished old now new at lt room room' before p o so_far step =
    let path = path_grown es (set seen top last) order place node room' (omega (arith, at, lt)) in
    let next : path_unseen es (drop (place + 1) (set seen top last)) (drop (place + 1) order) ≡ path_unseen es (drop top (set seen top last)) (drop top order) =
    ap (λ (k : ℕ). path_unseen es (drop k (set seen top last)) (drop k order)) at in
    let looked = path_parts es (drop top (set seen top last)) (drop top order) (drop (top + 1) seen) (drop (top + 1) order) last (get_or order top 0) (drop-set seen top last room) (drop_more order top 0 lt) in
    let was = path_parts es (drop top seen) (drop top order) (drop (top + 1) seen) (drop (top + 1) order) (get_or seen top 0) (get_or order top 0) (drop_more seen top 0 room) (drop_more order top 0 lt) in
    let out = out_grown es order place node (omega (arith, at, lt)) in
    let same : edges_out es (drop (place + 1) order) ≡ edges_out es (drop top order) = ap (λ (k : ℕ). edges_out es (drop k order)) at in
    let front = ap (edges_out es) (take-set-le done order place node before) in
    rw (p, o) (omega (arith, path, next, looked, was, out, same, front, so_far, step))

-- the node on top of the path is finished
pub path_less : (es : List (ℕ × ℕ)) (seen order : List ℕ) (done top last finished old now new : ℕ) → done ≤ top → top < length order → top < length seen →
    now + path_unseen es (drop top seen) (drop top order) + finished ≤ old + edges_out es (take done order) + edges_out es (drop top order) →
    new ≤ now + unseen es (get_or order top 0) (get_or seen top 0) →
    new + path_unseen es (drop (top + 1) (set seen top last)) (drop (top + 1) (set order done (get_or order top 0))) + finished ≤
    old + edges_out es (take (done + 1) (set order done (get_or order top 0))) + edges_out es (drop (top + 1) (set order done (get_or order top 0)))
path_less es seen order done top last finished old now new le lt room so_far step =
    let node : ℕ = get_or order top 0 in
    let was = path_parts es (drop top seen) (drop top order) (drop (top + 1) seen) (drop (top + 1) order) (get_or seen top 0) node (drop_more seen top 0 room) (drop_more order top 0 lt) in
    let out = sum_by-drop_more (out_degree es) order top 0 lt in
    let front : edges_out es (take (done + 1) (set order done node)) ≡ edges_out es (take done order) + out_degree es node =
    ap (edges_out es) (take_more_set order done node (omega (arith, le, lt))) ∙ sum_by_push (out_degree es) (take done order) node in
    let back : drop (top + 1) (set order done node) ≡ drop (top + 1) order = drop-set-lt (top + 1) order done node (omega (arith, le)) in
    let back' : drop (top + 1) (set seen top last) ≡ drop (top + 1) seen = drop-set-lt (top + 1) seen top last (omega arith) in
    rw (back, back') (omega (arith, was, out, front, so_far, step))

-- at the end no node is on the path
pub path_ended : (es : List (ℕ × ℕ)) (seen order : List ℕ) (done top finished old now : ℕ) → length order ≤ top →
    now + path_unseen es (drop top seen) (drop top order) + finished ≤ old + edges_out es (take done order) + edges_out es (drop top order) → now + finished ≤ old + edges_out es (take done order)
path_ended es seen order done top finished old now end so_far =
    let none : edges_out es (drop top order) ≡ 0 = ap (edges_out es) (drop_all top order end) in
    omega (arith, none, so_far)

-- distinct nodes at the front have no more edges than there are
pub front_edges : (es : List (ℕ × ℕ)) (front back : List ℕ) → IsOnce (front ++ back) → edges_out es front ≤ length es
front_edges es front back once =
    let few = degrees-le es (front ++ back) once in
    let parts = sum_by-append (out_degree es) front back in
    omega (arith, few, parts)
