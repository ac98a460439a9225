-- A search in arrays, at each step.
use Rattle.std.proofs.Common.{◌≡◌, ◌∙◌, ℕ, ◌+◌, ◌<◌, ◌≤◌, List, [], ◌∷◌, ◌++◌, Bool, true, false, eqb, length, get_or, set, take, drop, Contains, arith, sym, ap, subst, inl, inr, get_or-set_same, get_or-set_other}
use Rattle.std.proofs.lemmas.Bool.{cases_eq, eq-eqb}
use Rattle.std.proofs.lemmas.List.{length-set, length-take-le, length-drop, length-append, take_more_set, take-set-le, drop_more, drop-set, drop-set-lt, drop_all, take_all, get_or-drop, append-nil}
use Rattle.std.proofs.lemmas.List.Elements.{Contains-append_right, Contains-get_or}
use Rattle.std.proofs.lemmas.List.Folds.{list_any_at}
use Rattle.std.proofs.lemmas.Map.Steps.{le-length_from_below}
use Rattle.std.specs.List.{list_any}
use Rattle.digraph.specs.Digraph.{HasEdge, target_of}
use Rattle.full_sort.specs.Finishing.{HasSeen, IsFinishingOrder, IsListOf, IsSearch, IsSearchAt, ReachesBack}
use Rattle.full_sort.specs.Waiting.{is_marked}
use Rattle.full_sort.proofs.ListsOf.{listed_room}
use Rattle.full_sort.proofs.Searches.{marked_below, marked_kept, search_begun, search_grown, search_shrunk}

-- more marks change nothing of what was seen
pub seen_kept : (es : List (ℕ × ℕ)) (marks marks' : List Bool) (node last : ℕ) → ((t : ℕ) → is_marked marks t ≡ true → is_marked marks' t ≡ true) → HasSeen es marks node last → HasSeen es marks' node last
seen_kept es marks marks' node last more s = record { inside = s.inside; own = s.own; marked = λ e low high key. more (target_of es e) (s.marked e low high key) }

pub seen_none : (es : List (ℕ × ℕ)) (marks : List Bool) (node : ℕ) → HasSeen es marks node 0
seen_none es marks node = record { inside = omega arith; own = λ e same. absurd (omega (arith, same)); marked = λ e low high key. absurd (omega (arith, low, high)) }

module _ (es : List (ℕ × ℕ)) (marks : List Bool) (seen order : List ℕ) (done top : ℕ) (s : IsSearchAt es marks seen order done top) where
  -- while a node isn't marked there is room for it
  pub room_left : (node : ℕ) → length marks ≡ length order → node < length marks → is_marked marks node ≡ false → done < top
  room_left node same lt unmarked =
      let parts = s.parts in
      let room = s.room in
      let few = listed_room (λ t. is_marked marks t ≡ true) (take done order ++ drop top order) (length marks) node (marked_below marks) lt (λ marked. absurd cc) s.search.found in
      let front = length-take-le done order (omega (arith, parts, room)) in
      let back = length-drop top order in
      let both = length-append (take done order) (drop top order) in
      omega (arith, few, front, back, both, same, room)

  -- the top of the path is a node
  pub top_below : top < length order → get_or order top 0 < length marks
  top_below lt =
      let behind = length-drop top order in
      let first : get_or (drop top order) 0 0 ≡ get_or order top 0 = get_or-drop top order 0 0 ∙ ap (λ (k : ℕ). get_or order k 0) (omega arith) in
      let there : Contains (take done order ++ drop top order) (get_or order top 0) =
      Contains-append_right (take done order) (drop top order) (get_or order top 0)
      (subst (Contains (drop top order)) first (Contains-get_or (drop top order) 0 0 (omega (arith, behind, lt)))) in
      marked_below marks (get_or order top 0) ((s.search.found.same (get_or order top 0)).1 there)

  -- the node at the top of the path is finished
  pub at_shrunk : (last : ℕ) → top < length order → ((t : ℕ) → HasEdge es (get_or order top 0) t → is_marked marks t ≡ true) →
      IsSearchAt es marks (set seen top last) (set order done (get_or order top 0)) (done + 1) (top + 1)
  at_shrunk last lt ends =
      let parts = s.parts in
      let node : ℕ = get_or order top 0 in
      let size = length-set order done node in
      let front : take done order ++ node ∷ [] ≡ take (done + 1) (set order done node) = sym (take_more_set order done node (omega (arith, parts, lt))) in
      let back : drop (top + 1) order ≡ drop (top + 1) (set order done node) = sym (drop-set-lt (top + 1) order done node (omega (arith, parts))) in
      let now : IsSearch (HasEdge es) marks (take done order) (node ∷ drop (top + 1) order) = subst (IsSearch (HasEdge es) marks (take done order)) (drop_more order top 0 lt) s.search in
      let next = search_shrunk (HasEdge es) marks (take done order) node (drop (top + 1) order) ends now in
      record {
        parts = omega (arith, parts);
        room = omega (arith, size, lt);
        search = subst (λ (xs : List ℕ). IsSearch (HasEdge es) marks xs (drop (top + 1) (set order done node))) front (subst (IsSearch (HasEdge es) marks (take done order ++ node ∷ [])) back next);
        seen_edges = λ i low high.
            let kept = get_or-set_other order done i node 0 (λ (same : i ≡ done). absurd (omega (arith, parts, low, same))) in
            let kept' = get_or-set_other seen top i last 0 (λ (same : i ≡ top). absurd (omega (arith, low, same))) in
            subst (λ (x : ℕ). HasSeen es marks x (get_or (set seen top last) i 0)) (sym kept)
            (subst (HasSeen es marks (get_or order i 0)) (sym kept') (s.seen_edges i (omega (arith, low)) (omega (arith, high, size))));
      }

  -- one edge more of the node at the top was looked at, to a node that is marked now
  pub looked_on : (node last : ℕ) → top < length seen → HasSeen es (set marks node true) (get_or order top 0) last → (i : ℕ) → top ≤ i → i < length order →
      HasSeen es (set marks node true) (get_or order i 0) (get_or (set seen top last) i 0)
  looked_on node last room now i low high = elim (cases_eq i top) [
    | inl here ↦
        let at : last ≡ get_or (set seen top last) i 0 = sym (ap (λ (k : ℕ). get_or (set seen top last) k 0) here ∙ get_or-set_same seen top last 0 room) in
        subst (HasSeen es (set marks node true) (get_or order i 0)) at (subst (λ (k : ℕ). HasSeen es (set marks node true) (get_or order k 0) last) (sym here) now)
    | inr other ↦
        let kept = get_or-set_other seen top i last 0 other in
        subst (HasSeen es (set marks node true) (get_or order i 0)) (sym kept) (seen_kept es marks (set marks node true) (get_or order i 0) (get_or seen i 0) (marked_kept marks node) (s.seen_edges i low high))
  ]

-- a node is put on top of the path, after a look at the edges of the last one
module _ (es : List (ℕ × ℕ)) (marks : List Bool) (seen seen' order : List ℕ) (done place node : ℕ) (s : IsSearchAt es marks seen order done (place + 1)) (same : length marks ≡ length order)
    (lt : node < length marks) (unmarked : is_marked marks node ≡ false) (step : place + 1 < length order → HasEdge es (get_or order (place + 1) 0) node) (room : place < length seen')
    (looked : (i : ℕ) → place + 1 ≤ i → i < length order → HasSeen es (set marks node true) (get_or order i 0) (get_or seen' i 0)) where
  seen_at : (i : ℕ) → place ≤ i → i < length order → HasSeen es (set marks node true) (get_or (set order place node) i 0) (get_or (set seen' place 0) i 0)
  seen_at i low high = elim (cases_eq i place) [
    | inl here ↦
        let at : 0 ≡ get_or (set seen' place 0) i 0 = sym (ap (λ (k : ℕ). get_or (set seen' place 0) k 0) here ∙ get_or-set_same seen' place 0 0 room) in
        subst (HasSeen es (set marks node true) (get_or (set order place node) i 0)) at (seen_none es (set marks node true) (get_or (set order place node) i 0))
    | inr other ↦
        let kept = get_or-set_other order place i node 0 other in
        let kept' = get_or-set_other seen' place i 0 0 other in
        subst (λ (x : ℕ). HasSeen es (set marks node true) x (get_or (set seen' place 0) i 0)) (sym kept)
        (subst (HasSeen es (set marks node true) (get_or order i 0)) (sym kept') (looked i (omega (arith, low, other)) high))
  ]

  pub at_grown : IsSearchAt es (set marks node true) (set seen' place 0) (set order place node) done place
  at_grown =
      let inside = s.room in
      let left : done < place + 1 = room_left es marks seen order done (place + 1) s node same lt unmarked in
      let size = length-set order place node in
      let front : take done order ≡ take done (set order place node) = sym (take-set-le done order place node (omega (arith, left))) in
      let back : node ∷ drop (place + 1) order ≡ drop place (set order place node) = sym (drop-set order place node (omega (arith, inside))) in
      let first : get_or (drop (place + 1) order) 0 0 ≡ get_or order (place + 1) 0 = get_or-drop (place + 1) order 0 0 ∙ ap (λ (k : ℕ). get_or order k 0) (omega arith) in
      let behind = length-drop (place + 1) order in
      let next = search_grown (HasEdge es) marks (take done order) (drop (place + 1) order) node lt unmarked s.search
      (λ some. subst (λ (x : ℕ). HasEdge es x node) (sym first) (step (omega (arith, some, behind)))) in
      record {
        parts = omega (arith, left);
        room = omega (arith, size, inside);
        search = subst (λ (xs : List ℕ). IsSearch (HasEdge es) (set marks node true) xs (drop place (set order place node))) front
            (subst (IsSearch (HasEdge es) (set marks node true) (take done order)) back next);
        seen_edges = λ i low high. seen_at i low (omega (arith, high, size));
      }

-- the same of arrays that were written so
pub at_grown_as : (es : List (ℕ × ℕ)) (marks marks' : List Bool) (seen seen' seen'' order order' : List ℕ) (done top place node : ℕ) → place + 1 ≡ top → marks' ≡ set marks node true →
    seen'' ≡ set seen' place 0 → order' ≡ set order place node → IsSearchAt es marks seen order done top → length marks ≡ length order → node < length marks → is_marked marks node ≡ false →
    (top < length order → HasEdge es (get_or order top 0) node) → place < length seen' → ((i : ℕ) → top ≤ i → i < length order → HasSeen es (set marks node true) (get_or order i 0) (get_or seen' i 0)) →
    IsSearchAt es marks' seen'' order' done place
at_grown_as es marks marks' seen seen' seen'' order order' done top place node at m p o s same lt unmarked step room looked =
    let S : List Bool → List ℕ → List ℕ → Type 0 = λ xs ys zs. IsSearchAt es xs ys zs done place in
    let grown : S (set marks node true) (set seen' place 0) (set order place node) =
    at_grown es marks seen seen' order done place node (subst (IsSearchAt es marks seen order done) (sym at) s) same lt unmarked
    (λ below. subst (λ (k : ℕ). HasEdge es (get_or order k 0) node) (sym at) (step (omega (arith, below, at)))) room (λ i low high. looked i (omega (arith, low, at)) high) in
    subst (λ xs. S xs seen'' order') (sym m) (subst (λ ys. S (set marks node true) ys order') (sym p) (subst (λ zs. S (set marks node true) (set seen' place 0) zs) (sym o) grown))

-- a search begins with no node
pub at_begun : (es : List (ℕ × ℕ)) (marks : List Bool) (seen order : List ℕ) → ((t : ℕ) → is_marked marks t ≡ false) → IsSearchAt es marks seen order 0 (length order)
at_begun es marks seen order clear = record {
  parts = omega arith;
  room = omega arith;
  search = subst (IsSearch (HasEdge es) marks []) (sym (drop_all (length order) order (omega arith))) (search_begun (HasEdge es) marks clear);
  seen_edges = λ i low high. absurd (omega (arith, low, high));
}

any_of : (xs : List ℕ) (t : ℕ) → Contains xs t → list_any (eqb t) xs ≡ true
any_of xs t at = list_any_at (eqb t) xs at.0 t at.1 (eq-eqb t (get_or xs at.0 t) (sym at.2))

-- and ends with all of them
pub at_end : (es : List (ℕ × ℕ)) (marks : List Bool) (seen order : List ℕ) (done : ℕ) → length marks ≡ length order → IsSearchAt es marks seen order done (length order) →
    ((t : ℕ) → t < length order → is_marked marks t ≡ true) → IsFinishingOrder (HasEdge es) (length order) order
at_end es marks seen order done size s all =
    let parts = s.parts in
    let found : take done order ++ drop (length order) order ≡ take done order =
    ap (λ (xs : List ℕ). take done order ++ xs) (drop_all (length order) order (omega arith)) ∙ append-nil (take done order) in
    let front = length-take-le done order parts in
    let many : length order ≤ length (take done order) =
    le-length_from_below (take done order) (length order) (λ t lt. any_of (take done order) t (subst (λ (xs : List ℕ). Contains xs t) found ((s.search.found.same t).0 (all t lt)))) in
    let whole : take done order ++ drop (length order) order ≡ order = found ∙ take_all done order (omega (arith, many, front)) in
    let listed = subst (IsListOf (λ t. is_marked marks t ≡ true)) whole s.search.found in
    record {
      nodes = record {
        once = listed.once;
        same = λ t. ((λ lt. (listed.same t).0 (all t lt)), (λ at. let below = marked_below marks t ((listed.same t).1 at) in omega (arith, below, size)));
      };
      back = subst (ReachesBack (HasEdge es)) whole s.search.back;
    }
