-- One load more is compared with the base, and one more list is accepted.
use Rattle.std.proofs.Common.{◌≡◌, ◌≢◌, inl, inr, ℕ, ◌+◌, ◌*◌, ◌<◌, ◌≤◌, List, ◌++◌, length, get_or, set, true, false, arith, refl, sym, ap, subst, ◌∙◌}
use Rattle.std.specs.Prelude.{Option, count_by}
use Rattle.std.proofs.lemmas.Bool.{cases_eq, false≢true}
use Rattle.std.proofs.lemmas.Bool.Decides.{nat_tests}
use Rattle.std.proofs.lemmas.List.{get_or_default}
use Rattle.orders.specs.Orders.{nodes_below}
use Rattle.test_lang.specs.Program.{Program}
use Rattle.test_lang.specs.Values.{load_count}
use Rattle.digraph.specs.Roomed.{Roomed}
use Rattle.graph_model.specs.LoadEdges.{load_edge_room}
use Rattle.window_resort.specs.declared.spans.Window.{Window}
use Rattle.window_resort.specs.Bounds.{is_changed}
use Rattle.window_resort.specs.Changes.{LeadsBack, changed_edges, edges_at_rank}
use Rattle.window_resort.specs.Tables.{HasChanged, HasRoom, HasUnchanged, row_at}
use Rattle.window_resort.specs.Windows.{IsSpan}
use Rattle.window_resort.proofs.Loads.{count_changed, count_unchanged, edges_changed, edges_unchanged}
use Rattle.window_resort.proofs.Rows.{no_row, room_set, row_left, row_room, row_set}

pub changed_true : (base run : List ℕ) (rank : ℕ) → (get_or base rank 0 ≡ get_or run rank 0 → ⊥) → is_changed base run rank ≡ true
changed_true base run rank apart = grind (arith, nat_tests)

pub changed_false : (base run : List ℕ) (rank : ℕ) → get_or base rank 0 ≡ get_or run rank 0 → is_changed base run rank ≡ false
changed_false base run rank same = grind (arith, nat_tests)

-- the first loads are compared
pub record Compared (p : Program) (base run places : List ℕ) (rank : ℕ) (fresh : List (Roomed (ℕ × ℕ))) (window : Option Window) (before after : ℕ) : Type 0 where
  pub room : HasRoom p fresh
  pub listed : HasChanged p base run rank fresh
  pub span : IsSpan (LeadsBack places (changed_edges p base run rank)) window
  pub few : after ≤ before + count_by (is_changed base run) (nodes_below rank) * load_edge_room p
  pub later : before ≤ after

module _ (p : Program) (base run places : List ℕ) (rank : ℕ) (fresh : List (Roomed (ℕ × ℕ))) (window : Option Window) (before mid : ℕ) (h : Compared p base run places rank fresh window before mid) where
  pub compared_changed : (get_or base rank 0 ≡ get_or run rank 0 → ⊥) → (now : List (Roomed (ℕ × ℕ))) (found : Option Window) (after : ℕ) → HasRoom p now →
      row_at now rank ≡ edges_at_rank p run rank → ((other : ℕ) → other < rank → row_at now other ≡ row_at fresh other) →
      ((list : List (ℕ × ℕ)) → IsSpan (LeadsBack places list) window → IsSpan (LeadsBack places (list ++ edges_at_rank p run rank)) found) →
      after ≤ mid + load_edge_room p → mid ≤ after → Compared p base run places (rank + 1) now found before after
  compared_changed apart now found after room here others widened few later =
      let changed = changed_true base run rank apart in
      let old_few = h.few in
      let old_later = h.later in
      let count = count_changed base run rank changed in
      let times : (count_by (is_changed base run) (nodes_below rank) + 1) * load_edge_room p ≡ count_by (is_changed base run) (nodes_below rank) * load_edge_room p + load_edge_room p = grind arith in
      record {
        room = room;
        listed = λ r lt is. elim (cases_eq r rank) [
          | inl same ↦ subst (λ (k : ℕ). row_at now k ≡ edges_at_rank p run k) (sym same) here
          | inr other ↦ let sooner : r < rank = omega (arith, lt, other) in others r sooner ∙ h.listed r sooner is
        ];
        span = subst (λ (list : List (ℕ × ℕ)). IsSpan (LeadsBack places list) found) (sym (edges_changed p base run rank changed)) (widened (changed_edges p base run rank) h.span);
        few = subst (λ (n : ℕ). after ≤ before + n * load_edge_room p) (sym count) (omega (arith, few, old_few, times));
        later = omega (arith, old_later, later);
      }

  pub compared_same : get_or base rank 0 ≡ get_or run rank 0 → Compared p base run places (rank + 1) fresh window before mid
  compared_same same =
      let unchanged = changed_false base run rank same in
      record {
        room = h.room;
        listed = λ r lt is. elim (cases_eq r rank) [
          | inl here ↦ absurd (false≢true (sym unchanged ∙ subst (λ (k : ℕ). is_changed base run k ≡ true) here is))
          | inr other ↦ h.listed r (omega (arith, lt, other)) is
        ];
        span = subst (λ (list : List (ℕ × ℕ)). IsSpan (LeadsBack places list) window) (sym (edges_unchanged p base run rank unchanged)) h.span;
        few = subst (λ (n : ℕ). mid ≤ before + n * load_edge_room p) (sym (count_unchanged base run rank unchanged)) h.few;
        later = h.later;
      }

-- the lists of the first loads are those of the run
pub record Accepting (p : Program) (run : List ℕ) (old_rows old_fresh : List (Roomed (ℕ × ℕ))) (rank : ℕ) (rows fresh : List (Roomed (ℕ × ℕ))) : Type 0 where
  pub rows_room : HasRoom p rows
  pub fresh_room : HasRoom p fresh
  pub taken : (r : ℕ) → r < rank → row_at rows r ≡ edges_at_rank p run r
  pub left : (r : ℕ) → rank ≤ r → row_at rows r ≡ row_at old_rows r
  pub fresh_left : (r : ℕ) → rank ≤ r → row_at fresh r ≡ row_at old_fresh r

module _ (p : Program) (base run : List ℕ) (old_rows old_fresh : List (Roomed (ℕ × ℕ))) (rank : ℕ) (rows fresh : List (Roomed (ℕ × ℕ))) (below : rank < load_count p)
    (h : Accepting p run old_rows old_fresh rank rows fresh) where
  accepted : (now : List (Roomed (ℕ × ℕ))) → row_at now rank ≡ edges_at_rank p run rank → ((r : ℕ) → r ≢ rank → row_at now r ≡ row_at rows r) → (r : ℕ) → r < rank + 1 → row_at now r ≡ edges_at_rank p run r
  accepted now here others r lt = elim (cases_eq r rank) [
    | inl same ↦ subst (λ (k : ℕ). row_at now k ≡ edges_at_rank p run k) (sym same) here
    | inr other ↦ others r other ∙ h.taken r (omega (arith, lt, other))
  ]

  pub accepting_changed : (get_or base rank 0 ≡ get_or run rank 0 → ⊥) → HasChanged p base run (load_count p) old_fresh → (x y d e : Roomed (ℕ × ℕ)) → x ≡ get_or fresh rank d → y ≡ get_or rows rank e →
      (new_rows new_fresh : List (Roomed (ℕ × ℕ))) → new_rows ≡ set rows rank x → new_fresh ≡ set fresh rank y → Accepting p run old_rows old_fresh (rank + 1) new_rows new_fresh
  accepting_changed apart changed x y d e x_is y_is new_rows new_fresh rows_is fresh_is =
      let long = h.rows_room.loads in
      let fresh_long = h.fresh_room.loads in
      let fits : rank < length rows = omega (arith, below, long) in
      let fresh_fits : rank < length fresh = omega (arith, below, fresh_long) in
      let x_row : x.list ≡ row_at fresh rank = ap (λ (r : Roomed (ℕ × ℕ)). r.list) (x_is ∙ get_or_default fresh rank d no_row fresh_fits) in
      let here : row_at (set rows rank x) rank ≡ edges_at_rank p run rank =
      row_set rows rank x fits ∙ x_row ∙ h.fresh_left rank (omega arith) ∙ changed rank below (changed_true base run rank apart) in
      let x_room : load_edge_room p ≤ x.room = subst (λ (r : Roomed (ℕ × ℕ)). load_edge_room p ≤ r.room) (sym x_is) (row_room p fresh h.fresh_room rank below d) in
      let y_room : load_edge_room p ≤ y.room = subst (λ (r : Roomed (ℕ × ℕ)). load_edge_room p ≤ r.room) (sym y_is) (row_room p rows h.rows_room rank below e) in
      let now : Accepting p run old_rows old_fresh (rank + 1) (set rows rank x) (set fresh rank y) = record {
        rows_room = room_set rows rank x p h.rows_room x_room;
        fresh_room = room_set fresh rank y p h.fresh_room y_room;
        taken = accepted (set rows rank x) here (row_left rows rank x);
        left = λ r le. row_left rows rank x r (λ same. omega (arith, same, le)) ∙ h.left r (omega (arith, le));
        fresh_left = λ r le. row_left fresh rank y r (λ same. omega (arith, same, le)) ∙ h.fresh_left r (omega (arith, le));
      } in
      subst (λ (list : List (Roomed (ℕ × ℕ))). Accepting p run old_rows old_fresh (rank + 1) list new_fresh) (sym rows_is)
      (subst (λ (list : List (Roomed (ℕ × ℕ))). Accepting p run old_rows old_fresh (rank + 1) (set rows rank x) list) (sym fresh_is) now)

  pub accepting_same : get_or base rank 0 ≡ get_or run rank 0 → HasUnchanged p base run old_rows → Accepting p run old_rows old_fresh (rank + 1) rows fresh
  accepting_same same unchanged = record {
    rows_room = h.rows_room;
    fresh_room = h.fresh_room;
    taken = accepted rows (h.left rank (omega arith) ∙ unchanged rank below (changed_false base run rank same)) (λ r other. refl);
    left = λ r le. h.left r (omega (arith, le));
    fresh_left = λ r le. h.fresh_left r (omega (arith, le));
  }
