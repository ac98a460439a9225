-- Lists of edges, one of which is listed anew.
use Rattle.std.proofs.Common.{◌≡◌, ◌≢◌, ℕ, ◌<◌, ◌≤◌, List, [], length, get_or, set, true, arith, ap, ◌∙◌}
use Rattle.std.proofs.lemmas.Bool.Decides.{nat_tests}
use Rattle.std.proofs.lemmas.List.{get_or-set_other, get_or-set_same, length-set}
use Rattle.std.proofs.lemmas.List.Elements.{All-get_or, All-set}
use Rattle.test_lang.specs.Program.{Program}
use Rattle.test_lang.specs.Values.{load_count}
use Rattle.digraph.specs.Roomed.{Roomed}
use Rattle.graph_model.specs.LoadEdges.{load_edge_room}
use Rattle.window_resort.specs.Bounds.{is_changed}
use Rattle.window_resort.specs.Tables.{HasChanged, HasEdges, HasRoom, HasUnchanged, row_at}
use Rattle.window_resort.proofs.RunWindows.{same_edges, same_value}

abbrev pub no_row : Roomed (ℕ × ℕ)
no_row = record { list = []; room = 0 }

module _ (rows : List (Roomed (ℕ × ℕ))) (rank : ℕ) (row : Roomed (ℕ × ℕ)) where
  pub row_set : rank < length rows → row_at (set rows rank row) rank ≡ row.list
  row_set below = ap (λ (r : Roomed (ℕ × ℕ)). r.list) (get_or-set_same rows rank row no_row below)

  pub row_left : (other : ℕ) → other ≢ rank → row_at (set rows rank row) other ≡ row_at rows other
  row_left other apart = ap (λ (r : Roomed (ℕ × ℕ)). r.list) (get_or-set_other rows rank other row no_row apart)

  pub room_set : (p : Program) → HasRoom p rows → load_edge_room p ≤ row.room → HasRoom p (set rows rank row)
  room_set p h fits = record { loads = length-set rows rank row ∙ h.loads; each = All-set (λ r. load_edge_room p ≤ r.room) rows rank row fits h.each }

pub row_room : (p : Program) (rows : List (Roomed (ℕ × ℕ))) → HasRoom p rows → (rank : ℕ) → rank < load_count p → (d : Roomed (ℕ × ℕ)) → load_edge_room p ≤ (get_or rows rank d).room
row_room p rows h rank below d = let all = h.loads in All-get_or (λ r. load_edge_room p ≤ r.room) rows rank d (omega (arith, below, all)) h.each

-- of a base, the lists of the loads that didn't change are those of the run
pub unchanged_rows : (p : Program) (base run : List ℕ) (rows : List (Roomed (ℕ × ℕ))) → HasEdges p base rows → HasUnchanged p base run rows
unchanged_rows p base run rows edges rank below same = edges rank below ∙ same_edges p base run rank below (same_value base run rank same)

-- no load of a run changes from it to itself
pub none_changed : (run : List ℕ) (rank : ℕ) → is_changed run run rank ≡ true → ⊥
none_changed run rank e = grind (arith, nat_tests)

pub same_run : (p : Program) (run : List ℕ) (rows fresh : List (Roomed (ℕ × ℕ))) → HasEdges p run rows → HasUnchanged p run run rows × HasChanged p run run (load_count p) fresh
same_run p run rows fresh edges = (λ rank below same. edges rank below, λ rank below changed. absurd (none_changed run rank changed))
