-- The places of the nodes of a window that was sorted again.
use Rattle.std.proofs.Common.{◌≡◌, ◌≢◌, ◌⊎◌, inl, inr, ℕ, ◌+◌, ◌-◌, ◌<◌, ◌≤◌, List, length, get_or, set, AllPairs, arith, refl, sym, ap, ◌∙◌}
use Rattle.std.proofs.lemmas.Bool.{cases_eq}
use Rattle.std.proofs.lemmas.Grind.{get_or-set_at}
use Rattle.std.proofs.lemmas.List.{get_or-set_other, length-set}
use Rattle.window_resort.specs.declared.spans.Window.{Window}
use Rattle.window_resort.specs.Changes.{HasPlaces, NotesPlaces}
use Rattle.window_resort.specs.Windows.{with_window}
use Rattle.window_resort.proofs.InPlace.{length-with_window, read_after, read_before, read_within}
use Rattle.window_resort.proofs.Places.{le_or_lt, one_place}

pub notes_none : (first : ℕ) (nodes old : List ℕ) → NotesPlaces first nodes 0 old old
notes_none first nodes old = record { same_length = refl; noted = λ index lt. absurd (omega (arith, lt)); others = λ node apart. refl }

pub notes_more : (first : ℕ) (nodes : List ℕ) (count : ℕ) (old new : List ℕ) → NotesPlaces first nodes count old new → (node : ℕ) → node ≡ get_or nodes count 0 →
    ((index : ℕ) → index < count → get_or nodes index 0 ≢ get_or nodes count 0) → node < length new → NotesPlaces first nodes (count + 1) old (set new node (first + count))
notes_more first nodes count old new h node is apart below = record {
  same_length = length-set new node (first + count) ∙ h.same_length;
  noted = λ index lt. elim (cases_eq index count) [
    | inl same ↦ get_or-set_at new node (get_or nodes index 0) (first + count) 0 (ap (λ (i : ℕ). get_or nodes i 0) same ∙ sym is) below ∙ ap (λ (i : ℕ). first + i) (sym same)
    | inr other ↦
        let sooner : index < count = omega (arith, lt, other) in
        get_or-set_other new node (get_or nodes index 0) (first + count) 0 (λ e. apart index sooner (e ∙ is)) ∙ h.noted index sooner
  ];
  others = λ other away.
      get_or-set_other new node other (first + count) 0 (λ e. away count (omega arith) (sym is ∙ sym e)) ∙ h.others other (λ index lt. away index (omega (arith, lt)));
}

module _ (order nodes : List ℕ) (w : Window) (within : w.last < length order) (rising : w.first ≤ w.last) (long : length nodes ≡ w.last + 1 - w.first)
    (once : AllPairs (λ a b. a ≢ b) (with_window order w nodes)) where
  -- a node of the window has one place
  place_of_node : (index i : ℕ) → index < length nodes → i < length order → get_or nodes index 0 ≡ get_or (with_window order w nodes) i 0 → w.first + index ≡ i
  place_of_node index i lt below same =
      let all = length-with_window order nodes w within rising long in
      let at : (w.first + index) - w.first ≡ index = omega arith in
      one_place (with_window order w nodes) once (w.first + index) i (omega (arith, all, lt, long, within, rising)) (omega (arith, all, below))
      (read_within order nodes w within rising long (w.first + index) (omega arith) (omega (arith, lt, long, rising)) ∙ ap (λ (k : ℕ). get_or nodes k 0) at ∙ same)

  pub nodes_apart : (index count : ℕ) → index < count → count < length nodes → get_or nodes index 0 ≢ get_or nodes count 0
  nodes_apart index count lt below same =
      let at : (w.first + count) - w.first ≡ count = omega arith in
      let one = place_of_node index (w.first + count) (omega (arith, lt, below)) (omega (arith, below, long, within, rising))
      (same ∙ sym (read_within order nodes w within rising long (w.first + count) (omega arith) (omega (arith, below, long, rising)) ∙ ap (λ (k : ℕ). get_or nodes k 0) at)) in
      omega (arith, one, lt)

  pub places_noted : (old new : List ℕ) → HasPlaces order old → NotesPlaces w.first nodes (length nodes) old new → HasPlaces (with_window order w nodes) new
  places_noted old new placed h =
      let all = length-with_window order nodes w within rising long in
      let whole : List ℕ = with_window order w nodes in
      let outside : (i : ℕ) → i < length order → ((i < w.first) ⊎ (w.last < i)) → get_or whole i 0 ≡ get_or order i 0 → get_or new (get_or whole i 0) 0 ≡ i = λ i below out read.
      ap (λ (x : ℕ). get_or new x 0) read
      ∙ h.others (get_or order i 0) (λ index lt same.
      let one = place_of_node index i lt below (same ∙ sym read) in
      elim out [ inl before ↦ omega (arith, one, before) | inr after ↦ omega (arith, one, after, lt, long, rising) ])
      ∙ placed.at i below
      in
      record {
        long = h.same_length ∙ placed.long ∙ sym all;
        at = λ i lt.
            let below : i < length order = omega (arith, all, lt) in
            elim (le_or_lt w.first i) [
              | inr before ↦ outside i below (inl before) (read_before order nodes w within rising long i before)
              | inl from ↦ elim (le_or_lt i w.last) [
                | inr after ↦ outside i below (inr after) (read_after order nodes w within rising long i after)
                | inl to ↦
                    let at : w.first + (i - w.first) ≡ i = omega (arith, from) in
                    ap (λ (x : ℕ). get_or new x 0) (read_within order nodes w within rising long i from to)
                    ∙ h.noted (i - w.first) (omega (arith, from, to, long, rising)) ∙ at
              ]
            ];
      }
