-- Where all nodes are placed, none is marked.
use Rattle.std.proofs.Common.{◌≡◌, ℕ, List, Contains, false, get_or, set, ap, arith, subst, sym}
use Rattle.std.specs.Prelude.{sum_by}
use Rattle.std.proofs.lemmas.List.Elements.{All-contains}
use Rattle.digraph.specs.Digraph.{out_degree}
use Rattle.full_sort.specs.Waiting.{is_marked}
use Rattle.full_sort.proofs.Marked.{marked-none}
use Rattle.full_sort.proofs.Cleaning.{clean-counts, clean-marks, spare-clean}
use Rattle.full_sort.proofs.window.order_into.Goals as goal

pub returns-then-place_window-clause-clean : goal.returns-then-place_window-clause-clean
returns-then-place_window-clause-clean g c =
    let waiting : List ℕ = c.place_window.new.waiting in
    let unmarked : (z : ℕ) → Contains c.args.window.now z → is_marked c.place_window.new.marks z ≡ false = (λ z h. All-contains (λ (z : ℕ). is_marked c.place_window.new.marks z ≡ false) c.args.window.now z c.if-place_window.ensures.unmarked h) in
    record {
      no_counts =
          subst (λ (n : ℕ). (t : ℕ) → get_or (set waiting n 0) t 0 ≡ 0) (sym c.nodes.ensures.count)
          (spare-clean c.args.graph.now.nodes waiting (omega arith) (clean-counts c.args.graph.now.edges c.args.graph.now.nodes c.args.window.now waiting c.place_window.new.marks c.if-place_window.ensures.counted unmarked));
      no_marks = clean-marks c.args.graph.now.edges c.args.graph.now.nodes c.args.window.now waiting c.place_window.new.marks c.if-place_window.ensures.counted unmarked;
      empty = c.if-place_window.ensures.empty;
    }

pub returns-then-place_window-clause-ticks : goal.returns-then-place_window-clause-ticks
returns-then-place_window-clause-ticks g c =
    let none = ap (sum_by (out_degree c.args.graph.now.edges)) (marked-none c.place_window.new.marks c.args.window.now (λ z h. All-contains (λ (z : ℕ). is_marked c.place_window.new.marks z ≡ false) c.args.window.now z c.if-place_window.ensures.unmarked h)) in
    let counted = c.count_window.ensures.ticks in
    let placed = c.if-place_window.ensures.ticks in
    omega (arith, none, counted, placed)
