-- Each array has one value at all its places.
use Rattle.std.proofs.Common.{◌≡◌, ◌∙◌, ℕ, ◌+◌, List, Bool, true, false, length, get_or, ap, arith, inl, inr}
use Rattle.std.specs.Prelude.{replicate}
use Rattle.std.proofs.lemmas.Bool.{cases_lt}
use Rattle.std.proofs.lemmas.List.{length-replicate, get_or-replicate, get_or_past}
use Rattle.full_sort.proofs.sorting.Scratch.new.Goals as goal

-- a list of one value has it at each place, and past its end where it is the default
same-at : {A : Type 0} (n t : ℕ) (a : A) → get_or (replicate n a) t a ≡ a
same-at n t a = elim (cases_lt t n) [
  | inl lt ↦ get_or-replicate n t a a lt
  | inr ge ↦ let size = length-replicate n a in get_or_past (replicate n a) t a (omega (arith, size, ge))
]

pub invariant_of-result : goal.invariant_of-result
invariant_of-result c =
    let n : ℕ = c.args.nodes in
    let numbers : c.in_ok-numbers.numbers.items ≡ replicate n 0 = c.in_ok-numbers.ensures.items_if_clones_equal (λ y h. h) in
    let waiting : c.in_ok-waiting.waiting.items ≡ replicate (n + 1) 0 = c.in_ok-waiting.ensures.items_if_clones_equal (λ y h. h) in
    let marks : c.in_ok-marks.marks.items ≡ replicate n false = c.in_ok-marks.ensures.items_if_clones_equal (λ y h. h) in
    let all : c.in_ok-all.all.items ≡ replicate n true = c.in_ok-all.ensures.items_if_clones_equal (λ y h. h) in
    let placed : c.in_ok-placed.placed.items ≡ replicate n 0 = c.in_ok-placed.ensures.items_if_clones_equal (λ y h. h) in
    let queue : c.in_ok-queue.queue.items ≡ replicate n 0 = c.in_ok-queue.ensures.items_if_clones_equal (λ y h. h) in
    let counts : c.in_ok-counts.counts.items ≡ replicate (n + 1) 0 = c.in_ok-counts.ensures.items_if_clones_equal (λ y h. h) in
    let size : length c.in_ok-numbers.numbers.items ≡ n = ap (length {A = ℕ}) numbers ∙ length-replicate n 0 in
    let size_waiting = ap (length {A = ℕ}) waiting ∙ length-replicate (n + 1) 0 in
    let size_marks = ap (length {A = Bool}) marks ∙ length-replicate n false in
    let size_all = ap (length {A = Bool}) all ∙ length-replicate n true in
    let size_placed = ap (length {A = ℕ}) placed ∙ length-replicate n 0 in
    let size_queue = ap (length {A = ℕ}) queue ∙ length-replicate n 0 in
    let size_counts = ap (length {A = ℕ}) counts ∙ length-replicate (n + 1) 0 in
    let room = c.in_ok-ready.ensures.room in
    record {
      no_numbers = λ t. ap (λ (xs : List ℕ). get_or xs t 0) numbers ∙ same-at n t 0;
      clean = record {
        no_counts = λ t. ap (λ (xs : List ℕ). get_or xs t 0) waiting ∙ same-at (n + 1) t 0;
        no_marks = λ t. ap (λ (xs : List Bool). get_or xs t false) marks ∙ same-at n t false;
        empty = c.in_ok-ready.ensures.empty;
      };
      all_marked = λ t lt. ap (λ (xs : List Bool). get_or xs t false) all ∙ get_or-replicate n t true false (omega (arith, lt, size));
      waiting_room = omega (arith, size, size_waiting);
      marks_room = omega (arith, size, size_marks);
      all_room = omega (arith, size, size_all);
      ready_room = omega (arith, size, room);
      placed_room = omega (arith, size, size_placed);
      queue_room = omega (arith, size, size_queue);
      counts_room = omega (arith, size, size_counts);
    }
