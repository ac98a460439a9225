use Rattle.std.proofs.Common.{◌≡◌, ◌∙◌, ◌++◌, [], ℕ, List, ap, subst, sym}
use Rattle.std.proofs.lemmas.List.{append-nil}
use Rattle.std.specs.Prelude.{IsPermutation}
use Rattle.tally.specs.declared.outcome.Outcome.{Outcome}
use Rattle.tally.specs.Counting.{CanCount, all_rows, with_rows}
use Rattle.tally.proofs.Each.{CanCount-behind, CanCount-permutation, CanCount-queue}
use Rattle.tally.proofs.counter.empty_batch.Goals as goal

pub count_queue-requires : goal.count_queue-requires
count_queue-requires c = CanCount-queue c.args.tally.now c.args.queue.now.rows c.args.batch.now.rows c.requires.can

pub returns-in_err-count_queue-clause-sound : goal.returns-in_err-count_queue-clause-sound
returns-in_err-count_queue-clause-sound c =
    (CanCount-behind c.args.tally.now c.args.queue.now.rows c.args.batch.now.rows c.requires.can c.count_queue.new.tally c.count_queue.new.queue.rows c.count_queue.ensures.sound c.count_queue.ensures.same).0

pub returns-in_err-count_queue-clause-same : goal.returns-in_err-count_queue-clause-same
returns-in_err-count_queue-clause-same c =
    (CanCount-behind c.args.tally.now c.args.queue.now.rows c.args.batch.now.rows c.requires.can c.count_queue.new.tally c.count_queue.new.queue.rows c.count_queue.ensures.sound c.count_queue.ensures.same).1

pub returns-in_err-take_rows-clause-sound : goal.returns-in_err-take_rows-clause-sound
returns-in_err-take_rows-clause-sound c =
    rw (c.in_err-take_rows.ensures.refused, c.in_err-take_rows.ensures.batch_refused)
    (CanCount-behind c.args.tally.now c.args.queue.now.rows c.args.batch.now.rows c.requires.can c.count_queue.new.tally c.count_queue.new.queue.rows c.count_queue.ensures.sound c.count_queue.ensures.same).0

pub returns-in_err-take_rows-clause-same : goal.returns-in_err-take_rows-clause-same
returns-in_err-take_rows-clause-same c =
    rw (c.in_err-take_rows.ensures.refused, c.in_err-take_rows.ensures.batch_refused)
    (CanCount-behind c.args.tally.now c.args.queue.now.rows c.args.batch.now.rows c.requires.can c.count_queue.new.tally c.count_queue.new.queue.rows c.count_queue.ensures.sound c.count_queue.ensures.same).1

-- once the queue is counted, and has taken the rows of the batch
taken : (pairs new : List (Outcome × ℕ)) (queue batch empty rows : List (List ℕ × ℕ)) → CanCount pairs (all_rows (queue ++ batch)) → CanCount new (all_rows empty) → with_rows new (all_rows empty) ≡ with_rows pairs (all_rows queue)
    → empty ≡ [] → IsPermutation batch rows → CanCount new (all_rows rows) × (with_rows new (all_rows rows) ≡ with_rows pairs (all_rows (queue ++ batch)))
taken pairs new queue batch empty rows can counted same is_empty p =
    let behind = CanCount-behind pairs queue batch can new empty counted same in
    let only : CanCount new (all_rows batch) = subst (λ es. CanCount new (all_rows (es ++ batch))) is_empty behind.0 in
    let permuted = CanCount-permutation new batch rows only p in
    (permuted.0, permuted.1 ∙ ap (λ es. with_rows new (all_rows (es ++ batch))) (sym is_empty) ∙ behind.1)

pub count_queue-requires-2 : goal.count_queue-requires-2
count_queue-requires-2 c =
    (taken c.args.tally.now c.count_queue.new.tally c.args.queue.now.rows c.args.batch.now.rows c.count_queue.new.queue.rows c.take_rows.new.self.rows c.requires.can c.count_queue.ensures.sound c.count_queue.ensures.same
    c.in_ok-count_queue.ensures.emptied c.in_ok-take_rows.ensures.taken).0

pub returns-clause-same : goal.returns-clause-same
returns-clause-same c =
    let counted = taken c.args.tally.now c.count_queue.new.tally c.args.queue.now.rows c.args.batch.now.rows c.count_queue.new.queue.rows c.take_rows.new.self.rows c.requires.can c.count_queue.ensures.sound c.count_queue.ensures.same
    c.in_ok-count_queue.ensures.emptied c.in_ok-take_rows.ensures.taken in
    let none : c.count_queue-2.new.queue.rows ++ c.take_rows.new.batch.rows ≡ c.count_queue-2.new.queue.rows =
    ap (λ es. c.count_queue-2.new.queue.rows ++ es) c.in_ok-take_rows.ensures.emptied ∙ append-nil c.count_queue-2.new.queue.rows in
    ap (λ es. with_rows c.count_queue-2.new.tally (all_rows es)) none ∙ c.count_queue-2.ensures.same ∙ counted.1
