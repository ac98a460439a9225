use Rattle.std.proofs.Common.{◌≡◌, ◌≤◌, ◌<◌, ◌+◌, ◌∷◌, ◌++◌, [], ℕ, List, length, slice_index_or, sym, ap, ◌∙◌, subst, arith, length-append}
use Rattle.atomic_table.specs.Table.{Me, Splits}
use Rattle.test_lang.specs.Program.{thread_length}
use Rattle.shared_words.specs.declared.racer.Task.{Task}
use Rattle.shared_words.specs.declared.rule.View.{View}
use Rattle.shared_words.specs.Racers.{racer_state}
use Rattle.shared_words.specs.Rule.{Holds, maker_of, maker_after, newcomer}
use Rattle.shared_words.specs.Tasks.{IsReady}
use Rattle.shared_words.proofs.Gathering.{all_push, fresh_other}
use Rattle.shared_words.proofs.Moves.{splits}
use Rattle.shared_words.proofs.racing.deal.Goals as goal

pub split_seat-seat-requires : goal.split_seat-seat-requires
split_seat-seat-requires c =
    let inv = c.loop-number.invariant in
    let first = c.loop-number.first in
    let view : first.me.0 ≡ maker_of c.loop-number.number = ap (λ (m : Me ℕ View). m.0) inv.first in
    let low = c.loop-number.auto.number in (
      inv.same ∙ c.requires.table.0,
      c.requires.table.1,
      subst (λ (v : View). Splits (Holds c.args.words.now.key) first.id v (maker_after v) (newcomer v.made)) (sym view)
          (splits c.args.words.now.key first.id (maker_of c.loop-number.number) (λ (e : c.loop-number.number ≡ 0). omega (arith, e, low))),
    )

pub loop-number-preserved : goal.loop-number-preserved
loop-number-preserved c =
    let inv = c.loop-number.invariant in
    let z = c.args.words.now.table_id in
    let p = c.args.test.now in
    let n = c.loop-number.number in
    let before = c.loop-number.tasks.items in
    let count = inv.count in
    let split = c.split_seat-seat.ensures in
    let view = ap (λ (m : Me ℕ View). m.0) inv.first in
    let k = length before in
    let table : c.split_seat-seat.result.table_id ≡ z = split.3 ∙ inv.same ∙ c.requires.table.0 in
    let newest : c.split_seat-seat.result.me.0 ≡ newcomer (k + 1) = ap (λ (m : Me ℕ View). m.0) split.4 ∙ ap (λ (v : View). newcomer v.made) view ∙ ap newcomer (sym count) in
    let long = c.len_of.ensures.count ∙ ap (thread_length p) (sym count) in
    let capacity = c.in_ok-values.ensures.capacity in
    let task : Task = record { racer = racer_state c.split_seat-seat.result.table_id c.split_seat-seat.result.me.0; values = c.in_ok-values.values } in
    let pushed : c.push_reserved.new.self.items ≡ before ++ task ∷ [] = c.push_reserved.ensures.items in
    let more = ap length pushed ∙ length-append before (task ∷ []) in
    record {
      same = split.0 ∙ inv.same;
      first = split.2 ∙ ap (λ (m : Me ℕ View). (maker_after m.0, m.1)) inv.first;
      count = omega (arith, more, count);
      ready = subst (λ (ts : List Task). (k : ℕ) (d : Task) → k < length ts → IsReady z p (k + 1) (slice_index_or ts k d)) (sym pushed)
          (all_push (λ k task. IsReady z p (k + 1) task) before task inv.ready
          record { racer = (λ i. racer_state (table i) (newest i)) ∙ fresh_other z (length p.threads) k; values = c.in_ok-values.ensures.items; room = omega (arith, long, capacity) });
      room = subst (λ (k : ℕ). length p.threads ≤ k) (sym c.push_reserved.ensures.capacity) inv.room;
    }
