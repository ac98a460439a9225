use Rattle.std.proofs.Common.{◌≡◌, ◌∙◌, ℕ, ◌+◌, ◌*◌, ◌≤◌, List, [], ◌∷◌, ◌++◌, All, length, map, sum, take, refl, sym, ap, subst, arith}
use Rattle.std.proofs.lemmas.List.{length-take-le, take_all, take_more_set}
use Rattle.std.proofs.lemmas.List.Elements.{All-nil, All-push}
use Rattle.std.proofs.lemmas.List.Sums.{sum_by-le, sum_by_push}
use Rattle.orders.specs.Orders.{nodes_below}
use Rattle.tso_machine.specs.Moves.{thread_choices}
use Rattle.tso_machine.proofs.ListChanges.{map_below_more}
use Rattle.tso_machine.proofs.buffered.count_all.Goals as goal

pub loop-thread-init : goal.loop-thread-init
loop-thread-init c = record { counts = λ steps s. refl; few = All-nil (λ (n : ℕ). n ≤ 2049); total = refl }

times : (a b c : ℕ) → a ≤ b → a * c ≤ b * c
times a b c le = grind arith

pub overflow_add-total : goal.overflow_add-total
overflow_add-total c =
    let end = c.threads-thread-end.ensures.count in
    let threads = c.threads-thread-end.ensures.few in
    let below = c.loop-thread-test.true in
    let long = c.loop-thread.auto.counts in
    let given = c.requires in
    let part = length-take-le c.loop-thread.thread c.loop-thread.counts (omega (arith, end, below, long, given)) in
    let le = sum_by-le (λ (n : ℕ). n) 2049 (take c.loop-thread.thread c.loop-thread.counts) c.loop-thread.invariant.few in
    let most = times (length (take c.loop-thread.thread c.loop-thread.counts)) 16 2049 (omega (arith, part, below, threads)) in
    let total = c.loop-thread.invariant.total in
    let few = c.count_choices-count.ensures.few in
    omega (arith, le, most, total, few)

pub loop-thread-preserved : goal.loop-thread-preserved
loop-thread-preserved c =
    let t = c.loop-thread.thread in
    let count = c.count_choices-count.result in
    let end = c.threads-thread-end.ensures.count in
    let below = c.loop-thread-test.true in
    let long = c.loop-thread.auto.counts in
    let given = c.requires in
    let more = take_more_set c.loop-thread.counts t count (omega (arith, end, below, long, given)) in
    record {
      counts = λ steps s.
          more
          ∙ ap (λ (xs : List ℕ). xs ++ count ∷ []) (c.loop-thread.invariant.counts steps s)
          ∙ ap (λ (n : ℕ). map (λ t. length (thread_choices c.args.playing.now.setup steps t)) (nodes_below t) ++ n ∷ []) (c.count_choices-count.ensures.count steps s)
          ∙ sym (map_below_more (λ t. length (thread_choices c.args.playing.now.setup steps t)) t);
      few = subst (All (λ (n : ℕ). n ≤ 2049)) (sym more) (All-push (λ (n : ℕ). n ≤ 2049) (take t c.loop-thread.counts) count c.loop-thread.invariant.few c.count_choices-count.ensures.few);
      total = ap (λ (n : ℕ). n + count) c.loop-thread.invariant.total ∙ sym (sum_by_push (λ (n : ℕ). n) (take t c.loop-thread.counts) count) ∙ sym (ap sum more);
    }

pub returns-clause-counts : goal.returns-clause-counts
returns-clause-counts c = λ steps s.
    let end = c.threads-thread-end.ensures.count in
    let at = c.loop-thread.auto.thread-end in
    let past = c.loop-thread-test.false in
    let long = c.loop-thread.auto.counts in
    let given = c.requires in
    let all : c.loop-thread.thread ≡ length c.args.playing.now.setup.test.threads = omega (arith, end, at, past) in
    sym (take_all c.loop-thread.thread c.loop-thread.counts (omega (arith, all, long, given)))
    ∙ c.loop-thread.invariant.counts steps s
    ∙ ap (λ (n : ℕ). map (λ t. length (thread_choices c.args.playing.now.setup steps t)) (nodes_below n)) all

pub returns-clause-few : goal.returns-clause-few
returns-clause-few c =
    let end = c.threads-thread-end.ensures.count in
    let past = c.loop-thread-test.false in
    let long = c.loop-thread.auto.counts in
    let given = c.requires in
    subst (All (λ (n : ℕ). n ≤ 2049)) (take_all c.loop-thread.thread c.loop-thread.counts (omega (arith, end, past, long, given))) c.loop-thread.invariant.few

pub returns-clause-total : goal.returns-clause-total
returns-clause-total c =
    let end = c.threads-thread-end.ensures.count in
    let past = c.loop-thread-test.false in
    let long = c.loop-thread.auto.counts in
    let given = c.requires in
    c.loop-thread.invariant.total ∙ ap sum (take_all c.loop-thread.thread c.loop-thread.counts (omega (arith, end, past, long, given)))
