use Rattle.std.proofs.Common.{◌≡◌, ◌∷◌, ◌++◌, [], ℕ, List, refl, sym, ap, ◌∙◌, subst, arith, append-nil}
use Rattle.std.specs.List.{flat_map}
use Rattle.std.proofs.lemmas.List.{append_assoc}
use Rattle.std.proofs.lemmas.List.Concat.{flat_map-cons}
use Rattle.shared_words.specs.declared.racer.Task.{Task}
use Rattle.shared_words.specs.Racers.{RacerState}
use Rattle.shared_words.specs.Tasks.{HasEach}
use Rattle.shared_words.proofs.Gathering.{is_empty, taken_first, ran_there, has_first, has_more}
use Rattle.shared_words.proofs.Moves.{joins}
use Rattle.shared_words.proofs.racing.gather.Goals as goal

pub loop-task-init : goal.loop-task-init
loop-task-init c =
    let f : Task → List ℕ = λ task. task.values.items in
    let first = c.remove-racer.result in
    let count = c.args.tasks.ok.0 in
    let full = c.requires.ran.0 in
    let whole = taken_first c.args.tasks.items c.remove-racer.new.self.items first (omega (arith, count, full)) c.remove-racer.ensures.items c.remove-racer.ensures.value in
    let rest = c.into_iter-task-iterator.result.rest.items in
    let together : first ∷ rest ≡ c.args.tasks.items = ap (λ (l : List Task). first ∷ l) c.into_iter-task-iterator.ensures.into_iter_gives.0 ∙ sym whole in
    let found : c.extend_from_slice.new.self.items ≡ f first = c.in_ok-extend_from_slice.ensures.items ∙ ap (λ (l : List ℕ). l ++ c.as_slice.result.now) c.requires.run ∙ c.as_slice.ensures.value in
    record {
      table = refl;
      has = (first ∷ [], together, has_first c.racer.inside.seat.table_id c.racer.inside.seat.me.0 first c.racer.view_is c.racer.invariant.0.0);
      run = ap (λ (l : List ℕ). l ++ flat_map f rest) found ∙ sym (flat_map-cons f first rest) ∙ ap (flat_map f) together;
    }

pub join_seat-requires : goal.join_seat-requires
join_seat-requires c =
    let z = c.args.words.now.table_id in
    let inv = c.loop-task.invariant in
    let first = c.remove-racer.result in
    let count = c.args.tasks.ok.0 in
    let full = c.requires.ran.0 in
    let whole = taken_first c.args.tasks.items c.remove-racer.new.self.items first (omega (arith, count, full)) c.remove-racer.ensures.items c.remove-racer.ensures.value in
    let first_ran = ran_there z c.args.test.now c.args.tasks.items [] c.remove-racer.new.self.items first (sym whole) c.requires.ran.1 in
    let seat = c.loop-task.seat in
    let other = c.racer-in-loop-task.inside.seat in
    let together = ap (λ (l : List Task). inv.has.0 ++ l) (sym c.in-Some.ensures.steps.0) ∙ inv.has.1 in
    let ran = ran_there z c.args.test.now c.args.tasks.items inv.has.0 c.next.new.self.rest.items c.in-Some.task together c.requires.ran.1 in
    let some_word = c.requires.table in (
      inv.table ∙ ap (λ (r : RacerState). r.table) (c.racer.view_is ∙ first_ran),
      ap (λ (r : RacerState). r.table) (c.racer-in-loop-task.view_is ∙ ran),
      c.racer-in-loop-task.invariant.0.1,
      some_word,
      joins c.args.words.now.key seat.id seat.me.0 other.id other.me.0,
    )

pub loop-task-preserved : goal.loop-task-preserved
loop-task-preserved c =
    let f : Task → List ℕ = λ task. task.values.items in
    let inv = c.loop-task.invariant in
    let task = c.in-Some.task in
    let rest = c.next.new.self.rest.items in
    let taken = c.in-Some.ensures.steps.0 in
    let other = c.racer-in-loop-task.inside.seat in
    let more = has_more other.table_id other.me.0 task c.racer-in-loop-task.view_is c.racer-in-loop-task.invariant.0.0 c.loop-task.seat.me.0 inv.has.0 inv.has.2 in
    let found : c.extend_from_slice-in-loop-task.new.self.items ≡ c.loop-task.run.items ++ f task = c.in_ok-extend_from_slice-2.ensures.items ∙ ap (λ (l : List ℕ). c.loop-task.run.items ++ l) c.as_slice-in-loop-task.ensures.value in
    record {
      table = c.join_seat.ensures.0 ∙ inv.table;
      has = (
        inv.has.0 ++ task ∷ [],
        append_assoc inv.has.0 (task ∷ []) rest ∙ ap (λ (l : List Task). inv.has.0 ++ l) (sym taken) ∙ inv.has.1,
        rw c.join_seat.ensures.2 more,
      );
      run =
          ap (λ (l : List ℕ). l ++ flat_map f rest) found
          ∙ append_assoc c.loop-task.run.items (f task) (flat_map f rest)
          ∙ ap (λ (l : List ℕ). c.loop-task.run.items ++ l) (sym (flat_map-cons f task rest) ∙ ap (flat_map f) (sym taken))
          ∙ inv.run;
    }

pub returns-clause-seat : goal.returns-clause-seat
returns-clause-seat c =
    let z = c.args.words.now.table_id in
    let inv = c.loop-task.invariant in
    let first = c.remove-racer.result in
    let count = c.args.tasks.ok.0 in
    let full = c.requires.ran.0 in
    let whole = taken_first c.args.tasks.items c.remove-racer.new.self.items first (omega (arith, count, full)) c.remove-racer.ensures.items c.remove-racer.ensures.value in
    let first_ran = ran_there z c.args.test.now c.args.tasks.items [] c.remove-racer.new.self.items first (sym whole) c.requires.ran.1 in
    let left = c.loop-task.task-iterator.rest.ok.0 in
    let ended = c.in-None.ensures.steps.0 in
    let none = is_empty c.loop-task.task-iterator.rest.items (omega (arith, left, ended)) in
    let all = sym (append-nil inv.has.0) ∙ ap (λ (l : List Task). inv.has.0 ++ l) (sym none) ∙ inv.has.1 in
    (inv.table ∙ ap (λ (r : RacerState). r.table) (c.racer.view_is ∙ first_ran), subst (HasEach c.loop-task.seat.me.0) all inv.has.2)
