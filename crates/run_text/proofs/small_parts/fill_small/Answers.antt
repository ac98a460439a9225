use Rattle.std.proofs.Common.{◌≡◌, ◌∙◌, ◌+◌, ◌-◌, ◌<◌, ◌++◌, [], ◌∷◌, ℕ, List, length, take, sym, subst, arith, true}
use Rattle.std.specs.Prelude.{slice_set}
use Rattle.std.proofs.lemmas.List.{take-set-le, take_more_set}
use Rattle.run_text.specs.Found.{SoFar}
use Rattle.run_text.proofs.Steps.{so_far-small}
use Rattle.run_text.proofs.small_parts.fill_small.Goals as goal

pub loop-place-preserved : goal.loop-place-preserved
loop-place-preserved c =
    let i = c.loop-place.invariant in
    let from = i.from in
    let long = c.loop-place.auto.places in
    let before = c.loop-place-test.true in
    let within : c.loop-place.place < length c.loop-place.places = omega (arith, before, long) in
    let count : c.loop-place.place - c.args.first + 1 ≡ c.loop-place.place + 1 - c.args.first = omega (arith, from) in
    let told = c.in-Some.ensures in
    let step = so_far-small (length c.args.places.now - c.args.first) c.args.bytes.now c.loop-place.left.now (take c.args.first c.args.places.now) (c.loop-place.place - c.args.first)
    (take c.loop-place.place c.loop-place.places) i.read.0 i.read.1 c.in-Some.value c.in-Some.rest.now told.exact told.small told.shorter (omega (arith, from, within, long)) in
    record {
      from = omega (arith, from);
      front = take-set-le c.args.first c.loop-place.places c.loop-place.place c.in-Some.value from ∙ i.front;
      read = (
        i.read.0 ++ c.in-Some.value ∷ [],
        subst (λ (n : ℕ). SoFar (length c.args.places.now - c.args.first) c.args.bytes.now c.in-Some.rest.now (take c.args.first c.args.places.now) (record { count = n; all_fit = true })
            (take (c.loop-place.place + 1) (slice_set c.loop-place.places c.loop-place.place c.in-Some.value)) (i.read.0 ++ c.in-Some.value ∷ [])) count
            (subst (λ (xs : List ℕ). SoFar (length c.args.places.now - c.args.first) c.args.bytes.now c.in-Some.rest.now (take c.args.first c.args.places.now)
            (record { count = c.loop-place.place - c.args.first + 1; all_fit = true }) xs (i.read.0 ++ c.in-Some.value ∷ []))
            (sym (take_more_set c.loop-place.places c.loop-place.place c.in-Some.value within)) step),
      );
    }
