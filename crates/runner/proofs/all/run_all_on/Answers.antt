use Rattle.std.proofs.Common.{◌≡◌, ◌∙◌, ◌<◌, ℕ, List, length, map, false, Some, sym, ap, subst}
use Rattle.std.specs.Prelude.{slice_get, slice_index_or}
use Rattle.tally.specs.Histories.{added_by, BeginsWith}
use Rattle.turn_set.specs.Passes.{PassState, AreAllOf}
use Rattle.runner.specs.declared.task.Ran.{Ran}
use Rattle.runner.specs.Runners.{HasPut}
use Rattle.runner.proofs.Ends.{all_passes, late_are, others_are, outcomes_are}
use Rattle.runner.proofs.Played.{tally_of_all}
use Rattle.runner.proofs.all.run_all_on.Goals as goal

pub finish-finished-requires : goal.finish-finished-requires
finish-finished-requires g c =
    let job = c.args.job.now in
    let set = c.in_ok-set.set in
    let rans = c.in_ok-rans.rans.items in
    let have = c.in_ok-rans.ensures.1 in
    let many = c.in_ok-set.ensures.passes in
    let ok = subst (λ (l : List Ran). (k : ℕ) (d : Ran) → k < length l → (slice_index_or l k d).failed ≡ false) c.deref.ensures.value (c.any_failed.ensures c.if-any_failed.false) in
    let all : length rans ≡ c.args.runners = sym c.in_ok-rans.rans.ok.0 ∙ c.in_ok-rans.ensures.0 in
    subst (AreAllOf set) (sym c.part.ensures.passes) (all_passes job set c.args.runners rans have ok all many)

pub returns-clause-passes : goal.returns-clause-passes
returns-clause-passes g c =
    let job = c.args.job.now in
    let set = c.in_ok-set.set in
    let rans = c.in_ok-rans.rans.items in
    let have = c.in_ok-rans.ensures.1 in
    let many = c.in_ok-set.ensures.passes in
    let ok = subst (λ (l : List Ran). (k : ℕ) (d : Ran) → k < length l → (slice_index_or l k d).failed ≡ false) c.deref.ensures.value (c.any_failed.ensures c.if-any_failed.false) in
    let all : length rans ≡ c.args.runners = sym c.in_ok-rans.rans.ok.0 ∙ c.in_ok-rans.ensures.0 in
    let history = c.finish-finished.result.history in
    let longer = c.put_all.new.finished.history in
    let put = subst (λ batches. HasPut history (map (λ batch. batch.items) batches) longer) c.part.ensures.batches c.in_ok-put_all.ensures.put in
    let lists = subst (λ (l : List PassState). (k : ℕ) (p : PassState) → slice_get l k ≡ Some p → (added_by history k ≡ p.list) × BeginsWith history p.front) c.part.ensures.passes c.finish-finished.ensures.lists in
    outcomes_are job set c.args.runners rans have ok all many history longer put lists

pub returns-clause-others : goal.returns-clause-others
returns-clause-others g c =
    let job = c.args.job.now in
    let set = c.in_ok-set.set in
    let rans = c.in_ok-rans.rans.items in
    let have = c.in_ok-rans.ensures.1 in
    let many = c.in_ok-set.ensures.passes in
    let ok = subst (λ (l : List Ran). (k : ℕ) (d : Ran) → k < length l → (slice_index_or l k d).failed ≡ false) c.deref.ensures.value (c.any_failed.ensures c.if-any_failed.false) in
    let all : length rans ≡ c.args.runners = sym c.in_ok-rans.rans.ok.0 ∙ c.in_ok-rans.ensures.0 in
    let history = c.finish-finished.result.history in
    let longer = c.put_all.new.finished.history in
    let put = subst (λ batches. HasPut history (map (λ batch. batch.items) batches) longer) c.part.ensures.batches c.in_ok-put_all.ensures.put in
    others_are job set c.args.runners rans have ok all many history longer put c.finish-finished.ensures.others

pub returns-clause-late : goal.returns-clause-late
returns-clause-late g c =
    let job = c.args.job.now in
    let set = c.in_ok-set.set in
    let rans = c.in_ok-rans.rans.items in
    let have = c.in_ok-rans.ensures.1 in
    let many = c.in_ok-set.ensures.passes in
    let ok = subst (λ (l : List Ran). (k : ℕ) (d : Ran) → k < length l → (slice_index_or l k d).failed ≡ false) c.deref.ensures.value (c.any_failed.ensures c.if-any_failed.false) in
    let all : length rans ≡ c.args.runners = sym c.in_ok-rans.rans.ok.0 ∙ c.in_ok-rans.ensures.0 in
    let history = c.finish-finished.result.history in
    let longer = c.put_all.new.finished.history in
    let put = subst (λ batches. HasPut history (map (λ batch. batch.items) batches) longer) c.part.ensures.batches c.in_ok-put_all.ensures.put in
    let same = c.in_ok-put_all.ensures.same in
    let kept = c.finish-finished.ensures.kept in
    late_are job set c.args.runners rans have ok all many history longer put c.put_all.new.finished.finished_length c.put_all.new.finished.busy (same.0 ∙ kept.0)
    (same.1 ∙ kept.1 ∙ ap (λ (l : List PassState). map (λ (p : PassState). p.busy) l) c.part.ensures.passes)

pub returns-clause-tally : goal.returns-clause-tally
returns-clause-tally g c =
    let job = c.args.job.now in
    let set = c.in_ok-set.set in
    let rans = c.in_ok-rans.rans.items in
    let have = c.in_ok-rans.ensures.1 in
    let many = c.in_ok-set.ensures.passes in
    let ok = subst (λ (l : List Ran). (k : ℕ) (d : Ran) → k < length l → (slice_index_or l k d).failed ≡ false) c.deref.ensures.value (c.any_failed.ensures c.if-any_failed.false) in
    let all : length rans ≡ c.args.runners = sym c.in_ok-rans.rans.ok.0 ∙ c.in_ok-rans.ensures.0 in
    let history = c.finish-finished.result.history in
    let longer = c.put_all.new.finished.history in
    let put = subst (λ batches. HasPut history (map (λ batch. batch.items) batches) longer) c.part.ensures.batches c.in_ok-put_all.ensures.put in
    let lists = subst (λ (l : List PassState). (k : ℕ) (p : PassState) → slice_get l k ≡ Some p → (added_by history k ≡ p.list) × BeginsWith history p.front) c.part.ensures.passes c.finish-finished.ensures.lists in
    λ pairs stands.
    tally_of_all job c.args.runners longer pairs c.requires.runners.0 c.keeps_limits.ensures (outcomes_are job set c.args.runners rans have ok all many history longer put lists)
    (others_are job set c.args.runners rans have ok all many history longer put c.finish-finished.ensures.others) stands
