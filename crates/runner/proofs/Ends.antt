-- What runners gave back, and what is put of it.
use Rattle.std.proofs.Common.{◌≡◌, ◌≢◌, ◌∙◌, ℕ, zero, suc, ◌<◌, ◌≤◌, List, [], ◌∷◌, ◌++◌, map, length, Some, false, refl, sym, ap, subst, ⊎_elim, arith}
use Rattle.std.specs.Prelude.{slice_get, slice_index, slice_index_or}
use Rattle.std.proofs.lemmas.Bool.{cases_lt}
use Rattle.std.proofs.lemmas.Option.{same_Some}
use Rattle.tally.specs.declared.entered.Entered.{Entered}
use Rattle.tally.specs.declared.outcome.Outcome.{Outcome}
use Rattle.tally.specs.Histories.{added_by, BeginsWith}
use Rattle.turn_set.specs.Passes.{PassState, SetIdentity, AreAllOf, IsPassOf}
use Rattle.turn_set.proofs.Dealt.{get_within}
use Rattle.turn_set.proofs.Histories.{added_by-append}
use Rattle.runner.specs.declared.job.Job.{Job}
use Rattle.runner.specs.declared.task.Ran.{Ran}
use Rattle.runner.specs.Runners.{AreOutcomesOf, HasPut, HasRun, HaveRun, LateIsBusy, batch_of}
use Rattle.runner.proofs.Puts.{get_behind}

abbrev passes_of : List Ran → List PassState
passes_of rans = map (λ (ran : Ran). ran.pass) rans

abbrev batches_of : List Ran → List (List Outcome)
batches_of rans = map (λ batch. batch.items) (map (λ (ran : Ran). ran.batch) rans)

at_ran : (P : ℕ → Ran → Type 0) (rans : List Ran) → ((k : ℕ) (d : Ran) → k < length rans → P k (slice_index_or rans k d)) → (k : ℕ) (p : PassState) → slice_get (passes_of rans) k ≡ Some p
    → (ran : Ran) × P k ran × (ran.pass ≡ p) × (batch_of (batches_of rans) k ≡ ran.batch.items)
at_ran P [] all k p e = absurd cc
at_ran P (ran ∷ rans) all zero p e = (ran, all zero ran (omega arith), same_Some ran.pass p e, refl)
at_ran P (ran ∷ rans) all (suc k) p e = at_ran (λ j. P (suc j)) rans (λ j d low. all (suc j) d (omega (arith, low))) k p e

length-passes : (rans : List Ran) → length (passes_of rans) ≡ length rans
length-passes [] = refl
length-passes (ran ∷ rans) = ap suc (length-passes rans)

batch-past : (rans : List Ran) (k : ℕ) → length rans ≤ k → batch_of (batches_of rans) k ≡ []
batch-past [] k le = refl
batch-past (ran ∷ rans) zero le = absurd (omega (arith, le))
batch-past (ran ∷ rans) (suc k) le = batch-past rans k (omega (arith, le))

index-map : (f : PassState → ℕ) (ps : List PassState) (k : ℕ) (p : PassState) → slice_get ps k ≡ Some p → slice_index (map f ps) k ≡ f p
index-map f [] k p e = absurd cc
index-map f (q ∷ ps) zero p e = ap f (same_Some q p e)
index-map f (q ∷ ps) (suc k) p e = index-map f ps k p e

module _ (job : Job) (set : SetIdentity) (runners : ℕ) (rans : List Ran) (have : HaveRun job set runners rans) (ok : (k : ℕ) (d : Ran) → k < length rans → (slice_index_or rans k d).failed ≡ false) (all : length rans ≡ runners) (many : set.passes ≡ runners) where
  at : (k : ℕ) (p : PassState) → slice_get (passes_of rans) k ≡ Some p → (ran : Ran) × (HasRun job set runners k ran × (ran.failed ≡ false)) × (ran.pass ≡ p) × (batch_of (batches_of rans) k ≡ ran.batch.items)
  at = at_ran (λ k ran. HasRun job set runners k ran × (ran.failed ≡ false)) rans (λ k d low. (have k d low, ok k d low))

  pub all_passes : AreAllOf set (passes_of rans)
  all_passes = record {
    length = length-passes rans ∙ all ∙ sym many;
    each = λ k p e. let q = at k p e in (ap (λ (s : PassState). s.number) (sym q.2) ∙ q.1.0.number, subst (IsPassOf set) q.2 q.1.0.pass);
  }

  module _ (history longer : List Entered) (put : HasPut history (batches_of rans) longer) where
    pub outcomes_are : ((k : ℕ) (p : PassState) → slice_get (passes_of rans) k ≡ Some p → (added_by history k ≡ p.list) × BeginsWith history p.front) → (k : ℕ) → k < runners → AreOutcomesOf job runners k (added_by longer k)
    outcomes_are lists k low =
        let many_passes = length-passes rans in
        let p = get_within (passes_of rans) k (omega (arith, many_passes, all, low)) in
        let q = at k p.0 p.1 in
        let list : added_by history k ≡ q.0.pass.list = (lists k p.0 p.1).0 ∙ ap (λ (s : PassState). s.list) (sym q.2) in
        let whole : added_by longer k ≡ q.0.pass.list ++ q.0.batch.items =
        ap (λ (l : List Entered). added_by l k) put.is ∙ added_by-append history put.rest k
        ∙ ap (λ (l : List Outcome). l ++ added_by put.rest k) list
        ∙ ap (λ (l : List Outcome). q.0.pass.list ++ l) (put.above k (omega arith) ∙ q.3) in
        subst (AreOutcomesOf job runners k) (sym whole) (q.1.0.all q.1.1)

    pub others_are : ((k : ℕ) → set.passes ≤ k → added_by history k ≡ []) → (k : ℕ) → runners ≤ k → added_by longer k ≡ []
    others_are others k le =
        ap (λ (l : List Entered). added_by l k) put.is ∙ added_by-append history put.rest k
        ∙ ap (λ (l : List Outcome). l ++ added_by put.rest k) (others k (omega (arith, many, le)))
        ∙ (put.above k (omega arith) ∙ batch-past rans k (omega (arith, all, le)))

    pub late_are : (finished_length : ℕ) (busy : List ℕ) → finished_length ≡ length history → busy ≡ map (λ (p : PassState). p.busy) (passes_of rans) → LateIsBusy record { history = longer; finished_length = finished_length; busy = busy }
    late_are finished_length busy long is = λ i e late there.
        let behind = get_behind history put.rest i e (omega (arith, long, late)) (ap (λ (l : List Entered). slice_get l i) (sym put.is) ∙ there) in
        ⊎_elim (λ (low : e.pass < runners). busy_at e.pass (put.some_left behind.0 e behind.1) low)
        (λ (past : runners ≤ e.pass). absurd (put.some_left behind.0 e behind.1 (batch-past rans e.pass (omega (arith, all, past)))))
        (cases_lt e.pass runners)
      where
        busy_at : (k : ℕ) → batch_of (batches_of rans) k ≢ [] → k < runners → 1 ≤ slice_index busy k
        busy_at k some_left low =
            let many_passes = length-passes rans in
            let p = get_within (passes_of rans) k (omega (arith, many_passes, all, low)) in
            let q = at k p.0 p.1 in
            ⊎_elim
            (λ (none : q.0.batch.items ≡ []). absurd (some_left (q.3 ∙ none)))
            (λ (one : 1 ≤ q.0.pass.busy).
            subst (λ (m : ℕ). 1 ≤ m) (ap (λ (s : PassState). s.busy) q.2 ∙ sym (index-map (λ (s : PassState). s.busy) (passes_of rans) k p.0 p.1) ∙ ap (λ (l : List ℕ). slice_index l k) (sym is)) one)
            (q.1.0.late q.1.1)
