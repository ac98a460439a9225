-- What all shares come to is the verdicts and the work of the whole.
use Rattle.std.proofs.Common.{◌≡◌, ◌⊎◌, ◌∙◌, ℕ, suc, ◌+◌, ◌*◌, ◌/◌, ◌%◌, ◌<◌, ◌≤◌, List, [], ◌∷◌, Contains, map, length, get_or, replicate, refl, sym, ap, subst, arith, inl, inr}
use Rattle.std.specs.Prelude.{◌≢◌}
use Rattle.std.specs.Fork.{slice_chunk}
use Rattle.std.specs.Int.{div_ceil}
use Rattle.std.specs.List.{AllByRecursion, AllZip, sum_by}
use Rattle.std.proofs.lemmas.Bool.{cases_lt}
use Rattle.std.proofs.lemmas.Grind.{div_ceil_times}
use Rattle.std.proofs.lemmas.List.{get_or-replicate, length-replicate}
use Rattle.std.proofs.lemmas.List.Elements.{All-from_recursion}
use Rattle.std.proofs.lemmas.Nat.{div-add-mod', div_below, mod_below, row_fits}
use Rattle.graph_model.specs.StaticGraph.{StaticGraph}
use Rattle.verdict_report.specs.declared.report.Judged.{Judged}
use Rattle.verdict_report.specs.declared.report.Judged.TheVariants.{Ok}
use Rattle.window_resort.specs.declared.verdicts.Verdict.{Verdict}
use Rattle.window_resort.specs.Walks.{WalkWork, work_of}
use Rattle.chunk_pool.specs.declared.share.CycleAt.{CycleAt}
use Rattle.chunk_pool.specs.declared.share.Share.{Share}
use Rattle.chunk_pool.specs.Chunks.{IsWalked, IsWorkInChunks, sum_below}
use Rattle.chunk_pool.specs.Shares.{AreFound, IsJudgedAt, IsSettled, IsShare, put_shares, sum_counts}
use Rattle.chunk_pool.specs.Verdicts.{IsJudged}
use Rattle.chunk_pool.proofs.Putting.{length-put_shares, put-all}
use Rattle.chunk_pool.proofs.Sums.{sum_by_places, sum_of_rests, sum_same}

pub zip_by_places : {A B : Type 0} (R : A → B → Type 0) (xs : List A) (ys : List B) (d : A) (e : B) → length ys ≡ length xs → ((k : ℕ) → k < length xs → R (get_or xs k d) (get_or ys k e)) → AllZip R xs ys
zip_by_places R [] [] d e long each = tt
zip_by_places R [] (y ∷ ys) d e long each = absurd (omega (arith, long))
zip_by_places R (x ∷ xs) [] d e long each = absurd (omega (arith, long))
zip_by_places R (x ∷ xs) (y ∷ ys) d e long each = (each 0 (omega arith), zip_by_places R xs ys d e (omega (arith, long)) (λ k below. each (suc k) (omega (arith, below))))

all_by_places : {X : Type 0} (P : X → Type 0) (xs : List X) (d : X) → ((k : ℕ) → k < length xs → P (get_or xs k d)) → AllByRecursion P xs
all_by_places P [] d each = tt
all_by_places P (x ∷ xs) d each = (each 0 (omega arith), all_by_places P xs d (λ k below. each (suc k) (omega (arith, below))))

module _ (s : StaticGraph) (signatures : List (List ℕ)) (chunk workers : ℕ) (some_chunk : 0 < chunk) (some_worker : 0 < workers) (shares : List Share) (d : Share) (long : length shares ≡ workers)
    (each : (worker : ℕ) → worker < workers → (end : ℕ) × (div_ceil (length signatures) chunk ≤ end) × IsShare s signatures chunk workers worker end (get_or shares worker d)) where
  abbrev total : ℕ
  total = div_ceil (length signatures) chunk

  abbrev Has : ℕ → Type 0
  Has worker = (end : ℕ) × (total ≤ end) × IsShare s signatures chunk workers worker end (get_or shares worker d)

  held : (worker : ℕ) → Has worker ⊎ (workers ≤ worker)
  held worker = elim (cases_lt worker workers) [ inl below ↦ inl (each worker below) | inr past ↦ inr past ]

  abbrev verdicts_held : (worker : ℕ) → Has worker ⊎ (workers ≤ worker) → ℕ → List Verdict
  verdicts_held worker (inl h) number = h.2.verdicts number
  verdicts_held worker (inr past) number = []

  others_held : (worker number : ℕ) (x : Has worker ⊎ (workers ≤ worker)) → number % workers ≢ worker → verdicts_held worker x number ≡ []
  others_held worker number (inl h) apart = h.2.others number apart
  others_held worker number (inr past) apart = refl

  walked_held : (worker number : ℕ) (x : Has worker ⊎ (workers ≤ worker)) → worker < workers → number < total → number * chunk < length signatures → number % workers ≡ worker
      → IsWalked s.model s.test (slice_chunk signatures chunk number) (verdicts_held worker x number)
  walked_held worker number (inl h) here below inside own =
      let last = h.1 in
      h.2.walked number (omega (arith, below, last)) inside own
  walked_held worker number (inr past) here below inside own = absurd (omega (arith, past, here))

  abbrev counted_by : (WalkWork → ℕ) → (worker : ℕ) → Has worker ⊎ (workers ≤ worker) → ℕ
  counted_by f worker x = sum_below (λ number. f (work_of (verdicts_held worker x number))) total

  full_held : (worker : ℕ) (x : Has worker ⊎ (workers ≤ worker)) → worker < workers → (get_or shares worker d).counts.full ≡ counted_by (λ work. work.full) worker x
  full_held worker (inl h) here = h.2.full
  full_held worker (inr past) here = absurd (omega (arith, past, here))

  kept_held : (worker : ℕ) (x : Has worker ⊎ (workers ≤ worker)) → worker < workers → (get_or shares worker d).counts.kept ≡ counted_by (λ work. work.kept) worker x
  kept_held worker (inl h) here = h.2.kept
  kept_held worker (inr past) here = absurd (omega (arith, past, here))

  resorted_held : (worker : ℕ) (x : Has worker ⊎ (workers ≤ worker)) → worker < workers → (get_or shares worker d).counts.resorted ≡ counted_by (λ work. work.resorted) worker x
  resorted_held worker (inl h) here = h.2.resorted
  resorted_held worker (inr past) here = absurd (omega (arith, past, here))

  nodes_held : (worker : ℕ) (x : Has worker ⊎ (workers ≤ worker)) → worker < workers → (get_or shares worker d).counts.nodes ≡ counted_by (λ work. work.nodes) worker x
  nodes_held worker (inl h) here = h.2.nodes
  nodes_held worker (inr past) here = absurd (omega (arith, past, here))

  -- the verdicts of each chunk, which its worker has
  abbrev verdicts : ℕ → List Verdict
  verdicts number = verdicts_held (number % workers) (held (number % workers)) number

  counts_of : (f : WalkWork → ℕ) (count : Share → ℕ) → f (work_of []) ≡ 0 → ((worker : ℕ) → worker < workers → count (get_or shares worker d) ≡ counted_by f worker (held worker))
      → sum_by count shares ≡ sum_below (λ number. f (work_of (verdicts number))) total
  counts_of f count none at =
      sum_by_places count shares d
      ∙ ap (λ (n : ℕ). sum_below (λ worker. count (get_or shares worker d)) n) long
      ∙ sum_same (λ worker. count (get_or shares worker d)) (λ worker. counted_by f worker (held worker)) workers at
      ∙ sum_of_rests (λ worker number. f (work_of (verdicts_held worker (held worker) number))) workers total some_worker
      (λ worker number apart. ap (λ (vs : List Verdict). f (work_of vs)) (others_held worker number (held worker) apart) ∙ none)

  starts_inside : (number rows n : ℕ) → number < rows → rows * chunk < n + chunk → number * chunk < n
  starts_inside number rows n below covers =
      let fits = row_fits number chunk rows chunk below (omega arith) in
      omega (arith, fits, covers)

  pub whole_work : IsWorkInChunks s.model s.test chunk signatures (record {
    chunks = div_ceil (length signatures) chunk;
    full = (sum_counts shares).full;
    kept = (sum_counts shares).kept;
    resorted = (sum_counts shares).resorted;
    nodes = (sum_counts shares).nodes;
  })
  whole_work = record {
    chunks = refl;
    verdicts = verdicts;
    walked = λ number below. walked_held (number % workers) number (held (number % workers)) (mod_below number workers some_worker) below
        (starts_inside number total (length signatures) below (div_ceil_times (length signatures) chunk some_chunk).1) refl;
    full = counts_of (λ work. work.full) (λ share. share.counts.full) refl (λ worker here. full_held worker (held worker) here);
    kept = counts_of (λ work. work.kept) (λ share. share.counts.kept) refl (λ worker here. kept_held worker (held worker) here);
    resorted = counts_of (λ work. work.resorted) (λ share. share.counts.resorted) refl (λ worker here. resorted_held worker (held worker) here);
    nodes = counts_of (λ work. work.nodes) (λ share. share.counts.nodes) refl (λ worker here. nodes_held worker (held worker) here);
  }

  below_rows : (n place rows : ℕ) → n ≤ rows * chunk → place < n → place < rows * chunk
  below_rows n place rows le below = omega (arith, le, below)

  settled_at : (place : ℕ) → place < length signatures → (worker : ℕ) × (worker < workers) × IsSettled s signatures (get_or shares worker d).cycles.items place
  settled_at place below =
      let number = place / chunk in
      let row = div-add-mod' place chunk in
      let rest = mod_below place chunk some_chunk in
      let within : number < total = div_below place chunk total some_chunk (below_rows (length signatures) place total (div_ceil_times (length signatures) chunk some_chunk).0 below) in
      let here = mod_below number workers some_worker in
      let h = each (number % workers) here in
      let last = h.1 in
      (number % workers, here, h.2.settled number place (omega (arith, within, last)) refl (omega (arith, row)) (omega (arith, row, rest)) below)

  all_found : AllByRecursion (λ share. AreFound s signatures share.cycles.items) shares
  all_found = all_by_places (λ share. AreFound s signatures share.cycles.items) shares d (λ k below. (each k (subst (λ (n : ℕ). k < n) long below)).2.sound.found)

  abbrev none_yet : List Judged
  none_yet = replicate (length signatures) Ok

  judged_at : (place : ℕ) → place < length signatures → IsJudgedAt s signatures place (get_or (put_shares none_yet shares) place Ok)
  judged_at place below =
      let inside = subst (λ (n : ℕ). place < n) (sym (length-replicate (length signatures) Ok)) below in
      let at = settled_at place below in
      elim (put-all s signatures place Ok shares none_yet inside all_found) [
        | inl same ↦
            elim at.2 [
              | inl ok ↦ subst (λ (j : Judged). IsJudgedAt s signatures place j) (sym (same.0 ∙ get_or-replicate (length signatures) place Ok Ok below)) ok
              | inr there ↦
                  absurd (All-from_recursion (λ (share : Share). Contains (map (λ (c : CycleAt). c.place) share.cycles.items) place → ⊥) shares same.1 at.0 d (subst (λ (n : ℕ). at.0 < n) (sym long) at.1) there)
            ]
        | inr right ↦ right
      ]

  pub whole_found : AllZip (IsJudged s.model s.test) signatures (put_shares (replicate (length signatures) Ok) shares)
  whole_found = zip_by_places (IsJudged s.model s.test) signatures (put_shares none_yet shares) [] Ok (length-put_shares shares none_yet ∙ length-replicate (length signatures) Ok) judged_at
