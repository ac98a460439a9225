-- A worker that walks one chunk after another.
use Rattle.std.proofs.Common.{◌≡◌, ◌⊎◌, ◌∙◌, ℕ, ◌+◌, ◌-◌, ◌*◌, ◌%◌, ◌<◌, ◌≤◌, List, [], length, take, drop, refl, sym, ap, subst, arith, inl, inr}
use Rattle.std.specs.Prelude.{◌≢◌, ◌==◌, if◌then◌else◌, min, slice_range}
use Rattle.std.specs.Fork.{slice_chunk}
use Rattle.std.specs.Int.{div_ceil}
use Rattle.std.proofs.lemmas.Bool.{cases_lt, eq-eqb, ne_eqb}
use Rattle.std.proofs.lemmas.List.{length-drop, take_all, take_rest}
use Rattle.std.proofs.lemmas.Nat.{row_fits}
use Rattle.std.proofs.Math.Nat.{mod-eq_of_lt}
use Rattle.graph_model.specs.StaticGraph.{StaticGraph}
use Rattle.window_resort.specs.declared.verdicts.Verdict.{Verdict}
use Rattle.window_resort.specs.Walks.{WalkWork, work_of}
use Rattle.chunk_pool.specs.declared.share.Share.{Share}
use Rattle.chunk_pool.specs.declared.share.Counts.{Counts}
use Rattle.chunk_pool.specs.declared.task.Task.{Task}
use Rattle.chunk_pool.specs.Chunks.{IsWalked, sum_below}
use Rattle.chunk_pool.specs.Shares.{AreFound, IsFew, IsSettled, IsShare, IsSound, StaySettled, WalksChunk, no_counts}
use Rattle.chunk_pool.specs.Tasks.{IsShareOf}
use Rattle.chunk_pool.proofs.Settling.{few-more}
use Rattle.chunk_pool.proofs.Sums.{rests_apart, sum_changed, sum_zero}

-- the verdicts with others at one number
abbrev changed : (ℕ → List Verdict) → ℕ → List Verdict → ℕ → List Verdict
changed verdicts at more number = if number == at then more else verdicts number

changed-at : (verdicts : ℕ → List Verdict) (at : ℕ) (more : List Verdict) (number : ℕ) → number ≡ at → changed verdicts at more number ≡ more
changed-at verdicts at more number is = ap (λ b. if b then more else verdicts number) (eq-eqb number at is)

changed-other : (verdicts : ℕ → List Verdict) (at : ℕ) (more : List Verdict) (number : ℕ) → number ≢ at → changed verdicts at more number ≡ verdicts number
changed-other verdicts at more number apart = ap (λ b. if b then more else verdicts number) (ne_eqb number at apart)

-- a chunk, by the places of its signatures
range-chunk : {X : Type 0} (xs : List X) (first chunk : ℕ) → slice_range xs first (min (length xs) (first + chunk)) ≡ take chunk (drop first xs)
range-chunk xs first chunk = elim (cases_lt (length xs) (first + chunk)) [
  | inl short ↦
      let rest = length-drop first xs in
      let size : min (length xs) (first + chunk) - first ≡ length xs - first = omega (arith, short) in
      ap (λ (n : ℕ). take n (drop first xs)) size ∙ take_rest xs first ∙ sym (take_all chunk (drop first xs) (omega (arith, short, rest)))
  | inr whole ↦
      let size : min (length xs) (first + chunk) - first ≡ chunk = omega (arith, whole) in
      ap (λ (n : ℕ). take n (drop first xs)) size
]

module _ (s : StaticGraph) (signatures : List (List ℕ)) (chunk workers worker : ℕ) (own : worker < workers) where
  abbrev total : ℕ
  total = div_ceil (length signatures) chunk

  not_before : (number : ℕ) → number < worker → number % workers ≡ worker → ⊥
  not_before number below is =
      let same = mod-eq_of_lt {n = number} {m = workers} (omega (arith, below, own)) in
      omega (arith, below, is, same)

  pub share-none : (share : Share) → share.cycles.items ≡ [] → share.counts ≡ no_counts → IsShare s signatures chunk workers worker worker share
  share-none share cycles counts = record {
    sound = record {
      found = subst (λ cs. AreFound s signatures cs) (sym cycles) tt;
      few = subst (IsFew (length signatures)) (sym counts) (record { full = omega arith; kept = omega arith; resorted = omega arith; nodes = omega arith });
    };
    verdicts = λ number. [];
    walked = λ number below inside is. absurd (not_before number below is);
    others = λ number apart. refl;
    later = λ number past. refl;
    full = ap (λ (c : Counts). c.full) counts ∙ sym (sum_zero total);
    kept = ap (λ (c : Counts). c.kept) counts ∙ sym (sum_zero total);
    resorted = ap (λ (c : Counts). c.resorted) counts ∙ sym (sum_zero total);
    nodes = ap (λ (c : Counts). c.nodes) counts ∙ sym (sum_zero total);
    settled = λ number place below is from to within. absurd (not_before number below is);
  }

  module _ (number end : ℕ) (old new : Share) (h : IsShare s signatures chunk workers worker number old) (rest : number % workers ≡ worker) (below : number < total) (end_is : end ≡ min (length signatures) (number * chunk + chunk))
      (w : WalksChunk s (slice_range signatures (number * chunk) end) old.counts new.counts) (sound : IsSound s signatures new end)
      (settled : (place : ℕ) → number * chunk ≤ place → place < end → IsSettled s signatures new.cycles.items place) (kept : StaySettled s signatures old.cycles.items new.cycles.items) where
    abbrev verdicts : ℕ → List Verdict
    verdicts = changed h.verdicts number w.verdicts

    this_or_before : (n : ℕ) → n < number + workers → n % workers ≡ worker → (n ≡ number) ⊎ (n < number)
    this_or_before n within is = elim (cases_lt n number) [
      | inl lower ↦ inr lower
      | inr upper ↦ elim (cases_lt number n) [
        | inl above ↦ absurd (rests_apart workers worker number n (omega (arith, own)) rest above within is)
        | inr under ↦ inl (omega (arith, upper, under))
      ]
    ]

    chunk_walked : IsWalked s.model s.test (slice_chunk signatures chunk number) w.verdicts
    chunk_walked =
        let range = ap (λ (e : ℕ). slice_range signatures (number * chunk) e) end_is ∙ range-chunk signatures (number * chunk) chunk in
        subst (λ (part : List (List ℕ)). IsWalked s.model s.test part w.verdicts) range w.walked

    walked_at : (n : ℕ) → n * chunk < length signatures → n % workers ≡ worker → (n ≡ number) ⊎ (n < number) → IsWalked s.model s.test (slice_chunk signatures chunk n) (verdicts n)
    walked_at n inside is (inl same) =
        subst (λ (vs : List Verdict). IsWalked s.model s.test (slice_chunk signatures chunk n) vs) (sym (changed-at h.verdicts number w.verdicts n same))
        (subst (λ (k : ℕ). IsWalked s.model s.test (slice_chunk signatures chunk k) w.verdicts) (sym same) chunk_walked)
    walked_at n inside is (inr lower) =
        subst (λ (vs : List Verdict). IsWalked s.model s.test (slice_chunk signatures chunk n) vs) (sym (changed-other h.verdicts number w.verdicts n (λ same. omega (arith, lower, same)))) (h.walked n lower inside is)

    settled_at : (n place : ℕ) → n * chunk ≤ place → place < n * chunk + chunk → place < length signatures → n % workers ≡ worker → (n ≡ number) ⊎ (n < number) → IsSettled s signatures new.cycles.items place
    settled_at n place from to within is (inl same) =
        let first = ap (λ (k : ℕ). k * chunk) same in
        settled place (omega (arith, from, first)) (omega (arith, to, first, within, end_is))
    settled_at n place from to within is (inr lower) = kept place (h.settled n place lower is from to within)

    sum_more : (f : WalkWork → ℕ) → f (work_of []) ≡ 0 → sum_below (λ n. f (work_of (verdicts n))) total ≡ sum_below (λ n. f (work_of (h.verdicts n))) total + f (work_of w.verdicts)
    sum_more f none =
        let sums = sum_changed (λ n. f (work_of (h.verdicts n))) (λ n. f (work_of (verdicts n))) number total below
        (λ n apart. ap (λ (vs : List Verdict). f (work_of vs)) (changed-other h.verdicts number w.verdicts n apart)) in
        let here = ap (λ (vs : List Verdict). f (work_of vs)) (changed-at h.verdicts number w.verdicts number refl) in
        let before = ap (λ (vs : List Verdict). f (work_of vs)) (h.later number (omega arith)) ∙ none in
        omega (arith, sums, here, before)

    pub share-more : IsShare s signatures chunk workers worker (number + workers) new
    share-more = record {
      sound = record { found = sound.found; few = few-more new.counts end (length signatures) (omega (arith, end_is)) sound.few };
      verdicts = verdicts;
      walked = λ n within inside is. walked_at n inside is (this_or_before n within is);
      others = λ n apart. changed-other h.verdicts number w.verdicts n (λ same. apart (ap (λ (k : ℕ). k % workers) same ∙ rest)) ∙ h.others n apart;
      later = λ n past. changed-other h.verdicts number w.verdicts n (λ same. omega (arith, past, same, own)) ∙ h.later n (omega (arith, past));
      full = ap (λ (c : Counts). c.full) w.counts ∙ ap (λ (k : ℕ). k + (work_of w.verdicts).full) h.full ∙ sym (sum_more (λ work. work.full) refl);
      kept = ap (λ (c : Counts). c.kept) w.counts ∙ ap (λ (k : ℕ). k + (work_of w.verdicts).kept) h.kept ∙ sym (sum_more (λ work. work.kept) refl);
      resorted = ap (λ (c : Counts). c.resorted) w.counts ∙ ap (λ (k : ℕ). k + (work_of w.verdicts).resorted) h.resorted ∙ sym (sum_more (λ work. work.resorted) refl);
      nodes = ap (λ (c : Counts). c.nodes) w.counts ∙ ap (λ (k : ℕ). k + (work_of w.verdicts).nodes) h.nodes ∙ sym (sum_more (λ work. work.nodes) refl);
      settled = λ n place within is from to inside. settled_at n place from to inside is (this_or_before n within is);
    }

-- the same, where the walk tells of a graph that is equal
pub share-walked : (s f : StaticGraph) → f ≡ s → (signatures : List (List ℕ)) (chunk workers worker : ℕ) → worker < workers → (number end : ℕ) (old new : Share) → IsShare s signatures chunk workers worker number old → number % workers ≡ worker
    → number < div_ceil (length signatures) chunk → end ≡ min (length signatures) (number * chunk + chunk) → WalksChunk f (slice_range signatures (number * chunk) end) old.counts new.counts → IsSound f signatures new end
    → ((place : ℕ) → number * chunk ≤ place → place < end → IsSettled f signatures new.cycles.items place) → StaySettled f signatures old.cycles.items new.cycles.items → IsShare s signatures chunk workers worker (number + workers) new
share-walked s f e signatures chunk workers worker own number end old new h rest below end_is w sound settled kept =
    share-more s signatures chunk workers worker own number end old new h rest below end_is (subst (λ (g : StaticGraph). WalksChunk g (slice_range signatures (number * chunk) end) old.counts new.counts) e w)
    (subst (λ (g : StaticGraph). IsSound g signatures new end) e sound)
    (λ place from to. subst (λ (g : StaticGraph). IsSettled g signatures new.cycles.items place) e (settled place from to))
    (subst (λ (g : StaticGraph). StaySettled g signatures old.cycles.items new.cycles.items) e kept)

pub few-none : (n : ℕ) → IsFew n no_counts
few-none n = record { full = omega arith; kept = omega arith; resorted = omega arith; nodes = omega arith }

pub next_first : (number chunk workers : ℕ) → 0 < workers → number * chunk + chunk ≤ (number + workers) * chunk
next_first number chunk workers some = row_fits number chunk (number + workers) chunk (omega (arith, some)) (omega arith)

-- the share of a worker that has come past its last chunk
pub shares-past : (task : Task) (worker end : ℕ) (share same : Share) → div_ceil (length task.signatures.now) task.chunk ≤ end → share ≡ same → IsShare task.fixed.now task.signatures.now task.chunk task.workers worker end share → IsShareOf task worker same
shares-past task worker end share same past e h = (end, past, subst (λ (x : Share). IsShare task.fixed.now task.signatures.now task.chunk task.workers worker end x) e h)
