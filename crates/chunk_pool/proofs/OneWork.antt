-- Signatures in chunks of one size have one work.
use Rattle.std.proofs.Common.{◌≡◌, ◌∙◌, ℕ, ◌<◌, List, [], ◌∷◌, refl, sym, ap, subst}
use Rattle.std.specs.Prelude.{Option, None}
use Rattle.std.specs.Fork.{slice_chunk}
use Rattle.std.specs.List.{AllZip}
use Rattle.signature_plan.proofs.Meaning.{means-run_of}
use Rattle.test_lang.specs.declared.op.MemModel.{MemModel}
use Rattle.test_lang.specs.Program.{Program}
use Rattle.test_lang.specs.Signatures.{Means}
use Rattle.verdict_report.specs.declared.report.Work.{Work}
use Rattle.window_resort.specs.declared.verdicts.Verdict.{Verdict}
use Rattle.window_resort.specs.Walks.{Base, IsWalk, WalkWork, work_of}
use Rattle.window_resort.proofs.OneWalk.{one_taken}
use Rattle.chunk_pool.specs.Chunks.{IsWalked, IsWorkInChunks, sum_below}
use Rattle.chunk_pool.proofs.Sums.{sum_same}

same_work : (v w : Work) → v.chunks ≡ w.chunks → v.full ≡ w.full → v.kept ≡ w.kept → v.resorted ≡ w.resorted → v.nodes ≡ w.nodes → v ≡ w
same_work v w chunks full kept resorted nodes =
    let all : v ≡ w =
    ap (λ (c : ℕ). record { chunks = c; full = v.full; kept = v.kept; resorted = v.resorted; nodes = v.nodes }) chunks
    ∙ ap (λ (f : ℕ). record { chunks = w.chunks; full = f; kept = v.kept; resorted = v.resorted; nodes = v.nodes }) full
    ∙ ap (λ (k : ℕ). record { chunks = w.chunks; full = w.full; kept = k; resorted = v.resorted; nodes = v.nodes }) kept
    ∙ ap (λ (r : ℕ). record { chunks = w.chunks; full = w.full; kept = w.kept; resorted = r; nodes = v.nodes }) resorted
    ∙ ap (λ (n : ℕ). record { chunks = w.chunks; full = w.full; kept = w.kept; resorted = w.resorted; nodes = n }) nodes in
    all

module _ (m : MemModel) (p : Program) where
  one_runs : (signatures runs others : List (List ℕ)) → AllZip (Means p) signatures runs → AllZip (Means p) signatures others → runs ≡ others
  one_runs [] [] [] h k = refl
  one_runs [] [] (other ∷ others) h k = absurd k
  one_runs [] (run ∷ runs) others h k = absurd h
  one_runs (words ∷ signatures) [] others h k = absurd h
  one_runs (words ∷ signatures) (run ∷ runs) [] h k = absurd k
  one_runs (words ∷ signatures) (run ∷ runs) (other ∷ others) h k =
      ap (λ (r : List ℕ). r ∷ runs) (means-run_of p words run h.0 ∙ sym (means-run_of p words other k.0))
      ∙ ap (λ (rs : List (List ℕ)). other ∷ rs) (one_runs signatures runs others h.1 k.1)

  one_walk : (base : Option Base) (runs : List (List ℕ)) (vs ws : List Verdict) (afters lasts : List (Option Base)) → IsWalk m p base runs vs afters → IsWalk m p base runs ws lasts → vs ≡ ws
  one_walk base [] [] [] [] [] h k = refl
  one_walk base (run ∷ runs) (v ∷ vs) (w ∷ ws) (a ∷ afters) (b ∷ lasts) h k =
      let one = one_taken m p run base v w a b h.0 k.0 in
      let more = one_walk b runs vs ws afters lasts (subst (λ (c : Option Base). IsWalk m p c runs vs afters) one.1 h.1) k.1 in
      ap (λ (x : Verdict). x ∷ vs) one.0 ∙ ap (λ (xs : List Verdict). w ∷ xs) more
  one_walk base [] (v ∷ vs) ws afters lasts h k = absurd h
  one_walk base [] [] ws (a ∷ afters) lasts h k = absurd h
  one_walk base [] [] (w ∷ ws) [] lasts h k = absurd k
  one_walk base [] [] [] [] (b ∷ lasts) h k = absurd k
  one_walk base (run ∷ runs) [] ws afters lasts h k = absurd h
  one_walk base (run ∷ runs) (v ∷ vs) ws [] lasts h k = absurd h
  one_walk base (run ∷ runs) (v ∷ vs) [] (a ∷ afters) lasts h k = absurd k
  one_walk base (run ∷ runs) (v ∷ vs) (w ∷ ws) (a ∷ afters) [] h k = absurd k

  pub one_walked : (signatures : List (List ℕ)) (vs ws : List Verdict) → IsWalked m p signatures vs → IsWalked m p signatures ws → vs ≡ ws
  one_walked signatures vs ws h k =
      let same = one_runs signatures h.runs k.runs h.mean k.mean in
      one_walk None k.runs vs ws h.bases k.bases (subst (λ (runs : List (List ℕ)). IsWalk m p None runs vs h.bases) same h.walk) k.walk

  pub one_work : (chunk : ℕ) (signatures : List (List ℕ)) (v w : Work) → IsWorkInChunks m p chunk signatures v → IsWorkInChunks m p chunk signatures w → v ≡ w
  one_work chunk signatures v w h k =
      let chunks : v.chunks ≡ w.chunks = h.chunks ∙ sym k.chunks in
      let at : (n : ℕ) → n < w.chunks → h.verdicts n ≡ k.verdicts n =
      λ n below. one_walked (slice_chunk signatures chunk n) (h.verdicts n) (k.verdicts n) (h.walked n (subst (λ (c : ℕ). n < c) (sym chunks) below)) (k.walked n below) in
      let sums : (f : WalkWork → ℕ) → sum_below (λ n. f (work_of (h.verdicts n))) v.chunks ≡ sum_below (λ n. f (work_of (k.verdicts n))) w.chunks =
      λ f. ap (λ (c : ℕ). sum_below (λ n. f (work_of (h.verdicts n))) c) chunks
      ∙ sum_same (λ n. f (work_of (h.verdicts n))) (λ n. f (work_of (k.verdicts n))) w.chunks (λ n below. ap (λ (vs : List Verdict). f (work_of vs)) (at n below)) in
      same_work v w chunks (h.full ∙ sums (λ x. x.full) ∙ sym k.full) (h.kept ∙ sums (λ x. x.kept) ∙ sym k.kept) (h.resorted ∙ sums (λ x. x.resorted) ∙ sym k.resorted) (h.nodes ∙ sums (λ x. x.nodes) ∙ sym k.nodes)
