-- The first load of a run whose value is no candidate's.
use Rattle.std.proofs.Common.{length, ◌≡◌, ◌∙◌, ◌↔◌, ℕ, ◌+◌, ◌<◌, ◌≤◌, List, Bool, true, false, not, ◌&&◌, get_or, Contains, Option, None, Some, refl, ap, arith, sym, subst, ⊎_elim}
use Rattle.std.specs.Prelude.{◌==◌, if◌then◌else◌, position, IsTrue, slice_get, slice_index}
use Rattle.std.specs.List.{list_any, position_or_len}
use Rattle.std.specs.Option.{is_some}
use Rattle.std.specs.Bool.{Decides, OnTrue}
use Rattle.std.proofs.lemmas.Bool.{and_parts, cases_eq, cases_lt, false_from_ne_true, not-false, not_from_false, not_from_true}
use Rattle.std.proofs.lemmas.Bool.Decides.{Decides-eqb, Decides-by_or}
use Rattle.std.proofs.lemmas.List.Elements.{Decides-contains}
use Rattle.std.proofs.lemmas.List.Folds.{find_at}
use Rattle.std.proofs.lemmas.List.Sums.{fails_before_first, position_or_len_is}
use Rattle.std.proofs.lemmas.Option.{slice_get-get_or, slice_get_past}
use Rattle.test_lang.specs.Program.{Program}
use Rattle.test_lang.specs.Values.{load_count, load_nodes}
use Rattle.test_lang.specs.Runs.{candidates, value_read, reads_candidate, first_outside}
use Rattle.test_lang.proofs.Ranks.{length-load_nodes, load_nodes-rank}
use Rattle.candidates.specs.ByRank.{FindsPlace, GivesCandidates, candidates_at, load_at}
use Rattle.candidates.proofs.Finds.{finds-lacks, finds-contains, finds-position}

-- whether the value of a row is a candidate's

pub tells : (xs : List ℕ) (value place : ℕ) (has : Bool) → FindsPlace xs value (if has then Some place else None) → IsTrue has ↔ Contains xs value
tells xs value place true f = (λ h. finds-contains xs value place f, λ h. refl)
tells xs value place false f = (λ h. absurd cc, λ h. absurd (finds-lacks xs value f h))

-- its place, where it is one's
pub place_told : (xs : List ℕ) (value place : ℕ) (has : Bool) → FindsPlace xs value (if has then Some place else None) → OnTrue has (position (λ candidate. candidate == value) xs ≡ Some place)
place_told xs value place true f = sym (finds-position xs value (Some place) f)
place_told xs value place false f = tt

pub gives_none : (p : Program) (run : List ℕ) → IsTrue true ↔ GivesCandidates p run 0
gives_none p run = (λ h. record { each = λ rank lt. absurd (omega (arith, lt)) }, λ h. refl)

pub gives_more : (p : Program) (run : List ℕ) (n : ℕ) (inside has : Bool) → IsTrue inside ↔ GivesCandidates p run n → IsTrue has ↔ Contains (candidates_at p n) (slice_index run n)
    → IsTrue (inside && has) ↔ GivesCandidates p run (n + 1)
gives_more p run n inside has before here = (
  λ h.
      let parts = and_parts inside has h in
      record {
        each = λ rank lt. ⊎_elim
            (λ (same : rank ≡ n). subst (λ r. Contains (candidates_at p r) (slice_index run r)) (sym same) (here.0 parts.1))
            (λ (other : rank ≡ n → ⊥). (before.0 parts.0).each rank (omega (arith, lt, other)))
            (cases_eq rank n);
      },
  λ h.
      let earlier = before.1 (record { each = λ rank lt. h.each rank (omega (arith, lt)) }) in
      let last = here.1 (h.each n (omega arith)) in
      ap (λ b. b && has) earlier ∙ last,
)

-- the test of a load

reads_tells : (p : Program) (run : List ℕ) (load : ℕ) → Decides (reads_candidate p run load) (Contains (candidates p load) (value_read p run load))
reads_tells p run load =
    Decides-contains (candidates p load) (value_read p run load) (reads_candidate p run load)
    (Decides-by_or (λ candidate. candidate == value_read p run load) (λ candidate. candidate ≡ value_read p run load) (list_any (λ candidate. candidate == value_read p run load))
    (λ candidate. Decides-eqb candidate (value_read p run load)) refl (λ x xs. refl) (candidates p load))

module _ (p : Program) (run : List ℕ) where
  -- the value of the load of a rank
  pub value_read-at : (rank : ℕ) → rank < load_count p → value_read p run (load_at p rank) ≡ slice_index run rank
  value_read-at rank lt =
      let long = length-load_nodes p in
      ap (slice_index run) (load_nodes-rank p rank (load_at p rank) (slice_get-get_or (load_nodes p) rank 0 (omega (arith, long, lt))))

  reads_at : (rank : ℕ) → rank < load_count p → Decides (reads_candidate p run (load_at p rank)) (Contains (candidates_at p rank) (slice_index run rank))
  reads_at rank lt = subst (λ (v : ℕ). Decides (reads_candidate p run (load_at p rank)) (Contains (candidates_at p rank) v)) (value_read-at rank lt) (reads_tells p run (load_at p rank))

  abbrev fails : ℕ → Bool
  fails load = not (reads_candidate p run load)

  none_before : (n : ℕ) → n ≤ load_count p → GivesCandidates p run n → (k : ℕ) → k < n → fails (get_or (load_nodes p) k 0) ≡ false
  none_before n le gives k lt = not_from_true (reads_candidate p run (load_at p k)) ((reads_at k (omega (arith, le, lt))).1 (gives.each k lt))

  pub all_inside : GivesCandidates p run (load_count p) → first_outside p run ≡ None
  all_inside gives =
      let long = length-load_nodes p in
      let at = position_or_len_is fails (load_nodes p) (load_count p) 0 (omega (arith, long)) (none_before (load_count p) (omega arith) gives) (λ lt. absurd (omega (arith, long, lt))) in
      find_at fails (load_nodes p) ∙ slice_get_past (load_nodes p) (position_or_len fails (load_nodes p)) (omega (arith, at, long))

  pub first_at : (rank : ℕ) → rank < load_count p → GivesCandidates p run rank → (Contains (candidates_at p rank) (slice_index run rank) → ⊥) → Some (load_at p rank) ≡ first_outside p run
  first_at rank lt gives lacks =
      let long = length-load_nodes p in
      let here : fails (load_at p rank) ≡ true = not_from_false (reads_candidate p run (load_at p rank)) (false_from_ne_true (reads_candidate p run (load_at p rank)) (λ h. lacks ((reads_at rank lt).0 h))) in
      let at = position_or_len_is fails (load_nodes p) rank 0 (omega (arith, long, lt)) (none_before rank (omega (arith, lt)) gives) (λ within. here) in
      sym (find_at fails (load_nodes p) ∙ ap (slice_get (load_nodes p)) at ∙ slice_get-get_or (load_nodes p) rank 0 (omega (arith, long, lt)))

  -- a run without a load outside
  pub inside_gives : first_outside p run ≡ None → GivesCandidates p run (load_count p)
  inside_gives none = record {
    each = λ rank lt.
        let long = length-load_nodes p in
        let found = find_at fails (load_nodes p) in
        ⊎_elim
        (λ (within : position_or_len fails (load_nodes p) < length (load_nodes p)).
        let some = slice_get-get_or (load_nodes p) (position_or_len fails (load_nodes p)) 0 within in absurd (cc (none, found, some)))
        (λ (past : length (load_nodes p) ≤ position_or_len fails (load_nodes p)).
        (reads_at rank lt).0 (not-false (reads_candidate p run (load_at p rank)) (fails_before_first fails (load_nodes p) rank 0 (omega (arith, past, long, lt)))))
        (cases_lt (position_or_len fails (load_nodes p)) (length (load_nodes p)));
  }

  pub one_more_gives : (rank : ℕ) → GivesCandidates p run rank → Contains (candidates_at p rank) (slice_index run rank) → GivesCandidates p run (rank + 1)
  one_more_gives rank gives here = record {
    each = λ k lt. ⊎_elim
        (λ (same : k ≡ rank). subst (λ r. Contains (candidates_at p r) (slice_index run r)) (sym same) here)
        (λ (other : k ≡ rank → ⊥). gives.each k (omega (arith, lt, other)))
        (cases_eq k rank);
  }

-- a value that was found is a candidate's
pub found_contains : (xs : List ℕ) (value : ℕ) (result : Option ℕ) → is_some result ≡ true → ((place : ℕ) → (result ≡ Some place) ↔ (slice_get xs place ≡ Some value)) → Contains xs value
found_contains xs value None h found = absurd cc
found_contains xs value (Some k) h found = finds-contains xs value k (record { finds = found })
