-- What a load of a run reads, by the place of its value among the candidates.
use Rattle.std.proofs.Common.{◌≡◌, ◌∙◌, ℕ, ◌^◌, ◌<◌, ◌≤◌, List, map, length, get_or, Contains, true, Option, None, Some, refl, ap, arith, sym, subst, ⊎_elim}
use Rattle.std.specs.Prelude.{◌==◌, position, unwrap_or, slice_get, slice_index}
use Rattle.std.specs.List.{position_or_len}
use Rattle.std.proofs.lemmas.Bool.{cases_lt, eqb-true, eq-eqb, lt-ltb}
use Rattle.std.proofs.lemmas.List.Sums.{fails_before_first, passes_at_first}
use Rattle.std.proofs.lemmas.Grind.{same_number_lists}
use Rattle.std.proofs.lemmas.List.{get_or-map, get_or_default, length-map}
use Rattle.std.proofs.lemmas.List.Elements.{Contains-get_or}
use Rattle.std.proofs.lemmas.Option.{get_or_from_slice_get, slice_get-get_or}
use Rattle.test_lang.specs.Program.{Program}
use Rattle.test_lang.specs.Values.{is_load_at, load_count, load_nodes}
use Rattle.test_lang.specs.Runs.{IsRun, IsInside, candidates, first_outside, value_read}
use Rattle.test_lang.specs.Signatures.{candidate_count, place}
use Rattle.test_lang.proofs.Ranks.{length-load_nodes}
use Rattle.candidates.specs.ByRank.{load_at}
use Rattle.candidates.proofs.CandidateLaws.{candidates_distinct, rank_is_load}
use Rattle.candidates.proofs.RunLemmas.{inside_gives, all_inside, value_read-at}

-- the place of a value that a list has

module _ (xs : List ℕ) (value : ℕ) where
  place_found : Contains xs value → position_or_len (λ x. x == value) xs < length xs
  place_found h = ⊎_elim
      (λ (lt : position_or_len (λ x. x == value) xs < length xs). lt)
      (λ (past : length xs ≤ position_or_len (λ x. x == value) xs).
      let lt = h.1 in
      let no = fails_before_first (λ x. x == value) xs h.0 value (omega (arith, lt, past)) in
      let yes_it = eq-eqb (get_or xs h.0 value) value h.2 in
      absurd (cc (no, yes_it)))
      (cases_lt (position_or_len (λ x. x == value) xs) (length xs))

  pub position-contains : Contains xs value → position (λ x. x == value) xs ≡ Some (position_or_len (λ x. x == value) xs)
  position-contains h = let lt = place_found h in rw (lt-ltb (position_or_len (λ x. x == value) xs) (length xs) lt) refl

  -- it is a place, at which the value stands
  pub place_within : Contains xs value → unwrap_or (position (λ x. x == value) xs) 0 < length xs
  place_within h = let lt = place_found h in let at = ap (λ (o : Option ℕ). unwrap_or o 0) (position-contains h) in omega (arith, lt, at)

  pub value_there : Contains xs value → get_or xs (unwrap_or (position (λ x. x == value) xs) 0) 0 ≡ value
  value_there h =
      ap (λ (o : Option ℕ). get_or xs (unwrap_or o 0) 0) (position-contains h)
      ∙ eqb-true (get_or xs (position_or_len (λ x. x == value) xs) 0) value (passes_at_first (λ x. x == value) xs 0 (place_found h))

-- a load whose value is a candidate's
pub record ReadsPlace (p : Program) (run : List ℕ) (load : ℕ) : Type 0 where
  pub below : place p run load < candidate_count p load
  pub stands : slice_index (candidates p load) (place p run load) ≡ value_read p run load

pub reads_place : (p : Program) (run : List ℕ) (load : ℕ) → Contains (candidates p load) (value_read p run load) → ReadsPlace p run load
reads_place p run load h = record { below = place_within (candidates p load) (value_read p run load) h; stands = value_there (candidates p load) (value_read p run load) h }

-- The candidate at a place is read from that place alone.
pub place-candidate : (p : Program) (run : List ℕ) (load digit : ℕ) → is_load_at p load ≡ true → digit < candidate_count p load → value_read p run load ≡ slice_index (candidates p load) digit → place p run load ≡ digit
place-candidate p run load digit loads lt e =
    let here : slice_get (candidates p load) digit ≡ Some (value_read p run load) = slice_get-get_or (candidates p load) digit 0 lt ∙ ap Some (sym e) in
    let h : Contains (candidates p load) (value_read p run load) = (digit, lt, get_or_from_slice_get (candidates p load) digit (value_read p run load) (value_read p run load) here) in
    let r = reads_place p run load h in
    let there : slice_get (candidates p load) (place p run load) ≡ Some (value_read p run load) = slice_get-get_or (candidates p load) (place p run load) 0 r.below ∙ ap Some r.stands in
    candidates_distinct p load (place p run load) digit (value_read p run load) loads there here

-- loads by rank

module _ (p : Program) (run : List ℕ) where
  -- each load of a run that is inside
  pub inside_reads : IsInside p run → (load : ℕ) → Contains (load_nodes p) load → Contains (candidates p load) (value_read p run load)
  inside_reads inside load h =
      let long = length-load_nodes p in
      let within = h.1 in
      let lt : h.0 < load_count p = omega (arith, long, within) in
      let same : load_at p h.0 ≡ load = get_or_default (load_nodes p) h.0 0 load h.1 ∙ h.2 in
      let gives = (inside_gives p run inside.none_outside).each h.0 lt in
      subst (λ l. Contains (candidates p l) (value_read p run l)) same (subst (λ (v : ℕ). Contains (candidates p (load_at p h.0)) v) (sym (value_read-at p run h.0 lt)) gives)

  pub reads_inside : IsRun p run → ((load : ℕ) → Contains (load_nodes p) load → Contains (candidates p load) (value_read p run load)) → IsInside p run
  reads_inside is_run reads = record {
    is_run = is_run;
    none_outside = all_inside p run (record {
      each = λ rank lt.
          let long = length-load_nodes p in
          let has : Contains (load_nodes p) (load_at p rank) = Contains-get_or (load_nodes p) rank 0 (omega (arith, long, lt)) in
          subst (λ (v : ℕ). Contains (candidates p (load_at p rank)) v) (value_read-at p run rank lt) (reads (load_at p rank) has);
    });
  }

  -- the run is what its loads read
  pub values_read : length run ≡ load_count p → map (value_read p run) (load_nodes p) ≡ run
  values_read e =
      let long = length-load_nodes p in
      let mapped = length-map (load_nodes p) (value_read p run) in
      same_number_lists (map (value_read p run) (load_nodes p)) run (omega (arith, long, mapped, e)) (λ k lt.
      get_or-map (value_read p run) (load_nodes p) k 0 0 (omega (arith, mapped, lt)) ∙ value_read-at p run k (omega (arith, long, mapped, lt)))

pub loads_are : (p : Program) (load : ℕ) → Contains (load_nodes p) load → is_load_at p load ≡ true
loads_are p load h =
    let long = length-load_nodes p in
    let within = h.1 in
    subst (λ l. is_load_at p l ≡ true) (get_or_default (load_nodes p) h.0 0 load h.1 ∙ h.2) (rank_is_load p h.0 (omega (arith, long, within)))

-- a run without a load outside is inside
pub run_inside : (p : Program) (run : List ℕ) → length run ≡ load_count p → ((k : ℕ) → get_or run k 0 < 2 ^ 32) → first_outside p run ≡ None → IsInside p run
run_inside p run whole small none = record {
  is_run = record { whole = whole; values = λ k d lt. let fits = small k in let same = get_or_default run k 0 d lt in omega (arith, fits, same) };
  none_outside = none;
}
