-- The candidates of one load more in the list, and the rows of its values.
use Rattle.std.proofs.Common.{◌≡◌, ◌∙◌, ℕ, zero, suc, ◌+◌, ◌-◌, ◌*◌, ◌^◌, ◌<◌, ◌≤◌, List, [], ◌∷◌, ◌++◌, Bool, true, false, cond, length, get_or, None, Some, Contains, refl, ap, arith, sym, subst, ⊎_elim, append_assoc, length-append}
use Rattle.std.specs.Prelude.{◌==◌, filter, if◌then◌else◌, slice_get}
use Rattle.std.proofs.lemmas.Bool.{eq-eqb, ne_eqb, cases_eq}
use Rattle.std.proofs.lemmas.Option.{get_or_from_slice_get, same_Some, slice_get-get_or, slice_get_within}
use Rattle.orders.proofs.Members.{Contains-filter_back, Contains-map_back}
use Rattle.test_lang.specs.Program.{Program, all_nodes}
use Rattle.test_lang.specs.Tables.{store_nodes}
use Rattle.test_lang.specs.Values.{is_store_at, load_count, store_count, value_of}
use Rattle.test_lang.specs.Runs.{base, others, candidates}
use Rattle.test_lang.proofs.Places.{slice_get-append_left, slice_get_cases_end}
use Rattle.test_lang.proofs.Ranks.{length-store_nodes, one_store, store_nodes-is_store, store_nodes-value}
use Rattle.candidates.specs.declared.candidate_lists.LoadRow.{LoadRow}
use Rattle.candidates.specs.declared.candidate_lists.PlaceRow.{PlaceRow}
use Rattle.candidates.specs.ByRank.{FindsPlace, candidates_at, load_at}
use Rattle.candidates.specs.Loads.{is_other_store}
use Rattle.candidates.specs.Tables.{ListsLoads, TellsCandidates, TellsPlaces}
use Rattle.candidates.proofs.CandidateLaws.{candidates_distinct, rank_is_load}
use Rattle.candidates.proofs.Finds.{finds_here, finds_nowhere, slice_get_right}
use Rattle.candidates.proofs.LoadCandidates.{other_is_store, others_below, others_below-front, others_below-suc}

-- a value of the list of others is that of a store of them
record IsOtherValue (p : Program) (load value : ℕ) : Type 0 where
  node : ℕ
  is_other : is_other_store p load node ≡ true
  value_is : value_of p node ≡ value

other_value : (p : Program) (load k value : ℕ) → slice_get (others p load) k ≡ Some value → IsOtherValue p load value
other_value p load k value e =
    let found : Contains (others p load) value = (k, slice_get_within (others p load) k value e, get_or_from_slice_get (others p load) k value value e) in
    let other = Contains-map_back (value_of p) (filter (is_other_store p load) (all_nodes p)) value found in
    record { node = other.0; is_other = (Contains-filter_back (is_other_store p load) (all_nodes p) other.0 other.1).1; value_is = other.2 }

-- the place of a value that is no other candidate's

nowhere : (p : Program) (load value : ℕ) → (value ≡ base p load → ⊥) → ((k : ℕ) → slice_get (others p load) k ≡ Some value → ⊥) → (k : ℕ) → slice_get (candidates p load) k ≡ Some value → ⊥
nowhere p load value other lacks zero e = other (sym (same_Some (base p load) value e))
nowhere p load value other lacks (suc k) e = lacks k e

base_found : (p : Program) (rank value : ℕ) → rank < load_count p → ((k : ℕ) → slice_get (others p (load_at p rank)) k ≡ Some value → ⊥)
    → FindsPlace (candidates_at p rank) value (if value == base p (load_at p rank) then Some 0 else None)
base_found p rank value lt lacks =
    let load = load_at p rank in
    ⊎_elim
    (λ (same : value ≡ base p load).
    rw (eq-eqb value (base p load) same)
    (finds_here (candidates p load) value 0 (λ i j e f. candidates_distinct p load i j value (rank_is_load p rank lt) e f) (ap Some (sym same))))
    (λ (other : value ≡ base p load → ⊥).
    rw (ne_eqb value (base p load) other)
    (finds_nowhere (candidates p load) value (nowhere p load value other lacks)))
    (cases_eq value (base p load))

-- the initial value is no store's
pub initial_found : (p : Program) (rank : ℕ) → rank < load_count p → FindsPlace (candidates_at p rank) 0 (if 0 == base p (load_at p rank) then Some 0 else None)
initial_found p rank lt = base_found p rank 0 lt (λ k e. let other = other_value p (load_at p rank) k 0 e in let some = other.value_is in absurd (omega (arith, some)))

-- the store of a value
module _ (p : Program) (value node : ℕ) (some : 1 ≤ value) (few : value ≤ store_count p) (store : is_store_at p node ≡ true) (is : value_of p node ≡ value) where
  stands : slice_get (store_nodes p) (value - 1) ≡ Some node
  stands =
      let long = length-store_nodes p in
      let here = slice_get-get_or (store_nodes p) (value - 1) 0 (omega (arith, long, some, few)) in
      let other = get_or (store_nodes p) (value - 1) 0 in
      let told = store_nodes-value p (value - 1) other here in
      let same : value_of p other ≡ value_of p node = omega (arith, told, is, some) in
      here ∙ ap Some (one_store p other node (store_nodes-is_store p (value - 1) other here) store same)

  -- the candidates behind the base, as far as the store goes
  others_more : (load : ℕ) → others_below p load value ≡ others_below p load (value - 1) ++ cond (is_other_store p load node) (value ∷ []) []
  others_more load =
      let next : value ≡ suc (value - 1) = omega (arith, some) in
      ap (others_below p load) next
      ∙ others_below-suc p load (value - 1) node stands
      ∙ ap (λ (v : ℕ). others_below p load (value - 1) ++ cond (is_other_store p load node) (v ∷ []) []) is

  other_place : (load : ℕ) → is_other_store p load node ≡ true → slice_get (others p load) (length (others_below p load (value - 1))) ≡ Some value
  other_place load other =
      let before = others_below p load (value - 1) in
      let front = others_below-front p load value in
      let more : others_below p load value ≡ before ++ value ∷ [] = others_more load ∙ ap (λ (b : Bool). before ++ cond b (value ∷ []) []) other in
      let all : others p load ≡ before ++ value ∷ front.0 = front.1 ∙ ap (λ (list : List ℕ). list ++ front.0) more ∙ append_assoc before (value ∷ []) front.0 in
      let none : length before ≡ length before + 0 = omega arith in
      ap (λ (list : List ℕ). slice_get list (length before)) all ∙ ap (slice_get (before ++ value ∷ front.0)) none ∙ slice_get_right before (value ∷ front.0) 0

  no_other : (load : ℕ) → is_other_store p load node ≡ false → (k : ℕ) → slice_get (others p load) k ≡ Some value → ⊥
  no_other load none k e =
      let other = other_value p load k value e in
      let same = one_store p other.node node (other_is_store p load other.node other.is_other) store (other.value_is ∙ sym is) in
      let has : is_other_store p load node ≡ true = ap (is_other_store p load) (sym same) ∙ other.is_other in
      absurd cc

  -- where the store is one of another thread to the load's word, the value stands behind those before it
  row_found : (rank : ℕ) (b : Bool) → rank < load_count p → is_other_store p (load_at p rank) node ≡ b
      → FindsPlace (candidates_at p rank) value (if b then Some (suc (length (others_below p (load_at p rank) (value - 1)))) else (if value == base p (load_at p rank) then Some 0 else None))
  row_found rank true lt other =
      let load = load_at p rank in
      finds_here (candidates p load) value (suc (length (others_below p load (value - 1)))) (λ i j e f. candidates_distinct p load i j value (rank_is_load p rank lt) e f) (other_place load other)
  row_found rank false lt none = base_found p rank value lt (no_other (load_at p rank) none)

  pub value_found : (rank next : ℕ) (b : Bool) → rank < load_count p → b ≡ is_other_store p (load_at p rank) node → next ≡ suc (length (others_below p (load_at p rank) (value - 1)))
      → FindsPlace (candidates_at p rank) value (if b then Some next else (if value == base p (load_at p rank) then Some 0 else None))
  value_found rank next b lt other at =
      subst (λ (k : ℕ). FindsPlace (candidates_at p rank) value (if b then Some k else (if value == base p (load_at p rank) then Some 0 else None))) (sym at)
      (row_found rank b lt (sym other))

  -- the list of candidates goes on behind what it had
  pub values_more : (load first : ℕ) (b : Bool) (old values new : List ℕ) → b ≡ is_other_store p load node → values ≡ old ++ first ∷ others_below p load (value - 1) → new ≡ values ++ cond b (value ∷ []) []
      → new ≡ old ++ first ∷ others_below p load (value + 1 - 1)
  values_more load first b old values new other before added =
      let same : value + 1 - 1 ≡ value = omega arith in
      added
      ∙ ap (λ (list : List ℕ). list ++ cond b (value ∷ []) []) before
      ∙ append_assoc old (first ∷ others_below p load (value - 1)) (cond b (value ∷ []) [])
      ∙ ap (λ (d : Bool). old ++ first ∷ (others_below p load (value - 1) ++ cond d (value ∷ []) [])) other
      ∙ ap (λ (list : List ℕ). old ++ first ∷ list) (sym (others_more load))
      ∙ ap (λ (n : ℕ). old ++ first ∷ others_below p load n) (sym same)

-- how many candidates are listed
pub listed : (p : Program) (load first n : ℕ) (old values : List ℕ) → values ≡ old ++ first ∷ others_below p load n → length values ≡ length old + suc (length (others_below p load n))
listed p load first n old values is = let both = length-append old (first ∷ others_below p load n) in ap length is ∙ both

-- there are few of them
pub others_below-le : (p : Program) (load n : ℕ) → length (others_below p load n) < length (candidates p load)
others_below-le p load n =
    let front = others_below-front p load n in
    let all = ap length front.1 in
    let both = length-append (others_below p load n) front.0 in
    omega (arith, all, both)

-- one load more
candidates_told : (candidates values : List ℕ) (row : LoadRow) → row.first ≡ length values → row.count ≡ length candidates → row.first + length candidates < 2 ^ 64 → TellsCandidates candidates (values ++ candidates) row
candidates_told candidates values row first count fits = record {
  count_is = count;
  end_fits = fits;
  stand = λ place value e. ap (λ (n : ℕ). slice_get (values ++ candidates) (n + place)) first ∙ slice_get_right values candidates place ∙ e;
}

candidates_kept : (candidates values more : List ℕ) (row : LoadRow) → TellsCandidates candidates values row → TellsCandidates candidates (values ++ more) row
candidates_kept candidates values more row told = record {
  count_is = told.count_is;
  end_fits = told.end_fits;
  stand = λ place value e. slice_get-append_left values more (row.first + place) value (told.stand place value e);
}

pub lists_more : (p : Program) (rank : ℕ) (loads : List LoadRow) (values : List ℕ) (places more : List PlaceRow) (row : LoadRow) → ListsLoads p rank loads values places
    → row.first ≡ length values → row.count ≡ length (candidates_at p rank) → row.first + length (candidates_at p rank) < 2 ^ 64 → length more ≡ rank * (store_count p + 1) + (store_count p + 1) → TellsPlaces p more
    → ListsLoads p (rank + 1) (loads ++ row ∷ []) (values ++ candidates_at p rank) more
lists_more p rank loads values places more row before first count fits long tells =
    let one = before.one_row_each in
    let added = length-append loads (row ∷ []) in
    let size : (rank + 1) * (store_count p + 1) ≡ rank * (store_count p + 1) + (store_count p + 1) = grind arith in
    record {
      one_row_each = omega (arith, one, added);
      loads_tell = λ r found e.
          ⊎_elim
          (λ (old : slice_get loads r ≡ Some found). candidates_kept (candidates_at p r) values (candidates_at p rank) found (before.loads_tell r found old))
          (λ (last : (r ≡ length loads) × (row ≡ found)).
          subst (λ (f : LoadRow). TellsCandidates (candidates_at p r) (values ++ candidates_at p rank) f) last.1
          (subst (λ (k : ℕ). TellsCandidates (candidates_at p k) (values ++ candidates_at p rank) row) (sym (last.0 ∙ one))
          (candidates_told (candidates_at p rank) values row first count fits)))
          (slice_get_cases_end loads row r found e);
      one_place_each = long ∙ sym size;
      places_tell = tells;
    }

-- none yet
pub lists_none : (p : Program) → ListsLoads p 0 [] [] []
lists_none p = record {
  one_row_each = refl;
  loads_tell = λ rank row e. absurd cc;
  one_place_each = omega arith;
  places_tell = record { rows_tell = λ rank value row few e. absurd cc };
}
