-- What is read in the list and in the tables.
use Rattle.std.proofs.Common.{◌≡◌, ℕ, ◌+◌, ◌*◌, ◌<◌, ◌≤◌, List, length, get_or, None, refl, arith, sym, subst}
use Rattle.std.proofs.lemmas.Option.{slice_get_read}
use Rattle.test_lang.specs.Program.{Program}
use Rattle.test_lang.specs.Values.{load_count, store_count}
use Rattle.candidates.specs.declared.candidate_lists.LoadRow.{LoadRow}
use Rattle.candidates.specs.declared.candidate_lists.PlaceRow.{PlaceRow}
use Rattle.candidates.specs.ByRank.{FindsPlace, candidates_at}
use Rattle.candidates.specs.Tables.{ListsLoads, TellsCandidates, told_place}
use Rattle.candidates.proofs.CandidateLaws.{candidate_le, rank_is_load}
use Rattle.candidates.proofs.Finds.{finds_nowhere}
use Rattle.candidates.proofs.PlaceRows.{place-within}
use Rattle.candidates.specs.ByRank.{load_at}

-- the lists of the test that contracts see
pub lists_of : (q p : Program) (loads : List LoadRow) (values : List ℕ) (places : List PlaceRow) → q ≡ p → ListsLoads q (load_count q) loads values places → ListsLoads p (load_count p) loads values places
lists_of q p loads values places same t = subst (λ r. ListsLoads r (load_count r) loads values places) same t

module _ (p : Program) (loads : List LoadRow) (values : List ℕ) (places : List PlaceRow) (t : ListsLoads p (load_count p) loads values places) where
  pub row_told : (rank : ℕ) (row : LoadRow) → rank < load_count p → row ≡ get_or loads rank row → TellsCandidates (candidates_at p rank) values row
  row_told rank row lt e = t.loads_tell rank row (slice_get_read loads (load_count p) rank row (sym t.one_row_each) lt e)

  place_lt : (rank value : ℕ) → rank < load_count p → value < store_count p + 1 → rank * (store_count p + 1) + value < length places
  place_lt rank value lt few = let one = t.one_place_each in let within = place-within (load_count p) (store_count p + 1) rank value lt few in omega (arith, one, within)

  pub place_found : (rank value : ℕ) (row : PlaceRow) → rank < load_count p → value < store_count p + 1 → row ≡ get_or places (rank * (store_count p + 1) + value) row → FindsPlace (candidates_at p rank) value (told_place row)
  place_found rank value row lt few e =
      t.places_tell.rows_tell rank value row (omega (arith, few)) (slice_get_read places (length places) (rank * (store_count p + 1) + value) row refl (place_lt rank value lt few) e)

-- no value past those of the test is a candidate's
pub none_past : (p : Program) (rank value : ℕ) → rank < load_count p → store_count p + 1 ≤ value → FindsPlace (candidates_at p rank) value None
none_past p rank value lt past =
    finds_nowhere (candidates_at p rank) value (λ k e. let few = candidate_le p (load_at p rank) k value (rank_is_load p rank lt) e in omega (arith, few, past))
