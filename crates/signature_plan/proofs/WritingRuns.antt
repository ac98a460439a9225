-- Writing the run that words mean: load by load and group by group.
use Rattle.std.proofs.Common.{◌≡◌, ◌∙◌, ℕ, zero, suc, ◌+◌, ◌/◌, ◌%◌, ◌<◌, ◌≤◌, List, [], ◌∷◌, ◌++◌, take, drop, length, get_or, set, refl, ap, arith, sym, add-one, append_assoc, append-nil, length-append, length-take-le, take_all, drop-cons}
use Rattle.std.specs.Prelude.{slice_index}
use Rattle.std.specs.List.{AllZip, concat}
use Rattle.std.proofs.Math.Seq.{take-append_seam}
use Rattle.std.proofs.lemmas.Grind.{drop_more_same}
use Rattle.std.proofs.lemmas.List.{drop-set-lt, drop_all, take_more_set}
use Rattle.test_lang.specs.Program.{Program}
use Rattle.test_lang.specs.Values.{load_count}
use Rattle.test_lang.specs.Signatures.{candidate_count, group_product, groups}
use Rattle.test_lang.proofs.Ranks.{length-load_nodes}
use Rattle.candidates.specs.ByRank.{candidates_at, load_at}
use Rattle.signature_plan.specs.Fitting.{FitGroups, product_at}
use Rattle.signature_plan.specs.Words.{group_values, loads_between, run_of, values_of_groups}
use Rattle.signature_plan.proofs.AllLoads.{concat-groups}
use Rattle.signature_plan.proofs.GroupTables.{GroupAt, group_start}
use Rattle.signature_plan.proofs.Meaning.{length-group_values}
use Rattle.signature_plan.proofs.RankLoads.{between_none, between_more}

-- words and products by place

fits_at : (p : Program) (words : List ℕ) (cut : List (List ℕ)) (k : ℕ) → AllZip (λ word group. word < group_product p group) words cut → k < length words → get_or words k 0 < group_product p (get_or cut k [])
fits_at p [] cut k fit lt = absurd (omega (arith, lt))
fits_at p (word ∷ words) [] k fit lt = absurd fit
fits_at p (word ∷ words) (group ∷ more) zero fit lt = fit.0
fits_at p (word ∷ words) (group ∷ more) (suc k) fit lt = fits_at p words more k fit.1 (omega (arith, lt))

all_fit : (p : Program) (words : List ℕ) (cut : List (List ℕ)) → length words ≡ length cut → ((k : ℕ) → k < length words → get_or words k 0 < group_product p (get_or cut k [])) → AllZip (λ word group. word < group_product p group) words cut
all_fit p [] [] e each = tt
all_fit p [] (group ∷ more) e each = absurd (omega (arith, e))
all_fit p (word ∷ words) [] e each = absurd (omega (arith, e))
all_fit p (word ∷ words) (group ∷ more) e each = (each 0 (omega arith), all_fit p words more (omega (arith, e)) (λ k lt. each (suc k) (omega (arith, lt))))

same_length : (p : Program) (words : List ℕ) (cut : List (List ℕ)) → AllZip (λ word group. word < group_product p group) words cut → length words ≡ length cut
same_length p [] [] fit = refl
same_length p [] (group ∷ more) fit = absurd fit
same_length p (word ∷ words) [] fit = absurd fit
same_length p (word ∷ words) (group ∷ more) fit = ap suc (same_length p words more fit.1)

module _ (p : Program) where
  pub too_large : (words : List ℕ) (place : ℕ) → place < length words → product_at p place ≤ get_or words place 0 → FitGroups p words → ⊥
  too_large words place lt le fit = let below = fits_at p words (groups p) place fit lt in omega (arith, le, below)

  pub length_fit : (words : List ℕ) → FitGroups p words → length words ≡ length (groups p)
  length_fit words fit = same_length p words (groups p) fit

  pub none_too_large : (words : List ℕ) → length words ≡ length (groups p) → ((k : ℕ) → k < length words → get_or words k 0 < product_at p k) → FitGroups p words
  none_too_large words e each = all_fit p words (groups p) e each

  -- one load more

  pub value_more : (out : List ℕ) (word count value rank end : ℕ) → rank < end → end ≤ load_count p → rank < length out → count ≡ candidate_count p (load_at p rank) → value ≡ slice_index (candidates_at p rank) (word % count)
      → take (rank + 1) (set out rank value) ++ group_values p (word / count) (loads_between p (rank + 1) end) ≡ take rank out ++ group_values p word (loads_between p rank end)
  value_more out word count value rank end lt within short count_is value_is =
      let load = load_at p rank in
      let rest = loads_between p (rank + 1) end in
      ap (λ front. front ++ group_values p (word / count) rest) (take_more_set out rank value short)
      ∙ append_assoc (take rank out) (value ∷ []) (group_values p (word / count) rest)
      ∙ ap (λ (v : ℕ). take rank out ++ v ∷ group_values p (word / count) rest) value_is
      ∙ ap (λ (n : ℕ). take rank out ++ slice_index (candidates_at p rank) (word % n) ∷ group_values p (word / n) rest) count_is
      ∙ ap (λ loads. take rank out ++ group_values p word loads) (sym (between_more p rank end lt within))

  pub values_done : (out front : List ℕ) (word rank end : ℕ) → rank ≡ end → take rank out ++ group_values p word (loads_between p rank end) ≡ front → take end out ≡ front
  values_done out front word rank end same e =
      sym (append-nil (take end out))
      ∙ ap (λ (loads : List ℕ). take end out ++ group_values p word loads) (sym (between_none p end))
      ∙ ap (λ (n : ℕ). take n out ++ group_values p word (loads_between p n end)) (sym same)
      ∙ e

  -- one group more

  group_front : (out : List ℕ) (word place first loads : ℕ) → GroupAt p place first loads → length out ≡ load_count p → length (take first out ++ group_values p word (loads_between p first (first + loads))) ≡ first + loads
  group_front out word place first loads at long =
      let size = at.size in
      let within = at.within in
      let between = ap length at.between in
      let values = length-group_values p word (loads_between p first (first + loads)) in
      let front = length-take-le first out (omega (arith, within, long)) in
      let both = length-append (take first out) (group_values p word (loads_between p first (first + loads))) in
      omega (arith, size, between, values, front, both)

  pub group_more : (out next words : List ℕ) (word place first loads : ℕ) → GroupAt p place first loads → place < length (groups p) → length words ≡ length (groups p) → length out ≡ load_count p → word ≡ get_or words place 0
      → next ≡ take first out ++ group_values p word (loads_between p first (first + loads)) ++ drop (first + loads) out
      → take (first + loads) next ++ values_of_groups p (drop (place + 1) (groups p)) (drop (place + 1) words) ≡ take first out ++ values_of_groups p (drop place (groups p)) (drop place words)
  group_more out next words word place first loads at lt e long word_is next_is =
      let front = take first out ++ group_values p word (loads_between p first (first + loads)) in
      let group = get_or (groups p) place [] in
      let rest = values_of_groups p (drop (suc place) (groups p)) (drop (suc place) words) in
      let taken : take (first + loads) next ≡ front =
      ap (take (first + loads)) next_is ∙ ap (λ (n : ℕ). take n (front ++ drop (first + loads) out)) (sym (group_front out word place first loads at long)) ∙ take-append_seam front (drop (first + loads) out) in
      ap (λ xs. xs ++ values_of_groups p (drop (place + 1) (groups p)) (drop (place + 1) words)) taken
      ∙ ap (λ (n : ℕ). front ++ values_of_groups p (drop n (groups p)) (drop n words)) (add-one place)
      ∙ append_assoc (take first out) (group_values p word (loads_between p first (first + loads))) rest
      ∙ ap (λ piece. take first out ++ (group_values p word piece ++ rest)) at.between
      ∙ ap (λ (w : ℕ). take first out ++ (group_values p w group ++ rest)) word_is
      ∙ ap (λ list. take first out ++ values_of_groups p (group ∷ drop (suc place) (groups p)) list) (sym (drop-cons words place 0 (omega (arith, lt, e))))
      ∙ ap (λ cut. take first out ++ values_of_groups p cut (drop place words)) (sym (drop-cons (groups p) place [] lt))

  pub groups_done : (out words : List ℕ) (place first : ℕ) → length (groups p) ≤ place → first ≡ group_start p place → length out ≡ load_count p → take first out ++ values_of_groups p (drop place (groups p)) (drop place words) ≡ run_of p words → out ≡ run_of p words
  groups_done out words place first past first_is long e =
      let all = ap (λ pieces. length (concat pieces)) (take_all place (groups p) past) ∙ ap length (concat-groups p) in
      let loads = length-load_nodes p in
      let whole : take first out ≡ out = take_all first out (omega (arith, first_is, all, loads, long)) in
      sym (append-nil out)
      ∙ ap (λ xs. xs ++ []) (sym whole)
      ∙ ap (λ cut. take first out ++ values_of_groups p cut (drop place words)) (sym (drop_all place (groups p) past))
      ∙ e

  pub behind_more : (out before : List ℕ) (rank value : ℕ) → drop rank out ≡ drop rank before → drop (rank + 1) (set out rank value) ≡ drop (rank + 1) before
  behind_more out before rank value e = drop-set-lt (rank + 1) out rank value (omega arith) ∙ drop_more_same out before rank e
