-- Words below their groups' products mean one run, and no other words mean it.
use Rattle.std.proofs.Common.{◌≡◌, ◌∙◌, ℕ, suc, ◌+◌, ◌*◌, ◌/◌, ◌%◌, ◌^◌, ◌<◌, ◌≤◌, List, [], ◌∷◌, ◌++◌, map, length, get_or, Contains, All, true, Some, refl, ap, arith, sym, subst, inl, inr, length-append}
use Rattle.std.specs.Prelude.{slice_index}
use Rattle.std.specs.List.{AllZip, concat}
use Rattle.std.proofs.Math.Nat.{mod-lt, mod-add-div}
use Rattle.std.proofs.lemmas.List.{map-append, length-map}
use Rattle.std.proofs.lemmas.List.Elements.{Contains-append_left, Contains-append_right, All-map}
use Rattle.std.proofs.lemmas.Option.{slice_get-get_or}
use Rattle.orders.proofs.Members.{Contains-head, Contains-tail, Contains-cons_cases, Contains-nil}
use Rattle.std.proofs.lemmas.List.Elements.{Contains-append_cases, Contains-get_or}
use Rattle.test_lang.specs.Program.{Program, op_count}
use Rattle.test_lang.specs.Values.{is_load_at, load_count, load_nodes}
use Rattle.test_lang.specs.Runs.{IsInside, candidates, value_read}
use Rattle.test_lang.specs.Signatures.{Means, candidate_count, group_product, group_word, groups, place, signature}
use Rattle.test_lang.proofs.Ranks.{length-load_nodes, store_count-le}
use Rattle.candidates.proofs.CandidateLaws.{candidate_le}
use Rattle.signature_plan.specs.Fitting.{FitGroups}
use Rattle.signature_plan.specs.Words.{group_values, mixed_radix, run_of, values_of_groups}
use Rattle.signature_plan.proofs.AllLoads.{concat-groups}
use Rattle.signature_plan.proofs.Concat.{same_front, same_back}
use Rattle.signature_plan.proofs.Radix.{digit-div, digit-mod, mixed_radix-lt, mixed_radix-sum, rest-lt}
use Rattle.signature_plan.proofs.Reading.{ReadsPlace, reads_place, place-candidate, inside_reads, reads_inside, values_read, loads_are}

pub length-group_values : (p : Program) (word : ℕ) (group : List ℕ) → length (group_values p word group) ≡ length group
length-group_values p word [] = refl
length-group_values p word (load ∷ loads) = ap suc (length-group_values p (word / candidate_count p load) loads)

module _ (p : Program) (run : List ℕ) where
  pub group_word-radix : (group : List ℕ) → group_word p run group ≡ mixed_radix (candidate_count p) (place p run) group
  group_word-radix group = mixed_radix-sum (candidate_count p) (place p run) group

  -- from the run to the words and back

  reads_back : (group : List ℕ) → ((load : ℕ) → Contains group load → ReadsPlace p run load) → group_values p (mixed_radix (candidate_count p) (place p run) group) group ≡ map (value_read p run) group
  reads_back [] reads = refl
  reads_back (load ∷ loads) reads =
      let here = reads load (Contains-head load loads load refl) in
      let base = candidate_count p load in
      let digit = place p run load in
      let rest = mixed_radix (candidate_count p) (place p run) loads in
      ap (λ (d : ℕ). slice_index (candidates p load) d ∷ group_values p ((digit + base * rest) / base) loads) (digit-mod digit base rest here.below)
      ∙ ap (λ (w : ℕ). slice_index (candidates p load) digit ∷ group_values p w loads) (digit-div digit base rest here.below)
      ∙ ap (λ (v : ℕ). v ∷ group_values p rest loads) here.stands
      ∙ ap (λ values. value_read p run load ∷ values) (reads_back loads (λ l i. reads l (Contains-tail load loads l i)))

  group_back : (group : List ℕ) → ((load : ℕ) → Contains group load → ReadsPlace p run load) → group_values p (group_word p run group) group ≡ map (value_read p run) group
  group_back group reads = ap (λ (w : ℕ). group_values p w group) (group_word-radix group) ∙ reads_back group reads

  groups_back : (cut : List (List ℕ)) → ((load : ℕ) → Contains (concat cut) load → ReadsPlace p run load) → values_of_groups p cut (map (group_word p run) cut) ≡ map (value_read p run) (concat cut)
  groups_back [] reads = refl
  groups_back (group ∷ more) reads =
      ap (λ values. values ++ values_of_groups p more (map (group_word p run) more)) (group_back group (λ l i. reads l (Contains-append_left group (concat more) l i)))
      ∙ ap (λ values. map (value_read p run) group ++ values) (groups_back more (λ l i. reads l (Contains-append_right group (concat more) l i)))
      ∙ sym (map-append (value_read p run) group (concat more))

  words_fit : (cut : List (List ℕ)) → ((load : ℕ) → Contains (concat cut) load → ReadsPlace p run load) → AllZip (λ word group. word < group_product p group) (map (group_word p run) cut) cut
  words_fit [] reads = tt
  words_fit (group ∷ more) reads =
      let radix = group_word-radix group in
      let lt = mixed_radix-lt (candidate_count p) (place p run) group (λ l i. (reads l (Contains-append_left group (concat more) l i)).below) in
      (omega (arith, radix, lt), words_fit more (λ l i. reads l (Contains-append_right group (concat more) l i)))

  -- from the words to the run and back

  record GivesWord (group : List ℕ) (word : ℕ) : Type 0 where
    reads : (load : ℕ) → Contains group load → Contains (candidates p load) (value_read p run load)
    word_is : mixed_radix (candidate_count p) (place p run) group ≡ word

  gives_word : (group : List ℕ) (word : ℕ) → ((load : ℕ) → Contains group load → is_load_at p load ≡ true) → word < group_product p group → map (value_read p run) group ≡ group_values p word group → GivesWord group word
  gives_word [] word loads lt e = record { reads = λ l i. absurd (Contains-nil l i); word_is = omega (arith, lt) }
  gives_word (load ∷ more) word loads lt e =
      let base = candidate_count p load in
      let some : 0 < base = omega arith in
      let digit_lt : word % base < base = mod-lt word some in
      let here : value_read p run load ≡ slice_index (candidates p load) (word % base) = cc in
      let behind : map (value_read p run) more ≡ group_values p (word / base) more = cc in
      let rest = gives_word more (word / base) (λ l i. loads l (Contains-tail load more l i)) (rest-lt word base (group_product p more) some lt) behind in
      let digit = place-candidate p run load (word % base) (loads load (Contains-head load more load refl)) digit_lt here in
      record {
        reads = λ l i. elim (Contains-cons_cases load more l i) [
          | inl same ↦
              subst (λ m. Contains (candidates p m) (value_read p run m)) same
              (subst (λ (v : ℕ). Contains (candidates p load) v) (sym here) (Contains-get_or (candidates p load) (word % base) 0 digit_lt))
          | inr other ↦ rest.reads l other
        ];
        word_is = ap (λ (d : ℕ). d + base * mixed_radix (candidate_count p) (place p run) more) digit ∙ ap (λ (m : ℕ). word % base + base * m) rest.word_is ∙ mod-add-div word base;
      }

  record GivesWords (cut : List (List ℕ)) (words : List ℕ) : Type 0 where
    reads : (load : ℕ) → Contains (concat cut) load → Contains (candidates p load) (value_read p run load)
    words_are : map (group_word p run) cut ≡ words

  gives_words : (cut : List (List ℕ)) (words : List ℕ) → ((load : ℕ) → Contains (concat cut) load → is_load_at p load ≡ true) → AllZip (λ word group. word < group_product p group) words cut
      → map (value_read p run) (concat cut) ≡ values_of_groups p cut words → GivesWords cut words
  gives_words [] [] loads fit e = record { reads = λ l i. absurd (Contains-nil l i); words_are = refl }
  gives_words [] (word ∷ words) loads fit e = absurd fit
  gives_words (group ∷ more) [] loads fit e = absurd fit
  gives_words (group ∷ more) (word ∷ words) loads fit e =
      let both = sym (map-append (value_read p run) group (concat more)) ∙ e in
      let long : length (map (value_read p run) group) ≡ length (group_values p word group) = length-map group (value_read p run) ∙ sym (length-group_values p word group) in
      let front = same_front (map (value_read p run) group) (group_values p word group) (map (value_read p run) (concat more)) (values_of_groups p more words) long both in
      let back = same_back (map (value_read p run) group) (group_values p word group) (map (value_read p run) (concat more)) (values_of_groups p more words) long both in
      let first = gives_word group word (λ l i. loads l (Contains-append_left group (concat more) l i)) fit.0 front in
      let rest = gives_words more words (λ l i. loads l (Contains-append_right group (concat more) l i)) fit.1 back in
      record {
        reads = λ l i. elim (Contains-append_cases group (concat more) l i) [ inl h ↦ first.reads l h | inr h ↦ rest.reads l h ];
        words_are = ap (λ (w : ℕ). w ∷ map (group_word p run) more) (group_word-radix group ∙ first.word_is) ∙ ap (λ list. word ∷ list) rest.words_are;
      }

  -- of all groups

  in_groups : (load : ℕ) → Contains (concat (groups p)) load → Contains (load_nodes p) load
  in_groups load h = subst (λ loads. Contains loads load) (concat-groups p) h

  in_loads : (load : ℕ) → Contains (load_nodes p) load → Contains (concat (groups p)) load
  in_loads load h = subst (λ loads. Contains loads load) (sym (concat-groups p)) h

  all_read : IsInside p run → (load : ℕ) → Contains (concat (groups p)) load → ReadsPlace p run load
  all_read inside load h = reads_place p run load (inside_reads p run inside load (in_groups load h))

  -- the signature of a run that is inside gives the run back
  pub run_of-signature : IsInside p run → run_of p (signature p run) ≡ run
  run_of-signature inside = groups_back (groups p) (all_read inside) ∙ ap (map (value_read p run)) (concat-groups p) ∙ values_read p run inside.is_run.whole

  pub signature_fits : IsInside p run → FitGroups p (signature p run)
  signature_fits inside = words_fit (groups p) (all_read inside)

-- Words that mean a run mean no other, and are below their groups' products.

pub means-run_of : (p : Program) (words run : List ℕ) → Means p words run → run ≡ run_of p words
means-run_of p words run m = sym (run_of-signature p run m.inside) ∙ ap (run_of p) m.words_are

pub means-fit : (p : Program) (words run : List ℕ) → Means p words run → FitGroups p words
means-fit p words run m = subst (FitGroups p) m.words_are (signature_fits p run m.inside)

-- Words below their groups' products mean the run of their digits.

length-values : (p : Program) (cut : List (List ℕ)) (words : List ℕ) → AllZip (λ word group. word < group_product p group) words cut → length (values_of_groups p cut words) ≡ length (concat cut)
length-values p [] [] fit = refl
length-values p [] (word ∷ words) fit = absurd fit
length-values p (group ∷ more) [] fit = absurd fit
length-values p (group ∷ more) (word ∷ words) fit =
    let values = length-append (group_values p word group) (values_of_groups p more words) in
    let loads = length-append group (concat more) in
    let first = length-group_values p word group in
    let rest = length-values p more words fit.1 in
    omega (arith, values, loads, first, rest)

pub length-run_of : (p : Program) (words : List ℕ) → FitGroups p words → length (run_of p words) ≡ load_count p
length-run_of p words fit = length-values p (groups p) words fit ∙ ap length (concat-groups p) ∙ length-load_nodes p

small : (p : Program) (load value : ℕ) → op_count p ≤ 2048 → is_load_at p load ≡ true → Contains (candidates p load) value → value < 2 ^ 32
small p load value few loads h =
    let le = candidate_le p load h.0 value loads (slice_get-get_or (candidates p load) h.0 value h.1 ∙ ap Some h.2) in
    let stores = store_count-le p in
    omega (arith, le, stores, few)

pub fit-means : (p : Program) (words : List ℕ) → op_count p ≤ 2048 → FitGroups p words → Means p words (run_of p words)
fit-means p words few fit =
    let run = run_of p words in
    let whole = length-run_of p words fit in
    let values = values_read p run whole in
    let gives = gives_words p run (groups p) words (λ l i. loads_are p l (in_groups p run l i)) fit (ap (map (value_read p run)) (concat-groups p) ∙ values) in
    let reads : (load : ℕ) → Contains (load_nodes p) load → Contains (candidates p load) (value_read p run load) = λ (load : ℕ) (h : Contains (load_nodes p) load). gives.reads load (in_loads p run load h) in
    let below : All (λ value. value < 2 ^ 32) (map (value_read p run) (load_nodes p)) =
    All-map (λ value. value < 2 ^ 32) (value_read p run) (load_nodes p) (λ k d lt.
    let h = Contains-get_or (load_nodes p) k d lt in small p (get_or (load_nodes p) k d) (value_read p run (get_or (load_nodes p) k d)) few (loads_are p (get_or (load_nodes p) k d) h) (reads (get_or (load_nodes p) k d) h)) in
    record {
      inside = reads_inside p run (record { whole = whole; values = subst (All (λ value. value < 2 ^ 32)) values below }) reads;
      words_are = gives.words_are;
    }
