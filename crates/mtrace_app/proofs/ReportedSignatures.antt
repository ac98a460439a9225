-- The signatures of a tally as one list, and the verdicts on them.
use Rattle.std.proofs.Common.{◌≡◌, ◌∙◌, ℕ, ◌≤◌, List, [], ◌∷◌, ◌++◌, All, length, append-nil, append_assoc, refl, sym, ap, arith}
use Rattle.std.specs.List.{AllZip}
use Rattle.std.specs.Map.{values_of}
use Rattle.std.proofs.lemmas.List.Elements.{All-cons, All-head, All-nil, All-tail}
use Rattle.std.proofs.lemmas.List.Sums.{sum_by-cons}
use Rattle.tally.specs.declared.outcome.Outcome.{Outcome}
use Rattle.tally.specs.declared.outcome.Outcome.TheVariants.{Inside, Outside}
use Rattle.tally.specs.Tallies.{total_of}
use Rattle.test_lang.specs.declared.op.MemModel.{MemModel}
use Rattle.test_lang.specs.Program.{Program}
use Rattle.test_lang.specs.Signatures.{Means}
use Rattle.verdict_report.specs.declared.report.Judged.{Judged}
use Rattle.verdict_report.specs.Lines.{signatures}
use Rattle.chunk_pool.specs.Verdicts.{IsJudged}
use Rattle.mtrace_app.specs.Counted.{AreMeant}
use Rattle.mtrace_app.specs.Report.{AreJudged, words_of}

-- ---- copying them

-- one more is copied
pub copied-inside : (whole out : List (List ℕ)) (left rest : List (Outcome × ℕ)) (words : List ℕ) (count : ℕ) → left ≡ (Inside words, count) ∷ rest → out ++ words_of (signatures left) ≡ whole → (out ++ words ∷ []) ++ words_of (signatures rest) ≡ whole
copied-inside whole out left rest words count e so_far =
    append_assoc out (words ∷ []) (words_of (signatures rest)) ∙ sym (ap (λ (ps : List (Outcome × ℕ)). out ++ words_of (signatures ps)) e) ∙ so_far

pub copied-outside : (whole out : List (List ℕ)) (left rest : List (Outcome × ℕ)) (node value count : ℕ) → left ≡ (Outside node value, count) ∷ rest → out ++ words_of (signatures left) ≡ whole → out ++ words_of (signatures rest) ≡ whole
copied-outside whole out left rest node value count e so_far = sym (ap (λ (ps : List (Outcome × ℕ)). out ++ words_of (signatures ps)) e) ∙ so_far

pub copied-all : (whole out : List (List ℕ)) (left : List (Outcome × ℕ)) → left ≡ [] → out ++ words_of (signatures left) ≡ whole → out ≡ whole
copied-all whole out left e so_far = sym (append-nil out) ∙ sym (ap (λ (ps : List (Outcome × ℕ)). out ++ words_of (signatures ps)) e) ∙ so_far

-- ---- how many they are

pub length-words_of : (ss : List (List ℕ × ℕ)) → length (words_of ss) ≡ length ss
length-words_of [] = refl
length-words_of (s ∷ ss) = let more = length-words_of ss in omega (arith, more)

-- no more than what was counted
pub signatures_in_all : (pairs : List (Outcome × ℕ)) → All (λ count. 1 ≤ count) (values_of pairs) → length (signatures pairs) ≤ total_of pairs
signatures_in_all [] h = omega arith
signatures_in_all ((Inside words, count) ∷ more) h =
    let first = All-head (λ (n : ℕ). 1 ≤ n) count (values_of more) h in
    let later = signatures_in_all more (All-tail (λ (n : ℕ). 1 ≤ n) count (values_of more) h) in
    let all = sum_by-cons (λ (n : ℕ). n) count (values_of more) in
    omega (arith, first, later, all)
signatures_in_all ((Outside node value, count) ∷ more) h =
    let later = signatures_in_all more (All-tail (λ (n : ℕ). 1 ≤ n) count (values_of more) h) in
    let all = sum_by-cons (λ (n : ℕ). n) count (values_of more) in
    omega (arith, later, all)

-- ---- what they mean, and the verdicts on them

pub words_mean : (p : Program) (ss : List (List ℕ × ℕ)) → AreMeant p ss → All (λ words. (run : List ℕ) × Means p words run) (words_of ss)
words_mean p [] h = All-nil (λ words. (run : List ℕ) × Means p words run)
words_mean p (s ∷ ss) h = All-cons (λ words. (run : List ℕ) × Means p words run) s.0 (words_of ss) h.0 (words_mean p ss h.1)

module _ (model : MemModel) (p : Program) where
  pub judged_in_order : (ss : List (List ℕ × ℕ)) (found : List Judged) → AllZip (IsJudged model p) (words_of ss) found → AreJudged model p ss found
  judged_in_order [] [] h = tt
  judged_in_order [] (judged ∷ found) h = absurd h
  judged_in_order (s ∷ ss) [] h = absurd h
  judged_in_order (s ∷ ss) (judged ∷ found) h = (h.0, judged_in_order ss found h.1)

  pub length-judged : (ss : List (List ℕ × ℕ)) (found : List Judged) → AreJudged model p ss found → length found ≡ length ss
  length-judged [] [] h = refl
  length-judged [] (judged ∷ found) h = absurd h
  length-judged (s ∷ ss) [] h = absurd h
  length-judged (s ∷ ss) (judged ∷ found) h = let more = length-judged ss found h.1 in omega (arith, more)
