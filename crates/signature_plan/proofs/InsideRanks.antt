-- The loads of a range of ranks that give candidates' values, one by one and range by range.
use Rattle.std.proofs.Common.{◌≡◌, ℕ, ◌+◌, ◌*◌, ◌%◌, ◌^◌, ◌<◌, ◌≤◌, List, Bool, true, false, ◌&&◌, length, get_or, refl, arith, sym, subst, Contains, ⊎_elim}
use Rattle.std.specs.Prelude.{slice_index}
use Rattle.std.specs.Bool.{OnTrue}
use Rattle.std.proofs.lemmas.Bool.{cases_eq, cases_lt}
use Rattle.test_lang.specs.Program.{Program}
use Rattle.test_lang.specs.Values.{load_count}
use Rattle.test_lang.specs.Runs.{IsInside}
use Rattle.candidates.specs.ByRank.{candidates_at}
use Rattle.candidates.proofs.RunLemmas.{all_inside}
use Rattle.signature_plan.specs.Words.{ReadCandidates}
use Rattle.signature_plan.proofs.Reading.{run_inside}

pub on_true : (P : Type 0) (b : Bool) → b ≡ true → OnTrue b P → P
on_true P true e h = h
on_true P false e h = absurd cc

-- a sum and a product that fit don't wrap
pub no_wrap : (word count digit : ℕ) → word * count + digit < 2 ^ 64 → (word * count % 2 ^ 64 + digit) % 2 ^ 64 ≡ word * count + digit
no_wrap word count digit lt = no (word * count) lt where
  no : (product : ℕ) → product + digit < 2 ^ 64 → (product % 2 ^ 64 + digit) % 2 ^ 64 ≡ product + digit
  no product lt = omega (arith, lt)

module _ (p : Program) (run : List ℕ) where
  -- one load more in front
  pub read_more : (rank before end : ℕ) (inside has : Bool) → before ≡ rank + 1 → OnTrue inside (ReadCandidates p run before end)
      → (has ≡ true → Contains (candidates_at p rank) (slice_index run rank)) → OnTrue (inside && has) (ReadCandidates p run rank end)
  read_more rank before end true true next h here = record {
    each = λ k from to. ⊎_elim
        (λ (same : k ≡ rank). subst (λ r. Contains (candidates_at p r) (slice_index run r)) (sym same) (here refl))
        (λ (other : k ≡ rank → ⊥). h.each k (omega (arith, from, other, next)) to)
        (cases_eq k rank);
  }
  read_more rank before end true false next h here = tt
  read_more rank before end false has next h here = tt

  -- a range more behind
  pub read_join : (first end : ℕ) (inside has : Bool) → OnTrue inside (ReadCandidates p run 0 first) → OnTrue has (ReadCandidates p run first end) → OnTrue (inside && has) (ReadCandidates p run 0 end)
  read_join first end true true front back = record {
    each = λ k from to. ⊎_elim
        (λ (lt : k < first). front.each k from lt)
        (λ (le : first ≤ k). back.each k le to)
        (cases_lt k first);
  }
  read_join first end true false front back = tt
  read_join first end false has front back = tt

  -- all loads
  pub read_inside : (end : ℕ) (inside : Bool) → load_count p ≤ end → length run ≡ load_count p → ((k : ℕ) → get_or run k 0 < 2 ^ 32) → OnTrue inside (ReadCandidates p run 0 end) → OnTrue inside (IsInside p run)
  read_inside end true all whole small h = run_inside p run whole small (all_inside p run (record { each = λ k lt. h.each k (omega arith) (omega (arith, lt, all)) }))
  read_inside end false all whole small h = tt
