-- Joining what the pieces of a text gave, one after another.
use Rattle.std.proofs.Common.{◌≡◌, ◌∙◌, ◌⊎◌, ℕ, ◌+◌, ◌^◌, ◌<◌, ◌≤◌, List, [], ◌∷◌, ◌++◌, Bor, Bool, true, false, cond, map, not, suc, length, Result, Ok, Err, refl, sym, ap, subst, arith, length-append, inl, inr}
use Rattle.std.specs.List.{concat}
use Rattle.std.proofs.lemmas.List.{map-append}
use Rattle.tally.specs.declared.outcome.Outcome.{Outcome}
use Rattle.tally.specs.Tallies.{IsTally, total_of}
use Rattle.test_lang.specs.Program.{Program}
use Rattle.test_lang.specs.Values.{load_count}
use Rattle.run_text.specs.declared.fault.RunFault.{RunFault}
use Rattle.run_text.specs.declared.fault.RunFault.TheVariants.{NoDone, AfterDone, Memory}
use Rattle.run_text.specs.Pieces.{Piece, joined, moved, piece_read}
use Rattle.run_text.specs.Runs.{AreRunsOf, with_run, with_runs}
use Rattle.signature_plan.specs.Outcomes.{outcome_of}
use Rattle.run_count.specs.declared.piece.PieceCount.{PieceCount}
use Rattle.run_count.specs.Counts.{text_of}
use Rattle.run_count.specs.Pieces.{AreRead, AreReadFrom, AreReadPieces, FitsBehind, IsCountOf, IsCountOfPiece, IsFaultOfPiece, IsNextJoined, IsNextRefused, IsReadByPieces, IsReadPiece, pieces_read, no_memory, after_done, in_piece}

pub is_false : (b : Bool) → not b ≡ true → b ≡ false
is_false false e = refl
is_false true e = absurd cc

pub is_true : (b : Bool) → not b ≡ false → b ≡ true
is_true true e = refl
is_true false e = absurd cc

with_runs-ok : (runs : List (List ℕ)) → with_runs runs (Ok []) ≡ Ok runs
with_runs-ok [] = refl
with_runs-ok (run ∷ runs) = ap (with_run run) (with_runs-ok runs)

with_runs-err : (runs : List (List ℕ)) (fault : RunFault) → with_runs runs (Err fault) ≡ Err fault
with_runs-err [] fault = refl
with_runs-err (run ∷ runs) fault = ap (with_run run) (with_runs-err runs fault)

-- what the pieces that are left tell of a text, behind those that were read
abbrev pub after_pieces : Bool → List (Result Piece RunFault) → ℕ → Result (List (List ℕ)) RunFault
after_pieces true [] line = Ok []
after_pieces true (next ∷ others) line = Err (AfterDone (line + 1))
after_pieces false others line = joined others line

joined-first : (piece : Piece) (others : List (Result Piece RunFault)) (line : ℕ) → joined (Ok piece ∷ others) line ≡ with_runs piece.runs (after_pieces piece.is_done others (line + length piece.runs))
joined-first piece [] line = by piece.is_done
  where
    by : (b : Bool) → cond b (Ok piece.runs) (with_runs piece.runs (joined [] (line + length piece.runs))) ≡ with_runs piece.runs (after_pieces b [] (line + length piece.runs))
    by true = sym (with_runs-ok piece.runs)
    by false = refl
joined-first piece (next ∷ others) line = by piece.is_done
  where
    by : (b : Bool) → cond b (Err (AfterDone (line + length piece.runs + 1))) (with_runs piece.runs (joined (next ∷ others) (line + length piece.runs))) ≡ with_runs piece.runs (after_pieces b (next ∷ others) (line + length piece.runs))
    by true = sym (with_runs-err piece.runs (AfterDone (line + length piece.runs + 1)))
    by false = refl

with_runs-append : (xs ys : List (List ℕ)) (read : Result (List (List ℕ)) RunFault) → with_runs (xs ++ ys) read ≡ with_runs xs (with_runs ys read)
with_runs-append [] ys read = refl
with_runs-append (x ∷ xs) ys read = ap (with_run x) (with_runs-append xs ys read)

-- These pieces were joined, and the results that are left are those of the texts that are left.
pub record IsJoinedTo (most : ℕ) (p : Program) (line : ℕ) (texts : List (List ℕ)) (results : List (Result PieceCount RunFault)) (all : PieceCount) : Type 0 where
  pub left : List (List ℕ)
  pub runs : List (List ℕ)
  pub in_all : joined (pieces_read p texts) line ≡ with_runs runs (after_pieces all.is_done (pieces_read p left) (line + length runs))
  pub counted : IsCountOf most p runs all
  pub read : AreRead most p left results
  pub short : line + all.runs + length (concat left) + 1 < 2 ^ 32
  pub few : all.runs + length (concat left) ≤ length (concat texts)

-- no result is left
pub joined-all : (most : ℕ) (p : Program) (line : ℕ) (texts : List (List ℕ)) (left : List (Result PieceCount RunFault)) (all : PieceCount) → length left ≡ 0 → IsJoinedTo most p line texts left all → IsJoinedTo most p line texts [] all
joined-all most p line texts [] all none h = h
joined-all most p line texts (next ∷ left) all none h = absurd (omega (arith, none))

pub joined-none : (most : ℕ) (p : Program) (line : ℕ) (texts : List (List ℕ)) (results : List (Result PieceCount RunFault)) (all : PieceCount) → AreReadFrom most p line texts results
    → IsCountOf most p [] all → all.is_done ≡ false → IsJoinedTo most p line texts results all
joined-none most p line texts results all h none not_done =
    let zero_runs : all.runs ≡ 0 = none.counted.number in
    let same : line ≡ line + 0 = omega arith in
    record {
      left = texts;
      runs = [];
      in_all = ap (joined (pieces_read p texts)) same ∙ ap (λ (b : Bool). after_pieces b (pieces_read p texts) (line + 0)) (sym not_done);
      counted = none;
      read = h.read;
      short = omega (arith, h.short, zero_runs);
      few = omega (arith, zero_runs);
    }

module _ (most : ℕ) (p : Program) (line : ℕ) (texts : List (List ℕ)) (all : PieceCount) where
  -- what the text gives, where this piece is the first of those that are left
  in_next : (runs : List (List ℕ)) (text : List ℕ) (left : List (List ℕ)) (o : Result Piece RunFault) → all.is_done ≡ false → piece_read (text_of p 0 text) ≡ o
      → joined (pieces_read p texts) line ≡ with_runs runs (after_pieces all.is_done (pieces_read p (text ∷ left)) (line + length runs))
      → joined (pieces_read p texts) line ≡ with_runs runs (joined (o ∷ pieces_read p left) (line + length runs))
  in_next runs text left o not_done e h =
      h
      ∙ ap (λ (b : Bool). with_runs runs (after_pieces b (pieces_read p (text ∷ left)) (line + length runs))) not_done
      ∙ ap (λ (r : Result Piece RunFault). with_runs runs (joined (r ∷ pieces_read p left) (line + length runs))) e

  module _ (next : Result PieceCount RunFault) (results : List (Result PieceCount RunFault)) where
    step-at : (sum : PieceCount) → IsNextJoined most p all next sum → (h : IsJoinedTo most p line texts (next ∷ results) all) → (left : List (List ℕ)) → h.left ≡ left → IsJoinedTo most p line texts results sum
    step-at sum n h [] e = absurd (subst (λ (ts : List (List ℕ)). AreRead most p ts (next ∷ results)) e h.read)
    step-at sum n h (text ∷ left) e =
        let read : AreRead most p (text ∷ left) (next ∷ results) = subst (λ (ts : List (List ℕ)). AreRead most p ts (next ∷ results)) e h.read in
        let here : IsCountOfPiece most p text n.count = subst (IsReadPiece most p text) n.given read.0 in
        let counted = n.counted h.runs here.runs h.counted here.counted in
        let long : length (h.runs ++ here.runs) ≡ length h.runs + length here.runs = length-append h.runs here.runs in
        let bytes : length (concat h.left) ≡ length text + length (concat left) = ap (λ (ts : List (List ℕ)). length (concat ts)) e ∙ length-append text (concat left) in
        let behind : line + length h.runs + length here.runs ≡ line + length (h.runs ++ here.runs) = omega (arith, long) in
        record {
          left = left;
          runs = h.runs ++ here.runs;
          in_all =
              in_next h.runs text left (Ok (record { runs = here.runs; is_done = n.count.is_done })) n.not_done here.read
              (h.in_all ∙ ap (λ (ts : List (List ℕ)). with_runs h.runs (after_pieces all.is_done (pieces_read p ts) (line + length h.runs))) e)
              ∙ ap (with_runs h.runs) (joined-first (record { runs = here.runs; is_done = n.count.is_done }) (pieces_read p left) (line + length h.runs))
              ∙ sym (with_runs-append h.runs here.runs (after_pieces n.count.is_done (pieces_read p left) (line + length h.runs + length here.runs)))
              ∙ ap (λ (k : ℕ). with_runs (h.runs ++ here.runs) (after_pieces n.count.is_done (pieces_read p left) k)) behind
              ∙ ap (λ (b : Bool). with_runs (h.runs ++ here.runs) (after_pieces b (pieces_read p left) (line + length (h.runs ++ here.runs)))) (sym n.is_done);
          counted = counted;
          read = read.1;
          short = omega (arith, h.short, h.counted.counted.number, counted.counted.number, long, bytes, here.few, here.counted.counted.number);
          few = omega (arith, h.few, h.counted.counted.number, counted.counted.number, long, bytes, here.few, here.counted.counted.number);
        }

    pub joined-step : (sum : PieceCount) → IsNextJoined most p all next sum → IsJoinedTo most p line texts (next ∷ results) all → IsJoinedTo most p line texts results sum
    joined-step sum n h = step-at sum n h h.left refl

    -- the next piece can be joined
    fits-at : (h : IsJoinedTo most p line texts (next ∷ results) all) → (left : List (List ℕ)) → h.left ≡ left → FitsBehind line all next
    fits-at h [] e = absurd (subst (λ (ts : List (List ℕ)). AreRead most p ts (next ∷ results)) e h.read)
    fits-at h (text ∷ left) e =
        let read : AreRead most p (text ∷ left) (next ∷ results) = subst (λ (ts : List (List ℕ)). AreRead most p ts (next ∷ results)) e h.read in
        let bytes : length (concat h.left) ≡ length text + length (concat left) = ap (λ (ts : List (List ℕ)). length (concat ts)) e ∙ length-append text (concat left) in
        by (omega (arith, h.short, bytes)) next read.0
      where
        by : line + all.runs + length text < 2 ^ 32 → (o : Result PieceCount RunFault) → IsReadPiece most p text o → FitsBehind line all o
        by short (Ok count) is = (omega (arith, short, is.few), is.counted.few)
        by short (Err fault) is = omega (arith, short, is.line)

    pub joined-fits : IsJoinedTo most p line texts (next ∷ results) all → FitsBehind line all next
    joined-fits h = fits-at h h.left refl

    -- the refusal is that of the text
    refused-at : (fault : RunFault) → IsNextRefused line all next fault → (h : IsJoinedTo most p line texts (next ∷ results) all) → (left : List (List ℕ)) → h.left ≡ left
        → (fault ≡ Memory) ⊎ (joined (pieces_read p texts) line ≡ Err fault)
    refused-at fault n h [] e = absurd (subst (λ (ts : List (List ℕ)). AreRead most p ts (next ∷ results)) e h.read)
    refused-at fault n h (text ∷ left) e = by n
      where
        here : joined (pieces_read p texts) line ≡ with_runs h.runs (after_pieces all.is_done (pieces_read p (text ∷ left)) (line + length h.runs))
        here = h.in_all ∙ ap (λ (ts : List (List ℕ)). with_runs h.runs (after_pieces all.is_done (pieces_read p ts) (line + length h.runs))) e

        number : length h.runs ≡ all.runs
        number = sym h.counted.counted.number

        own_fault : (own : RunFault) → next ≡ Err own → IsFaultOfPiece p text own
        own_fault own is = subst (IsReadPiece most p text) is (subst (λ (ts : List (List ℕ)). AreRead most p ts (next ∷ results)) e h.read).0

        by_cause : (own : RunFault) → all.is_done ≡ false → fault ≡ moved (line + all.runs) own → (own ≡ Memory) ⊎ (piece_read (text_of p 0 text) ≡ Err own)
            → (fault ≡ Memory) ⊎ (joined (pieces_read p texts) line ≡ Err fault)
        by_cause own not_done same (inl none) = inl (same ∙ ap (moved (line + all.runs)) none)
        by_cause own not_done same (inr refused) = inr (
            in_next h.runs text left (Err own) not_done refused here
            ∙ with_runs-err h.runs (moved (line + length h.runs) own)
            ∙ ap (λ (k : ℕ). Err (moved (line + k) own)) number
            ∙ ap Err (sym same))

        by : IsNextRefused line all next fault → (fault ≡ Memory) ⊎ (joined (pieces_read p texts) line ≡ Err fault)
        by (no_memory none) = inl none
        by (after_done done same) = inr (
            here
            ∙ ap (λ (b : Bool). with_runs h.runs (after_pieces b (pieces_read p (text ∷ left)) (line + length h.runs))) done
            ∙ with_runs-err h.runs (AfterDone (line + length h.runs + 1))
            ∙ ap (λ (k : ℕ). Err (AfterDone (line + k + 1))) number
            ∙ ap Err (sym same))
        by (in_piece own is not_done same) = by_cause own not_done same (own_fault own is).cause

    pub joined-refused : (fault : RunFault) → IsNextRefused line all next fault → IsJoinedTo most p line texts (next ∷ results) all → (fault ≡ Memory) ⊎ (joined (pieces_read p texts) line ≡ Err fault)
    joined-refused fault n h = refused-at fault n h h.left refl

  -- no piece is left
  at-end : (h : IsJoinedTo most p line texts [] all) → (left : List (List ℕ)) → h.left ≡ left → h.left ≡ []
  at-end h [] e = e
  at-end h (text ∷ left) e = absurd (subst (λ (ts : List (List ℕ)). AreRead most p ts []) e h.read)

  whole : (h : IsJoinedTo most p line texts [] all) → joined (pieces_read p texts) line ≡ with_runs h.runs (after_pieces all.is_done [] (line + length h.runs))
  whole h = h.in_all ∙ ap (λ (ts : List (List ℕ)). with_runs h.runs (after_pieces all.is_done (pieces_read p ts) (line + length h.runs))) (at-end h h.left refl)

  pub joined-done : (h : IsJoinedTo most p line texts [] all) → all.is_done ≡ true → joined (pieces_read p texts) line ≡ Ok h.runs
  joined-done h done = whole h ∙ ap (λ (b : Bool). with_runs h.runs (after_pieces b [] (line + length h.runs))) done ∙ with_runs-ok h.runs

  pub joined-not_done : (h : IsJoinedTo most p line texts [] all) → all.is_done ≡ false → joined (pieces_read p texts) line ≡ Err (NoDone (line + all.runs))
  joined-not_done h not_done =
      whole h ∙ ap (λ (b : Bool). with_runs h.runs (after_pieces b [] (line + length h.runs))) not_done
      ∙ with_runs-err h.runs (NoDone (line + length h.runs)) ∙ ap (λ (k : ℕ). Err (NoDone (line + k))) (sym h.counted.counted.number)

-- Two counts as one.

runs-append : (loads : ℕ) (xs ys : List (List ℕ)) → AreRunsOf loads xs → AreRunsOf loads ys → AreRunsOf loads (xs ++ ys)
runs-append loads [] ys h k = k
runs-append loads (x ∷ xs) ys h k = (h.0, runs-append loads xs ys h.1 k)

-- the first has no run
pub two-none : (most : ℕ) (p : Program) (first second : List (List ℕ)) (before after : PieceCount) → before.runs ≡ 0 → IsCountOf most p first before → IsCountOf most p second after → IsCountOf most p (first ++ second) after
two-none most p [] second before after zero_runs h k = k
two-none most p (run ∷ first) second before after zero_runs h k = absurd (omega (arith, zero_runs, h.counted.number))

module _ (most : ℕ) (p : Program) (first second : List (List ℕ)) (before after sum : PieceCount) (runs : sum.runs ≡ before.runs + after.runs) (h : IsCountOf most p first before) (k : IsCountOf most p second after) where
  two : total_of sum.tally ≤ sum.runs
      → (sum.runs ≤ most → IsTally (map (outcome_of p) first ++ map (outcome_of p) second) sum.tally × (total_of sum.tally ≡ sum.runs)) → IsCountOf most p (first ++ second) sum
  two few tally = record {
    counted = record {
      each = runs-append (load_count p) first second h.counted.each k.counted.each;
      number = omega (arith, runs, h.counted.number, k.counted.number, length-append first second);
      counts = λ fit. subst (λ (outcomes : List Outcome). IsTally outcomes sum.tally) (sym (map-append (outcome_of p) first second)) (tally fit).0;
      sum = λ fit. (tally fit).1;
    };
    few = few;
  }

  -- they are few enough, and the tallies were joined
  pub two-joined : sum.runs ≤ most → total_of sum.tally ≡ total_of before.tally + total_of after.tally
      → ((xs ys : List Outcome) → IsTally xs before.tally → IsTally ys after.tally → IsTally (xs ++ ys) sum.tally)
      → IsCountOf most p (first ++ second) sum
  two-joined fit total joins = two (omega (arith, total, h.few, k.few, runs)) (λ _.
      let less : before.runs ≤ most = omega (arith, fit, runs) in
      let less_too : after.runs ≤ most = omega (arith, fit, runs) in
      let both : total_of sum.tally ≡ sum.runs = omega (arith, total, h.counted.sum less, k.counted.sum less_too, runs) in
      (joins (map (outcome_of p) first) (map (outcome_of p) second) (h.counted.counts less) (k.counted.counts less_too), both))

  -- they are too many
  pub two-many : most < sum.runs → sum.tally ≡ before.tally → IsCountOf most p (first ++ second) sum
  two-many many same = two (omega (arith, ap total_of same, h.few, runs)) (λ fit. absurd (omega (arith, fit, many)))

-- The pieces, each with what it gave.

pub each-read : (most : ℕ) (p : Program) (pieces : List (Bor (List ℕ))) (results : List (Result PieceCount RunFault)) → length results ≡ length pieces → AreReadPieces most p pieces results → AreRead most p (map (λ piece. piece.now) pieces) results
each-read most p [] [] same each = tt
each-read most p [] (result ∷ results) same each = absurd (omega (arith, same))
each-read most p (piece ∷ pieces) [] same each = absurd (omega (arith, same))
each-read most p (piece ∷ pieces) (result ∷ results) same each = (
  each 0 piece result (omega arith) refl,
  each-read most p pieces results (omega (arith, same)) (λ index other d below is. each (suc index) other d (omega (arith, below)) is),
)

pub read-from : (most : ℕ) (p : Program) (line : ℕ) (text : List ℕ) (results : List (Result PieceCount RunFault)) (h : IsReadByPieces most p text results) → line + length text + 1 < 2 ^ 32 → AreReadFrom most p line h.texts results
read-from most p line text results h short = record {
  read = h.read;
  short = omega (arith, short, ap length h.whole);
}

-- The loop over the pieces, whatever texts they have.

abbrev pub HasJoined : ℕ → ℕ → List (Result PieceCount RunFault) → List (Result PieceCount RunFault) → PieceCount → Type 0
HasJoined most line results left all = (p : Program) (texts : List (List ℕ)) → AreReadFrom most p line texts results → IsJoinedTo most p line texts left all

pub no_runs : (most : ℕ) (p : Program) (tally : List (Outcome × ℕ)) (is_done : Bool) → tally ≡ [] → IsTally [] tally → IsCountOf most p [] (record { runs = 0; tally = tally; is_done = is_done })
no_runs most p tally is_done empty none =
    let zero_total : total_of tally ≡ 0 = ap total_of empty in
    record {
      counted = record { each = tt; number = refl; counts = λ _. none; sum = λ _. zero_total };
      few = omega (arith, zero_total);
    }

pub has_joined-none : (most line : ℕ) (results : List (Result PieceCount RunFault)) (tally : List (Outcome × ℕ)) → tally ≡ [] → IsTally [] tally → HasJoined most line results results (record { runs = 0; tally = tally; is_done = false })
has_joined-none most line results tally empty none p texts read = joined-none most p line texts results (record { runs = 0; tally = tally; is_done = false }) read (no_runs most p tally false empty none) refl

pub has_joined-step : (most line : ℕ) (results left rest : List (Result PieceCount RunFault)) (next : Result PieceCount RunFault) (all sum : PieceCount) → left ≡ next ∷ rest → HasJoined most line results left all
    → ((p : Program) → IsNextJoined most p all next sum) → HasJoined most line results rest sum
has_joined-step most line results left rest next all sum is h joins p texts read =
    joined-step most p line texts all next rest sum (joins p) (subst (λ (os : List (Result PieceCount RunFault)). IsJoinedTo most p line texts os all) is (h p texts read))
