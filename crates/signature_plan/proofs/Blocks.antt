-- The places at which two tests pass, where they agree or one passes nowhere from a place on.
use Rattle.std.proofs.Common.{◌≡◌, ◌∙◌, ℕ, zero, suc, ◌+◌, ◌<◌, ◌≤◌, List, [], ◌∷◌, ◌++◌, Bool, false, cond, length, get_or, Some, ap, arith, sym, append_assoc, append-nil}
use Rattle.std.specs.Prelude.{slice_get}
use Rattle.std.proofs.lemmas.Option.{slice_get-get_or}
use Rattle.test_lang.specs.declared.op.Op.{Op}
use Rattle.test_lang.specs.declared.op.Op.TheVariants.{Fence}
use Rattle.test_lang.proofs.Places.{places, places-suc}

module _ (xs : List (ℕ × Op)) (word other : ℕ × Op → Bool) where
  -- where the tests agree from a place on, equal places are added
  pub agree-more : (m d : ℕ) → m + d ≤ length xs → ((k : ℕ) (x : ℕ × Op) → m ≤ k → k < m + d → slice_get xs k ≡ Some x → other x ≡ word x)
      → (rest : List ℕ) × (places word xs (m + d) ≡ places word xs m ++ rest) × (places other xs (m + d) ≡ places other xs m ++ rest)
  agree-more m zero h agree =
      let same : m + 0 ≡ m = omega arith in
      ([], ap (places word xs) same ∙ sym (append-nil (places word xs m)), ap (places other xs) same ∙ sym (append-nil (places other xs m)))
  agree-more m (suc d) h agree =
      let more = agree-more m d (omega (arith, h)) (λ k y from to e. agree k y from (omega (arith, to)) e) in
      let x = get_or xs (m + d) (0, Fence) in
      let here : slice_get xs (m + d) ≡ Some x = slice_get-get_or xs (m + d) (0, Fence) (omega (arith, h)) in
      let next : m + suc d ≡ suc (m + d) = omega arith in
      let added = cond (word x) ((m + d) ∷ []) [] in (
        more.0 ++ added,
        ap (places word xs) next ∙ places-suc word xs (m + d) x here ∙ ap (λ list. list ++ added) more.1 ∙ append_assoc (places word xs m) more.0 added,
        ap (places other xs) next ∙ places-suc other xs (m + d) x here ∙ ap (λ b. places other xs (m + d) ++ cond b ((m + d) ∷ []) []) (agree (m + d) x (omega arith) (omega arith) here)
            ∙ ap (λ list. list ++ added) more.2 ∙ append_assoc (places other xs m) more.0 added,
      )

  pub none-more : (m d : ℕ) → m + d ≤ length xs → ((k : ℕ) (x : ℕ × Op) → m ≤ k → k < m + d → slice_get xs k ≡ Some x → other x ≡ false) → places other xs (m + d) ≡ places other xs m
  none-more m zero h none = let same : m + 0 ≡ m = omega arith in ap (places other xs) same
  none-more m (suc d) h none =
      let x = get_or xs (m + d) (0, Fence) in
      let here : slice_get xs (m + d) ≡ Some x = slice_get-get_or xs (m + d) (0, Fence) (omega (arith, h)) in
      let next : m + suc d ≡ suc (m + d) = omega arith in
      ap (places other xs) next ∙ places-suc other xs (m + d) x here
      ∙ ap (λ b. places other xs (m + d) ++ cond b ((m + d) ∷ []) []) (none (m + d) x (omega arith) (omega arith) here)
      ∙ append-nil (places other xs (m + d))
      ∙ none-more m d (omega (arith, h)) (λ k y from to e. none k y from (omega (arith, to)) e)
