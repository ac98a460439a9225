-- Batches that are counted whole, or taken back.
use Rattle.std.proofs.Common.{◌≡◌, ◌∙◌, ℕ, ◌≤◌, List, [], ◌∷◌, ◌++◌, length, append_assoc, append-nil, sym, ap, subst, arith}
use Rattle.tally.specs.declared.outcome.Outcome.{Outcome}
use Rattle.tally.specs.Tallies.{IsTally, count_of}
use Rattle.tally.proofs.Shrinking.{last-is_counted}

module _ (outcomes others left : List Outcome) (last : Outcome) (pairs : List (Outcome × ℕ)) (split : left ≡ others ++ last ∷ []) where
  -- the last one of those that are left stands at the end
  pub last_at_end : IsTally (outcomes ++ left) pairs → IsTally ((outcomes ++ others) ++ last ∷ []) pairs
  last_at_end h = subst (λ (l : List Outcome). IsTally l pairs) (ap (λ (l : List Outcome). outcomes ++ l) split ∙ sym (append_assoc outcomes others (last ∷ []))) h

  pub last_is_there : IsTally (outcomes ++ left) pairs → 1 ≤ count_of pairs last
  last_is_there h = last-is_counted (outcomes ++ others) pairs last (last_at_end h)

-- with none left
pub none_left : (outcomes left : List Outcome) (pairs : List (Outcome × ℕ)) → length left ≡ 0 → IsTally (outcomes ++ left) pairs → IsTally outcomes pairs
none_left outcomes [] pairs none h = subst (λ (l : List Outcome). IsTally l pairs) (append-nil outcomes) h
none_left outcomes (x ∷ left) pairs none h = absurd (omega (arith, none))

-- one more is counted
pub one_more : (outcomes counted counted' : List Outcome) (outcome : Outcome) (pairs pairs' : List (Outcome × ℕ)) → counted' ≡ counted ++ outcome ∷ []
    → ((xs : List Outcome) → IsTally xs pairs → IsTally (xs ++ outcome ∷ []) pairs') → IsTally (outcomes ++ counted) pairs → IsTally (outcomes ++ counted') pairs'
one_more outcomes counted counted' outcome pairs pairs' more grows h =
    subst (λ (l : List Outcome). IsTally l pairs') (append_assoc outcomes counted (outcome ∷ []) ∙ ap (λ (l : List Outcome). outcomes ++ l) (sym more)) (grows (outcomes ++ counted) h)
