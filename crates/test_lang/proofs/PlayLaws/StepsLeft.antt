-- How many steps are left.
use Rattle.std.proofs.Common.{◌≡◌, ◌∙◌, ℕ, ◌+◌, ◌*◌, ◌<◌, ◌≤◌, List, [], ◌∷◌, ◌++◌, Bool, true, false, not, ◌&&◌, cond, Contains, inl, inr, arith, refl, sym, ap, subst}
use Rattle.std.specs.Prelude.{count_by}
use Rattle.std.proofs.lemmas.List.Elements.{Contains-append_left, Contains-push, Contains-push_cases}
use Rattle.std.proofs.lemmas.List.Sums.{count_by-le-length}
use Rattle.orders.specs.Orders.{nodes_below}
use Rattle.orders.proofs.Below.{length-below}
use Rattle.test_lang.specs.declared.step.Step.{Step}
use Rattle.test_lang.specs.declared.target.Target.{Target}
use Rattle.test_lang.specs.declared.target.Fault.{Fault}
use Rattle.test_lang.specs.Program.{Program, op_count, all_nodes}
use Rattle.test_lang.specs.Play.States.{State, has}
use Rattle.test_lang.specs.Play.Machines.{is_enabled, after, waits_at}
use Rattle.test_lang.specs.Play.Plays.{is_done, steps_left}
use Rattle.test_lang.proofs.EdgeTests.{not-true}
use Rattle.test_lang.proofs.PlayLaws.Lasts.{not_false, lacks, both_true, has_true, has_false, true_has, all_at, all_true}
use Rattle.test_lang.proofs.PlayLaws.Counts.{count_same, count_less, count_none, none_count}
use Rattle.test_lang.proofs.PlayLaws.Moves.{IsCoherent, Coherent, Move, moves}
use Rattle.test_lang.proofs.PlayLaws.Moves.Move.{executes, drains}

-- the nodes to be executed, and those that wait or will wait

abbrev unexecuted : List ℕ → ℕ → Bool
unexecuted executed n = not (has executed n)

abbrev undrained : (ℕ → Bool) → List ℕ → ℕ → Bool
undrained waiting effects n = waiting n && not (has effects n)

has_other : (xs : List ℕ) (n k : ℕ) → (k ≡ n → ⊥) → has (xs ++ n ∷ []) k ≡ has xs k
has_other xs n k apart = at (has xs k) refl where
  at : (b : Bool) → has xs k ≡ b → has (xs ++ n ∷ []) k ≡ b
  at true e = true_has (xs ++ n ∷ []) k (Contains-append_left xs (n ∷ []) k (has_true xs k e))
  at false e = not-true (has (xs ++ n ∷ []) k) (lacks (xs ++ n ∷ []) k (λ there. elim (Contains-push_cases xs n k there) [ inl old ↦ has_false xs k e old | inr same ↦ apart (sym same) ]))

has_last : (xs : List ℕ) (n : ℕ) → has (xs ++ n ∷ []) n ≡ true
has_last xs n = true_has (xs ++ n ∷ []) n (Contains-push xs n)

and_not : (b c : Bool) → c ≡ true → (b && not c) ≡ false
and_not true c e = ap not e
and_not false c e = refl

fewer_unexecuted : (executed : List ℕ) (count n : ℕ) → n < count → (Contains executed n → ⊥) → count_by (unexecuted (executed ++ n ∷ [])) (nodes_below count) + 1 ≡ count_by (unexecuted executed) (nodes_below count)
fewer_unexecuted executed count n below new =
    count_less (unexecuted executed) (unexecuted (executed ++ n ∷ [])) count n below (lacks executed n new) (ap not (has_last executed n)) (λ k apart. ap not (sym (has_other executed n k apart)))

same_undrained : (waiting : ℕ → Bool) (effects : List ℕ) (count n : ℕ) → waiting n ≡ false → count_by (undrained waiting (effects ++ n ∷ [])) (nodes_below count) ≡ count_by (undrained waiting effects) (nodes_below count)
same_undrained waiting effects count n idle = count_same (undrained waiting (effects ++ n ∷ [])) (undrained waiting effects) count (λ k lt. at k (waiting k) refl) where
  at : (k : ℕ) (b : Bool) → waiting k ≡ b → (b && not (has (effects ++ n ∷ []) k)) ≡ (b && not (has effects k))
  at k true e = ap not (has_other effects n k (λ same. let no : waiting k ≡ false = subst (λ (y : ℕ). waiting y ≡ false) (sym same) idle in absurd cc))
  at k false e = refl

fewer_undrained : (waiting : ℕ → Bool) (effects : List ℕ) (count n : ℕ) → n < count → waiting n ≡ true → (Contains effects n → ⊥) →
    count_by (undrained waiting (effects ++ n ∷ [])) (nodes_below count) + 1 ≡ count_by (undrained waiting effects) (nodes_below count)
fewer_undrained waiting effects count n below waits out =
    count_less (undrained waiting effects) (undrained waiting (effects ++ n ∷ [])) count n below (both_true (waiting n) (not (has effects n)) waits (lacks effects n out))
    (and_not (waiting n) (has (effects ++ n ∷ []) n) (has_last effects n)) (λ k apart. ap (λ b. waiting k && not b) (sym (has_other effects n k apart)))

-- the steps left, told by lists
abbrev left : (ℕ → Bool) → ℕ → List ℕ → List ℕ → ℕ
left waiting count executed effects = count_by (unexecuted executed) (nodes_below count) + count_by (undrained waiting effects) (nodes_below count)

left_executed : (waiting : ℕ → Bool) (count : ℕ) (executed effects : List ℕ) (n : ℕ) → n < count → (Contains executed n → ⊥) → (b : Bool) → waiting n ≡ b
    → left waiting count (executed ++ n ∷ []) (cond b effects (effects ++ n ∷ [])) + 1 ≡ left waiting count executed effects
left_executed waiting count executed effects n below new true w = let fewer = fewer_unexecuted executed count n below new in omega (arith, fewer)
left_executed waiting count executed effects n below new false w =
    let fewer = fewer_unexecuted executed count n below new in
    let same = same_undrained waiting effects count n w in
    omega (arith, fewer, same)

left_drained : (waiting : ℕ → Bool) (count : ℕ) (executed effects : List ℕ) (n : ℕ) → n < count → IsCoherent waiting executed effects → Contains executed n → (Contains effects n → ⊥) → (b : Bool) → waiting n ≡ b
    → left waiting count executed (effects ++ n ∷ []) + 1 ≡ left waiting count executed effects
left_drained waiting count executed effects n below k there out true w = let fewer = fewer_undrained waiting effects count n below w out in omega (arith, fewer)
left_drained waiting count executed effects n below k there out false w = absurd (out (k.direct n there w))

left_move : (target : Target) (fault : Fault) (p : Program) (st next : State) → Coherent target fault p st → Move target fault p st next → steps_left target fault p next + 1 ≡ steps_left target fault p st
left_move target fault p st next k (executes n below new is) =
    subst (λ other. steps_left target fault p other + 1 ≡ steps_left target fault p st) (sym is)
    (left_executed (waits_at target fault p) (op_count p) st.executed st.effects n below new (waits_at target fault p n) refl)
left_move target fault p st next k (drains n below there out is) =
    subst (λ other. steps_left target fault p other + 1 ≡ steps_left target fault p st) (sym is)
    (left_drained (waits_at target fault p) (op_count p) st.executed st.effects n below k there out (waits_at target fault p n) refl)

-- an enabled step takes one from them
pub falls : (target : Target) (fault : Fault) (p : Program) (st : State) (step : Step) → Coherent target fault p st → is_enabled target fault p st step ≡ true → steps_left target fault p (after target fault p st step) + 1 ≡ steps_left target fault p st
falls target fault p st step k h = left_move target fault p st (after target fault p st step) k (moves target fault p st step k h)

-- none is left where each node took effect
done_left : (waiting : ℕ → Bool) (count : ℕ) (executed effects : List ℕ) → IsCoherent waiting executed effects → ((n : ℕ) → n < count → Contains effects n) → left waiting count executed effects ≡ 0
done_left waiting count executed effects k all =
    let first = none_count (unexecuted executed) count (λ n lt. ap not (true_has executed n (k.within n (all n lt)))) in
    let second = none_count (undrained waiting effects) count (λ n lt. and_not (waiting n) (has effects n) (true_has effects n (all n lt))) in
    omega (arith, first, second)

-- and only there
left_done : (waiting : ℕ → Bool) (count : ℕ) (executed effects : List ℕ) → IsCoherent waiting executed effects → left waiting count executed effects ≡ 0 → (n : ℕ) → n < count → has effects n ≡ true
left_done waiting count executed effects k none n lt = at (waiting n) refl where
  executed_all : has executed n ≡ true
  executed_all = not_false (has executed n) (count_none (unexecuted executed) count (omega (arith, none)) n lt)

  drained_all : (waiting n && not (has effects n)) ≡ false
  drained_all = count_none (undrained waiting effects) count (omega (arith, none)) n lt

  at : (b : Bool) → waiting n ≡ b → has effects n ≡ true
  at true e = not_false (has effects n) (ap (λ b. b && not (has effects n)) (sym e) ∙ drained_all)
  at false e = true_has effects n (k.direct n (has_true executed n executed_all) e)

pub ends : (target : Target) (fault : Fault) (p : Program) (st : State) → Coherent target fault p st → (is_done p st ≡ true → steps_left target fault p st ≡ 0) × (steps_left target fault p st ≡ 0 → is_done p st ≡ true)
ends target fault p st k = (
  λ done. done_left (waits_at target fault p) (op_count p) st.executed st.effects k (λ n lt. has_true st.effects n (all_at (has st.effects) (op_count p) done n lt)),
  λ none. all_true (has st.effects) (op_count p) (left_done (waits_at target fault p) (op_count p) st.executed st.effects k none),
)

pub few : (target : Target) (fault : Fault) (p : Program) (st : State) → steps_left target fault p st ≤ 2 * op_count p
few target fault p st =
    let first = count_by-le-length (unexecuted st.executed) (all_nodes p) in
    let second = count_by-le-length (undrained (waits_at target fault p) st.effects) (all_nodes p) in
    let long = length-below (op_count p) in
    omega (arith, first, second, long)
