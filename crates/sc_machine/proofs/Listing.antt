-- The threads that have an operation left, as a list.
use Rattle.std.proofs.Common.{◌≡◌, ◌≢◌, ◌∙◌, ℕ, zero, suc, ◌+◌, ◌<◌, ◌≤◌, List, [], ◌∷◌, ◌++◌, take, set, length, get_or, Bool, true, false, cond, arith, refl, sym, ap, ⊎_elim}
use Rattle.std.specs.Prelude.{filter}
use Rattle.std.proofs.lemmas.Bool.{cases_eq}
use Rattle.std.proofs.lemmas.List.{append-nil, get_or-set_other, get_or-set_same, get_or_default, length-append, length-set, take_more_set}
use Rattle.std.proofs.lemmas.List.Elements.{filter-append}
use Rattle.std.proofs.lemmas.List.Sums.{count_by-le-length, length-filter}
use Rattle.orders.specs.Orders.{nodes_below}
use Rattle.orders.proofs.Below.{length-below}
use Rattle.sc_machine.specs.declared.threads.Thread.{Thread}
use Rattle.sc_machine.specs.Threads.{is_open, open_at, open_numbers}

below_more : (p : ℕ → Bool) (n : ℕ) → filter p (nodes_below (n + 1)) ≡ filter p (nodes_below n) ++ cond (p n) (n ∷ []) []
below_more p n = let one : n + 1 ≡ suc n = omega arith in ap (λ (m : ℕ). filter p (nodes_below m)) one ∙ filter-append p (nodes_below n) (n ∷ [])

same_below : (p q : ℕ → Bool) (n : ℕ) → ((k : ℕ) → k < n → p k ≡ q k) → filter p (nodes_below n) ≡ filter q (nodes_below n)
same_below p q zero same = refl
same_below p q (suc n) same =
    filter-append p (nodes_below n) (n ∷ [])
    ∙ ap (λ (xs : List ℕ). xs ++ cond (p n) (n ∷ []) []) (same_below p q n (λ k lt. same k (omega (arith, lt))))
    ∙ ap (λ (b : Bool). filter q (nodes_below n) ++ cond b (n ∷ []) []) (same n (omega arith))
    ∙ sym (filter-append q (nodes_below n) (n ∷ []))

pub open_few : (threads : List Thread) → length (open_numbers threads) ≤ length threads
open_few threads =
    let same = length-filter (open_at threads) (nodes_below (length threads)) in
    let most = count_by-le-length (open_at threads) (nodes_below (length threads)) in
    let all = length-below (length threads) in
    omega (arith, same, most, all)

-- The threads before one are listed.
pub record AreListed (threads : List Thread) (listed : List ℕ) (count n : ℕ) : Type 0 where
  pub listed_are : take count listed ≡ filter (open_at threads) (nodes_below n)
  pub counted : count ≡ length (filter (open_at threads) (nodes_below n))
  pub within : count ≤ n

pub none_listed : (threads : List Thread) (listed : List ℕ) → AreListed threads listed 0 0
none_listed threads listed = record { listed_are = refl; counted = refl; within = omega arith }

pub one_listed : (threads : List Thread) (listed : List ℕ) (count n : ℕ) → count < length listed → AreListed threads listed count n → open_at threads n ≡ true → AreListed threads (set listed count n) (count + 1) (n + 1)
one_listed threads listed count n lt h is =
    let all : filter (open_at threads) (nodes_below (n + 1)) ≡ filter (open_at threads) (nodes_below n) ++ n ∷ [] =
    below_more (open_at threads) n ∙ ap (λ (b : Bool). filter (open_at threads) (nodes_below n) ++ cond b (n ∷ []) []) is in
    let long = ap length all ∙ length-append (filter (open_at threads) (nodes_below n)) (n ∷ []) in
    let counted = h.counted in
    let within = h.within in
    record {
      listed_are = take_more_set listed count n lt ∙ ap (λ (xs : List ℕ). xs ++ n ∷ []) h.listed_are ∙ sym all;
      counted = omega (arith, long, counted);
      within = omega (arith, within);
    }

pub one_passed : (threads : List Thread) (listed : List ℕ) (count n : ℕ) → AreListed threads listed count n → open_at threads n ≡ false → AreListed threads listed count (n + 1)
one_passed threads listed count n h is =
    let all : filter (open_at threads) (nodes_below (n + 1)) ≡ filter (open_at threads) (nodes_below n) ++ [] =
    below_more (open_at threads) n ∙ ap (λ (b : Bool). filter (open_at threads) (nodes_below n) ++ cond b (n ∷ []) []) is in
    let long = ap length all ∙ length-append (filter (open_at threads) (nodes_below n)) [] in
    let counted = h.counted in
    let within = h.within in
    record {
      listed_are = h.listed_are ∙ sym (append-nil (filter (open_at threads) (nodes_below n))) ∙ sym all;
      counted = omega (arith, long, counted);
      within = omega (arith, within);
    }

-- a thread that moves on and has an operation left stays listed
pub same_open : (threads : List Thread) (i : ℕ) (t moved : Thread) → i < length threads → t ≡ get_or threads i t → is_open t ≡ true → is_open moved ≡ true → open_numbers (set threads i moved) ≡ open_numbers threads
same_open threads i t moved lt here was is =
    ap (λ (n : ℕ). filter (open_at (set threads i moved)) (nodes_below n)) (length-set threads i moved)
    ∙ same_below (open_at (set threads i moved)) (open_at threads) (length threads)
    (λ k below. ⊎_elim
    (λ (same : k ≡ i).
    ap (open_at (set threads i moved)) same
    ∙ ap is_open (get_or-set_same threads i moved nowhere lt)
    ∙ is
    ∙ sym was
    ∙ ap is_open (here ∙ get_or_default threads i t nowhere lt)
    ∙ sym (ap (open_at threads) same))
    (λ (other : k ≢ i). ap is_open (get_or-set_other threads i k moved nowhere other))
    (cases_eq k i)) where
      nowhere : Thread
      nowhere = record { next = 0; end = 0 }
