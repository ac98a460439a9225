-- Lists of exactly the nodes of which a fact holds, where one node more has it.
use Rattle.std.proofs.Common.{◌≡◌, ◌⊎◌, ℕ, ◌<◌, List, [], ◌∷◌, ◌++◌, length, Contains, arith, sym, subst, inl, inr}
use Rattle.orders.proofs.Distinct.{IsDistinct, pairs_of_distinct, distinct_of_pairs, Contains-middle, left_of, was_there}
use Rattle.orders.proofs.Members.{Contains-cons_cases, Contains-head, Contains-tail}
use Rattle.full_sort.specs.Finishing.{IsListOf}
use Rattle.full_sort.proofs.Pigeons.{length-once-le}

distinct_inserted : (front : List ℕ) (x : ℕ) (back : List ℕ) → (Contains (front ++ back) x → ⊥) → IsDistinct (front ++ back) → IsDistinct (front ++ x ∷ back)
distinct_inserted [] x back new once = (new, once)
distinct_inserted (y ∷ front) x back new once = (
  (λ at. elim (left_of front x back y at) [ inl same ↦ new (Contains-head y (front ++ back) x (sym same)) | inr there ↦ once.0 there ]),
  distinct_inserted front x back (λ at. new (Contains-tail y (front ++ back) x at)) once.1,
)

-- the list with the node at any place
pub listed_inserted : (P Q : ℕ → Type 0) (front : List ℕ) (x : ℕ) (back : List ℕ) → (P x → ⊥) → ((t : ℕ) → P t → Q t) → Q x → ((t : ℕ) → Q t → P t ⊎ (t ≡ x)) →
    IsListOf P (front ++ back) → IsListOf Q (front ++ x ∷ back)
listed_inserted P Q front x back new kept here only l = record {
  once = pairs_of_distinct (front ++ x ∷ back) (distinct_inserted front x back (λ at. new ((l.same x).1 at)) (distinct_of_pairs (front ++ back) l.once));
  same = λ t. (
    (λ h. elim (only t h) [
      | inl before ↦ was_there front x back t ((l.same t).0 before)
      | inr same ↦ subst (Contains (front ++ x ∷ back)) (sym same) (Contains-middle front x back)
    ]),
    (λ at. elim (left_of front x back t at) [ inl same ↦ subst Q same here | inr there ↦ kept t ((l.same t).1 there) ]),
  );
}

-- a node below n without the fact leaves room
pub listed_room : (P : ℕ → Type 0) (list : List ℕ) (n x : ℕ) → ((t : ℕ) → P t → t < n) → x < n → (P x → ⊥) → IsListOf P list → length list < n
listed_room P list n x below lt new l =
    let once = pairs_of_distinct (x ∷ list) ((λ at. new ((l.same x).1 at)), distinct_of_pairs list l.once) in
    let short = length-once-le n (x ∷ list) once (λ t at. elim (Contains-cons_cases x list t at) [
      | inl same ↦ subst (λ (m : ℕ). m < n) same lt
      | inr there ↦ below t ((l.same t).1 there)
    ]) in
    omega (arith, short)
