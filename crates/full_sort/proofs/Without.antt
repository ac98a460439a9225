-- Marks of all nodes but those that are placed.
use Rattle.std.proofs.Common.{◌≡◌, ◌∙◌, ℕ, ◌<◌, ◌≤◌, List, [], ◌∷◌, ◌++◌, length, get_or, set, Bool, true, false, refl, sym, ap, subst, arith, inl, inr, All, get_or-set_other}
use Rattle.std.specs.Prelude.{replicate}
use Rattle.std.proofs.lemmas.Bool.{cases_eq, cases_lt, false≢true}
use Rattle.std.proofs.lemmas.List.{length-set, length-replicate, get_or-replicate, get_or_past}
use Rattle.std.proofs.lemmas.List.Elements.{All-contains, All-weaker}
use Rattle.orders.specs.Orders.{nodes_below}
use Rattle.orders.proofs.Below.{all-below, has-below, once-below}
use Rattle.digraph.specs.Digraph.{in_degree}
use Rattle.full_sort.specs.Waiting.{count_into, is_marked, marked_of, without_marks, HasFree}
use Rattle.full_sort.proofs.Counted.{into-degree}
use Rattle.full_sort.proofs.Gained.{HasReady}
use Rattle.full_sort.proofs.Marked.{marked-all}
use Rattle.full_sort.proofs.State.{IsState, state-begin}

pub length-without : (marks : List Bool) (nodes : List ℕ) → length (without_marks marks nodes) ≡ length marks
length-without marks [] = refl
length-without marks (x ∷ nodes) = length-without (set marks x false) nodes ∙ length-set marks x false

pub without-push : (marks : List Bool) (nodes : List ℕ) (x : ℕ) → without_marks marks (nodes ++ x ∷ []) ≡ set (without_marks marks nodes) x false
without-push marks [] x = refl
without-push marks (y ∷ nodes) x = without-push (set marks y false) nodes x

-- all nodes are marked
module _ (n : ℕ) where
  pub all-marked : (z : ℕ) → z < n → is_marked (replicate n true) z ≡ true
  all-marked z lt = get_or-replicate n z true false lt

  pub marked-below : (z : ℕ) → is_marked (replicate n true) z ≡ true → z < n
  marked-below z mark = elim (cases_lt z n) [
    | inl lt ↦ lt
    | inr ge ↦ let size = length-replicate n true in absurd (false≢true (sym (get_or_past (replicate n true) z false (omega (arith, size, ge))) ∙ mark))
  ]

  pub whole-marked : marked_of (replicate n true) (nodes_below n) ≡ nodes_below n
  whole-marked = marked-all (replicate n true) (nodes_below n) (λ z h. all-marked z (All-contains (λ (x : ℕ). x < n) (nodes_below n) z (all-below n) h))

  -- none is placed yet
  module _ (es : List (ℕ × ℕ)) (waiting : List ℕ) (counted : (t : ℕ) → t < n → get_or waiting t 0 ≡ in_degree es t) where
    pub whole-begin : All (λ e. (e.0 < n) × (e.1 < n)) es → IsState es (nodes_below n) [] n waiting (replicate n true)
    whole-begin ends =
        state-begin es (nodes_below n) n waiting (replicate n true)
        (record {
          only = λ t mark. has-below n t (marked-below t mark);
          counted = λ t lt.
              counted t lt
              ∙ sym (into-degree es (nodes_below n) t (once-below n) (λ i d inside. has-below n _ (ends i d inside).0))
              ∙ ap (λ (xs : List ℕ). count_into es xs t) (sym whole-marked);
        })
        (All-weaker (λ (x : ℕ). x < n) (λ (x : ℕ). is_marked (replicate n true) x ≡ true) all-marked (nodes_below n) (all-below n))

  pub free-begin : (ready waiting : List ℕ) → HasReady ready waiting n → HasFree ready waiting (replicate n true)
  free-begin ready waiting found t = ((λ one. let f = (found t).0 one in (f.1, all-marked t f.0)), (λ f. (found t).1 (marked-below t f.1, f.0)))

  pub settled-begin : (waiting : List ℕ) → length waiting ≡ n → (t : ℕ) → is_marked (replicate n true) t ≡ false → get_or waiting t 0 ≡ 0
  settled-begin waiting whole t none = elim (cases_lt t n) [
    | inl lt ↦ absurd (false≢true (sym none ∙ all-marked t lt))
    | inr ge ↦ get_or_past waiting t 0 (omega (arith, ge, whole))
  ]

-- a node without a mark waits for none, also where one node more is placed
pub settled-taken : (waiting : List ℕ) (marks : List Bool) (x : ℕ) → get_or waiting x 0 ≡ 0 → ((t : ℕ) → is_marked marks t ≡ false → get_or waiting t 0 ≡ 0) → (t : ℕ) → is_marked (set marks x false) t ≡ false → get_or waiting t 0 ≡ 0
settled-taken waiting marks x zeros settled t none = elim (cases_eq t x) [
  | inl same ↦ subst (λ (m : ℕ). get_or waiting m 0 ≡ 0) (sym same) zeros
  | inr other ↦ settled t (sym (get_or-set_other marks x t false false other) ∙ none)
]

pub settled-falls : (waiting after : List ℕ) (marks : List Bool) → ((t : ℕ) → is_marked marks t ≡ false → get_or waiting t 0 ≡ 0) → ((t : ℕ) → get_or after t 0 ≤ get_or waiting t 0) → (t : ℕ) → is_marked marks t ≡ false → get_or after t 0 ≡ 0
settled-falls waiting after marks settled fall t none = let zeros = settled t none in let le = fall t in omega (arith, zeros, le)
