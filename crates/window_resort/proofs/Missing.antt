-- Of distinct elements more than a list has, some isn't in it.
use Rattle.std.proofs.Common.{◌≡◌, ◌≢◌, inl, inr, ℕ, ◌<◌, List, [], ◌∷◌, ◌++◌, length, get_or, take, Contains, AllPairs, arith, refl, sym, subst, ap, ◌∙◌, length-append}
use Rattle.std.proofs.lemmas.List.{get_or_append_left, get_or_default, get_or_push, get_or-take, length-take-le, take-append-le}
use Rattle.std.proofs.Math.Seq.{take-append_seam}
use Rattle.std.proofs.lemmas.Bool.{cases_lt}
use Rattle.std.proofs.lemmas.List.Elements.{Contains-get_or}
use Rattle.orders.specs.Choices.{IsNext, IsReady}
use Rattle.orders.specs.Orders.{HasNoOrder, IsLeastOrder}
use Rattle.orders.proofs.Distinct.{IsDistinct, distinct_of_pairs, left_of, length-parted, parted}
use Rattle.orders.proofs.Members.{Contains-cons_cases, Contains-head, Contains-tail, cases_Contains}
use Rattle.orders.proofs.NextNodes.{next-least, stuck-none}

pub some_missing : (xs ys : List ℕ) → IsDistinct xs → length ys < length xs → (x : ℕ) × Contains xs x × (Contains ys x → ⊥)
some_missing [] ys once more = absurd (omega (arith, more))
some_missing (x ∷ xs) ys once more = elim (cases_Contains ys x) [
  | inr lacks ↦ (x, Contains-head x xs x refl, lacks)
  | inl has ↦
      let p = parted ys x has in
      let long = length-parted p.0 x p.1 in
      let same = ap (length {A = ℕ}) p.2 in
      let rest = some_missing xs (p.0 ++ p.1) once.1 (omega (arith, long, same, more)) in (
        rest.0,
        Contains-tail x xs rest.0 rest.1,
        λ at. elim (left_of p.0 x p.1 rest.0 (subst (λ (zs : List ℕ). Contains zs rest.0) p.2 at)) [
          | inl is ↦ once.0 (subst (Contains xs) (sym is) rest.1)
          | inr left ↦ rest.2 left
        ],
      )
]

module _ (E : ℕ → ℕ → Type 0) (nodes order : List ℕ) (next : (i : ℕ) → i < length order → IsNext E nodes (take i order) (get_or order i 0)) where
  -- nodes that were taken one after another are distinct
  earlier : (i j d : ℕ) → i < j → j < length order → Contains (take j order) (get_or order i d)
  earlier i j d lt below =
      let short : i < length (take j order) = rw (length-take-le j order (omega (arith, below))) lt in
      subst (Contains (take j order)) (get_or-take j order i d lt) (Contains-get_or (take j order) i d short)

  pub taken_once : AllPairs (λ a b. a ≢ b) order
  taken_once i j d lt below same =
      (next j below).unplaced
      (subst (Contains (take j order)) (same ∙ get_or_default order j d 0 below) (earlier i j d lt below))

  -- and of the nodes
  pub taken_among : (x : ℕ) → Contains order x → Contains nodes x
  taken_among x h = subst (Contains nodes) (get_or_default order h.0 0 x h.1 ∙ h.2) ((next h.0 h.1).inside)

  -- so many of them are all
  pub taken_all : length order ≡ length nodes → (x : ℕ) → Contains nodes x → Contains order x
  taken_all long x h = elim (cases_Contains order x) [
    | inl has ↦ has
    | inr lacks ↦
        let more = some_missing (x ∷ order) nodes (lacks, distinct_of_pairs order taken_once) (omega (arith, long)) in
        absurd (more.2 (elim (Contains-cons_cases x order more.0 more.1) [
          | inl is ↦ subst (Contains nodes) is h
          | inr old ↦ taken_among more.0 old
        ]))
  ]

  -- where fewer were taken, and none of those that are left is ready, there is no order
  pub stuck_early : AllPairs (λ a b. a ≢ b) nodes → length order < length nodes → ((z : ℕ) → Contains nodes z → (Contains order z → ⊥) → IsReady E nodes order z → ⊥) → HasNoOrder E nodes
  stuck_early once few none =
      let missing = some_missing nodes order (distinct_of_pairs nodes once) few in
      stuck-none E nodes order (record { node = missing.0; inside = missing.1; unplaced = missing.2; none = none })

  pub least_of_all : length order ≡ length nodes → IsLeastOrder E nodes order
  least_of_all long = next-least E nodes order (record { next = next; whole = taken_all long })

  -- one more is taken
  pub next_pushed : (x : ℕ) → IsNext E nodes order x → (i : ℕ) → i < length (order ++ x ∷ []) → IsNext E nodes (take i (order ++ x ∷ [])) (get_or (order ++ x ∷ []) i 0)
  next_pushed x is_next i below = elim (cases_lt i (length order)) [
    | inl lt ↦
        subst (λ (front : List ℕ). IsNext E nodes front (get_or (order ++ x ∷ []) i 0)) (sym (take-append-le i order (x ∷ []) (omega (arith, lt))))
        (subst (IsNext E nodes (take i order)) (sym (get_or_append_left order (x ∷ []) 0 i lt)) (next i lt))
    | inr ge ↦
        let longer = length-append order (x ∷ []) in
        let is : length order ≡ i = omega (arith, ge, below, longer) in
        subst (λ (k : ℕ). IsNext E nodes (take k (order ++ x ∷ [])) (get_or (order ++ x ∷ []) k 0)) is
        (subst (λ (front : List ℕ). IsNext E nodes front (get_or (order ++ x ∷ []) (length order) 0)) (sym (take-append_seam order (x ∷ [])))
        (subst (IsNext E nodes order) (sym (get_or_push order x 0 (length order) refl)) is_next))
  ]
