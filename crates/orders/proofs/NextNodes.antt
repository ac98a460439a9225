-- A list that takes the next node at each place is the least order, and where that gets stuck there is no order.
use Rattle.std.proofs.Common.{◌≡◌, ◌≢◌, ◌∙◌, ℕ, ◌<◌, ◌≤◌, List, [], ◌∷◌, ◌++◌, length, take, get_or, Contains, AllPairs, refl, sym, subst, inl, inr, ⊎_elim, arith, append_assoc, length-append}
use Rattle.std.proofs.lemmas.List.{get_or_default, get_or_at, get_or_append_left, take_at, append-nil, get_or-take, length-take-le}
use Rattle.std.proofs.lemmas.List.Elements.{Contains-append_right, Contains-push_cases, Contains-get_or}
use Rattle.std.proofs.lemmas.Bool.{cases_lt}
use Rattle.orders.specs.Orders.{IsOrder, IsLeastOrder, NotAfter, HasNoOrder}
use Rattle.orders.proofs.Members.{Contains-nil, Contains-head, cases_Contains}
use Rattle.orders.specs.Choices.{IsReady, IsNext, TakesNext, IsStuck}

-- a list parted round an element
length-parted : (p s : List ℕ) (x : ℕ) → length p < length (p ++ x ∷ s)
length-parted p s x = omega (arith, length-append p (x ∷ s))

-- a place of the list below the parting is one of the first part
place-parted : (p s : List ℕ) (x a : ℕ) (i : ℕ) → i < length p → get_or (p ++ x ∷ s) i a ≡ a → Contains p a
place-parted p s x a i lt e = (i, lt, sym (get_or_append_left p (x ∷ s) a i lt) ∙ e)

module _ (E : ℕ → ℕ → Type 0) (nodes : List ℕ) where
  -- an order parted round a node: what stands before it
  inside-parted : (p s : List ℕ) (x : ℕ) → IsOrder E nodes (p ++ x ∷ s) → Contains nodes x
  inside-parted p s x o = (o.same_nodes x).0 (Contains-append_right p (x ∷ s) x (Contains-head x s x refl))

  unplaced-parted : (p s : List ℕ) (x : ℕ) → IsOrder E nodes (p ++ x ∷ s) → Contains p x → ⊥
  unplaced-parted p s x o h =
      o.once h.0 (length p) x h.1 (length-parted p s x)
      (get_or_append_left p (x ∷ s) x h.0 h.1 ∙ h.2 ∙ sym (get_or_at p x s x (length p) refl))

  ready-parted : (p s : List ℕ) (x : ℕ) → IsOrder E nodes (p ++ x ∷ s) → IsReady E nodes p x
  ready-parted p s x o a in_nodes edge =
      let h = (o.same_nodes a).1 in_nodes in
      let source : get_or (p ++ x ∷ s) h.0 0 ≡ a = get_or_default (p ++ x ∷ s) h.0 0 a h.1 ∙ h.2 in
      let target : get_or (p ++ x ∷ s) (length p) 0 ≡ x = get_or_at p x s 0 (length p) refl in
      let goes : E (get_or (p ++ x ∷ s) h.0 0) (get_or (p ++ x ∷ s) (length p) 0) =
      subst (λ (m : ℕ). E m (get_or (p ++ x ∷ s) (length p) 0)) (sym source) (subst (E a) (sym target) edge) in
      place-parted p s x a h.0 (o.forward h.0 (length p) h.1 (length-parted p s x) goes) h.2

  -- the list parted round a node
  next-parted : (p s : List ℕ) (x : ℕ) → TakesNext E nodes (p ++ x ∷ s) → IsNext E nodes p x
  next-parted p s x g =
      subst (λ (q : List ℕ). IsNext E nodes q x) (take_at p (x ∷ s) (length p) refl)
      (subst (λ (m : ℕ). IsNext E nodes (take (length p) (p ++ x ∷ s)) m) (get_or_at p x s 0 (length p) refl)
      (g.next (length p) (length-parted p s x)))

  -- where the first parts are the same, what follows in the list isn't after what follows in an order
  rest-NotAfter : (p xs ys : List ℕ) → TakesNext E nodes (p ++ xs) → IsOrder E nodes (p ++ ys) → NotAfter xs ys
  rest-NotAfter p [] ys g o = tt
  rest-NotAfter p (x ∷ xs) [] g o =
      let n = next-parted p xs x g in
      n.unplaced (subst (λ (q : List ℕ). Contains q x) (append-nil p) ((o.same_nodes x).1 n.inside))
  rest-NotAfter p (x ∷ xs) (y ∷ ys) g o =
      let n = next-parted p xs x g in
      let le : x ≤ y = n.least y (inside-parted p ys y o) (unplaced-parted p ys y o) (ready-parted p ys y o) in
      elim (cases_lt x y) [
        | inl lt ↦ inl lt
        | inr ge ↦
            let same : x ≡ y = omega (arith, le, ge) in
            inr (
              same,
              rest-NotAfter (p ++ x ∷ []) xs ys
                  (subst (TakesNext E nodes) (sym (append_assoc p (x ∷ []) xs)) g)
                  (subst (IsOrder E nodes) (sym (append_assoc p (x ∷ []) ys)) (subst (λ (m : ℕ). IsOrder E nodes (p ++ m ∷ ys)) (sym same) o)),
            )
      ]

  -- the list has nodes alone, each once, and their edges lead forward
  module _ (order : List ℕ) (g : TakesNext E nodes order) where
    place-inside : (i : ℕ) → i < length order → Contains nodes (get_or order i 0)
    place-inside i lt = (g.next i lt).inside

    listed-inside : (x : ℕ) → Contains order x → Contains nodes x
    listed-inside x h = subst (Contains nodes) (get_or_default order h.0 0 x h.1 ∙ h.2) (place-inside h.0 h.1)

    earlier : (i j d : ℕ) → i < j → j < length order → Contains (take j order) (get_or order i d)
    earlier i j d lt below =
        let short : i < length (take j order) = rw (length-take-le j order (omega (arith, below))) lt in
        subst (Contains (take j order)) (get_or-take j order i d lt) (Contains-get_or (take j order) i d short)

    differ : AllPairs (λ a b. a ≢ b) order
    differ i j d lt below same =
        (g.next j below).unplaced
        (subst (Contains (take j order)) (same ∙ get_or_default order j d 0 below) (earlier i j d lt below))

    goes-forward : (i j : ℕ) → i < length order → j < length order → E (get_or order i 0) (get_or order j 0) → i < j
    goes-forward i j lti ltj edge =
        let h = (g.next j ltj).ready (get_or order i 0) (place-inside i lti) edge in
        let k : ℕ = h.0 in
        let taken = length-take-le j order (omega (arith, ltj)) in
        let short = h.1 in
        let below : k < j = omega (arith, taken, short) in
        elim (cases_lt k i) [
          | inl before ↦ absurd (differ k i (get_or order i 0) before lti
              (sym (get_or-take j order k (get_or order i 0) below) ∙ h.2 ∙ get_or_default order i 0 (get_or order i 0) lti))
          | inr after ↦ omega (arith, after, below)
        ]

    next-order : IsOrder E nodes order
    next-order = record {
      same_nodes = λ x. (listed-inside x, g.whole x);
      once = differ;
      forward = goes-forward;
    }

    pub next-least : IsLeastOrder E nodes order
    next-least = record {
      is_order = next-order;
      least = λ other o. rest-NotAfter [] order other g o;
    }

  -- what an order has from a place on is placed too, where all before it is placed and no node that is left is ready
  module _ (placed : List ℕ) (stuck : IsStuck E nodes placed) where
    rest-placed : (p ys : List ℕ) → IsOrder E nodes (p ++ ys) → ((a : ℕ) → Contains p a → Contains placed a) → (a : ℕ) → Contains (p ++ ys) a → Contains placed a
    rest-placed p [] o before a h = before a (subst (λ (q : List ℕ). Contains q a) (append-nil p) h)
    rest-placed p (y ∷ ys) o before a h =
        let whole : p ++ (y ∷ []) ++ ys ≡ p ++ y ∷ ys = append_assoc p (y ∷ []) ys in
        elim (cases_Contains placed y) [
          | inl has ↦ rest-placed (p ++ y ∷ []) ys (subst (IsOrder E nodes) (sym whole) o)
              (λ b hb. ⊎_elim (before b) (λ (same : y ≡ b). subst (Contains placed) same has) (Contains-push_cases p y b hb))
              a (subst (λ (q : List ℕ). Contains q a) (sym whole) h)
          | inr lacks ↦ absurd (stuck.none y (inside-parted p ys y o) lacks
              (λ b in_nodes edge. before b (ready-parted p ys y o b in_nodes edge)))
        ]

    pub stuck-none : HasNoOrder E nodes
    stuck-none order o =
        stuck.unplaced (rest-placed [] order o (λ a h. absurd (Contains-nil a h)) stuck.node ((o.same_nodes stuck.node).1 stuck.inside))
