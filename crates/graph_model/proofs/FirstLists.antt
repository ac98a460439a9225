-- The lists of first stores, as they are put together and read.
use Rattle.std.proofs.Common.{◌≡◌, ◌∙◌, ◌⊎◌, ◌&&◌, ℕ, suc, ◌+◌, ◌-◌, ◌*◌, ◌<◌, ◌≤◌, List, [], ◌∷◌, ◌++◌, map, length, get_or, take, drop, refl, sym, ap, arith, inl, inr, length-append, append-nil, append_assoc}
use Rattle.std.specs.Prelude.{find, Option, Some, None, slice_range, ◌==◌}
use Rattle.std.specs.List.{filter_map, flat_map}
use Rattle.std.proofs.lemmas.Bool.{cases_eq}
use Rattle.std.proofs.lemmas.List.{get_or_default, drop-append-le, take-append-le, drop_at, take_all, length-drop, get_or_append_left, get_or-append_right}
use Rattle.std.proofs.lemmas.List.Elements.{filter_map-append}
use Rattle.orders.specs.Orders.{nodes_below}
use Rattle.orders.proofs.Below.{length-below}
use Rattle.test_lang.specs.declared.op.Op.TheVariants.{Load}
use Rattle.test_lang.specs.Program.{Program, all_nodes, at_node, op_at}
use Rattle.test_lang.specs.Runs.{writes_for}
use Rattle.graph_model.specs.FewKept.{edge_to}
use Rattle.graph_model.specs.FirstLists.{HasFirstLists, first_stores_to}
use Rattle.graph_model.specs.LoadEdges.{edges_to_first_stores}
use Rattle.graph_model.specs.StoreTables.{first_store_to}
use Rattle.graph_model.proofs.LoadLists.{first_store_told}

-- one thread more
module _ (h : ℕ → Option ℕ) (old now : List ℕ) (n : ℕ) (so_far : now ≡ old ++ filter_map h (nodes_below n)) where
  next : suc n ≡ n + 1
  next = omega arith

  more : old ++ filter_map h (nodes_below (n + 1)) ≡ (old ++ filter_map h (nodes_below n)) ++ filter_map h (n ∷ [])
  more =
      ap (λ (k : ℕ). old ++ filter_map h (nodes_below k)) (sym next)
      ∙ ap (λ (xs : List ℕ). old ++ xs) (filter_map-append h (nodes_below n) (n ∷ []))
      ∙ sym (append_assoc old (filter_map h (nodes_below n)) (filter_map h (n ∷ [])))

  pub some-more : (x : ℕ) → h n ≡ Some x → now ++ x ∷ [] ≡ old ++ filter_map h (nodes_below (n + 1))
  some-more x is =
      let one : filter_map h (n ∷ []) ≡ x ∷ [] = rw is refl in
      ap (λ (xs : List ℕ). xs ++ x ∷ []) so_far ∙ ap (λ (xs : List ℕ). (old ++ filter_map h (nodes_below n)) ++ xs) (sym one) ∙ sym more

  pub none-more : h n ≡ None → now ≡ old ++ filter_map h (nodes_below (n + 1))
  none-more is =
      let none : filter_map h (n ∷ []) ≡ [] = rw is refl in
      so_far ∙ sym (append-nil (old ++ filter_map h (nodes_below n))) ∙ ap (λ (xs : List ℕ). (old ++ filter_map h (nodes_below n)) ++ xs) (sym none) ∙ sym more

length-filter_map : (h : ℕ → Option ℕ) (xs : List ℕ) → length (filter_map h xs) ≤ length xs
length-filter_map h [] = omega arith
length-filter_map h (x ∷ xs) = let rest = length-filter_map h xs in elim (kinds (h x)) [
  | inl none ↦ rw none (omega (arith, rest))
  | inr some ↦ rw some.1 (omega (arith, rest))
] where
  kinds : (o : Option ℕ) → (o ≡ None) ⊎ ((y : ℕ) × (o ≡ Some y))
  kinds None = inl refl
  kinds (Some y) = inr (y, refl)

pub few-firsts : (p : Program) (word : ℕ) → length (first_stores_to p word) ≤ length p.threads
few-firsts p word = let few = length-filter_map (first_store_to p word) (nodes_below (length p.threads)) in let all = length-below (length p.threads) in omega (arith, few, all)

-- a part of a list that grows at its end
pub range-kept : (xs ys : List ℕ) (a b : ℕ) → a ≤ b → b ≤ length xs → slice_range (xs ++ ys) a b ≡ slice_range xs a b
range-kept xs ys a b le within =
    let size = length-drop a xs in
    ap (take (b - a)) (drop-append-le a xs ys (omega (arith, le, within))) ∙ take-append-le (b - a) (drop a xs) ys (omega (arith, le, within, size))

pub range-new : (xs ys : List ℕ) → slice_range (xs ++ ys) (length xs) (length (xs ++ ys)) ≡ ys
range-new xs ys =
    let both = length-append xs ys in
    ap (take (length (xs ++ ys) - length xs)) (drop_at xs ys (length xs) refl) ∙ take_all (length (xs ++ ys) - length xs) ys (omega (arith, both))

-- the edges to the first stores, as the list tells them
pairs_of : (load : ℕ) (f g : ℕ → Option ℕ) → ((t : ℕ) → f t ≡ g t) → (xs : List ℕ) → map (λ s. (load, s)) (filter_map f xs) ≡ flat_map (λ t. edge_to load (g t)) xs
pairs_of load f g same [] = refl
pairs_of load f g same (t ∷ xs) =
    let rest = pairs_of load f g same xs in
    elim (kinds (f t)) [
      | inl none ↦ rw (none, sym (same t) ∙ none) rest
      | inr some ↦ rw (some.1, sym (same t) ∙ some.1) (ap (λ (es : List (ℕ × ℕ)). (load, some.0) ∷ es) rest)
    ]
  where
    kinds : (o : Option ℕ) → (o ≡ None) ⊎ ((y : ℕ) × (o ≡ Some y))
    kinds None = inl refl
    kinds (Some y) = inr (y, refl)

pub pairs_to_firsts : (p : Program) (load word : ℕ) → op_at p load ≡ Some (Load word) → map (λ s. (load, s)) (first_stores_to p word) ≡ edges_to_first_stores p load
pairs_to_firsts p load word op = pairs_of load (first_store_to p word) (λ t. find (λ n. writes_for p load n && at_node (λ node. node.0 == t) p n) (all_nodes p)) (λ t. first_store_told p load word t op) (nodes_below (length p.threads))

-- one word more
module _ (p : Program) (word : ℕ) (starts stores ys : List ℕ) (room : length starts ≡ word + 1) (last : get_or starts word 0 ≡ length stores)
    (rising : (w : ℕ) → w < word → get_or starts w 0 ≤ get_or starts (w + 1) 0) (within : (w : ℕ) → w < word → get_or starts (w + 1) 0 ≤ length stores)
    (each : (w : ℕ) → w < word → slice_range stores (get_or starts w 0) (get_or starts (w + 1) 0) ≡ first_stores_to p w) where
  pub start-kept : (w : ℕ) → w < word + 1 → get_or (starts ++ length (stores ++ ys) ∷ []) w 0 ≡ get_or starts w 0
  start-kept w lt = get_or_append_left starts (length (stores ++ ys) ∷ []) 0 w (omega (arith, lt, room))

  pub start-new : get_or (starts ++ length (stores ++ ys) ∷ []) (word + 1) 0 ≡ length (stores ++ ys)
  start-new = get_or-append_right starts (length (stores ++ ys) ∷ []) (word + 1) (word + 1) 0 room (omega arith) ∙ ap (λ (i : ℕ). get_or (length (stores ++ ys) ∷ []) i 0) {y = 0} (omega arith)

  pub rising-more : (w : ℕ) → w < word + 1 → get_or (starts ++ length (stores ++ ys) ∷ []) w 0 ≤ get_or (starts ++ length (stores ++ ys) ∷ []) (w + 1) 0
  rising-more w lt =
      let here = start-kept w lt in
      let both = length-append stores ys in
      elim (cases_eq w word) [
        | inl same ↦
            let at : get_or starts w 0 ≡ length stores = ap (λ (k : ℕ). get_or starts k 0) same ∙ last in
            let end : get_or (starts ++ length (stores ++ ys) ∷ []) (w + 1) 0 ≡ length (stores ++ ys) = ap (λ (k : ℕ). get_or (starts ++ length (stores ++ ys) ∷ []) (k + 1) 0) same ∙ start-new in
            omega (arith, here, at, end, both)
        | inr other ↦
            let next_is = start-kept (w + 1) (omega (arith, lt, other)) in
            let le = rising w (omega (arith, lt, other)) in
            omega (arith, here, next_is, le)
      ]

  pub within-more : (w : ℕ) → w < word + 1 → get_or (starts ++ length (stores ++ ys) ∷ []) (w + 1) 0 ≤ length (stores ++ ys)
  within-more w lt =
      let both = length-append stores ys in
      elim (cases_eq w word) [
        | inl same ↦ (let end : get_or (starts ++ length (stores ++ ys) ∷ []) (w + 1) 0 ≡ length (stores ++ ys) = ap (λ (k : ℕ). get_or (starts ++ length (stores ++ ys) ∷ []) (k + 1) 0) same ∙ start-new in omega (arith, end))
        | inr other ↦ (let next_is = start-kept (w + 1) (omega (arith, lt, other)) in let le = within w (omega (arith, lt, other)) in omega (arith, next_is, le, both))
      ]

  pub each-more : ys ≡ first_stores_to p word → (w : ℕ) → w < word + 1 →
      slice_range (stores ++ ys) (get_or (starts ++ length (stores ++ ys) ∷ []) w 0) (get_or (starts ++ length (stores ++ ys) ∷ []) (w + 1) 0) ≡ first_stores_to p w
  each-more are w lt = elim (cases_eq w word) [
    | inl same ↦
        let at : get_or (starts ++ length (stores ++ ys) ∷ []) w 0 ≡ length stores = start-kept w lt ∙ ap (λ (k : ℕ). get_or starts k 0) same ∙ last in
        let end : get_or (starts ++ length (stores ++ ys) ∷ []) (w + 1) 0 ≡ length (stores ++ ys) = ap (λ (k : ℕ). get_or (starts ++ length (stores ++ ys) ∷ []) (k + 1) 0) same ∙ start-new in
        rw (at, end) (range-new stores ys ∙ are ∙ ap (first_stores_to p) (sym same))
    | inr other ↦
        let low : w < word = omega (arith, lt, other) in
        rw (start-kept w lt, start-kept (w + 1) (omega (arith, low))) (range-kept stores ys (get_or starts w 0) (get_or starts (w + 1) 0) (rising w low) (within w low) ∙ each w low)
  ]

  pub few-more : length ys ≤ length p.threads → length stores ≤ word * length p.threads → length (stores ++ ys) ≤ (word + 1) * length p.threads
  few-more few so_far =
      let both = length-append stores ys in
      let product : (word + 1) * length p.threads ≡ word * length p.threads + length p.threads = grind arith in
      omega (arith, both, product, few, so_far)

-- the part of a word, by numbers and a list that were read
pub part-read : (p : Program) (starts stores list : List ℕ) (word start end : ℕ) → HasFirstLists p starts stores → word < p.words →
    start ≡ get_or starts word start → end ≡ get_or starts (word + 1) end → list ≡ stores → take (end - start) (drop start list) ≡ first_stores_to p word
part-read p starts stores list word start end h lt from to same =
    let long = h.room in
    let low = from ∙ get_or_default starts word start 0 (omega (arith, lt, long)) in
    let high = to ∙ get_or_default starts (word + 1) end 0 (omega (arith, lt, long)) in
    rw (low, high, same) (h.each word lt)

pub few-read : (p : Program) (starts stores list : List ℕ) (word start end : ℕ) → HasFirstLists p starts stores → word < p.words →
    start ≡ get_or starts word start → end ≡ get_or starts (word + 1) end → list ≡ stores → length (take (end - start) (drop start list)) ≤ length p.threads
few-read p starts stores list word start end h lt from to same =
    let few = few-firsts p word in
    let size : length (take (end - start) (drop start list)) ≡ length (first_stores_to p word) = ap length (part-read p starts stores list word start end h lt from to same) in
    omega (arith, few, size)
