-- Rows of links, seen as their keys and as their links.
use Rattle.std.proofs.Common.{◌≡◌, ◌∙◌, ℕ, ◌+◌, ◌<◌, ◌≤◌, List, [], ◌∷◌, ◌++◌, length, get_or, set, take, drop, map, refl, sym, ap, subst, arith, length-append, append-nil, append_assoc, inl, inr, get_or-set_same, get_or-set_other}
use Rattle.std.proofs.lemmas.Bool.{cases_eq}
use Rattle.std.proofs.lemmas.List.{get_or-map, get_or-take, get_or_default, length-map, length-set, length-take, length-take-le, map-append, map-set, take_more, take_more_set}
use Rattle.std.proofs.Math.Seq.{take-append_seam}
use Rattle.std.proofs.Math.Nat.{min-le_right}
use Rattle.digraph.specs.declared.links.Link.{Link}
use Rattle.digraph.specs.KeyList.{KeyList, IsKeyList, IsLinked, key_list_of, place_of}
use Rattle.digraph.specs.Digraph.{IsLastBelow}
use Rattle.digraph.specs.LinkRows.{PutsKeys, keys_of, previous_of}
use Rattle.digraph.proofs.Last.{last-less, last-same}
use Rattle.digraph.proofs.Linking.{linked-push}

-- a row that was read
module _ (links : List Link) (k : ℕ) (row : Link) (lt : k < length links) (is : row ≡ get_or links k row) where
  pub key-at : get_or (keys_of links) k 0 ≡ row.key
  key-at = get_or-map (λ (l : Link). l.key) links k row 0 lt ∙ ap (λ (l : Link). l.key) (sym is)

  pub previous-at : get_or (previous_of links) k 0 ≡ row.previous
  previous-at = get_or-map (λ (l : Link). l.previous) links k row 0 lt ∙ ap (λ (l : Link). l.previous) (sym is)

pub linked-sound : (count : ℕ) (keys last previous : List ℕ) → IsLinked count keys last previous → IsKeyList (key_list_of count keys last)
linked-sound count keys last previous l = record {
  kinds = λ i d lt.
      let size = length-take-le count keys l.room in
      let room = l.room in
      let at : get_or (take count keys) i d ≡ get_or keys i 0 = get_or-take count keys i d (omega (arith, lt, size)) ∙ get_or_default keys i d 0 (omega (arith, lt, size, room)) in
      subst (λ (x : ℕ). x < length last) (sym at) (l.inside i (omega (arith, lt, size)));
  room = (let size = length-take-le count keys l.room in let room = l.room in omega (arith, size, room));
  few_kinds = l.few_kinds;
  few_keys = l.few_keys;
}

-- the last key is taken away
module _ (count key before : ℕ) (keys last previous : List ℕ) (l : IsLinked (count + 1) keys last previous) (is : get_or keys count 0 ≡ key) (link : get_or previous count 0 ≡ before) where
  lasts-less : (k : ℕ) → k < length last → IsLastBelow (λ m. get_or keys m 0) k count (place_of (get_or (set last key before) k 0))
  lasts-less k lt = elim (cases_eq k key) [
    | inl same ↦
        subst (λ (m : ℕ). IsLastBelow (λ m. get_or keys m 0) m count (place_of (get_or (set last key before) m 0))) (sym same)
        (subst (λ (x : ℕ). IsLastBelow (λ m. get_or keys m 0) key count (place_of x)) (sym (get_or-set_same last key before 0 (omega (arith, lt, same))))
        (subst (λ (x : ℕ). IsLastBelow (λ m. get_or keys m 0) key count (place_of x)) link
        (subst (λ (m : ℕ). IsLastBelow (λ m. get_or keys m 0) m count (place_of (get_or previous count 0))) is (l.previous_ones count (omega arith)))))
    | inr other ↦
        subst (λ (x : ℕ). IsLastBelow (λ m. get_or keys m 0) k count (place_of x)) (sym (get_or-set_other last key k before 0 other))
        (last-less (λ m. get_or keys m 0) k count _ (λ same. other (sym same ∙ is)) (l.lasts k lt))
  ]

  pub linked-pop : IsLinked count keys (set last key before) previous
  linked-pop = record {
    few_kinds = rw (length-set last key before) l.few_kinds;
    few_keys = l.few_keys;
    same_room = l.same_room;
    room = (let room = l.room in omega (arith, room));
    inside = λ k lt. rw (length-set last key before) (l.inside k (omega (arith, lt)));
    lasts = rw (length-set last key before) lasts-less;
    previous_ones = λ k lt. l.previous_ones k (omega (arith, lt));
  }

-- a row more
module _ (count : ℕ) (links : List Link) (last : List ℕ) (key before : ℕ) (room : count < length links) where
  row : Link
  row = record { key = key; previous = before }

  pub rows-push : IsLinked count (keys_of links) last (previous_of links) → key < length last → before ≡ get_or last key 0 →
      IsLinked (count + 1) (keys_of (set links count (record { key = key; previous = before }))) (set last key count) (previous_of (set links count (record { key = key; previous = before })))
  rows-push l kind is =
      let size = length-map links (λ (l : Link). l.key) in
      rw (map-set (λ (l : Link). l.key) links count (record { key = key; previous = before }), map-set (λ (l : Link). l.previous) links count (record { key = key; previous = before }), is)
      (linked-push count key (keys_of links) last (previous_of links) l kind (omega (arith, size, room)))

  pub list-push : key_list_of (count + 1) (keys_of (set links count (record { key = key; previous = before }))) (set last key count) ≡ record { kinds = length last; room = length (keys_of links); keys = take count (keys_of links) ++ key ∷ [] }
  list-push =
      let size = length-map links (λ (l : Link). l.key) in
      rw (map-set (λ (l : Link). l.key) links count (record { key = key; previous = before }), length-set last key count, length-set (keys_of links) count key)
      (ap (λ (ks : List ℕ). let made : KeyList = record { kinds = length last; room = length (keys_of links); keys = ks } in made) (take_more_set (keys_of links) count key (omega (arith, size, room))))

-- the keys of another list, with which this one begins
module _ (count begun : ℕ) (keys last previous keys0 last0 previous0 : List ℕ) (l : IsLinked count keys last previous) (l0 : IsLinked begun keys0 last0 previous0) (kinds : length last0 ≡ length last) (begins : take begun (take count keys) ≡ take begun keys0) where
  begun-le : begun ≤ count
  begun-le =
      let short = length-take begun (take count keys) in
      let whole = length-take-le begun keys0 l0.room in
      let same = ap length begins in
      let taken = length-take-le count keys l.room in
      let least = min-le_right begun (length (take count keys)) in
      omega (arith, short, whole, same, taken, least)

  same-key : (k : ℕ) → k < begun → get_or keys k 0 ≡ get_or keys0 k 0
  same-key k lt =
      let le = begun-le in
      sym (get_or-take count keys k 0 (omega (arith, lt, le)))
      ∙ sym (get_or-take begun (take count keys) k 0 lt)
      ∙ ap (λ (list : List ℕ). get_or list k 0) begins
      ∙ get_or-take begun keys0 k 0 lt

  pub linked-begun : IsLinked begun keys last0 previous
  linked-begun =
      let le = begun-le in
      record {
        few_kinds = l0.few_kinds;
        few_keys = l.few_keys;
        same_room = l.same_room;
        room = (let room = l.room in omega (arith, le, room));
        inside = λ k lt. rw kinds (l.inside k (omega (arith, lt, le)));
        lasts = λ key lt. last-same (λ m. get_or keys0 m 0) (λ m. get_or keys m 0) key begun _ same-key (l0.lasts key lt);
        previous_ones = λ k lt. l.previous_ones k (omega (arith, lt, le));
      }

-- a row more behind more rows, where an end of an edge more is the key
module _ (end : ℕ × ℕ → ℕ) (edges : List (ℕ × ℕ)) (first i place : ℕ) (lt : i < length edges) (at : place ≡ first + i) (links0 links1 links2 : List Link) (last0 last1 last2 : List ℕ) where
  pub puts-more : PutsKeys first (map end (take i edges)) links0 last0 links1 last1 → PutsKeys place (end (get_or edges i (0, 0)) ∷ []) links1 last1 links2 last2 →
      PutsKeys first (map end (take (i + 1) edges)) links0 last0 links2 last2
  puts-more h k =
      let key : ℕ = end (get_or edges i (0, 0)) in
      let more : map end (take (i + 1) edges) ≡ map end (take i edges) ++ key ∷ [] =
      ap (map end) (take_more edges i (0, 0) lt) ∙ map-append end (take i edges) (get_or edges i (0, 0) ∷ []) in
      let size = length-map (take i edges) end in
      let taken = length-take-le i edges (omega (arith, lt)) in
      let both = length-append (map end (take i edges)) (key ∷ []) in
      let count : place + 1 ≡ first + length (map end (take i edges) ++ key ∷ []) = omega (arith, both, size, taken, at) in
      let before : first + length (map end (take i edges)) ≡ place = omega (arith, size, taken, at) in
      subst (λ (keys : List ℕ). PutsKeys first keys links0 last0 links2 last2) (sym more) (record {
        linked = subst (λ (n : ℕ). IsLinked n (keys_of links2) last2 (previous_of links2)) count k.linked;
        keys =
            ap (λ (n : ℕ). take n (keys_of links2)) (sym count)
            ∙ k.keys
            ∙ ap (λ (n : ℕ). take n (keys_of links1) ++ key ∷ []) (sym before)
            ∙ ap (λ (list : List ℕ). list ++ key ∷ []) h.keys
            ∙ append_assoc (take first (keys_of links0)) (map end (take i edges)) (key ∷ []);
        room = k.room ∙ h.room;
        kinds = k.kinds ∙ h.kinds;
      })

-- one row more
module _ (count : ℕ) (links : List Link) (last : List ℕ) (key before : ℕ) (room : count < length links) (l : IsLinked count (keys_of links) last (previous_of links)) (kind : key < length last) (is : before ≡ get_or last key 0) where
  pub puts-one : PutsKeys count (key ∷ []) links last (set links count (record { key = key; previous = before })) (set last key count)
  puts-one = record {
    linked = rows-push count links last key before room l kind is;
    keys = ap (λ (l : KeyList). l.keys) (list-push count links last key before room);
    room = length-set links count (record { key = key; previous = before });
    kinds = length-set last key count;
  }

-- rows that are put in the place of as many others
refilled : {A : Type 0} (n : ℕ) (ws old : List A) → length ws ≡ n → take n (ws ++ drop (length ws) old) ≡ ws
refilled n ws old e = ap (λ (m : ℕ). take m (ws ++ drop (length ws) old)) (sym e) ∙ take-append_seam ws (drop (length ws) old)

pub refilled-sound : (count n m : ℕ) (links rows : List Link) (last lasts : List ℕ) → IsLinked count (keys_of links) last (previous_of links) → length links ≡ n → length last ≡ m →
    IsKeyList (key_list_of count (keys_of (take n (links ++ drop (length links) rows))) (take m (last ++ drop (length last) lasts)))
refilled-sound count n m links rows last lasts l e d =
    rw (refilled n links rows e, refilled m last lasts d) (linked-sound count (keys_of links) last (previous_of links) l)
