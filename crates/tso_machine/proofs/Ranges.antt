-- The buffers in one list of nodes, when an entry is pushed or leaves.
use Rattle.std.proofs.Common.{◌≡◌, ◌∙◌, ℕ, zero, suc, ◌+◌, ◌-◌, ◌<◌, ◌≤◌, List, [], ◌∷◌, ◌++◌, map, length, get_or, set, refl, sym, ap, subst, arith, ◌⊎◌, inl, inr, Some}
use Rattle.std.specs.Prelude.{slice_get, slice_range}
use Rattle.std.specs.List.{remove, CopiedTo, SameBelow, SameFrom}
use Rattle.std.proofs.lemmas.Bool.{cases_lt, cases_order}
use Rattle.std.proofs.lemmas.List.{get_or-set_same, get_or-set_other, get_or-map, length-map, length-set, map-set, set-get_or, same_lists}
use Rattle.std.proofs.lemmas.List.Edits.{between_more, between_none, get_or-between, get_or-remove_above, get_or-remove_below, length-between, length-remove}
use Rattle.std.proofs.lemmas.List.Elements.{All-map, All-weaker, All-from_get_or}
use Rattle.std.proofs.lemmas.Option.{slice_get_within, get_or_from_slice_get}
use Rattle.orders.specs.Orders.{nodes_below}
use Rattle.test_lang.specs.Program.{Program, first_node, op_count, thread_length}
use Rattle.test_lang.proofs.Threads.{first_node-suc, first_node-monotone, thread_end-le}
use Rattle.tso_machine.specs.declared.buffers.Range.{Range}
use Rattle.tso_machine.specs.Queues.{Queues, AreRanges, IsRange, cleared, empty_queues, empty_range, entries_at, queues_of, with_entry, without_entry}
use Rattle.sim_core.proofs.BelowLists.{get_or-map_below, length-map_below}
use Rattle.tso_machine.proofs.ListChanges.{map_same, map_same_at, map-map}

-- a part of a list, where the list stays as it was
part_same : (xs ys : List ℕ) (from to : ℕ) → to ≤ length xs → length ys ≡ length xs → ((k d : ℕ) → from ≤ k → k < to → get_or ys k d ≡ get_or xs k d) → slice_range ys from to ≡ slice_range xs from to
part_same xs ys from to inside long same =
    let first : length (slice_range ys from to) ≡ to - from = length-between ys from to (omega (arith, inside, long)) in
    let second : length (slice_range xs from to) ≡ to - from = length-between xs from to inside in
    same_lists (slice_range ys from to) (slice_range xs from to) (first ∙ sym second)
    (λ k d lt. get_or-between ys from to k d (omega (arith, lt, first)) ∙ same (from + k) d (omega arith) (omega (arith, lt, first)) ∙ sym (get_or-between xs from to k d (omega (arith, lt, first))))

-- maps that agree but at one place
set_map_same : {X Y : Type 0} (f g : X → Y) (xs : List X) (k : ℕ) (y : Y) → ((j : ℕ) (x : X) → slice_get xs j ≡ Some x → (j ≡ k → ⊥) → f x ≡ g x) → set (map f xs) k y ≡ set (map g xs) k y
set_map_same f g [] k y same = refl
set_map_same f g (x ∷ xs) zero y same = ap (λ ys. y ∷ ys) (map_same_at f g xs (λ j z e. same (suc j) z e (λ is. omega (arith, is))))
set_map_same f g (x ∷ xs) (suc k) y same =
    ap (λ z. z ∷ set (map f xs) k y) (same 0 x refl (λ is. omega (arith, is))) ∙ ap (λ zs. g x ∷ zs) (set_map_same f g xs k y (λ j z e other. same (suc j) z e (λ is. other (omega (arith, is)))))

abbrev part : List ℕ → Range → List ℕ
part nodes range = slice_range nodes range.begin range.end

same_queues : (a b : List (List ℕ)) (c d e f : List ℕ) → a ≡ b → c ≡ d → e ≡ f → ◌≡◌ {A = Queues} (record { entries = a; pushed = c; rooms = e }) (record { entries = b; pushed = d; rooms = f })
same_queues a b c d e f x y z =
    ap (λ (s : List (List ℕ)). record { entries = s; pushed = c; rooms = e }) x
    ∙ ap (λ (s : List ℕ). record { entries = b; pushed = s; rooms = e }) y
    ∙ ap (λ (s : List ℕ). record { entries = b; pushed = d; rooms = s }) z

-- a thread of the buffers has a range
pub in_ranges : (nodes : List ℕ) (ranges : List Range) (queues : Queues) → queues_of nodes ranges ≡ queues → (t : ℕ) → t < length queues.entries → t < length ranges
in_ranges nodes ranges queues view t lt =
    let same : length (map (part nodes) ranges) ≡ length queues.entries = ap (λ (q : Queues). length q.entries) view in
    let long = length-map ranges (part nodes) in
    omega (arith, same, long, lt)

-- a range, and the buffers with another one in its place
module _ (nodes : List ℕ) (ranges : List Range) (sound : AreRanges (length nodes) ranges) (t : ℕ) (range : Range) (here : slice_get ranges t ≡ Some range) where
  within : t < length ranges
  within = slice_get_within ranges t range here

  at : (d : Range) → get_or ranges t d ≡ range
  at d = get_or_from_slice_get ranges t range d here

  pub is_range : IsRange (length nodes) range
  is_range = subst (IsRange (length nodes)) (at range) (sound.each t range within)

  pub entries_are : entries_at (queues_of nodes ranges) t ≡ part nodes range
  entries_are = get_or-map (part nodes) ranges t range [] within ∙ ap (part nodes) (at range)

  pushed_are : get_or (queues_of nodes ranges).pushed t 0 ≡ range.end - range.first
  pushed_are = get_or-map (λ (r : Range). r.end - r.first) ranges t range 0 within ∙ ap (λ (r : Range). r.end - r.first) (at range)

  pub rooms_are : get_or (queues_of nodes ranges).rooms t 0 ≡ range.limit - range.first
  rooms_are = get_or-map (λ (r : Range). r.limit - r.first) ranges t range 0 within ∙ ap (λ (r : Range). r.limit - r.first) (at range)

  pub has_room : (queues : Queues) → queues_of nodes ranges ≡ queues → get_or queues.pushed t 0 < get_or queues.rooms t 0 → range.end < range.limit
  has_room queues view lt =
      let a = ap (λ (q : Queues). get_or q.pushed t 0) view in
      let b = ap (λ (q : Queues). get_or q.rooms t 0) view in
      let front = is_range.front in
      let forward = is_range.forward in
      let c = pushed_are in
      let d = rooms_are in
      omega (arith, a, b, c, d, front, forward, lt)

  pub in_part : (queues : Queues) → queues_of nodes ranges ≡ queues → (place : ℕ) → place < length (entries_at queues t) → range.begin + place < range.end
  in_part queues view place lt =
      let same : length (part nodes range) ≡ length (entries_at queues t) = ap length (sym entries_are ∙ ap (λ (q : Queues). entries_at q t) view) in
      let into = is_range.within in
      let inside = is_range.inside in
      let long = length-between nodes range.begin range.end (omega (arith, into, inside)) in
      omega (arith, same, long, lt)

  -- another range stands in front of this one's first place or behind its limit
  apart_from : (j : ℕ) (other : Range) → slice_get ranges j ≡ Some other → (j ≡ t → ⊥) → (other.limit ≤ range.first) ⊎ (range.limit ≤ other.first)
  apart_from j other e apart =
      let below = slice_get_within ranges j other e in
      let there : get_or ranges j range ≡ other = get_or_from_slice_get ranges j other range e in
      elim (cases_order j t) [
        | inl same ↦ absurd (apart same)
        | inr order ↦ elim order [
          | inl lt ↦ inl (subst (λ (r : Range). other.limit ≤ r.first) (at range) (subst (λ (r : Range). r.limit ≤ (get_or ranges t range).first) there (sound.apart j t range lt within)))
          | inr gt ↦ inr (subst (λ (r : Range). r.limit ≤ other.first) (at range) (subst (λ (r : Range). (get_or ranges t range).limit ≤ r.first) there (sound.apart t j range gt below)))
        ]
      ]

  other_is_range : (j : ℕ) (other : Range) → slice_get ranges j ≡ Some other → IsRange (length nodes) other
  other_is_range j other e = subst (IsRange (length nodes)) (get_or_from_slice_get ranges j other other e) (sound.each j other (slice_get_within ranges j other e))

  -- a range with the same first place and the same limit in its place
  module _ (more : List ℕ) (next : Range) (long : length more ≡ length nodes) (first : next.first ≡ range.first) (limit : next.limit ≡ range.limit) where
    pub rooms_kept : (queues_of more (set ranges t next)).rooms ≡ (queues_of nodes ranges).rooms
    rooms_kept =
        map-set (λ (r : Range). r.limit - r.first) ranges t next
        ∙ ap (set (map (λ (r : Range). r.limit - r.first) ranges) t) (ap (λ (n : ℕ). n - next.first) limit ∙ ap (λ (n : ℕ). range.limit - n) first ∙ sym rooms_are)
        ∙ set-get_or (map (λ (r : Range). r.limit - r.first) ranges) t 0

    -- the other buffers stay where the list does outside of the range
    pub entries_kept : ((k d : ℕ) → k < range.first → get_or more k d ≡ get_or nodes k d) → ((k d : ℕ) → range.limit ≤ k → get_or more k d ≡ get_or nodes k d)
        → (queues_of more (set ranges t next)).entries ≡ set (queues_of nodes ranges).entries t (part more next)
    entries_kept before behind =
        map-set (part more) ranges t next
        ∙ set_map_same (part more) (part nodes) ranges t (part more next)
        (λ j other e apart.
        let o = other_is_range j other e in
        let front = o.front in
        let forward = o.forward in
        let into = o.within in
        let inside = o.inside in
        elim (apart_from j other e apart) [
          | inl in_front ↦ part_same nodes more other.begin other.end (omega (arith, into, inside)) long (λ k d from to. before k d (omega (arith, to, into, in_front)))
          | inr after ↦ part_same nodes more other.begin other.end (omega (arith, into, inside)) long (λ k d from to. behind k d (omega (arith, from, front, after)))
        ])

  -- an entry is pushed
  module _ (n : ℕ) (room : range.end < range.limit) where
    abbrev pub longer : Range
    longer = record { first = range.first; begin = range.begin; end = range.end + 1; limit = range.limit }

    end_inside : range.end < length nodes
    end_inside = let inside = is_range.inside in omega (arith, room, inside)

    long_as : length (set nodes range.end n) ≡ length nodes
    long_as = length-set nodes range.end n

    part_longer : part (set nodes range.end n) longer ≡ part nodes range ++ n ∷ []
    part_longer =
        let forward = is_range.forward in
        let inside = end_inside in
        let long = long_as in
        between_more (set nodes range.end n) range.begin range.end 0 forward (omega (arith, inside, long))
        ∙ ap (λ (x : ℕ). slice_range (set nodes range.end n) range.begin range.end ++ x ∷ []) (get_or-set_same nodes range.end n 0 inside)
        ∙ ap (λ (xs : List ℕ). xs ++ n ∷ [])
        (part_same nodes (set nodes range.end n) range.begin range.end (omega (arith, inside)) long (λ k d from to. get_or-set_other nodes range.end k n d (λ is. omega (arith, is, to))))

    pub pushed_queues : queues_of (set nodes range.end n) (set ranges t longer) ≡ with_entry (queues_of nodes ranges) t n
    pushed_queues =
        let front = is_range.front in
        let forward = is_range.forward in
        let one : range.end + 1 - range.first ≡ range.end - range.first + 1 = omega (arith, front, forward) in
        same_queues (queues_of (set nodes range.end n) (set ranges t longer)).entries (with_entry (queues_of nodes ranges) t n).entries
        (queues_of (set nodes range.end n) (set ranges t longer)).pushed (with_entry (queues_of nodes ranges) t n).pushed
        (queues_of (set nodes range.end n) (set ranges t longer)).rooms (queues_of nodes ranges).rooms
        (entries_kept (set nodes range.end n) longer long_as refl refl
        (λ k d lt. get_or-set_other nodes range.end k n d (λ is. omega (arith, is, lt, front, forward)))
        (λ k d le. get_or-set_other nodes range.end k n d (λ is. omega (arith, is, le, room)))
        ∙ ap (set (queues_of nodes ranges).entries t) (part_longer ∙ ap (λ (xs : List ℕ). xs ++ n ∷ []) (sym entries_are)))
        (map-set (λ (r : Range). r.end - r.first) ranges t longer ∙ ap (set (queues_of nodes ranges).pushed t) (one ∙ ap (λ (k : ℕ). k + 1) (sym pushed_are)))
        (rooms_kept (set nodes range.end n) longer long_as refl refl)

  -- the entry at a place leaves, and those before it moved up
  module _ (place : ℕ) (more : List ℕ) (inside : range.begin + place < range.end) (long : length more ≡ length nodes)
      (copied : CopiedTo nodes more range.begin (range.begin + 1) place) (below : SameBelow nodes more (range.begin + 1)) (above : SameFrom nodes more (range.begin + 1 + place)) where
    abbrev pub shorter : Range
    shorter = record { first = range.first; begin = range.begin + 1; end = range.end; limit = range.limit }

    part_shorter : part more shorter ≡ remove (part nodes range) place
    part_shorter =
        let to = is_range.within in
        let fits = is_range.inside in
        let old : length (slice_range nodes range.begin range.end) ≡ range.end - range.begin = length-between nodes range.begin range.end (omega (arith, to, fits)) in
        let new : length (slice_range more (range.begin + 1) range.end) ≡ range.end - (range.begin + 1) = length-between more (range.begin + 1) range.end (omega (arith, to, fits, long)) in
        let in_part : place < length (slice_range nodes range.begin range.end) = omega (arith, old, inside) in
        let less = length-remove (slice_range nodes range.begin range.end) place in_part in
        same_lists (slice_range more (range.begin + 1) range.end) (remove (slice_range nodes range.begin range.end) place) (omega (arith, old, new, less, inside))
        (λ k d lt.
        let here = get_or-between more (range.begin + 1) range.end k d (omega (arith, lt, new)) in
        elim (cases_lt k place) [
          | inl early ↦
              let shift : range.begin + (range.begin + 1 + k - (range.begin + 1)) ≡ range.begin + k = omega arith in
              here
              ∙ copied (range.begin + 1 + k) d (omega arith) (omega (arith, early))
              ∙ ap (λ (i : ℕ). get_or nodes i d) shift
              ∙ sym (get_or-between nodes range.begin range.end k d (omega (arith, early, inside)))
              ∙ sym (get_or-remove_below (slice_range nodes range.begin range.end) place d k early in_part)
          | inr late ↦
              let shift : range.begin + 1 + k ≡ range.begin + (k + 1) = omega arith in
              here
              ∙ above (range.begin + 1 + k) d (omega (arith, late))
              ∙ ap (λ (i : ℕ). get_or nodes i d) shift
              ∙ sym (get_or-between nodes range.begin range.end (k + 1) d (omega (arith, lt, new)))
              ∙ sym (get_or-remove_above (slice_range nodes range.begin range.end) place d k late in_part)
        ])

    pub left_queues : queues_of more (set ranges t shorter) ≡ without_entry (queues_of nodes ranges) t place
    left_queues =
        let front = is_range.front in
        let to = is_range.within in
        same_queues (queues_of more (set ranges t shorter)).entries (without_entry (queues_of nodes ranges) t place).entries
        (queues_of more (set ranges t shorter)).pushed (queues_of nodes ranges).pushed
        (queues_of more (set ranges t shorter)).rooms (queues_of nodes ranges).rooms
        (entries_kept more shorter long refl refl (λ k d lt. below k d (omega (arith, lt, front))) (λ k d le. above k d (omega (arith, le, to, inside)))
        ∙ ap (set (queues_of nodes ranges).entries t) (part_shorter ∙ ap (λ (xs : List ℕ). remove xs place) (sym entries_are)))
        (map-set (λ (r : Range). r.end - r.first) ranges t shorter ∙ ap (set (queues_of nodes ranges).pushed t) (sym pushed_are) ∙ set-get_or (queues_of nodes ranges).pushed t 0)
        (rooms_kept more shorter long refl refl)

-- empty ranges

abbrev pub emptied : Range → Range
emptied range = record { first = range.first; begin = range.first; end = range.first; limit = range.limit }

empty_part : (nodes : List ℕ) (k : ℕ) → slice_range nodes k k ≡ []
empty_part nodes k = between_none nodes k

pub empty_ranges_stand : (p : Program) (room : ℕ) → op_count p ≤ room → (n : ℕ) → AreRanges room (map (empty_range p) (nodes_below n))
empty_ranges_stand p room fits n = record {
  each = All-from_get_or (IsRange room) (map (empty_range p) (nodes_below n)) (empty_range p 0)
      (λ k lt. let long = length-map_below (empty_range p) n in subst (IsRange room) (sym (get_or-map_below (empty_range p) n k (empty_range p 0) (omega (arith, lt, long)))) (one k));
  apart = λ i j d lt below.
      let long = length-map_below (empty_range p) n in
      let a = ap (λ (r : Range). r.limit) (get_or-map_below (empty_range p) n i d (omega (arith, lt, below, long))) in
      let b = ap (λ (r : Range). r.first) (get_or-map_below (empty_range p) n j d (omega (arith, below, long))) in
      let next = first_node-suc p i in
      let later = first_node-monotone p (suc i) j (omega (arith, lt)) in
      omega (arith, a, b, next, later);
} where
  one : (k : ℕ) → IsRange room (empty_range p k)
  one k = record { front = omega arith; forward = omega arith; within = omega arith; inside = let end = thread_end-le p k in omega (arith, end, fits) }

pub empty_queues_are : (p : Program) (nodes : List ℕ) → queues_of nodes (map (empty_range p) (nodes_below (length p.threads))) ≡ empty_queues p
empty_queues_are p nodes =
    let threads : List ℕ = nodes_below (length p.threads) in
    same_queues (queues_of nodes (map (empty_range p) threads)).entries (empty_queues p).entries
    (queues_of nodes (map (empty_range p) threads)).pushed (empty_queues p).pushed
    (queues_of nodes (map (empty_range p) threads)).rooms (empty_queues p).rooms
    (map-map (part nodes) (empty_range p) threads ∙ map_same (λ t. slice_range nodes (first_node p t) (first_node p t)) (λ t. []) threads (λ t. empty_part nodes (first_node p t)))
    (map-map (λ (r : Range). r.end - r.first) (empty_range p) threads ∙ map_same (λ t. first_node p t - first_node p t) (λ t. 0) threads (λ t. omega arith))
    (map-map (λ (r : Range). r.limit - r.first) (empty_range p) threads ∙ map_same (λ t. first_node p t + thread_length p t - first_node p t) (thread_length p) threads (λ t. omega arith))

pub cleared_queues : (nodes : List ℕ) (ranges : List Range) → queues_of nodes (map emptied ranges) ≡ cleared (queues_of nodes ranges)
cleared_queues nodes ranges =
    same_queues (queues_of nodes (map emptied ranges)).entries (cleared (queues_of nodes ranges)).entries
    (queues_of nodes (map emptied ranges)).pushed (cleared (queues_of nodes ranges)).pushed
    (queues_of nodes (map emptied ranges)).rooms (queues_of nodes ranges).rooms
    (map-map (part nodes) emptied ranges ∙ map_same (λ (r : Range). slice_range nodes r.first r.first) (λ r. []) ranges (λ r. empty_part nodes r.first) ∙ sym (map-map (λ entries. []) (part nodes) ranges))
    (map-map (λ (r : Range). r.end - r.first) emptied ranges ∙ map_same (λ (r : Range). r.first - r.first) (λ r. 0) ranges (λ r. omega arith) ∙ sym (map-map (λ pushed. 0) (λ (r : Range). r.end - r.first) ranges))
    (map-map (λ (r : Range). r.limit - r.first) emptied ranges)

pub cleared_ranges : (room : ℕ) (ranges : List Range) → AreRanges room ranges → AreRanges room (map emptied ranges)
cleared_ranges room ranges sound = record {
  each = All-map (IsRange room) emptied ranges
      (All-weaker (IsRange room) (λ (r : Range). IsRange room (emptied r)) (λ r is.
      let a = is.front in let b = is.forward in let c = is.within in record { front = omega arith; forward = omega arith; within = omega (arith, a, b, c); inside = is.inside }) ranges sound.each);
  apart = λ i j d lt below.
      let long = length-map ranges emptied in
      let far : j < length ranges = omega (arith, below, long) in
      let a = ap (λ (r : Range). r.limit) (get_or-map emptied ranges i d d (omega (arith, lt, far))) in
      let b = ap (λ (r : Range). r.first) (get_or-map emptied ranges j d d far) in
      let old = sound.apart i j d lt far in
      omega (arith, a, b, old);
}
