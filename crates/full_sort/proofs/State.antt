-- What the arrays say while nodes are placed.
use Rattle.std.proofs.Common.{◌≡◌, ◌≢◌, ◌∙◌, ℕ, ◌+◌, ◌<◌, ◌≤◌, List, [], ◌∷◌, ◌++◌, length, get_or, set, take, Contains, Bool, true, false, Some, None, sym, ap, subst, arith, inl, inr, ⊎_elim, get_or-set_same, get_or-set_other}
use Rattle.std.specs.Prelude.{sum_by, All}
use Rattle.std.proofs.lemmas.List.{length_push}
use Rattle.std.proofs.lemmas.List.Elements.{All-contains, All-weaker, All-more, Contains-append_left, Contains-push, Contains-push_cases}
use Rattle.std.proofs.lemmas.Bool.{cases_eq, false≢true}
use Rattle.digraph.specs.Digraph.{HasEdge}
use Rattle.orders.specs.Choices.{IsReady, IsNext, IsStuck}
use Rattle.orders.proofs.Members.{Contains-nil, cases_Contains}
use Rattle.full_sort.specs.Waiting.{count_between, count_into, is_marked, marked_of, IsWaiting, IsFree}
use Rattle.full_sort.proofs.Edges.{no-edge, count-no-edge}
use Rattle.full_sort.proofs.Free.{IsLeastFree, only-cleared}
use Rattle.full_sort.proofs.Marked.{marked-inside, marked-from, marked-all, sum-marked-less}
use Rattle.full_sort.proofs.Sums.{IsOnce, sum-zero, sum-ones, term-le-sum, some-of-sum}

-- the arrays where the nodes of the list p are placed
pub record IsState (es : List (ℕ × ℕ)) (window p : List ℕ) (nodes : ℕ) (waiting : List ℕ) (marks : List Bool) : Type 0 where
  pub waits : IsWaiting es nodes window waiting marks
  pub marked : (z : ℕ) → Contains window z → (Contains p z → ⊥) → is_marked marks z ≡ true
  pub cleared : (z : ℕ) → Contains window z → Contains p z → is_marked marks z ≡ false
  pub size : length p + sum_by (λ a. 1) (marked_of marks window) ≡ length window

-- none is placed yet
pub state-begin : (es : List (ℕ × ℕ)) (window : List ℕ) (nodes : ℕ) (waiting : List ℕ) (marks : List Bool) → IsWaiting es nodes window waiting marks → All (λ z. is_marked marks z ≡ true) window → IsState es window [] nodes waiting marks
state-begin es window nodes waiting marks waits marked =
    let all : (z : ℕ) → Contains window z → is_marked marks z ≡ true = (λ z h. All-contains (λ (z : ℕ). is_marked marks z ≡ true) window z marked h) in
    record {
      waits = waits;
      marked = λ z h lacks. all z h;
      cleared = λ z h c. absurd (Contains-nil z c);
      size =
          let ones = sum-ones window in
          let same = ap (λ (xs : List ℕ). sum_by (λ a. 1) xs) (marked-all marks window all) in
          omega (arith, ones, same);
    }

-- one mark more while the window is counted
pub marks-more : (marks : List Bool) (window : List ℕ) (i : ℕ) → i < length window → get_or window i 0 < length marks → All (λ z. is_marked marks z ≡ true) (take i window) → All (λ z. is_marked (set marks (get_or window i 0) true) z ≡ true) (take (i + 1) window)
marks-more marks window i lt inside marked =
    let n : ℕ = get_or window i 0 in
    All-more (λ (z : ℕ). get_or (set marks n true) z false ≡ true) window i 0 lt
    (All-weaker (λ (z : ℕ). get_or marks z false ≡ true) (λ (z : ℕ). get_or (set marks n true) z false ≡ true)
    (λ z before. elim (cases_eq z n) [
      | inl same ↦ subst (λ (m : ℕ). get_or (set marks n true) m false ≡ true) (sym same) (get_or-set_same marks n true false inside)
      | inr other ↦ get_or-set_other marks n z true false other ∙ before
    ])
    (take i window) marked)
    (get_or-set_same marks n true false inside)

module _ (es : List (ℕ × ℕ)) (window p : List ℕ) (nodes : ℕ) (waiting : List ℕ) (marks : List Bool) (s : IsState es window p nodes waiting marks) where
  -- a node of the window is placed exactly where it isn't marked
  unplaced : (z : ℕ) → Contains window z → is_marked marks z ≡ true → Contains p z → ⊥
  unplaced z h mark placed = false≢true (sym (s.cleared z h placed) ∙ mark)

  zero-ready : (t : ℕ) → count_into es (marked_of marks window) t ≡ 0 → IsReady (HasEdge es) window p t
  zero-ready t zeros a in_window edge = elim (cases_Contains p a) [
    | inl placed ↦ placed
    | inr lacks ↦
        let le = term-le-sum (λ m. count_between es m t) (marked_of marks window) a (marked-from marks window a in_window (s.marked a in_window lacks)) in
        absurd (no-edge es a t (omega (arith, le, zeros)) edge)
  ]

  ready-zero : (t : ℕ) → IsReady (HasEdge es) window p t → count_into es (marked_of marks window) t ≡ 0
  ready-zero t ready = sum-zero (λ m. count_between es m t) (marked_of marks window) (λ a h.
      let at = marked-inside marks window a h in
      count-no-edge es a t (λ edge. unplaced a at.0 at.1 (ready a at.0 edge)))

  module _ (inside : (z : ℕ) → Contains window z → z < nodes) where
    free-from : (z : ℕ) → Contains window z → (Contains p z → ⊥) → IsReady (HasEdge es) window p z → IsFree waiting marks z
    free-from z in_window lacks ready = (s.waits.counted z (inside z in_window) ∙ ready-zero z ready, s.marked z in_window lacks)

    -- the least free node is the next one
    pub state-next : (x : ℕ) → IsLeastFree window waiting marks (Some x) → IsNext (HasEdge es) window p x
    state-next x h = record {
      inside = h.0;
      unplaced = unplaced x h.0 h.1.1;
      ready = zero-ready x (sym (s.waits.counted x (inside x h.0)) ∙ h.1.0);
      least = λ z in_window lacks ready. h.2 z in_window (free-from z in_window lacks ready);
    }

    -- where nodes are marked and none is free, the search is stuck
    pub state-stuck : length p < length window → IsLeastFree window waiting marks None → IsStuck (HasEdge es) window p
    state-stuck short none =
        let size = s.size in
        let some = some-of-sum (λ a. 1) (marked_of marks window) (omega (arith, size, short)) in
        let at = marked-inside marks window some.0 some.1 in
        record {
          node = some.0;
          inside = at.0;
          unplaced = unplaced some.0 at.0 at.1;
          none = λ z in_window lacks ready. none z in_window (free-from z in_window lacks ready);
        }

    -- each edge of a marked node is still waited for
    pub state-enough : (x : ℕ) → IsLeastFree window waiting marks (Some x) → (t : ℕ) → t < nodes → count_between es x t ≤ get_or waiting t 0
    state-enough x h t lt =
        let le = term-le-sum (λ m. count_between es m t) (marked_of marks window) x (marked-from marks window x h.0 h.1.1) in
        let same = s.waits.counted t lt in
        omega (arith, le, same)

    -- one node more is placed: its mark is taken away, and its edges are waited for no more
    pub state-more : (x : ℕ) → IsOnce window → length marks ≡ nodes → IsLeastFree window waiting marks (Some x) → (after : List ℕ) → ((t : ℕ) → t < nodes → get_or after t 0 + count_between es x t ≡ get_or waiting t 0) → IsState es window (p ++ x ∷ []) nodes after (set marks x false)
    state-more x once whole h after less =
        let below : x < length marks = (let lt = inside x h.0 in omega (arith, lt, whole)) in
        record {
          waits = record {
            only = only-cleared marks window x below s.waits.only;
            counted = λ t lt.
                let before = s.waits.counted t lt in
                let step = less t lt in
                let more = sum-marked-less (λ m. count_between es m t) marks window x once h.0 h.1.1 below in
                omega (arith, before, step, more);
          };
          marked = λ z hz lacks.
              let other : z ≢ x = λ e. lacks (subst (Contains (p ++ x ∷ [])) (sym e) (Contains-push p x)) in
              get_or-set_other marks x z false false other ∙ s.marked z hz (λ c. lacks (Contains-append_left p (x ∷ []) z c));
          cleared = λ z hz c. elim (cases_eq z x) [
            | inl same ↦ subst (λ (m : ℕ). get_or (set marks x false) m false ≡ false) (sym same) (get_or-set_same marks x false false below)
            | inr other ↦ get_or-set_other marks x z false false other ∙ s.cleared z hz (⊎_elim (λ r. r) (λ (e : x ≡ z). absurd (other (sym e))) (Contains-push_cases p x z c))
          ];
          size =
              let size = s.size in
              let longer = length_push p x in
              let more = sum-marked-less (λ a. 1) marks window x once h.0 h.1.1 below in
              omega (arith, size, longer, more);
        }

  -- where as many are placed as the window has, each node of it is placed
  pub state-whole : length p ≡ length window → (x : ℕ) → Contains window x → Contains p x
  state-whole full x in_window = elim (cases_Contains p x) [
    | inl placed ↦ placed
    | inr lacks ↦
        let size = s.size in
        let one = term-le-sum (λ a. 1) (marked_of marks window) x (marked-from marks window x in_window (s.marked x in_window lacks)) in
        absurd (omega (arith, size, full, one))
  ]
