-- A set that has exactly the free nodes.
use Rattle.std.proofs.Common.{◌≡◌, ◌∙◌, ◌↔◌, ℕ, ◌+◌, ◌/◌, ◌%◌, ◌<◌, ◌≤◌, List, Bool, true, false, Option, Some, None, [], ◌∷◌, ◌++◌, length, get_or, set, take, Contains, All, sym, ap, subst, arith, inl, inr, ⊎_elim, get_or-set_same, get_or-set_other}
use Rattle.std.proofs.lemmas.Bool.{cases_eq, cases_lt, false≢true}
use Rattle.std.proofs.lemmas.List.Elements.{All-contains, All-weaker, All-more, Contains-append_left, Contains-push}
use Rattle.std.proofs.lemmas.List.{take_more}
use Rattle.std.proofs.lemmas.Nat.Bits.{bit_at-lt}
use Rattle.full_sort.specs.Bits.{bit_of, ChangesBit, IsFirstBit}
use Rattle.full_sort.specs.Waiting.{IsFree, HasFree, NotesFree}

-- the least free node of the window, or none where there is none
abbrev pub IsLeastFree : List ℕ → List ℕ → List Bool → Option ℕ → Type 0
IsLeastFree window waiting marks None = (z : ℕ) → Contains window z → IsFree waiting marks z → ⊥
IsLeastFree window waiting marks (Some x) = Contains window x × IsFree waiting marks x × ((z : ℕ) → Contains window z → IsFree waiting marks z → x ≤ z)

-- a bit that isn't 1 is 0
pub bit-zero : (words : List ℕ) (n : ℕ) → (bit_of words n ≡ 1 → ⊥) → bit_of words n ≡ 0
bit-zero words n other = let lt = bit_at-lt (get_or words (n / 64) 0) (n % 64) in omega (arith, lt, other)

-- marks of the window's nodes alone, where one is set and where one is cleared
pub only-set : (marks : List Bool) (window : List ℕ) (i : ℕ) → i < length window → get_or window i 0 < length marks → ((t : ℕ) → get_or marks t false ≡ true → Contains (take i window) t) → (t : ℕ) → get_or (set marks (get_or window i 0) true) t false ≡ true → Contains (take (i + 1) window) t
only-set marks window i lt inside only t mark =
    let x : ℕ = get_or window i 0 in
    let more : Contains (take i window ++ x ∷ []) t = elim (cases_eq t x) [
      | inl same ↦ subst (Contains (take i window ++ x ∷ [])) (sym same) (Contains-push (take i window) x)
      | inr other ↦ Contains-append_left (take i window) (x ∷ []) t (only t (sym (get_or-set_other marks x t true false other) ∙ mark))
    ] in
    subst (λ (xs : List ℕ). Contains xs t) (sym (take_more window i 0 lt)) more

pub only-cleared : (marks : List Bool) (window : List ℕ) (x : ℕ) → x < length marks → ((t : ℕ) → get_or marks t false ≡ true → Contains window t) → (t : ℕ) → get_or (set marks x false) t false ≡ true → Contains window t
only-cleared marks window x inside only t mark = elim (cases_eq t x) [
  | inl same ↦ absurd (false≢true (sym (ap (λ (m : ℕ). get_or (set marks x false) m false) same ∙ get_or-set_same marks x false false inside) ∙ mark))
  | inr other ↦ only t (sym (get_or-set_other marks x t false false other) ∙ mark)
]

module _ (ready waiting : List ℕ) (marks : List Bool) where
  module _ (window : List ℕ) (free : HasFree ready waiting marks) (only : (t : ℕ) → get_or marks t false ≡ true → Contains window t) where
    pub least-from-set : (r : Option ℕ) → IsFirstBit ready r → IsLeastFree window waiting marks r
    least-from-set None none = λ z h f. let one = (free z).1 f in let zeros = none z in omega (arith, one, zeros)
    least-from-set (Some x) first =
        let f = (free x).0 first.0 in (
          only x f.1,
          f,
          λ z h also. elim (cases_lt z x) [
            | inl lt ↦ (let one = (free z).1 also in let zeros = first.1 z lt in omega (arith, one, zeros))
            | inr ge ↦ ge
          ],
        )

    -- where no mark is left, the set is empty
    pub set-empty : ((t : ℕ) → Contains window t → get_or marks t false ≡ false) → IsFirstBit ready None
    set-empty cleared t = bit-zero ready t (λ one. let f = (free t).0 one in false≢true (sym (cleared t (only t f.1)) ∙ f.1))

  -- the least node is taken out, and its mark is cleared
  pub free-taken : HasFree ready waiting marks → (after : List ℕ) (x : ℕ) → x < length marks → ChangesBit ready after x 0 → HasFree after waiting (set marks x false)
  free-taken free after x inside change t = elim (cases_eq t x) [
    | inl same ↦
        subst (λ (m : ℕ). (bit_of after m ≡ 1) ↔ IsFree waiting (set marks x false) m) (sym same)
        ((λ one. let gone = change.at in absurd (omega (arith, one, gone))), (λ f. absurd (false≢true (sym (get_or-set_same marks x false false inside) ∙ f.1))))
    | inr other ↦
        let kept = get_or-set_other marks x t false false other in
        let bit = change.others t other in
        ((λ one. let f = (free t).0 (sym bit ∙ one) in (f.0, kept ∙ f.1)), (λ f. bit ∙ (free t).1 (f.0, sym kept ∙ f.1)))
  ]

  -- a node that waited for an edge waits for one less, and is noted where it is free
  pub free-lowered : HasFree ready waiting marks → (after : List ℕ) (x w : ℕ) → x < length waiting → 1 ≤ get_or waiting x 0 → NotesFree ready after (set waiting x w) marks x → HasFree after (set waiting x w) marks
  free-lowered free after x w inside some note t = elim (cases_eq t x) [
    | inl same ↦
        subst (λ (m : ℕ). (bit_of after m ≡ 1) ↔ IsFree (set waiting x w) marks m) (sym same)
        ((λ one. ⊎_elim (λ before. let f = (free x).0 before in let zeros = f.0 in absurd (omega (arith, zeros, some))) (λ f. f) (note.only one)), note.noted)
    | inr other ↦
        let kept = get_or-set_other waiting x t w 0 other in
        let bit = note.others t other in
        ((λ one. let f = (free t).0 (sym bit ∙ one) in (kept ∙ f.0, f.1)), (λ f. bit ∙ (free t).1 (sym kept ∙ f.0, f.1)))
  ]

  -- one node more of the window is noted
  pub only-more : ((t : ℕ) → bit_of ready t ≡ 1 → IsFree waiting marks t) → (after : List ℕ) (x : ℕ) → NotesFree ready after waiting marks x → (t : ℕ) → bit_of after t ≡ 1 → IsFree waiting marks t
  only-more only after x note t one = elim (cases_eq t x) [
    | inl same ↦
        subst (IsFree waiting marks) (sym same) (⊎_elim (only x) (λ f. f) (note.only (subst (λ (m : ℕ). bit_of after m ≡ 1) same one)))
    | inr other ↦ only t (sym (note.others t other) ∙ one)
  ]

  pub noted-more : (window : List ℕ) (i : ℕ) → i < length window → All (λ z. IsFree waiting marks z → bit_of ready z ≡ 1) (take i window) → (after : List ℕ) → NotesFree ready after waiting marks (get_or window i 0) → All (λ z. IsFree waiting marks z → bit_of after z ≡ 1) (take (i + 1) window)
  noted-more window i lt noted after note =
      let x : ℕ = get_or window i 0 in
      All-more (λ (z : ℕ). IsFree waiting marks z → bit_of after z ≡ 1) window i 0 lt
      (All-weaker (λ (z : ℕ). IsFree waiting marks z → bit_of ready z ≡ 1) (λ (z : ℕ). IsFree waiting marks z → bit_of after z ≡ 1)
      (λ z before f. elim (cases_eq z x) [
        | inl same ↦ subst (λ (m : ℕ). bit_of after m ≡ 1) (sym same) (note.noted (subst (IsFree waiting marks) same f))
        | inr other ↦ note.others z other ∙ before f
      ])
      (take i window) noted)
      note.noted

  pub free-noted : (window : List ℕ) → ((t : ℕ) → bit_of ready t ≡ 1 → IsFree waiting marks t) → All (λ z. IsFree waiting marks z → bit_of ready z ≡ 1) window → ((t : ℕ) → get_or marks t false ≡ true → Contains window t) → HasFree ready waiting marks
  free-noted window only noted inside t = (only t, λ f. All-contains (λ (z : ℕ). IsFree waiting marks z → bit_of ready z ≡ 1) window t noted (inside t f.1) f)
