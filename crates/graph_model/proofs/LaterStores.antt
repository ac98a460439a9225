-- Which stores come after a load, by what the load gives.
use Rattle.std.proofs.Common.{◌≡◌, ◌⊎◌, ℕ, ◌<◌, ◌≤◌, List, Bool, true, false, ◌&&◌, ◌||◌, inl, inr, arith, refl, sym, subst, ◌∙◌}
use Rattle.std.specs.Prelude.{nat_lt}
use Rattle.std.specs.Bool.{Decides}
use Rattle.std.proofs.lemmas.Bool.Decides.{same_from_decides, Decides-like, Decides-or, Decides-and, Decides-ltb}
use Rattle.test_lang.specs.Program.{Program}
use Rattle.test_lang.specs.Values.{is_load_at, is_store_at, same_thread, one_word, value_of, store_count}
use Rattle.test_lang.specs.Runs.{IsInside, value_read, writes_for}
use Rattle.test_lang.specs.EdgeList.{is_before_later, is_before_any}
use Rattle.test_lang.proofs.EdgeTests.{IsLaterOf, decides_later, decides_any}
use Rattle.test_lang.proofs.Ranks.{one_store, value_of-le}
use Rattle.test_lang.proofs.CandidateKinds.{IsCandidate, inside_candidate}
use Rattle.test_lang.proofs.CandidateKinds.IsCandidate.{initial, own, other}

-- the two kinds of edges from a load to a store
abbrev pub IsBefore : Program → List ℕ → ℕ → ℕ → Type 0
IsBefore p run a b =
    ((store : ℕ) × IsLaterOf p run a b store)
    ⊎ (((is_load_at p a ≡ true) × (value_read p run a ≡ 0)) × ((is_store_at p b ≡ true) × (one_word p a b ≡ true)))

pub decides_before : (p : Program) (run : List ℕ) (a b : ℕ) → Decides (is_before_later p run a b || is_before_any p run a b) (IsBefore p run a b)
decides_before p run a b = Decides-or (is_before_later p run a b) (is_before_any p run a b) (decides_later p run a b) (decides_any p run a b)

decides_itself : (b : Bool) → Decides b (b ≡ true)
decides_itself b = (λ h. h, λ h. h)

-- a node that is no load comes before no store that way
pub before_of_no_load : (p : Program) (run : List ℕ) (a b : ℕ) → is_load_at p a ≡ false → false ≡ (is_before_later p run a b || is_before_any p run a b)
before_of_no_load p run a b e =
    same_from_decides false (is_before_later p run a b || is_before_any p run a b)
    ((λ h. absurd cc), (λ h. elim h [ inl later ↦ let load = later.1.0.0 in absurd cc | inr any ↦ let load = any.0.0 in absurd cc ]))
    (decides_before p run a b)

pub before_no_store : (p : Program) (run : List ℕ) (a b : ℕ) → is_store_at p b ≡ false → false ≡ (is_before_later p run a b || is_before_any p run a b)
before_no_store p run a b e =
    same_from_decides false (is_before_later p run a b || is_before_any p run a b)
    ((λ h. absurd cc), (λ h. elim h [ inl later ↦ let store = later.1.1.0.0 in absurd cc | inr any ↦ let store = any.1.0 in absurd cc ]))
    (decides_before p run a b)

-- a load that gives the initial value comes before each store to its word
pub before_of_initial : (p : Program) (run : List ℕ) (a b : ℕ) → is_load_at p a ≡ true → is_store_at p b ≡ true → value_read p run a ≡ 0 →
    one_word p a b ≡ (is_before_later p run a b || is_before_any p run a b)
before_of_initial p run a b load store zero =
    same_from_decides (one_word p a b) (is_before_later p run a b || is_before_any p run a b) (
      (λ h. inr ((load, zero), (store, h))),
      (λ h. elim h [ inl later ↦ let value = later.1.0.1.1 in absurd (omega (arith, zero, value)) | inr any ↦ any.1.1 ]),
    )
    (decides_before p run a b)

-- a load that gives the value of a store comes before the later stores of that store's thread to its word
pub before_of_store : (p : Program) (run : List ℕ) (a b store : ℕ) → is_load_at p a ≡ true → is_store_at p b ≡ true → is_store_at p store ≡ true → value_read p run a ≡ value_of p store →
    (same_thread p store b && (nat_lt store b && one_word p store b)) ≡ (is_before_later p run a b || is_before_any p run a b)
before_of_store p run a b store load later given value =
    same_from_decides (same_thread p store b && (nat_lt store b && one_word p store b)) (is_before_later p run a b || is_before_any p run a b)
    (Decides-like (same_thread p store b && (nat_lt store b && one_word p store b))
    (λ (h : (same_thread p store b ≡ true) × ((store < b) × (one_word p store b ≡ true))).
    let found : IsBefore p run a b = inl (store, ((load, (given, value)), ((later, h.0), (h.1.0, h.1.1)))) in found)
    (λ (h : IsBefore p run a b). elim h [
      | inl l ↦
          let same : l.0 ≡ store = one_store p l.0 store l.1.0.1.0 given (sym l.1.0.1.1 ∙ value) in
          subst (λ (s : ℕ). (same_thread p s b ≡ true) × ((s < b) × (one_word p s b ≡ true))) same (l.1.1.0.1, (l.1.1.1.0, l.1.1.1.1))
      | inr any ↦ let zero = any.0.1 in absurd (omega (arith, zero, value))
    ])
    (Decides-and (same_thread p store b) (nat_lt store b && one_word p store b) (decides_itself (same_thread p store b))
    (Decides-and (nat_lt store b) (one_word p store b) (Decides-ltb store b) (decides_itself (one_word p store b)))))
    (decides_before p run a b)

and_true : (x y : Bool) → (x && y) ≡ true → (x ≡ true) × (y ≡ true)
and_true true y h = (refl, h)
and_true false y h = absurd cc

store_of_writes : (p : Program) (load w : ℕ) → writes_for p load w ≡ true → is_store_at p w ≡ true
store_of_writes p load w h = (and_true (is_store_at p w) (one_word p load w) h).0

value_le : (p : Program) (w value : ℕ) → is_store_at p w ≡ true → value_of p w ≡ value → value ≤ store_count p
value_le p w value store e = let few = value_of-le p w store in omega (arith, few, e)

given_le : (p : Program) (load value : ℕ) → IsCandidate p load value → value ≤ store_count p
given_le p load value (initial zero none) = omega (arith, zero)
given_le p load value (own w earlier e last) =
    value_le p w value (store_of_writes p load w (and_true (writes_for p load w) (same_thread p load w && nat_lt w load) earlier).0) e
given_le p load value (other w writes far e) = value_le p w value (store_of_writes p load w writes) e

-- a load of an inside run gives at most the last value
pub value_read-le : (p : Program) (run : List ℕ) (load : ℕ) → IsInside p run → is_load_at p load ≡ true → value_read p run load ≤ store_count p
value_read-le p run load inside h = given_le p load (value_read p run load) (inside_candidate p run load inside h)
