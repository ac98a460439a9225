-- In how many lists of nodes without a flag a node is.
use Rattle.std.proofs.Common.{◌≡◌, ◌∙◌, ◌≢◌, ℕ, zero, suc, ◌+◌, ◌-◌, ◌^◌, ◌<◌, ◌≤◌, List, [], ◌∷◌, ◌++◌, Bool, true, false, not, ◌&&◌, ◌||◌, Contains, All, cond, length, take, get_or, set, refl, sym, ap, subst, arith, inl, inr, get_or-set_same, get_or-set_other, length-set}
use Rattle.std.specs.Prelude.{◌==◌, count_by, replicate, sum_by}
use Rattle.std.proofs.lemmas.Bool.{cases_Bool, cases_eq, cases_lt, eqb-true, eq-eqb, false≢true}
use Rattle.std.proofs.lemmas.List.{get_or-replicate, get_or_past, length-replicate, take_all, take_more}
use Rattle.std.proofs.lemmas.List.Elements.{All-get_or}
use Rattle.std.proofs.lemmas.List.Sums.{count_by-le-length, count_by_more_yes, sum_by-cons, sum_by-take-le, sum_by_push}
use Rattle.orders.proofs.Members.{Contains-nil}
use Rattle.test_lang.specs.Play.States.{has}
use Rattle.weak_machine.specs.NodeSets.{has_flag}
use Rattle.weak_machine.specs.Progress.{missing_of, IsProgress}
use Rattle.test_lang.proofs.PlayLaws.Lasts.{has_true, true_has}
use Rattle.sim_core.proofs.NextOperations.{has-push}
use Rattle.weak_machine.proofs.Times.{count-some, count-none}
use Rattle.test_lang.proofs.ListTests.{and_true, not_true}

-- how often the list has the number
abbrev pub times : ℕ → List ℕ → ℕ
times b list = count_by (λ n. n == b) list

-- where no flag is set

pub missing-unset : (lists : List (List ℕ)) (flags : List Bool) (b : ℕ) → ((k : ℕ) → has_flag flags k ≡ false) → missing_of lists flags b ≡ missing_of lists [] b
missing-unset [] flags b none = refl
missing-unset (list ∷ lists) [] b none = refl
missing-unset (list ∷ lists) (true ∷ flags) b none = absurd (false≢true (sym (none 0)))
missing-unset (list ∷ lists) (false ∷ flags) b none = ap (λ (m : ℕ). times b list + m) (missing-unset lists flags b (λ k. none (suc k)))

pub missing-push : (lists : List (List ℕ)) (list : List ℕ) (b : ℕ) → missing_of (lists ++ list ∷ []) [] b ≡ missing_of lists [] b + times b list
missing-push [] list b = omega arith
missing-push (first ∷ lists) list b = let rest = missing-push lists list b in omega (arith, rest)

pub missing-le : (lists : List (List ℕ)) (b : ℕ) → missing_of lists [] b ≤ sum_by length lists
missing-le [] b = omega arith
missing-le (list ∷ lists) b =
    let rest = missing-le lists b in
    let one = count_by-le-length (λ n. n == b) list in
    let all = sum_by-cons length list lists in
    omega (arith, rest, one, all)

-- the next list is counted
pub missing-more : (lists : List (List ℕ)) (k b : ℕ) → k < length lists → missing_of (take (k + 1) lists) [] b ≡ missing_of (take k lists) [] b + times b (get_or lists k [])
missing-more lists k b lt = ap (λ (some : List (List ℕ)). missing_of some [] b) (take_more lists k [] lt) ∙ missing-push (take k lists) (get_or lists k []) b

pub missing-room : (lists : List (List ℕ)) (k b : ℕ) → k < length lists → missing_of (take k lists) [] b + times b (get_or lists k []) ≤ sum_by length lists
missing-room lists k b lt =
    let more = missing-more lists k b lt in
    let le = missing-le (take (k + 1) lists) b in
    let part = sum_by-take-le length lists (k + 1) in
    omega (arith, more, le, part)

pub missing-all : (lists : List (List ℕ)) (b : ℕ) → missing_of (take (length lists) lists) [] b ≡ missing_of lists [] b
missing-all lists b = ap (λ (some : List (List ℕ)). missing_of some [] b) (take_all (length lists) lists (omega arith))

-- there is room to count one more of a list
pub raised-room : (old nodes missing : List ℕ) (i : ℕ) → i < length nodes → All (λ n. n < length old) nodes → ((t : ℕ) → t < length old → get_or old t 0 + times t nodes < 2 ^ 32)
    → ((t : ℕ) → t < length old → get_or missing t 0 ≡ get_or old t 0 + times t (take i nodes)) → get_or missing (get_or nodes i 0) 0 + 1 < 2 ^ 32
raised-room old nodes missing i lt inside room more =
    let below : get_or nodes i 0 < length old = All-get_or (λ (m : ℕ). m < length old) nodes i 0 lt inside in
    let counted = more (get_or nodes i 0) below in
    let most = room (get_or nodes i 0) below in
    let next = count_by_more_yes (λ m. m == get_or nodes i 0) nodes i 0 lt (eq-eqb (get_or nodes i 0) (get_or nodes i 0) refl) in
    let part = sum_by-take-le (λ m. cond (m == get_or nodes i 0) 1 0) nodes (i + 1) in
    omega (arith, counted, most, next, part)

-- a flag is set

pub missing-set : (lists : List (List ℕ)) (flags : List Bool) (a b : ℕ) → a < length flags → has_flag flags a ≡ false → missing_of lists flags b ≡ times b (get_or lists a []) + missing_of lists (set flags a true) b
missing-set [] flags a b lt fails = refl
missing-set (list ∷ lists) [] a b lt fails = absurd (omega (arith, lt))
missing-set (list ∷ lists) (true ∷ flags) zero b lt fails = absurd (false≢true (sym fails))
missing-set (list ∷ lists) (false ∷ flags) zero b lt fails = omega arith
missing-set (list ∷ lists) (flag ∷ flags) (suc a) b lt fails = let rest = missing-set lists flags a b (omega (arith, lt)) fails in omega (arith, rest)

-- where none is missing, and where some is

pub none-missing : (lists : List (List ℕ)) (flags : List Bool) (b : ℕ) → missing_of lists flags b ≡ 0 → (a : ℕ) → Contains (get_or lists a []) b → has_flag flags a ≡ true
none-missing [] flags b e a there = absurd (Contains-nil b (subst (λ (list : List ℕ). Contains list b) (get_or_past [] a [] (omega arith)) there))
none-missing (list ∷ lists) [] b e zero there = let some = count-some list b there in absurd (omega (arith, some, e))
none-missing (list ∷ lists) [] b e (suc a) there = none-missing lists [] b (omega (arith, e)) a there
none-missing (list ∷ lists) (true ∷ flags) b e zero there = refl
none-missing (list ∷ lists) (false ∷ flags) b e zero there = let some = count-some list b there in absurd (omega (arith, some, e))
none-missing (list ∷ lists) (flag ∷ flags) b e (suc a) there = none-missing lists flags b (omega (arith, e)) a there

pub missing-none : (lists : List (List ℕ)) (flags : List Bool) (b : ℕ) → ((a : ℕ) → Contains (get_or lists a []) b → has_flag flags a ≡ true) → missing_of lists flags b ≡ 0
missing-none [] flags b met = refl
missing-none (list ∷ lists) [] b met =
    let here = count-none list b (λ there. false≢true (met 0 there)) in
    let rest = missing-none lists [] b (λ a there. met (suc a) there) in
    omega (arith, here, rest)
missing-none (list ∷ lists) (true ∷ flags) b met = let rest = missing-none lists flags b (λ a there. met (suc a) there) in omega (arith, rest)
missing-none (list ∷ lists) (false ∷ flags) b met =
    let here = count-none list b (λ there. false≢true (met 0 there)) in
    let rest = missing-none lists flags b (λ a there. met (suc a) there) in
    omega (arith, here, rest)

-- how many have no flag

left-cons : (flag : Bool) (flags : List Bool) → count_by not (flag ∷ flags) ≡ cond (not flag) 1 0 + count_by not flags
left-cons flag flags = sum_by-cons (λ b. cond (not b) 1 0) flag flags

pub left-set : (flags : List Bool) (a : ℕ) → a < length flags → has_flag flags a ≡ false → count_by not (set flags a true) + 1 ≡ count_by not flags
left-set [] a lt fails = absurd (omega (arith, lt))
left-set (true ∷ flags) zero lt fails = absurd (false≢true (sym fails))
left-set (false ∷ flags) zero lt fails = let before = left-cons false flags in let after = left-cons true flags in omega (arith, before, after)
left-set (flag ∷ flags) (suc a) lt fails =
    let rest = left-set flags a (omega (arith, lt)) fails in
    let before = left-cons flag flags in
    let after = left-cons flag (set flags a true) in
    omega (arith, rest, before, after)

pub left-unset : (flags : List Bool) → ((k : ℕ) → has_flag flags k ≡ false) → count_by not flags ≡ length flags
left-unset [] none = refl
left-unset (true ∷ flags) none = absurd (false≢true (sym (none 0)))
left-unset (false ∷ flags) none = let rest = left-unset flags (λ k. none (suc k)) in let all = left-cons false flags in omega (arith, rest, all)

-- a flag at a place after one was set
pub flag-set_same : (flags : List Bool) (n : ℕ) (value : Bool) → n < length flags → has_flag (set flags n value) n ≡ value
flag-set_same flags n value lt = get_or-set_same flags n value false lt

pub flag-set_other : (flags : List Bool) (n k : ℕ) (value : Bool) → k ≢ n → has_flag (set flags n value) k ≡ has_flag flags k
flag-set_other flags n k value other = get_or-set_other flags n k value false other

-- Nothing was performed.

flag-unset : (flags : List Bool) (n : ℕ) → flags ≡ replicate n false → (k : ℕ) → has_flag flags k ≡ false
flag-unset flags n e k = ap (λ (xs : List Bool). has_flag xs k) e ∙ elim (cases_lt k n) [
  | inl lt ↦ get_or-replicate n k false false lt
  | inr past ↦ let long = length-replicate n false in get_or_past (replicate n false) k false (omega (arith, past, long))
]

module _ (lists : List (List ℕ)) (performed : List Bool) (missing : List ℕ) (ready : List Bool) (left : ℕ) (unset : performed ≡ replicate (length lists) false) where
  pub begun : length missing ≡ length lists → ((n : ℕ) → n < length lists → get_or missing n 0 ≡ missing_of lists [] n) → length ready ≡ length lists → ((n : ℕ) → n < length lists → has_flag ready n ≡ (get_or missing n 0 == 0)) → left ≡ length lists
      → IsProgress lists performed missing ready left
  begun long counts same found all = record {
    one_performed_each = ap length unset ∙ length-replicate (length lists) false;
    one_missing_each = long;
    one_ready_each = same;
    missing_are = λ n lt. counts n lt ∙ sym (missing-unset lists performed n (flag-unset performed (length lists) unset));
    ready_are = λ n lt. found n lt ∙ ap (λ b. not b && (get_or missing n 0 == 0)) (sym (flag-unset performed (length lists) unset n));
    left_is = all ∙ sym (left-unset performed (flag-unset performed (length lists) unset) ∙ ap length unset ∙ length-replicate (length lists) false);
  }

-- The nodes of a list are released, so many as i of them: what is missing then, and what is ready.

pub record IsReleased (old : List ℕ) (had : List Bool) (nodes : List ℕ) (i : ℕ) (missing : List ℕ) (ready : List Bool) : Type 0 where
  pub long : length missing ≡ length old
  pub same : length ready ≡ length had
  pub less : (t : ℕ) → t < length old → get_or missing t 0 + times t (take i nodes) ≡ get_or old t 0
  pub found : (t : ℕ) → t < length old → has_flag ready t ≡ (has_flag had t || (has (take i nodes) t && (get_or missing t 0 == 0)))

module _ (old : List ℕ) (had : List Bool) (nodes : List ℕ) (enough : (t : ℕ) → t < length old → times t nodes ≤ get_or old t 0) (apart : (t : ℕ) → Contains nodes t → has_flag had t ≡ false) (lengths : length had ≡ length old) where
  pub released-none : IsReleased old had nodes 0 old had
  released-none = record {
    long = refl;
    same = refl;
    less = λ t lt. omega arith;
    found = λ t lt. or_false (has_flag had t);
  } where
    or_false : (b : Bool) → b ≡ (b || false)
    or_false true = refl
    or_false false = refl

  module _ (i n : ℕ) (missing : List ℕ) (ready : List Bool) (r : IsReleased old had nodes i missing ready) (lt : i < length nodes) (is : n ≡ get_or nodes i n) (inside : n < length old) where
    times-next : (t : ℕ) → times t (take (i + 1) nodes) ≡ times t (take i nodes) + cond (n == t) 1 0
    times-next t =
        ap (times t) (take_more nodes i n lt ∙ ap (λ (m : ℕ). take i nodes ++ m ∷ []) (sym is)) ∙ sum_by_push (λ m. cond (m == t) 1 0) (take i nodes) n

    one : cond {A = ℕ} (n == n) 1 0 ≡ 1
    one = ap (λ b. cond {A = ℕ} b 1 0) (eq-eqb n n refl)

    apart_times : (t : ℕ) → t ≢ n → cond {A = ℕ} (n == t) 1 0 ≡ 0
    apart_times t other = elim (cases_Bool (n == t)) [ inl h ↦ absurd (other (sym (eqb-true n t h))) | inr h ↦ ap (λ b. cond {A = ℕ} b 1 0) h ]

    pub some-missing : 1 ≤ get_or missing n 0
    some-missing =
        let less = r.less n inside in
        let more = times-next n in
        let some = enough n inside in
        let part = sum_by-take-le (λ m. cond (m == n) 1 0) nodes (i + 1) in
        omega (arith, less, more, some, part, one)

    there : Contains nodes n
    there = (i, lt, sym is)

    pub not-ready : has_flag ready n ≡ false
    not-ready = r.found n inside ∙ ap (λ b. b || (has (take i nodes) n && (get_or missing n 0 == 0))) (apart n there) ∙ none (get_or missing n 0) some-missing (has (take i nodes) n) where
      none : (m : ℕ) → 1 ≤ m → (b : Bool) → (b && (m == 0)) ≡ false
      none m some false = refl
      none m some true = elim (cases_Bool (m == 0)) [ inl h ↦ let is_zero = eqb-true m 0 h in absurd (omega (arith, some, is_zero)) | inr h ↦ h ]

    abbrev lowered : List ℕ
    lowered = set missing n (get_or missing n 0 - 1)

    long_lowered : length lowered ≡ length old
    long_lowered = length-set missing n (get_or missing n 0 - 1) ∙ r.long

    in_missing : n < length missing
    in_missing = let long = r.long in omega (arith, long, inside)

    less_next : (t : ℕ) → t < length old → get_or lowered t 0 + times t (take (i + 1) nodes) ≡ get_or old t 0
    less_next t below =
        let less = r.less t below in
        let more = times-next t in
        elim (cases_eq t n) [
          | inl same ↦
              let value : get_or lowered t 0 ≡ get_or missing n 0 - 1 = ap (λ (k : ℕ). get_or lowered k 0) same ∙ get_or-set_same missing n (get_or missing n 0 - 1) 0 in_missing in
              let counted : cond {A = ℕ} (n == t) 1 0 ≡ 1 = ap (λ (k : ℕ). cond {A = ℕ} (n == k) 1 0) same ∙ one in
              let before : get_or missing t 0 ≡ get_or missing n 0 = ap (λ (k : ℕ). get_or missing k 0) same in
              omega (arith, less, more, value, counted, before, some-missing)
          | inr other ↦
              let value = get_or-set_other missing n t (get_or missing n 0 - 1) 0 other in
              let counted = apart_times t other in
              omega (arith, less, more, value, counted)
        ]

    has_next : (t : ℕ) → has (take (i + 1) nodes) t ≡ (has (take i nodes) t || (n == t))
    has_next t = ap (λ (xs : List ℕ). has xs t) (take_more nodes i n lt ∙ ap (λ (m : ℕ). take i nodes ++ m ∷ []) (sym is)) ∙ has-push (take i nodes) n t

    -- another node is as before
    other_found : (t : ℕ) → t < length old → t ≢ n → has_flag ready t ≡ (has_flag had t || (has (take (i + 1) nodes) t && (get_or lowered t 0 == 0)))
    other_found t below other =
        let same_has : has (take (i + 1) nodes) t ≡ has (take i nodes) t = has_next t ∙ or_no (has (take i nodes) t) (n == t) (not_same t other) in
        let same_value : get_or lowered t 0 ≡ get_or missing t 0 = get_or-set_other missing n t (get_or missing n 0 - 1) 0 other in
        r.found t below
        ∙ ap (λ b. has_flag had t || (b && (get_or missing t 0 == 0))) (sym same_has)
        ∙ ap (λ (v : ℕ). has_flag had t || (has (take (i + 1) nodes) t && (v == 0))) (sym same_value) where
          or_no : (b c : Bool) → c ≡ false → (b || c) ≡ b
          or_no true c e = refl
          or_no false c e = e

          not_same : (t : ℕ) → t ≢ n → (n == t) ≡ false
          not_same t apart = elim (cases_Bool (n == t)) [ inl h ↦ absurd (apart (sym (eqb-true n t h))) | inr h ↦ h ]

    -- the node itself is ready where none is missing now
    here_found : (has_flag had n || (has (take (i + 1) nodes) n && (get_or lowered n 0 == 0))) ≡ (get_or missing n 0 - 1 == 0)
    here_found =
        ap (λ b. b || (has (take (i + 1) nodes) n && (get_or lowered n 0 == 0))) (apart n there)
        ∙ ap (λ b. b && (get_or lowered n 0 == 0)) (has_next n ∙ or_yes (has (take i nodes) n) (n == n) (eq-eqb n n refl))
        ∙ ap (λ (v : ℕ). v == 0) (get_or-set_same missing n (get_or missing n 0 - 1) 0 in_missing) where
          or_yes : (b c : Bool) → c ≡ true → (b || c) ≡ true
          or_yes true c e = refl
          or_yes false c e = e

    in_ready : n < length ready
    in_ready = let same = r.same in omega (arith, same, lengths, inside)

    pub released-ready : get_or missing n 0 - 1 ≡ 0 → IsReleased old had nodes (i + 1) lowered (set ready n true)
    released-ready e = record {
      long = long_lowered;
      same = length-set ready n true ∙ r.same;
      less = less_next;
      found = λ t below. elim (cases_eq t n) [
        | inl same ↦
            subst (λ (k : ℕ). has_flag (set ready n true) k ≡ (has_flag had k || (has (take (i + 1) nodes) k && (get_or lowered k 0 == 0)))) (sym same)
            (flag-set_same ready n true in_ready ∙ sym (here_found ∙ eq-eqb (get_or missing n 0 - 1) 0 e))
        | inr other ↦ flag-set_other ready n t true other ∙ other_found t below other
      ];
    }

    pub released-waiting : (get_or missing n 0 - 1 ≡ 0 → ⊥) → IsReleased old had nodes (i + 1) lowered ready
    released-waiting e = record {
      long = long_lowered;
      same = r.same;
      less = less_next;
      found = λ t below. elim (cases_eq t n) [
        | inl same ↦
            subst (λ (k : ℕ). has_flag ready k ≡ (has_flag had k || (has (take (i + 1) nodes) k && (get_or lowered k 0 == 0)))) (sym same)
            (not-ready ∙ sym (here_found ∙ not_zero (get_or missing n 0 - 1) e))
        | inr other ↦ other_found t below other
      ];
    } where
      not_zero : (m : ℕ) → (m ≡ 0 → ⊥) → (m == 0) ≡ false
      not_zero m fails = elim (cases_Bool (m == 0)) [ inl h ↦ absurd (fails (eqb-true m 0 h)) | inr h ↦ h ]

-- all of the list
pub released-all : (old : List ℕ) (had : List Bool) (nodes missing : List ℕ) (ready : List Bool) → length missing ≡ length old → length ready ≡ length had
    → ((t : ℕ) → t < length old → get_or missing t 0 + times t nodes ≡ get_or old t 0) → ((t : ℕ) → t < length old → has_flag ready t ≡ (has_flag had t || (has nodes t && (get_or missing t 0 == 0))))
    → IsReleased old had nodes (length nodes) missing ready
released-all old had nodes missing ready long same less found = record {
  long = long;
  same = same;
  less = λ t lt. ap (λ (xs : List ℕ). get_or missing t 0 + times t xs) (take_all (length nodes) nodes (omega arith)) ∙ less t lt;
  found = λ t lt. found t lt ∙ ap (λ (xs : List ℕ). has_flag had t || (has xs t && (get_or missing t 0 == 0))) (sym (take_all (length nodes) nodes (omega arith)));
}

-- A node is performed.

module _ (lists : List (List ℕ)) (performed : List Bool) (missing : List ℕ) (ready : List Bool) (left n : ℕ) (p : IsProgress lists performed missing ready left) (can : has_flag ready n ≡ true) where
  pub performing-within : n < length lists
  performing-within = elim (cases_lt n (length ready)) [
    | inl lt ↦ let same = p.one_ready_each in omega (arith, lt, same)
    | inr past ↦ absurd (false≢true (sym (get_or_past ready n false past) ∙ can))
  ]

  parts : (not (has_flag performed n) ≡ true) × ((get_or missing n 0 == 0) ≡ true)
  parts = and_true (not (has_flag performed n)) (get_or missing n 0 == 0) (sym (p.ready_are n performing-within) ∙ can)

  pub performing-new : has_flag performed n ≡ false
  performing-new = not_true (has_flag performed n) parts.0

  in_performed : n < length performed
  in_performed = let same = p.one_performed_each in let lt = performing-within in omega (arith, same, lt)

  pub performing-left : 1 ≤ left
  performing-left = let less = left-set performed n in_performed performing-new in let is = p.left_is in omega (arith, less, is)

  -- of each node at least so many lists are counted as the node's own has it
  pub performing-enough : (t : ℕ) → t < length missing → times t (get_or lists n []) ≤ get_or missing t 0
  performing-enough t lt =
      let long = p.one_missing_each in
      let is = p.missing_are t (omega (arith, lt, long)) in
      let split = missing-set lists performed n t in_performed performing-new in
      omega (arith, is, split)

  module _ (targets_new : (t : ℕ) → Contains (get_or lists n []) t → has_flag performed t ≡ false) (other : has (get_or lists n []) n ≡ false) where
    -- a node that waits for this one isn't ready
    pub performing-apart : (t : ℕ) → Contains (get_or lists n []) t → t < length missing → has_flag (set ready n false) t ≡ false
    performing-apart t there lt =
        let t_other : t ≢ n = λ same. false≢true (sym other ∙ true_has (get_or lists n []) n (subst (Contains (get_or lists n [])) same there)) in
        let some = count-some (get_or lists n []) t there in
        let enough = performing-enough t lt in
        let long = p.one_missing_each in
        flag-set_other ready n t false t_other
        ∙ p.ready_are t (omega (arith, lt, long))
        ∙ positive (not (has_flag performed t)) (get_or missing t 0) (omega (arith, some, enough)) where
          positive : (b : Bool) (m : ℕ) → 0 < m → (b && (m == 0)) ≡ false
          positive false m some = refl
          positive true m some = elim (cases_Bool (m == 0)) [ inl h ↦ let is_zero = eqb-true m 0 h in absurd (omega (arith, some, is_zero)) | inr h ↦ h ]

    pub progressed : (new_missing : List ℕ) (new_ready : List Bool) → IsReleased missing (set ready n false) (get_or lists n []) (length (get_or lists n [])) new_missing new_ready
        → IsProgress lists (set performed n true) new_missing new_ready (left - 1)
    progressed new_missing new_ready r = record {
      one_performed_each = length-set performed n true ∙ p.one_performed_each;
      one_missing_each = r.long ∙ p.one_missing_each;
      one_ready_each = r.same ∙ length-set ready n false ∙ p.one_ready_each;
      missing_are = λ t lt. missing_is t lt;
      ready_are = λ t lt. ready_is t lt;
      left_is = let less = left-set performed n in_performed performing-new in let is = p.left_is in omega (arith, less, is);
    } where
      whole : take (length (get_or lists n [])) (get_or lists n []) ≡ get_or lists n []
      whole = take_all (length (get_or lists n [])) (get_or lists n []) (omega arith)

      less_is : (t : ℕ) → t < length lists → get_or new_missing t 0 + times t (get_or lists n []) ≡ get_or missing t 0
      less_is t lt = let long = p.one_missing_each in ap (λ (xs : List ℕ). get_or new_missing t 0 + times t xs) (sym whole) ∙ r.less t (omega (arith, lt, long))

      missing_is : (t : ℕ) → t < length lists → get_or new_missing t 0 ≡ missing_of lists (set performed n true) t
      missing_is t lt =
          let less = less_is t lt in
          let is = p.missing_are t lt in
          let split = missing-set lists performed n t in_performed performing-new in
          omega (arith, less, is, split)

      found_is : (t : ℕ) → t < length lists → has_flag new_ready t ≡ (has_flag (set ready n false) t || (has (get_or lists n []) t && (get_or new_missing t 0 == 0)))
      found_is t lt = let long = p.one_missing_each in r.found t (omega (arith, lt, long)) ∙ ap (λ (xs : List ℕ). has_flag (set ready n false) t || (has xs t && (get_or new_missing t 0 == 0))) whole

      in_ready : n < length ready
      in_ready = let same = p.one_ready_each in let lt = performing-within in omega (arith, same, lt)

      waited : (t : ℕ) → t < length lists → has (get_or lists n []) t ≡ true → (has_flag ready t || (has (get_or lists n []) t && (get_or new_missing t 0 == 0))) ≡ (not (has_flag performed t) && (get_or new_missing t 0 == 0))
      waited t lt holds =
          let there = has_true (get_or lists n []) t holds in
          let long = p.one_missing_each in
          let some = count-some (get_or lists n []) t there in
          let enough = performing-enough t (omega (arith, lt, long)) in
          let not_ready : has_flag ready t ≡ false = p.ready_are t lt ∙ positive (not (has_flag performed t)) (get_or missing t 0) (omega (arith, some, enough)) in
          ap (λ b. b || (has (get_or lists n []) t && (get_or new_missing t 0 == 0))) not_ready
          ∙ ap (λ b. b && (get_or new_missing t 0 == 0)) holds
          ∙ ap (λ b. not b && (get_or new_missing t 0 == 0)) (sym (targets_new t there)) where
            positive : (b : Bool) (m : ℕ) → 0 < m → (b && (m == 0)) ≡ false
            positive false m some = refl
            positive true m some = elim (cases_Bool (m == 0)) [ inl h ↦ let is_zero = eqb-true m 0 h in absurd (omega (arith, some, is_zero)) | inr h ↦ h ]

      untouched : (t : ℕ) → t < length lists → has (get_or lists n []) t ≡ false → (has_flag ready t || (has (get_or lists n []) t && (get_or new_missing t 0 == 0))) ≡ (not (has_flag performed t) && (get_or new_missing t 0 == 0))
      untouched t lt fails =
          let none = count-none (get_or lists n []) t (λ there. false≢true (sym fails ∙ true_has (get_or lists n []) t there)) in
          let less = less_is t lt in
          let same : get_or missing t 0 ≡ get_or new_missing t 0 = omega (arith, none, less) in
          ap (λ b. has_flag ready t || (b && (get_or new_missing t 0 == 0))) fails
          ∙ or_false (has_flag ready t)
          ∙ p.ready_are t lt
          ∙ ap (λ (v : ℕ). not (has_flag performed t) && (v == 0)) same where
            or_false : (b : Bool) → (b || false) ≡ b
            or_false true = refl
            or_false false = refl

      ready_is : (t : ℕ) → t < length lists → has_flag new_ready t ≡ (not (has_flag (set performed n true) t) && (get_or new_missing t 0 == 0))
      ready_is t lt = elim (cases_eq t n) [
        | inl same ↦
            let fails : has_flag new_ready n ≡ false =
            found_is n performing-within
            ∙ ap (λ b. b || (has (get_or lists n []) n && (get_or new_missing n 0 == 0))) (flag-set_same ready n false in_ready)
            ∙ ap (λ b. b && (get_or new_missing n 0 == 0)) other in
            subst (λ (k : ℕ). has_flag new_ready k ≡ (not (has_flag (set performed n true) k) && (get_or new_missing k 0 == 0))) (sym same)
            (fails ∙ sym (ap (λ b. not b && (get_or new_missing n 0 == 0)) (flag-set_same performed n true in_performed)))
        | inr apart ↦
            let as_before : has_flag new_ready t ≡ (has_flag ready t || (has (get_or lists n []) t && (get_or new_missing t 0 == 0))) =
            found_is t lt ∙ ap (λ b. b || (has (get_or lists n []) t && (get_or new_missing t 0 == 0))) (flag-set_other ready n t false apart) in
            as_before
            ∙ elim (cases_Bool (has (get_or lists n []) t)) [
              | inl holds ↦ waited t lt holds
              | inr fails ↦ untouched t lt fails
            ]
            ∙ ap (λ b. not b && (get_or new_missing t 0 == 0)) (sym (flag-set_other performed n t true apart))
      ]
