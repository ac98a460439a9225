-- One turn of the loops that raise and lower.
use Rattle.std.proofs.Common.{◌≡◌, ◌≢◌, ◌∙◌, ℕ, suc, ◌+◌, ◌-◌, ◌<◌, ◌≤◌, ◌^◌, List, length, get_or, set, drop, Option, Some, Bool, cond, eqb, refl, sym, ap, subst, arith, inl, inr, get_or-set_same, get_or-set_other, ne_eqb}
use Rattle.std.proofs.lemmas.Bool.{cases_eq, eq-eqb}
use Rattle.digraph.specs.Digraph.{source_of, target_of, IsLastOut, out_degree}
use Rattle.full_sort.specs.Waiting.{count_between}
use Rattle.full_sort.proofs.Walk.{walk_start, IsWalk, given, next-walk, next-from, first-between, first-from, first-target, next-target, next-other, behind-le}

abbrev one_if : Bool → ℕ
one_if b = cond b 1 0

module _ (es : List (ℕ × ℕ)) (n e : ℕ) (now : Option ℕ) (is : now ≡ Some e) (walk : IsWalk es n now) where
  here : IsWalk es n (Some e)
  here = subst (IsWalk es n) is walk

  -- the step on
  module _ (r : Option ℕ) (last : IsLastOut es (source_of es e) e r) where
    last-of-node : IsLastOut es n e r
    last-of-node = subst (λ (m : ℕ). IsLastOut es m e r) here.1 last

    pub turn-walk : IsWalk es n r
    turn-walk = next-walk es n e here r last-of-node

    pub turn-from : out_degree (drop (walk_start r) es) n ≡ out_degree (drop (walk_start now) es) n + 1
    turn-from =
        let more = next-from es n e here r last-of-node in
        let start : out_degree (drop (walk_start now) es) n ≡ out_degree (drop (suc e) es) n = ap (λ (o : Option ℕ). out_degree (drop (walk_start o) es) n) is in
        omega (arith, more, start)

    pub turn-ticked : (s0 s new : ℕ) → s ≡ s0 + out_degree (drop (walk_start now) es) n + given now → new ≡ s + given r → new ≡ s0 + out_degree (drop (walk_start r) es) n + given r
    turn-ticked s0 s new before after =
        let at : s ≡ s0 + out_degree (drop (suc e) es) n + 1 = subst (λ (o : Option ℕ). s ≡ s0 + out_degree (drop (walk_start o) es) n + given o) is before in
        let more = next-from es n e here r last-of-node in
        omega (arith, at, more, after)

    turn-target : (target : ℕ) → target ≡ target_of es e → count_between (drop (walk_start r) es) n target ≡ count_between (drop (suc e) es) n target + 1
    turn-target target at = subst (λ (m : ℕ). count_between (drop (walk_start r) es) n m ≡ count_between (drop (suc e) es) n m + 1) (sym at) (next-target es n e here r last-of-node)

    turn-other : (target t : ℕ) → target ≡ target_of es e → t ≢ target → count_between (drop (walk_start r) es) n t ≡ count_between (drop (suc e) es) n t
    turn-other target t at other = next-other es n e here r last-of-node t (λ same. other (sym same ∙ sym at))

  -- the write, where the array stands at ws and stood at w0 at first
  module _ (ws w0 : List ℕ) (nodes target : ℕ) (at : target ≡ target_of es e) (inside : target < nodes) (whole : nodes ≤ length ws) where
    -- the edge of this turn isn't behind the walk yet
    one-more : count_between (drop (suc e) es) n target + 1 ≤ count_between es n target
    one-more =
        let first : count_between (drop e es) n target ≡ count_between (drop (suc e) es) n target + 1 =
        subst (λ (m : ℕ). count_between (drop e es) n m ≡ count_between (drop (suc e) es) n m + 1) (sym at) (first-target es n e here) in
        let among = behind-le es n target e in
        omega (arith, first, among)

    module _ (counted : (t : ℕ) → t < nodes → get_or ws t 0 ≡ get_or w0 t 0 + count_between (drop (walk_start now) es) n t) where
      raised-so-far : (t : ℕ) → t < nodes → get_or ws t 0 ≡ get_or w0 t 0 + count_between (drop (suc e) es) n t
      raised-so-far = subst (λ (o : Option ℕ). (t : ℕ) → t < nodes → get_or ws t 0 ≡ get_or w0 t 0 + count_between (drop (walk_start o) es) n t) is counted

      pub turn-room : ((t : ℕ) → t < nodes → get_or w0 t 0 + count_between es n t < 2 ^ 32) → get_or ws target 0 + 1 < 2 ^ 32
      turn-room room =
          let before = raised-so-far target inside in
          let fits = room target inside in
          let more = one-more in
          omega (arith, before, fits, more)

      pub turn-raised : (r : Option ℕ) → IsLastOut es (source_of es e) e r → (t : ℕ) → t < nodes → get_or (set ws target (get_or ws target 0 + 1)) t 0 ≡ get_or w0 t 0 + count_between (drop (walk_start r) es) n t
      turn-raised r last t lt = elim (cases_eq t target) [
        | inl same ↦
            subst (λ (m : ℕ). get_or (set ws target (get_or ws target 0 + 1)) m 0 ≡ get_or w0 m 0 + count_between (drop (walk_start r) es) n m) (sym same)
            (let written = get_or-set_same ws target (get_or ws target 0 + 1) 0 (omega (arith, inside, whole)) in
            let before = raised-so-far target inside in
            let more = turn-target r last target at in
            omega (arith, written, before, more))
        | inr other ↦
            let kept = get_or-set_other ws target t (get_or ws target 0 + 1) 0 other in
            let before = raised-so-far t lt in
            let more = turn-other r last target t at other in
            omega (arith, kept, more, before)
      ]

    module _ (counted : (t : ℕ) → t < nodes → get_or ws t 0 + count_between (drop (walk_start now) es) n t ≡ get_or w0 t 0) where
      lowered-so-far : (t : ℕ) → t < nodes → get_or ws t 0 + count_between (drop (suc e) es) n t ≡ get_or w0 t 0
      lowered-so-far = subst (λ (o : Option ℕ). (t : ℕ) → t < nodes → get_or ws t 0 + count_between (drop (walk_start o) es) n t ≡ get_or w0 t 0) is counted

      module _ (enough : (t : ℕ) → t < nodes → count_between es n t ≤ get_or w0 t 0) where
        pub turn-enough : 1 ≤ get_or ws target 0
        turn-enough =
            let before = lowered-so-far target inside in
            let most = enough target inside in
            let more = one-more in
            omega (arith, before, most, more)

        pub turn-lowered : (r : Option ℕ) → IsLastOut es (source_of es e) e r → (t : ℕ) → t < nodes → get_or (set ws target (get_or ws target 0 - 1)) t 0 + count_between (drop (walk_start r) es) n t ≡ get_or w0 t 0
        turn-lowered r last t lt = elim (cases_eq t target) [
          | inl same ↦
              subst (λ (m : ℕ). get_or (set ws target (get_or ws target 0 - 1)) m 0 + count_between (drop (walk_start r) es) n m ≡ get_or w0 m 0) (sym same)
              (let written = get_or-set_same ws target (get_or ws target 0 - 1) 0 (omega (arith, inside, whole)) in
              let before = lowered-so-far target inside in
              let some = turn-enough in
              let more = turn-target r last target at in
              omega (arith, written, before, some, more))
          | inr other ↦
              let kept = get_or-set_other ws target t (get_or ws target 0 - 1) 0 other in
              let before = lowered-so-far t lt in
              let more = turn-other r last target t at other in
              omega (arith, kept, more, before)
        ]

-- The write at the edge of this turn, where the walk goes no further.
module _ (es : List (ℕ × ℕ)) (n e : ℕ) (now : Option ℕ) (is : now ≡ Some e) (walk : IsWalk es n now) (ws w0 : List ℕ) (nodes target : ℕ) (at : target ≡ target_of es e) (inside : target < nodes) (whole : nodes ≤ length ws)
    (counted : (t : ℕ) → t < nodes → get_or ws t 0 + count_between (drop (walk_start now) es) n t ≡ get_or w0 t 0) (enough : (t : ℕ) → t < nodes → count_between es n t ≤ get_or w0 t 0) where
  pub last-lowered : (t : ℕ) → t < nodes → get_or (set ws target (get_or ws target 0 - 1)) t 0 + count_between (drop e es) n t ≡ get_or w0 t 0
  last-lowered t lt =
      let stands = here es n e now is walk in
      let before : get_or ws t 0 + count_between (drop (suc e) es) n t ≡ get_or w0 t 0 = lowered-so-far es n e now is walk ws w0 nodes target at inside whole counted t lt in
      let first = first-between es n e stands t in
      elim (cases_eq t target) [
        | inl same ↦
            let written : get_or (set ws target (get_or ws target 0 - 1)) t 0 ≡ get_or ws target 0 - 1 = subst (λ (m : ℕ). get_or (set ws target (get_or ws target 0 - 1)) m 0 ≡ get_or ws target 0 - 1) (sym same) (get_or-set_same ws target (get_or ws target 0 - 1) 0 (omega (arith, inside, whole))) in
            let some = turn-enough es n e now is walk ws w0 nodes target at inside whole counted enough in
            let one : one_if (eqb (target_of es e) t) ≡ 1 = rw (eq-eqb (target_of es e) t (sym (same ∙ at))) refl in
            let read : get_or ws t 0 ≡ get_or ws target 0 = ap (λ (m : ℕ). get_or ws m 0) same in
            omega (arith, before, first, written, some, one, read)
        | inr other ↦
            let kept = get_or-set_other ws target t (get_or ws target 0 - 1) 0 other in
            let none : one_if (eqb (target_of es e) t) ≡ 0 = rw (ne_eqb (target_of es e) t (λ same. other (sym (at ∙ same)))) refl in
            omega (arith, before, first, kept, none)
      ]

  pub last-degree : out_degree (drop e es) n ≡ out_degree (drop (walk_start now) es) n + 1
  last-degree =
      let more = first-from es n e (here es n e now is walk) in
      let start : out_degree (drop (walk_start now) es) n ≡ out_degree (drop (suc e) es) n = ap (λ (o : Option ℕ). out_degree (drop (walk_start o) es) n) is in
      omega (arith, more, start)

  pub last-fewer : get_or ws target 0 ≤ get_or w0 target 0
  last-fewer = let so_far = counted target inside in omega (arith, so_far)
