use Rattle.std.proofs.Common.{◌≡◌, ◌∙◌, ◌++◌, ◌∷◌, [], List, ℕ, ap, sym, subst, arith, length, is_ok, if◌then◌else◌}
use Rattle.std.specs.Prelude.{sum_by}
use Rattle.weak_machine.specs.Lists.{lists_of, AreStarts}
use Rattle.weak_machine.proofs.FlatLists.{lists-push, starts-push, sum-lists}
use Rattle.weak_machine.proofs.lists.Lists.push.Goals as goal

pub overflow_cast-len : goal.overflow_cast-len
overflow_cast-len c =
    let s = c.self.inside in
    let all = sum-lists s.starts.items s.flat.items c.self.invariant in
    let view = ap (λ (lists : List (List ℕ)). sum_by length lists) c.self.view_is in
    let asked = c.requires in
    let ok = s.flat.ok.0 in
    let len = c.in_ok-extend_from_slice.ensures.len in
    let is = c.len.ensures in
    omega (arith, all, view, asked, ok, len, is)

-- the fields afterwards

pushed : (c : goal.After-unwrap) → c.push.new.self.items ≡ c.self.inside.starts.items ++ c.len.result ∷ []
pushed c =
    let old : List ℕ = c.reserve.new.self.items in
    c.push.ensures.items ∙ ap (λ r. if is_ok r then old ++ c.len.result ∷ [] else old) c.unwrap.ensures ∙ ap (λ (xs : List ℕ). xs ++ c.len.result ∷ []) c.in_ok-reserve.ensures.items

end_is : (c : goal.After-unwrap) → c.len.result ≡ length (c.self.inside.flat.items ++ c.args.list.now)
end_is c = c.len.ensures ∙ c.extend_from_slice.new.self.ok.0 ∙ ap length c.in_ok-extend_from_slice.ensures.items

pub invariant_of-self-2 : goal.invariant_of-self-2
invariant_of-self-2 c =
    let s = c.self.inside in
    subst (λ (starts : List ℕ). AreStarts starts c.extend_from_slice.new.self.items) (sym (pushed c))
    (subst (AreStarts (s.starts.items ++ c.len.result ∷ [])) (sym c.in_ok-extend_from_slice.ensures.items) (starts-push s.starts.items s.flat.items c.args.list.now c.len.result c.self.invariant (end_is c)))

pub returns : goal.returns
returns c =
    let s = c.self.inside in
    ap (λ (starts : List ℕ). lists_of starts c.extend_from_slice.new.self.items) (pushed c)
    ∙ ap (lists_of (s.starts.items ++ c.len.result ∷ [])) c.in_ok-extend_from_slice.ensures.items
    ∙ lists-push s.starts.items s.flat.items c.args.list.now c.len.result c.self.invariant (end_is c)
    ∙ ap (λ (lists : List (List ℕ)). lists ++ c.args.list.now ∷ []) c.self.view_is
