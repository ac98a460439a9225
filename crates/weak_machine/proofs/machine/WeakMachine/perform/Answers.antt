use Rattle.std.proofs.Common.{◌≡◌, ◌∙◌, ◌<◌, [], ℕ, List, Bool, true, false, All, Contains, ap, sym, subst, arith, length, get_or, set}
use Rattle.test_lang.specs.declared.step.Step.{Step}
use Rattle.test_lang.specs.Program.{op_count}
use Rattle.test_lang.specs.Play.States.{has}
use Rattle.test_lang.specs.Play.Machines.{is_ready}
use Rattle.weak_machine.specs.NodeSets.{has_flag}
use Rattle.weak_machine.specs.Machine.{Counts, Tells, IsMachine}
use Rattle.weak_machine.specs.Standing.{Standing, Stands, state_of, given_by}
use Rattle.weak_machine.specs.contracts.machine.WeakMachine.{the_view}
use Rattle.weak_machine.specs.declared.machine.WeakMachine.TheInside.{Inside}
use Rattle.weak_machine.proofs.Performing.{values-long, values_before-long, loads-long, load-performed, store-performed, fence-performed}
use Rattle.weak_machine.proofs.Telling.{can-perform, listed-nodes, listed-other, machine-performed, targets-left}
use Rattle.weak_machine.proofs.machine.WeakMachine.perform.Goals as goal
use Rattle.weak_machine.proofs.machine.WeakMachine.perform.Goals.{in-Load, in-Store, in-Fence}

pub index_mut-requires : goal.index_mut-requires
index_mut-requires c =
    let s = c.self.inside in
    let long = loads-long (the_view s) c.self.invariant.stands_for.0 c.self.invariant.stands_for.1 in
    let lt = c.rank_of-rank.ensures.in_range in
    let ok = s.loads.ok.0 in
    omega (arith, long, lt, ok)

pub store-requires-clause-now : goal.store-requires-clause-now
store-requires-clause-now c =
    let long = values-long (the_view c.self.inside) c.self.invariant.stands_for.0 c.self.invariant.stands_for.1 in
    let word = c.in-Store.ensures.word in
    omega (arith, long, word)

pub store-requires-clause-before : goal.store-requires-clause-before
store-requires-clause-before c =
    let long = values_before-long (the_view c.self.inside) c.self.invariant.stands_for.0 c.self.invariant.stands_for.1 in
    let word = c.in-Store.ensures.word in
    omega (arith, long, word)

-- what is asked of the node, of the fields
asked : (m now : Standing) (node : ℕ) → m ≡ now → ((steps : List Step) → Stands now steps → is_ready now.fault now.test (state_of now steps) node ≡ true) → (steps : List Step) → Stands m steps → is_ready m.fault m.test (state_of m steps) node ≡ true
asked m now node view ready steps stands =
    subst (λ (standing : Standing). is_ready standing.fault standing.test (state_of standing steps) node ≡ true) (sym view) (ready steps (subst (λ (standing : Standing). Stands standing steps) view stands))

-- what the operation itself doesn't change
kept : (c : goal.After-perform-arg-2-1) → (P : List (List ℕ) → List Bool → List Bool → Type 0) → P c.self.inside.waiting c.self.inside.progress.performed.items c.self.inside.progress.ready
    → P c.match-op.self-inside.waiting c.match-op.self-inside.progress.performed.items c.match-op.self-inside.progress.ready
kept c P h = elim c.match-op.branch [
  | in-Load w ↦ subst (λ (i : Inside). P i.waiting i.progress.performed.items i.progress.ready) (sym w.self-inside-is) h
  | in-Store w ↦ subst (λ (i : Inside). P i.waiting i.progress.performed.items i.progress.ready) (sym w.self-inside-is) h
  | in-Fence w ↦ subst (λ (i : Inside). P i.waiting i.progress.performed.items i.progress.ready) (sym w.self-inside-is) h
]

can : (c : goal.After-perform-arg-2-1) → has_flag c.self.inside.progress.ready c.args.node ≡ true
can c =
    let s = c.self.inside in
    can-perform (the_view s) s.waiting s.bases.items _ _ c.self.invariant c.args.node (subst (λ (m : Standing). c.args.node < op_count m.test) (sym c.self.view_is) c.requires.node)
    (asked (the_view s) c.args.self.now c.args.node c.self.view_is c.requires.ready)

pub perform-requires-clause-ready : goal.perform-requires-clause-ready
perform-requires-clause-ready c = kept c (λ lists flags ready. has_flag ready c.args.node ≡ true) (can c)

pub perform-requires-clause-inside : goal.perform-requires-clause-inside
perform-requires-clause-inside c =
    let s = c.self.inside in
    kept c (λ lists flags ready. All (λ n. n < length lists) (get_or lists c.args.node [])) (listed-nodes (the_view s) s.waiting s.bases.items _ _ c.self.invariant c.args.node)

pub perform-requires-clause-apart : goal.perform-requires-clause-apart
perform-requires-clause-apart c =
    let s = c.self.inside in
    kept c (λ lists flags ready. (t : ℕ) → Contains (get_or lists c.args.node []) t → has_flag flags t ≡ false)
    (targets-left (the_view s) s.waiting s.bases.items _ _ c.self.invariant c.self.invariant.stands_for.0 c.self.invariant.stands_for.1 c.args.node
    (subst (λ (m : Standing). c.args.node < op_count m.test) (sym c.self.view_is) c.requires.node) (can c))

pub perform-requires-clause-other : goal.perform-requires-clause-other
perform-requires-clause-other c =
    let s = c.self.inside in
    kept c (λ lists flags ready. has (get_or lists c.args.node []) c.args.node ≡ false) (listed-other (the_view s) s.waiting s.bases.items _ _ c.self.invariant c.args.node)

pub invariant_of-self : goal.invariant_of-self
invariant_of-self c =
    let s = c.self.inside in
    let m = the_view c.self.inside in
    let node = c.args.node in
    let lt = subst (λ (standing : Standing). c.args.node < op_count standing.test) (sym c.self.view_is) c.requires.node in
    let ready = asked (the_view c.self.inside) c.args.self.now c.args.node c.self.view_is c.requires.ready in
    let next : Counts = record { performed = c.perform.new.self.performed.items; missing = c.perform.new.self.missing.items; ready = c.perform.new.self.ready; left = c.perform.new.self.left } in
    let opening : Counts = record { performed = c.self.inside.opening.performed.items; missing = c.self.inside.opening.missing.items; ready = c.self.inside.opening.ready; left = c.self.inside.opening.left } in
    let goal_of = λ (i : Inside). IsMachine
    (record { test = i.test; fault = i.fault; performed = c.perform.new.self.performed.items; values = i.memory.values.items; values_before = i.memory.values_before.items; loads = i.loads.items })
    i.waiting i.bases.items next
    (record { performed = i.opening.performed.items; missing = i.opening.missing.items; ready = i.opening.ready; left = i.opening.left }) in
    elim c.match-op.branch [
      | in-Load w ↦
          let flags = c.perform.ensures.performed ∙ ap (λ (i : Inside). set i.progress.performed.items c.args.node true) w.self-inside-is in
          let told = subst (λ (i : Inside). Tells i.waiting next) w.self-inside-is c.perform.ensures.progress in
          subst goal_of (sym w.self-inside-is)
          (subst (λ (standing : Standing). IsMachine standing s.waiting s.bases.items next opening)
          (sym (load-performed m node c.perform.new.self.performed.items flags w.rank_of-rank.result w.in-Load.word w.value_of_load-value.result w.in-Load.ensures.found w.rank_of-rank.ensures.rank
          (w.value_of_load-value.ensures ∙ ap (λ (standing : Standing). given_by standing node) (sym c.self.view_is))))
          (machine-performed m s.waiting s.bases.items _ opening c.self.invariant node lt ready next told flags))
      | in-Store w ↦
          let flags = c.perform.ensures.performed ∙ ap (λ (i : Inside). set i.progress.performed.items c.args.node true) w.self-inside-is in
          let told = subst (λ (i : Inside). Tells i.waiting next) w.self-inside-is c.perform.ensures.progress in
          subst goal_of (sym w.self-inside-is)
          (subst (λ (standing : Standing). IsMachine standing s.waiting s.bases.items next opening)
          (sym (store-performed m node c.perform.new.self.performed.items flags w.in-Store.word w.value_of.result w.store.new.self.values.items w.store.new.self.values_before.items w.in-Store.ensures.found w.value_of.ensures.value w.store.ensures.now w.store.ensures.before))
          (machine-performed m s.waiting s.bases.items _ opening c.self.invariant node lt ready next told flags))
      | in-Fence w ↦
          let flags = c.perform.ensures.performed ∙ ap (λ (i : Inside). set i.progress.performed.items c.args.node true) w.self-inside-is in
          let told = subst (λ (i : Inside). Tells i.waiting next) w.self-inside-is c.perform.ensures.progress in
          subst goal_of (sym w.self-inside-is)
          (subst (λ (standing : Standing). IsMachine standing s.waiting s.bases.items next opening)
          (sym (fence-performed m node c.perform.new.self.performed.items flags w.in-Fence.ensures.found))
          (machine-performed m s.waiting s.bases.items _ opening c.self.invariant node lt ready next told flags))
    ]
