-- What a worker finds of one signature after another.
use Rattle.std.proofs.Common.{◌≡◌, ◌∙◌, ℕ, ◌+◌, ◌<◌, ◌≤◌, List, [], ◌∷◌, ◌++◌, Contains, map, false, true, refl, sym, ap, subst, arith, inl, inr}
use Rattle.std.specs.Prelude.{Option, None, Some}
use Rattle.std.specs.List.{AllByRecursion}
use Rattle.std.proofs.lemmas.Bool.{cases_lt, true≢false}
use Rattle.std.proofs.lemmas.List.{map-append}
use Rattle.std.proofs.lemmas.List.Elements.{Contains-append_left, Contains-append_right}
use Rattle.orders.proofs.Members.{Contains-head}
use Rattle.digraph.specs.Roomed.{Roomed}
use Rattle.graph_model.specs.StaticGraph.{StaticGraph}
use Rattle.test_lang.specs.Edges.{HasNoRunOrder, IsCanonicalRunCycle, IsRunAcyclic}
use Rattle.test_lang.specs.Signatures.{Means}
use Rattle.verdict_report.specs.declared.report.Judged.TheVariants.{Ok, Cycle}
use Rattle.window_resort.specs.declared.verdicts.Verdict.{Verdict}
use Rattle.window_resort.specs.declared.verdicts.Verdict.TheVariants.{Cycle as CycleFound}
use Rattle.window_resort.specs.Walks.{Base, TakesRun, is_cycle}
use Rattle.window_resort.specs.Walks.TakesRun.{kept, resorted, sorted, unresorted, unsorted}
use Rattle.window_resort.proofs.RunWindows.{kept_order, order_of_run}
use Rattle.chunk_pool.specs.declared.share.Counts.{Counts}
use Rattle.chunk_pool.specs.declared.share.CycleAt.{CycleAt}
use Rattle.chunk_pool.specs.Shares.{IsFew, IsOrdered, IsSettled, StaySettled}
use Rattle.chunk_pool.specs.Verdicts.{IsJudged}

module _ (s : StaticGraph) (base : Option Base) (run : List ℕ) (ordered : IsOrdered s base) where
  no_cycle : (verdict other : Verdict) → verdict ≡ other → is_cycle other ≡ true → is_cycle verdict ≡ false → ⊥
  no_cycle verdict other v is isnt = true≢false (sym is ∙ ap is_cycle (sym v) ∙ isnt)

  -- a run whose verdict is no cycle has an order
  pub taken-acyclic : (verdict : Verdict) (after : Option Base) → TakesRun s.model s.test base run verdict after → is_cycle verdict ≡ false → IsRunAcyclic s.model s.test run
  taken-acyclic verdict after (sorted order none l v a) isnt = (order, l.is_order)
  taken-acyclic verdict after (unsorted none lacks v a) isnt = absurd (no_cycle verdict (CycleFound None) v refl isnt)
  taken-acyclic verdict after (kept old b w v a) isnt = (old.order, kept_order s.model s.test old.run run old.order (ordered old b) w)
  taken-acyclic verdict after (resorted old w nodes b span l v a) isnt = (_, order_of_run s.model s.test old.run run old.order (ordered old b) w span nodes l.is_order)
  taken-acyclic verdict after (unresorted old w b span lacks v a) isnt = absurd (no_cycle verdict (CycleFound (Some _)) v refl isnt)

module _ (s : StaticGraph) (words run : List ℕ) (means : Means s.test words run) (one : (other : List ℕ) → Means s.test words other → other ≡ run) where
  pub judged-ok : IsRunAcyclic s.model s.test run → IsJudged s.model s.test words Ok
  judged-ok acyclic = record { run = run; means = means; one = one; verdict = acyclic }

  pub judged-cycle : (nodes : Roomed ℕ) → HasNoRunOrder s.model s.test run → IsCanonicalRunCycle s.model s.test run nodes.list → IsJudged s.model s.test words (Cycle nodes)
  judged-cycle nodes none canonical = record { run = run; means = means; one = one; verdict = (none, canonical) }

pub all_push : {X : Type 0} (P : X → Type 0) (xs : List X) (x : X) → AllByRecursion P xs → P x → AllByRecursion P (xs ++ x ∷ [])
all_push P [] x h here = (here, tt)
all_push P (y ∷ xs) x h here = (h.0, all_push P xs x h.1 here)

places-push : (cycles : List CycleAt) (cycle : CycleAt) → map (λ (c : CycleAt). c.place) (cycles ++ cycle ∷ []) ≡ map (λ (c : CycleAt). c.place) cycles ++ cycle.place ∷ []
places-push cycles cycle = map-append (λ (c : CycleAt). c.place) cycles (cycle ∷ [])

module _ (s : StaticGraph) (signatures : List (List ℕ)) (cycles : List CycleAt) (cycle : CycleAt) where
  pub settled-push : StaySettled s signatures cycles (cycles ++ cycle ∷ [])
  settled-push place (inl ok) = inl ok
  settled-push place (inr there) = inr (subst (λ (places : List ℕ). Contains places place) (sym (places-push cycles cycle)) (Contains-append_left (map (λ (c : CycleAt). c.place) cycles) (cycle.place ∷ []) place there))

  pub settled-here : IsSettled s signatures (cycles ++ cycle ∷ []) cycle.place
  settled-here = inr (subst (λ (places : List ℕ). Contains places cycle.place) (sym (places-push cycles cycle))
      (Contains-append_right (map (λ (c : CycleAt). c.place) cycles) (cycle.place ∷ []) cycle.place (Contains-head cycle.place [] cycle.place refl)))

pub few-more : (counts : Counts) (m n : ℕ) → m ≤ n → IsFew m counts → IsFew n counts
few-more counts m n le h =
    let full = h.full in
    let kept = h.kept in
    let resorted = h.resorted in
    let nodes = h.nodes in
    record { full = omega (arith, full, le); kept = omega (arith, kept, le); resorted = omega (arith, resorted, le); nodes = omega (arith, nodes, le) }

-- what is settled up to a place, and at the place
pub settled-more : (s : StaticGraph) (signatures : List (List ℕ)) (cycles : List CycleAt) (first end : ℕ) → ((place : ℕ) → first ≤ place → place < end → IsSettled s signatures cycles place) → IsSettled s signatures cycles end
    → (place : ℕ) → first ≤ place → place < end + 1 → IsSettled s signatures cycles place
settled-more s signatures cycles first end before here place from below = elim (cases_lt place end) [
  | inl lower ↦ before place from lower
  | inr upper ↦ let e : end ≡ place = omega (arith, below, upper) in subst (λ (k : ℕ). IsSettled s signatures cycles k) e here
]
