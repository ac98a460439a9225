-- Verdicts into which cycles are put.
use Rattle.std.proofs.Common.{◌≡◌, ◌⊎◌, ◌∙◌, ℕ, ◌<◌, List, [], ◌∷◌, Contains, map, length, get_or, refl, sym, subst, inl, inr}
use Rattle.std.specs.Prelude.{slice_set}
use Rattle.std.specs.List.{AllByRecursion}
use Rattle.std.proofs.lemmas.Bool.{cases_eq}
use Rattle.std.proofs.lemmas.List.{get_or-set_other, get_or-set_same, length-set}
use Rattle.orders.proofs.Members.{Contains-cons_cases, Contains-nil}
use Rattle.graph_model.specs.StaticGraph.{StaticGraph}
use Rattle.verdict_report.specs.declared.report.Judged.{Judged}
use Rattle.verdict_report.specs.declared.report.Judged.TheVariants.{Cycle}
use Rattle.chunk_pool.specs.declared.share.CycleAt.{CycleAt}
use Rattle.chunk_pool.specs.declared.share.Share.{Share}
use Rattle.chunk_pool.specs.Shares.{AreFound, IsJudgedAt, put_cycles, put_shares}

pub length-put_cycles : (cycles : List CycleAt) (found : List Judged) → length (put_cycles found cycles) ≡ length found
length-put_cycles [] found = refl
length-put_cycles (c ∷ cycles) found = length-put_cycles cycles (slice_set found c.place (Cycle c.nodes)) ∙ length-set found c.place (Cycle c.nodes)

pub length-put_shares : (shares : List Share) (found : List Judged) → length (put_shares found shares) ≡ length found
length-put_shares [] found = refl
length-put_shares (share ∷ shares) found = length-put_shares shares (put_cycles found share.cycles.items) ∙ length-put_cycles share.cycles.items found

module _ (s : StaticGraph) (signatures : List (List ℕ)) (place : ℕ) (d : Judged) where
  -- the verdict at the place is as it was, where no cycle has this place, or it is right
  abbrev IsPut : List Judged → List CycleAt → Judged → Type 0
  IsPut found cycles now = ((now ≡ get_or found place d) × (Contains (map (λ (c : CycleAt). c.place) cycles) place → ⊥)) ⊎ IsJudgedAt s signatures place now

  put-first : (c : CycleAt) (cycles : List CycleAt) (found : List Judged) (now : Judged) → place < length found → IsJudgedAt s signatures c.place (Cycle c.nodes) → IsPut (slice_set found c.place (Cycle c.nodes)) cycles now → IsPut found (c ∷ cycles) now
  put-first c cycles found now below here (inr right) = inr right
  put-first c cycles found now below here (inl same) = elim (cases_eq c.place place) [
    | inl e ↦
        let read : get_or (slice_set found c.place (Cycle c.nodes)) place d ≡ Cycle c.nodes =
        subst (λ (k : ℕ). get_or (slice_set found k (Cycle c.nodes)) place d ≡ Cycle c.nodes) (sym e) (get_or-set_same found place (Cycle c.nodes) d below) in
        inr (subst (λ (j : Judged). IsJudgedAt s signatures place j) (sym (same.0 ∙ read)) (subst (λ (k : ℕ). IsJudgedAt s signatures k (Cycle c.nodes)) e here))
    | inr ne ↦ inl (
      same.0 ∙ get_or-set_other found c.place place (Cycle c.nodes) d (λ is. ne (sym is)),
      λ there. elim (Contains-cons_cases c.place (map (λ (x : CycleAt). x.place) cycles) place there) [ inl is ↦ ne is | inr more ↦ same.1 more ],
    )
  ]

  put-one : (cycles : List CycleAt) (found : List Judged) → place < length found → AreFound s signatures cycles → IsPut found cycles (get_or (put_cycles found cycles) place d)
  put-one [] found below right = inl (refl, λ there. Contains-nil place there)
  put-one (c ∷ cycles) found below right =
      let more = put-one cycles (slice_set found c.place (Cycle c.nodes)) (subst (λ (n : ℕ). place < n) (sym (length-set found c.place (Cycle c.nodes))) below) right.1 in
      put-first c cycles found (get_or (put_cycles found (c ∷ cycles)) place d) below right.0.1 more

  -- and so with the cycles of all shares
  abbrev NoneHas : List Share → Type 0
  NoneHas shares = AllByRecursion (λ share. Contains (map (λ (c : CycleAt). c.place) share.cycles.items) place → ⊥) shares

  abbrev pub IsPutByAll : List Judged → List Share → Judged → Type 0
  IsPutByAll found shares now = ((now ≡ get_or found place d) × NoneHas shares) ⊎ IsJudgedAt s signatures place now

  put-next : (share : Share) (shares : List Share) (found : List Judged) (now : Judged) → IsPut found share.cycles.items (get_or (put_cycles found share.cycles.items) place d) → IsPutByAll (put_cycles found share.cycles.items) shares now
      → IsPutByAll found (share ∷ shares) now
  put-next share shares found now here (inr right) = inr right
  put-next share shares found now (inl same) (inl more) = inl (more.0 ∙ same.0, (same.1, more.1))
  put-next share shares found now (inr right) (inl more) = inr (subst (λ (j : Judged). IsJudgedAt s signatures place j) (sym more.0) right)

  pub put-all : (shares : List Share) (found : List Judged) → place < length found → AllByRecursion (λ share. AreFound s signatures share.cycles.items) shares → IsPutByAll found shares (get_or (put_shares found shares) place d)
  put-all [] found below right = inl (refl, tt)
  put-all (share ∷ shares) found below right =
      put-next share shares found (get_or (put_shares found (share ∷ shares)) place d) (put-one share.cycles.items found below right.0)
      (put-all shares (put_cycles found share.cycles.items) (subst (λ (n : ℕ). place < n) (sym (length-put_cycles share.cycles.items found)) below) right.1)
