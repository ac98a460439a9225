use Rattle.std.proofs.Common.{◌∙◌, List, ℕ, ◌<◌, [], get_or, inl, length, refl, sym, subst}
use Rattle.std.specs.Prelude.{IsTrue}
use Rattle.std.proofs.lemmas.List.{get_or_default}
use Rattle.graph_model.specs.StaticGraph.{StaticGraph}
use Rattle.test_lang.specs.Edges.{HasNoRunOrder, IsCanonicalRunCycle}
use Rattle.test_lang.specs.Signatures.{Means}
use Rattle.verdict_report.specs.declared.report.Judged.TheVariants.{Cycle}
use Rattle.window_resort.specs.declared.verdicts.Verdict.{Verdict}
use Rattle.window_resort.specs.Walks.{is_cycle}
use Rattle.chunk_pool.specs.declared.share.CycleAt.{CycleAt}
use Rattle.chunk_pool.specs.Shares.{AreFound, IsJudgedAt, IsSettled, StaySettled}
use Rattle.chunk_pool.proofs.Settling.{all_push, settled-here, settled-push}
use Rattle.chunk_pool.proofs.Taking.{Took, not_cycle, took-cycle, took-ok, took-ordered, took-signature}
use Rattle.chunk_pool.proofs.walker.Walker.take.Goals as goal

pub next-verdict-requires-clause-meant : goal.next-verdict-requires-clause-meant
next-verdict-requires-clause-meant g c =
    let same = c.index-signatures-place.is ∙ get_or_default c.args.signatures.now c.args.place c.index-signatures-place.result [] c.requires.within in
    let meant = c.requires.meant c.args.place c.requires.within in
    (meant.0, subst (λ (words : List ℕ). Means c.args.self.now.checker.fixed.test words meant.0) (sym same) meant.1)

pub cycle-requires-clause-none : goal.cycle-requires-clause-none
cycle-requires-clause-none g c =
    let is : IsTrue (is_cycle c.next-verdict.result) = subst (λ (v : Verdict). IsTrue (is_cycle v)) (sym c.in-Cycle.is) refl in
    subst (λ (s : StaticGraph). HasNoRunOrder s.model s.test c.next-verdict.new.self.run.items) (sym c.next-verdict.ensures.fixed) (c.next-verdict.ensures.none.0 is)

pub returns-in_ok-push-clause-sound : goal.returns-in_ok-push-clause-sound
returns-in_ok-push-clause-sound g c =
    let s = c.args.self.now.checker.fixed in
    let signatures = c.args.signatures.now in
    let base = c.args.self.now.checker.base in
    let after = c.next-verdict.new.self.checker.base in
    let verdict = c.next-verdict.result in
    let run = c.next-verdict.new.self.run.items in
    let nodes = c.in_ok-nodes.nodes in
    let same = c.index-signatures-place.is ∙ get_or_default signatures c.args.place c.index-signatures-place.result [] c.requires.within in
    let is : IsTrue (is_cycle verdict) = subst (λ (v : Verdict). IsTrue (is_cycle v)) (sym c.in-Cycle.is) refl in
    let e = c.next-verdict.ensures in
    let took : Took s c.index-signatures-place.result run base after verdict = record { means = e.means; one = e.one; taken = e.taken; none = e.none } in
    let at = subst (λ (words : List ℕ). Took s words run base after verdict) same took in
    let canonical = subst (λ (f : StaticGraph). IsCanonicalRunCycle f.model f.test run nodes.list) e.fixed c.in_ok-nodes.ensures.canonical in
    let judged = took-cycle s (get_or signatures c.args.place []) run base after verdict c.requires.ordered at nodes is canonical in
    record {
      found = subst (λ (cycles : List CycleAt). AreFound s signatures cycles) (sym c.in_ok-push.ensures.items)
          (all_push (λ (found : CycleAt). (found.place < length signatures) × IsJudgedAt s signatures found.place (Cycle found.nodes)) c.args.share.now.cycles.items (record { place = c.args.place; nodes = nodes })
          c.requires.sound.found (c.requires.within, judged));
      few = c.count.ensures.few c.args.place c.requires.sound.few;
    }

pub returns-in_ok-push-clause-settled : goal.returns-in_ok-push-clause-settled
returns-in_ok-push-clause-settled g c =
    subst (λ (cycles : List CycleAt). IsSettled c.args.self.now.checker.fixed c.args.signatures.now cycles c.args.place) (sym c.in_ok-push.ensures.items)
    (settled-here c.args.self.now.checker.fixed c.args.signatures.now c.args.share.now.cycles.items (record { place = c.args.place; nodes = c.in_ok-nodes.nodes }))

pub returns-in_ok-push-clause-kept : goal.returns-in_ok-push-clause-kept
returns-in_ok-push-clause-kept g c =
    subst (λ (cycles : List CycleAt). StaySettled c.args.self.now.checker.fixed c.args.signatures.now c.args.share.now.cycles.items cycles) (sym c.in_ok-push.ensures.items)
    (settled-push c.args.self.now.checker.fixed c.args.signatures.now c.args.share.now.cycles.items (record { place = c.args.place; nodes = c.in_ok-nodes.nodes }))

pub returns-in_default : goal.returns-in_default
returns-in_default g c =
    let s = c.args.self.now.checker.fixed in
    let signatures = c.args.signatures.now in
    let base = c.args.self.now.checker.base in
    let after = c.next-verdict.new.self.checker.base in
    let verdict = c.next-verdict.result in
    let run = c.next-verdict.new.self.run.items in
    let same = c.index-signatures-place.is ∙ get_or_default signatures c.args.place c.index-signatures-place.result [] c.requires.within in
    let e = c.next-verdict.ensures in
    let took : Took s c.index-signatures-place.result run base after verdict = record { means = e.means; one = e.one; taken = e.taken; none = e.none } in
    let at = subst (λ (words : List ℕ). Took s words run base after verdict) same took in
    let words = get_or signatures c.args.place [] in
    record {
      walker = e.walker;
      fixed = e.fixed;
      ordered = took-ordered s words run base after verdict c.requires.ordered at;
      taken = took-signature s words run base after verdict c.requires.ordered at c.args.share.now.counts c.count.new.self c.count.ensures.counted;
      sound = record { found = c.requires.sound.found; few = c.count.ensures.few c.args.place c.requires.sound.few };
      settled = inl (took-ok s words run base after verdict c.requires.ordered at (not_cycle verdict c.in_default.not-Cycle));
      kept = λ place h. h;
    }
