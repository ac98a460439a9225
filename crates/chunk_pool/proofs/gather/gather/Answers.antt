use Rattle.std.proofs.Common.{◌∙◌, List, ◌∷◌, ap, drop, length, sym, subst}
use Rattle.std.proofs.lemmas.List.{take_at}
use Rattle.verdict_report.specs.declared.report.Judged.{Judged}
use Rattle.chunk_pool.specs.declared.share.Counts.{Counts}
use Rattle.chunk_pool.specs.Shares.{put_cycles}
use Rattle.chunk_pool.proofs.Gathering.{IsGatheredTo, gathered-more}
use Rattle.chunk_pool.proofs.gather.gather.Goals as goal

pub loop-share-preserved : goal.loop-share-preserved
loop-share-preserved c =
    let l = c.loop-share in
    let share = c.in_ok-share.share in
    let rest = c.next.new.self.rest.items in
    let step = c.in-Some.ensures.steps.0 ∙ ap (λ r. r ∷ rest) c.in_ok-share.was in
    let more = gathered-more c.args.signatures c.args.shares.items l.share-iterator.rest.items rest share l.found.items l.counts step l.invariant.so_far in
    let found = c.put_all.new.found in
    let whole = take_at found (drop (length found) l.found.items) l.found.len (c.put_all.auto.found ∙ c.deref_mut.ensures.len) in
    let put = whole ∙ c.put_all.ensures ∙ ap (λ (f : List Judged). put_cycles f share.cycles.items) c.deref_mut.ensures.value in
    record {
      so_far = subst (λ (f : List Judged). IsGatheredTo c.args.signatures c.args.shares.items rest f c.add.new.self) (sym put)
          (subst (λ (counts : Counts). IsGatheredTo c.args.signatures c.args.shares.items rest (put_cycles l.found.items share.cycles.items) counts) (sym c.add.ensures) more);
    }
