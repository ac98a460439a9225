use Rattle.std.proofs.Common.{◌≡◌, ◌∙◌, ◌+◌, ◌∷◌, ◌++◌, [], ℕ, List, map, length, sym, ap, arith, length-append}
use Rattle.std.specs.Prelude.{slice_index_or}
use Rattle.tally.specs.declared.outcome.Outcome.{Outcome}
use Rattle.tally.specs.Histories.{entries}
use Rattle.runner.proofs.Puts.{get_between, map_between, put_more}
use Rattle.runner.proofs.all.put_all.Goals as goal

pub batches-preserved : goal.batches-preserved
batches-preserved c =
    let i = c.batches.invariant in
    let same = c.in_ok-put.ensures.same in
    let popped = c.in-Some.ensures.items in
    let long : length c.batches.batches.items ≡ length c.pop.new.self.items + 1 = ap length popped ∙ length-append c.pop.new.self.items (c.in-Some.batch ∷ []) in
    let few = i.few in
    let shown = ap (λ l. map (λ batch. batch.items) l ++ i.left.0) popped in
    let all : map (λ batch. batch.items) (c.pop.new.self.items ++ c.in-Some.batch ∷ []) ++ i.left.0 ≡ map (λ batch. batch.items) c.args.batches.items = sym shown ∙ i.left.1 in
    let number : c.len-number.result ≡ length c.pop.new.self.items = c.len-number.ensures ∙ c.pop.new.self.ok.0 in
    record {
      finished_length_is = same.0 ∙ i.finished_length_is;
      busy_is = same.1 ∙ i.busy_is;
      few = omega (arith, few, long);
      left = (c.in-Some.batch.items ∷ i.left.0, map_between (λ batch. batch.items) c.pop.new.self.items c.in-Some.batch i.left.0 ∙ all);
      put = put_more c.args.finished.now.history (map (λ batch. batch.items) c.args.batches.items) (length c.pop.new.self.items) (length c.batches.batches.items) c.in-Some.batch.items c.batches.finished.history
          c.put.new.self.history long
          (ap (λ (l : List (List Outcome)). slice_index_or l (length c.pop.new.self.items) []) (sym all) ∙ get_between (λ batch. batch.items) c.pop.new.self.items c.in-Some.batch i.left.0 [])
          (c.in_ok-put.ensures.added.0 ∙ ap (λ (k : ℕ). c.batches.finished.history ++ entries k c.in-Some.batch.items) number)
          i.put;
    }
