use Rattle.std.proofs.Common.{◌≡◌, ◌∙◌, ◌++◌, ℕ, ◌%◌, ◌<◌, take, drop, length, ap, subst, sym, arith, take-append-drop, Some}
use Rattle.std.specs.Prelude.{slice_get, slice_index}
use Rattle.std.proofs.Math.Nat.{mod-lt}
use Rattle.std.proofs.lemmas.Option.{get_or_from_slice_get}
use Rattle.test_lang.specs.Values.{load_count}
use Rattle.test_lang.specs.Signatures.{candidate_count}
use Rattle.candidates.specs.ByRank.{candidates_at, load_at}
use Rattle.signature_plan.specs.Words.{group_values, loads_between}
use Rattle.signature_plan.proofs.WritingRuns.{behind_more, value_more, values_done}
use Rattle.signature_plan.proofs.plan.Plan.write_values.Goals as goal

pub loop-rank-preserved : goal.loop-rank-preserved
loop-rank-preserved c =
    let p = c.args.self.now in
    let rank = c.loop-rank.rank in
    let before = c.loop-rank-test.true in
    let within = c.requires.within in
    let loads = c.requires.loads in
    let long = c.loop-rank.auto.out in
    let count : c.from-count.result ≡ candidate_count p (load_at p rank) = c.from-count.ensures ∙ c.count.ensures.count ∙ ap (λ q. length (candidates_at q rank)) c.self.view_is in
    let value : c.at.result ≡ slice_index (candidates_at p rank) (c.loop-rank.word % c.from-count.result) =
    sym (get_or_from_slice_get (candidates_at c.self.inside.candidates rank) (c.loop-rank.word % c.from-count.result) c.at.result 0
    (subst (λ (k : ℕ). slice_get (candidates_at c.self.inside.candidates rank) k ≡ Some c.at.result) c.divided-quotient.ensures.rest c.at.ensures))
    ∙ ap (λ q. slice_index (candidates_at q rank) (c.loop-rank.word % c.from-count.result)) c.self.view_is in
    record {
      written = rw c.divided-quotient.ensures.quotient (value_more p c.loop-rank.out c.loop-rank.word c.from-count.result c.at.result rank c.args.end before within (omega (arith, before, within, loads, long)) count value ∙ c.loop-rank.invariant.written);
      behind = behind_more p c.loop-rank.out c.args.out.now rank c.at.result c.loop-rank.invariant.behind;
    }

pub returns : goal.returns
returns c =
    let p = c.args.self.now in
    let past = c.loop-rank-test.false in
    let order = c.requires.order in
    let until = c.loop-rank.auto.rank-end in
    let same : c.loop-rank.rank ≡ c.args.end = omega (arith, past, order, until) in
    let front = take c.args.first c.args.out.now ++ group_values p c.args.word (loads_between p c.args.first c.args.end) in
    let behind = ap (λ (n : ℕ). drop n c.loop-rank.out) (sym same) ∙ c.loop-rank.invariant.behind ∙ ap (λ (n : ℕ). drop n c.args.out.now) same in
    sym (take-append-drop c.args.end c.loop-rank.out)
    ∙ ap (λ xs. xs ++ drop c.args.end c.loop-rank.out) (values_done p c.loop-rank.out front c.loop-rank.word c.loop-rank.rank c.args.end same c.loop-rank.invariant.written)
    ∙ ap (λ xs. front ++ xs) behind

pub at-requires : goal.at-requires
at-requires c =
    let p = c.args.self.now in
    let rank = c.loop-rank.rank in
    let before = c.loop-rank-test.true in
    let within = c.requires.within in
    let same = ap load_count c.self.view_is in
    let count : c.from-count.result ≡ length (candidates_at c.self.inside.candidates rank) = c.from-count.ensures ∙ c.count.ensures.count in
    let some : 0 < c.from-count.result = omega (arith, count) in
    let digit = mod-lt c.loop-rank.word some in
    record { rank = omega (arith, before, within, same); place = omega (arith, digit, count) }
