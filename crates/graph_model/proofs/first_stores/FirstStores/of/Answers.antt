-- The list grows by the first stores to one word.
use Rattle.std.proofs.Common.{◌≡◌, ◌∙◌, ◌++◌, ◌∷◌, [], ℕ, ◌*◌, ◌≤◌, List, length, refl, ap, arith, length-append}
use Rattle.std.proofs.Math.Nat.{mul-le-mul_left}
use Rattle.graph_model.specs.FirstLists.{first_stores_to}
use Rattle.graph_model.proofs.FirstLists.{few-firsts, few-more, each-more, rising-more, start-new, within-more}
use Rattle.graph_model.proofs.first_stores.FirstStores.of.Goals as goal

pub overflow_cast-len : goal.overflow_cast-len
overflow_cast-len c =
    let p = c.args.test.now in
    let now : c.push_word.new.stores.items ≡ c.loop-word.stores.items ++ first_stores_to p c.loop-word.word = c.in_ok-push_word.ensures in
    let count : c.len.result ≡ length c.push_word.new.stores.items = c.len.ensures ∙ c.push_word.new.stores.ok.0 in
    let all = ap length now ∙ length-append c.loop-word.stores.items (first_stores_to p c.loop-word.word) in
    let few = c.loop-word.invariant.few in
    let one = few-firsts p c.loop-word.word in
    let limits = c.words-word-end.ensures.limits in
    let words = c.words-word-end.ensures.count in
    let most = c.words-word-end.ensures.few in
    let lt = c.loop-word-test.true in
    let product : c.loop-word.word * length p.threads ≤ c.loop-word.word * 16 = mul-le-mul_left c.loop-word.word limits.threads in
    let threads = limits.threads in
    omega (arith, count, all, few, one, product, words, most, lt, threads)

pub loop-word-preserved : goal.loop-word-preserved
loop-word-preserved c =
    let p = c.args.test.now in
    let word : ℕ = c.loop-word.word in
    let starts : List ℕ = c.loop-word.starts.items in
    let stores : List ℕ = c.loop-word.stores.items in
    let ys : List ℕ = first_stores_to p word in
    let i = c.loop-word.invariant in
    let now : c.push_word.new.stores.items ≡ stores ++ ys = c.in_ok-push_word.ensures in
    let count : c.len.result ≡ length (stores ++ ys) = c.len.ensures ∙ c.push_word.new.stores.ok.0 ∙ ap length now in
    let pushed = c.in_ok-push.ensures.items in
    rw (pushed, count, now) (record {
      room = (let long = length-append starts (length (stores ++ ys) ∷ []) in let room = i.room in omega (arith, long, room));
      last = start-new p word starts stores ys i.room i.last i.rising i.within i.each;
      few = few-more p word starts stores ys i.room i.last i.rising i.within i.each (few-firsts p word) i.few;
      rising = rising-more p word starts stores ys i.room i.last i.rising i.within i.each;
      within = within-more p word starts stores ys i.room i.last i.rising i.within i.each;
      each = each-more p word starts stores ys i.room i.last i.rising i.within i.each refl;
    })
