-- Each kind of step keeps the rule.
use Rattle.std.proofs.Common.{◌≡◌, ◌≢◌, ℕ, zero, suc, ◌+◌, ◌<◌, ◌≤◌, ◌%◌, ◌^◌, List, [], ◌∷◌, ◌++◌, map, length, set, Bool, true, false, refl, sym, ap, ◌∙◌, subst, ⊎_elim, arith, length-set, get_or-set_same, get_or-set_other, replicate}
use Rattle.std.specs.Prelude.{filter, count_by, slice_index, slice_set, take}
use Rattle.std.proofs.lemmas.Bool.{cases_eq}
use Rattle.std.proofs.lemmas.List.{length-take}
use Rattle.std.proofs.lemmas.List.Sums.{count_by-le-length}
use mathlib.Core.Option.{some}
use lib.ListN.{get_elem?}
use Rattle.orders.specs.Orders.{nodes_below}
use Rattle.orders.proofs.Below.{length-below}
use Rattle.atomic_table.specs.Table.{State, Step, keeps, Allows, Splits, Joins, Final, Seen, opening}
use Rattle.atomic_table.proofs.Lists.{set_else, set_again}
use Rattle.test_lang.specs.declared.op.Op.{Op}
use Rattle.test_lang.specs.declared.op.Op.TheVariants.{Load, Store, Fence}
use Rattle.test_lang.specs.declared.target.Target.TheVariants.{Sc}
use Rattle.test_lang.specs.declared.target.Fault.TheVariants as faults
use Rattle.test_lang.specs.Program.{Program, nodes, op_at, op_count, first_node}
use Rattle.test_lang.specs.Values.{is_store, value_of}
use Rattle.test_lang.specs.Play.States.{last_value, stores_to}
use Rattle.test_lang.specs.Play.Plays.{final}
use Rattle.test_lang.proofs.PlayLaws.Counts.{count_less, none_count}
use Rattle.shared_words.specs.declared.rule.View.{View}
use Rattle.shared_words.specs.Reached.{Progress, Reached, beginning, put, found_by, does}
use Rattle.shared_words.specs.Rule.{newcomer, maker_of, spent, maker_after, keeper_after, IsTrueOf, Holds, IsReachedBy}
use Rattle.shared_words.specs.Steps.{own, next_node, IsNext, passing, passer, arriving, arriver, Loaded, Passed, Arrived, Looked}
use Rattle.shared_words.proofs.Reaching.{put_same, put_other, begins, goes_on}
use Rattle.shared_words.proofs.Seats.{OthersStay, own_stands, seated_after, seated_first, seated_split, seated_join}

-- words

-- a word that is written as it was
set_self : (l : List ℕ) (i : ℕ) → slice_set l i (slice_index l i) ≡ l
set_self [] i = refl
set_self (x ∷ xs) zero = refl
set_self (x ∷ xs) (suc i) = ap (λ (l : List ℕ). x ∷ l) (set_self xs i)

word_set : (l : List ℕ) (i v j : ℕ) (f : ℕ → ℕ) → i < length l → slice_index l j ≡ f j → slice_index (slice_set l i v) j ≡ put f i v j
word_set l i v j f low is = ⊎_elim
    (λ (e : j ≡ i). subst (λ (n : ℕ). slice_index (slice_set l i v) n ≡ put f i v n) (sym e) (here ∙ sym (put_same f i v)))
    (λ (ne : j ≢ i). elsewhere ne ∙ is ∙ sym (put_other f i j v ne))
    (cases_eq j i)
  where
    here : slice_index (slice_set l i v) i ≡ v
    here = rw get_or-set_same refl

    elsewhere : j ≢ i → slice_index (slice_set l i v) j ≡ slice_index l j
    elsewhere ne = rw get_or-set_other refl

-- the words of a test are small

last_small : (f : ℕ → ℕ) (most : ℕ) → ((n : ℕ) → f n ≤ most) → (ns : List ℕ) → last_value (map f ns) ≤ most
last_small f most few [] = omega arith
last_small f most few (n ∷ []) = few n
last_small f most few (n ∷ next ∷ more) = last_small f most few (next ∷ more)

value_small : (p : Program) (n : ℕ) → value_of p n ≤ op_count p + 1
value_small p n =
    let few = count_by-le-length (λ node. is_store node.1) (take n (nodes p)) in
    let front = length-take n (nodes p) in
    omega (arith, few, front)

now_small : (p : Program) (s : Progress) → op_count p ≤ 2048 → Reached p s → (word : ℕ) → s.now word < 2 ^ 32
now_small p s limit r word =
    let is = r.numbers.words word in
    let few = last_small (value_of p) (op_count p + 1) (value_small p) (filter (stores_to p word) (final Sc faults.None p r.steps).effects) in
    omega (arith, is, few, limit)

-- A thread does its next operation.
module _ (p : Program) (id : ℕ) (v : View) (op : Op) (parts : v.parts ≡ own v ∷ []) (next : IsNext p (own v) op) (s : State ℕ View) (h : Holds p s) (at : get_elem? s.views id ≡ some v) where
  abbrev t : ℕ
  t = (own v).number

  says : IsTrueOf h.progress h.arrived (own v)
  says = (own_stands h.progress h.progress h.arrived h.arrived s.views id v (own v) parts h.seats at).says

  abbrev progress_after : Progress
  progress_after = does p h.progress t op

  reached_after : Reached p progress_after
  reached_after =
      let same = says.passed in
      let left = next.left in
      goes_on p h.progress t op next.thread (omega (arith, same, left)) (ap (λ (n : ℕ). op_at p (first_node p t + n)) same ∙ next.is) h.reached

  abbrev found : List ℕ
  found = found_by op h.progress.now

  mine : IsTrueOf progress_after h.arrived (passing (own v) found)
  mine = record {
    arrival = says.arrival;
    passed = put_same h.progress.done t (h.progress.done t + 1) ∙ ap (λ (n : ℕ). n + 1) says.passed;
    values = put_same h.progress.values t (h.progress.values t ++ found) ∙ ap (λ (l : List ℕ). l ++ found) says.values;
  }

  others : OthersStay t h.progress h.arrived progress_after h.arrived
  others part ne was = record {
    arrival = was.arrival;
    passed = put_other h.progress.done t part.number (h.progress.done t + 1) ne ∙ was.passed;
    values = put_other h.progress.values t part.number (h.progress.values t ++ found) ne ∙ was.values;
  }

  pub operates : (ws : List ℕ) → length ws ≡ p.words + 1 → ((word : ℕ) → word < p.words → slice_index ws word ≡ progress_after.now word) → slice_index ws p.words ≡ slice_index s.words p.words
      → Holds p record { words = ws; homes = s.homes; views = set s.views id (passer v found) }
  operates ws size words last = record {
    progress = progress_after;
    arrived = h.arrived;
    reached = reached_after;
    seats = seated_after h.progress progress_after h.arrived h.arrived s.views id v (passing (own v) found) parts h.seats at refl mine others;
    size = size;
    words = words;
    arrivals = last ∙ h.arrivals;
  }

module _ (st : Step ℕ) (p : Program) (slots id : ℕ) (v : View) (parts : v.parts ≡ own v ∷ []) where
  pub loads : (word : ℕ) → word < p.words → op_count p ≤ 2048 → IsNext p (own v) (Load word) → Allows (Holds p) slots id (v, []) word (λ n. n) (Loaded st (v, []))
  loads word low limit next s h size at small = (
    passer v (slice_index s.words word ∷ []),
    keeps,
    tt,
    subst (λ (y : List ℕ × ℕ). Holds p record { words = y.0; homes = s.homes; views = set s.views id (passer v (y.1 ∷ [])) }) (λ i. (sym (set_self s.words word) i, sym (h.words word low) i))
        (operates p id v (Load word) parts next s h at s.words h.size h.words refl),
    (refl, (let is = h.words word low in let few = now_small p h.progress limit h.reached word in omega (arith, is, few))),
  )

  pub stores : (word value : ℕ) → word < p.words → IsNext p (own v) (Store word) → value ≡ value_of p (next_node p (own v)) → Allows (Holds p) slots id (v, []) word (λ _. value) (λ _. Passed st (v, []) value)
  stores word value low next is s h size at small =
      let long = h.size in
      let within : word < length s.words = omega (arith, long, low) in
      let apart : p.words ≢ word = omega (arith, low) in (
        passer v [],
        keeps,
        tt,
        operates p id v (Store word) parts next s h at (slice_set s.words word value) (length-set s.words word value ∙ h.size)
            (λ y under. word_set s.words word value y h.progress.now within (h.words y under) ∙ ap (λ (x : ℕ). put h.progress.now word x y) (is ∙ ap (λ (n : ℕ). value_of p (first_node p (own v).number + n)) (sym (says p id v (Store word) parts next s h at).passed)))
            (rw get_or-set_other refl),
        refl,
      )

  pub fences : IsNext p (own v) Fence → Allows (Holds p) slots id (v, []) 0 (λ n. n) (Passed st (v, []))
  fences next s h size at small = (
    passer v [],
    keeps,
    tt,
    subst (λ (ws : List ℕ). Holds p record { words = ws; homes = s.homes; views = set s.views id (passer v []) }) (sym (set_self s.words 0)) (operates p id v Fence parts next s h at s.words h.size h.words refl),
    refl,
  )

-- A thread arrives.

counted : (p : Program) (arrived : ℕ → Bool) (t : ℕ) → t < length p.threads → arrived t ≡ false
    → count_by (put arrived t true) (nodes_below (length p.threads)) ≡ count_by arrived (nodes_below (length p.threads)) + 1
counted p arrived t within wasnt = sym (count_less (put arrived t true) arrived (length p.threads) t within (put_same arrived t true) wasnt (λ k ne. put_other arrived t k true ne))

few_arrived : (p : Program) (arrived : ℕ → Bool) → length p.threads ≤ 16 → count_by arrived (nodes_below (length p.threads)) ≤ 16
few_arrived p arrived limit =
    let few = count_by-le-length arrived (nodes_below (length p.threads)) in
    let long = length-below (length p.threads) in
    omega (arith, few, long, limit)

-- a step on the last word leaves the words of the test
last_word : (p : Program) (ws : List ℕ) (value word : ℕ) → word < p.words → slice_index (slice_set ws p.words value) word ≡ slice_index ws word
last_word p ws value word low = let ne : word ≢ p.words = omega (arith, low) in rw get_or-set_other refl

module _ (st : Step ℕ) (p : Program) (slots id : ℕ) (v : View) (parts : v.parts ≡ own v ∷ []) where
  pub arrives : (own v).number < length p.threads → length p.threads ≤ 16 → (own v).arrived ≡ false → Allows (Holds p) slots id (v, []) p.words (λ n. (n + 1) % 2 ^ 64) (Arrived st (v, []))
  arrives within limit new s h size at small =
      let t = (own v).number in
      let says = (own_stands h.progress h.progress h.arrived h.arrived s.views id v (own v) parts h.seats at).says in
      let wasnt : h.arrived t ≡ false = says.arrival ∙ new in
      let long = h.size in
      let is = h.arrivals in
      let few = few_arrived p h.arrived limit in
      let more = counted p h.arrived t within wasnt in
      let last = (slice_index s.words p.words + 1) % 2 ^ 64 in (
        arriver v,
        keeps,
        tt,
        record {
          progress = h.progress;
          arrived = put h.arrived t true;
          reached = h.reached;
          seats = seated_after h.progress h.progress h.arrived (put h.arrived t true) s.views id v (arriving (own v)) parts h.seats at refl
              record { arrival = put_same h.arrived t true; passed = says.passed; values = says.values }
              (λ part ne was. record { arrival = put_other h.arrived t part.number true ne ∙ was.arrival; passed = was.passed; values = was.values });
          size = length-set s.words p.words last ∙ h.size;
          words = λ word low. last_word p s.words last word low ∙ h.words word low;
          arrivals = get_here s.words p.words last (omega (arith, long)) ∙ omega (arith, is, few, more);
        },
        refl,
      )
    where
      get_here : (l : List ℕ) (i value : ℕ) → i < length l → slice_index (slice_set l i value) i ≡ value
      get_here l i value low = rw get_or-set_same refl

-- A look changes nothing.
pub looks : (st : Step ℕ) (p : Program) (slots id : ℕ) (v : View) (m : List (ℕ × ℕ)) (word : ℕ) → Allows (Holds p) slots id (v, m) word (λ n. n) (Looked st (v, m))
looks st p slots id v m word s h size at small = (
  v,
  keeps,
  tt,
  subst (λ (y : List ℕ × List View). Holds p record { words = y.0; homes = s.homes; views = y.1 }) (λ i. (sym (set_self s.words word) i, sym (set_again s.views id v at) i)) h,
  refl,
)

-- Threads are made and ended.

pub starts : (p : Program) (ws : List ℕ) → length ws ≡ p.words + 1 → ((word : ℕ) → slice_index ws word ≡ 0) → Holds p (opening ws [] (maker_of 1))
starts p ws size words = record {
  progress = beginning;
  arrived = λ thread. false;
  reached = begins p;
  seats = seated_first;
  size = size;
  words = λ word low. words word;
  arrivals = words p.words ∙ sym (none_count (λ thread. false) (length p.threads) (λ k lt. refl));
}

pub splits : (p : Program) (id : ℕ) (v : View) → v.made ≢ 0 → Splits (Holds p) id v (maker_after v) (newcomer v.made)
splits p id v makes s h at = record {
  progress = h.progress;
  arrived = h.arrived;
  reached = h.reached;
  seats = seated_split h.progress h.arrived s.views id v makes h.seats at;
  size = h.size;
  words = h.words;
  arrivals = h.arrivals;
}

pub joins : (p : Program) (id : ℕ) (v : View) (other : ℕ) (w : View) → Joins (Holds p) id v other w (keeper_after v w) spent
joins p id v other w s h at apart at' =
    let there : get_elem? s.views other ≡ some w = sym (set_else s.views id other (keeper_after v w) apart) ∙ at' in
    record {
      progress = h.progress;
      arrived = h.arrived;
      reached = h.reached;
      seats = seated_join h.progress h.arrived s.views id v other w h.seats at there (λ e. apart (sym e));
      size = h.size;
      words = h.words;
      arrivals = h.arrivals;
    }

-- the table at the end
pub closes : (p : Program) (id : ℕ) (v : View) (ws xs : List ℕ) → Final (Seen (Holds p) id v) ws xs → IsReachedBy p v
closes p id v ws xs final =
    let h = final.1.0 in
    record { progress = h.progress; arrived = h.arrived; reached = h.reached; parts = λ i part e. ((h.seats.each id v final.1.1).0 i part e).says }

pub zeros : (n word : ℕ) → slice_index (replicate n 0) word ≡ 0
zeros zero word = refl
zeros (suc n) zero = refl
zeros (suc n) (suc word) = zeros n word
