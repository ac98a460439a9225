use Rattle.std.proofs.Common.{◌≡◌, ◌∙◌, ℕ, suc, ◌+◌, ◌-◌, ◌≤◌, List, [], ◌∷◌, ◌++◌, cond, Bool, Option, None, Some, length, refl, ap, arith, sym, subst, length-append, append-nil}
use Rattle.std.specs.Prelude.{◌==◌, if◌then◌else◌}
use Rattle.test_lang.specs.Values.{store_count}
use Rattle.test_lang.specs.Runs.{base}
use Rattle.candidates.specs.declared.candidate_lists.LoadRow.{LoadRow}
use Rattle.candidates.specs.declared.candidate_lists.PlaceRow.{PlaceRow}
use Rattle.candidates.specs.ByRank.{FindsPlace, candidates_at, load_at}
use Rattle.candidates.specs.Loads.{is_other_store}
use Rattle.candidates.specs.Tables.{ListsLoads, TellsPlaces}
use Rattle.candidates.proofs.CandidateLaws.{count_at-le}
use Rattle.candidates.proofs.Listing.{initial_found, listed, lists_more, others_below-le, value_found, values_more}
use Rattle.candidates.proofs.LoadCandidates.{others_below, others_below-all}
use Rattle.candidates.proofs.PlaceRows.{tells_push}
use Rattle.candidates.proofs.candidate_lists.CandidateLists.push_load.Goals as goal
use Rattle.candidates.proofs.candidate_lists.CandidateLists.push_load.Goals.{After-base-base, After-len, After-loop-value, then-is_other+in_ok-push-4, else-is_other}

base_is : (c : After-base-base) → c.base-base.result ≡ base c.args.test.now (load_at c.args.test.now c.args.rank)
base_is c = c.base-base.ensures ∙ ap (base c.args.test.now) c.of-load.ensures.rank

longer : (places new : List PlaceRow) (row : PlaceRow) → new ≡ places ++ row ∷ [] → length new ≡ length places + 1
longer places new row e = ap length e ∙ length-append places (row ∷ [])

pub loop-value-init : goal.loop-value-init
loop-value-init c =
    let p = c.args.test.now in
    let rank = c.args.rank in
    let before = c.requires.before in
    let old = c.args.self.now.places.items in
    let new = c.push-2.new.self.items in
    let is = base_is (goal.at.loop-value-init c).After-base-base in
    let items : new ≡ old ++ c.of.result ∷ [] = c.in_ok-push-2.ensures.items in
    let more = longer old new c.of.result items in
    let long = before.one_place_each in
    let found = subst (λ (r : Option ℕ). FindsPlace (candidates_at p rank) 0 r) (sym (c.of.ensures ∙ ap (λ (b : ℕ). if 0 == b then Some 0 else None) is)) (initial_found p rank c.requires.rank) in
    record {
      some = omega arith;
      loads = refl;
      values = c.in_ok-push.ensures.items ∙ ap (λ (b : ℕ). c.args.self.now.values.items ++ b ∷ []) is;
      long = omega (arith, more, long);
      places = subst (λ (rows : List PlaceRow). TellsPlaces p rows) (sym items) (tells_push p old c.of.result rank 0 (omega (arith, long)) (omega arith) found before.places_tell);
    }

-- where the next candidate stands
next_is : (c : After-len) → c.len.result - c.len-first.result ≡ suc (length (others_below c.args.test.now (load_at c.args.test.now c.args.rank) (c.loop-value.value - 1)))
next_is c =
    let p = c.args.test.now in
    let load = load_at p c.args.rank in
    let all = listed p load (base p load) (c.loop-value.value - 1) c.args.self.now.values.items c.loop-value.self.values.items c.loop-value.invariant.values in
    let len = c.len.ensures in
    let first = c.len-first.ensures in
    let long = c.loop-value.self.values.ok.0 in
    let short = c.args.self.now.values.ok.0 in
    omega (arith, all, len, first, long, short)

pub of-requires-in-loop-value : goal.of-requires-in-loop-value
of-requires-in-loop-value c =
    let p = c.args.test.now in
    let next = next_is (goal.at.of-requires-in-loop-value c).After-len in
    let below = others_below-le p (load_at p c.args.rank) (c.loop-value.value - 1) in
    let fewer = count_at-le p c.args.rank c.requires.rank in
    let few = c.stores-value-end.ensures.room in
    omega (arith, next, below, fewer, few)

pub loop-value-preserved : goal.loop-value-preserved
loop-value-preserved c =
    let p = c.args.test.now in
    let rank = c.args.rank in
    let load = load_at p rank in
    let value = c.loop-value.value in
    let kept = c.loop-value.invariant in
    let some = kept.some in
    let end = c.loop-value-test.true in
    let count = c.stores-value-end.ensures.count in
    let few : value ≤ store_count p = omega (arith, end, count) in
    let node = c.store_of.result in
    let b = c.is_other-is_other.result in
    let other : b ≡ is_other_store p load node = c.is_other-is_other.ensures ∙ ap (λ (n : ℕ). is_other_store p n node) c.of-load.ensures.rank in
    let next : ℕ = c.len.result - c.len-first.result in
    let at = next_is (goal.at.loop-value-preserved c).After-len in
    let is = base_is (goal.at.loop-value-preserved c).After-base-base in
    let row = c.of-in-loop-value.result in
    let places = c.loop-value.self.places.items in
    let rows = c.push-in-loop-value.new.self.items in
    let items : rows ≡ places ++ row ∷ [] = c.in_ok-push-3.ensures.items in
    let more = longer places rows row items in
    let long = kept.long in
    let told = c.of-in-loop-value.ensures ∙ ap (λ (first : ℕ). if b then Some next else (if value == first then Some 0 else None)) is in
    let found = subst (λ (r : Option ℕ). FindsPlace (candidates_at p rank) value r) (sym told) (value_found p value node some few c.store_of.ensures.is_store c.store_of.ensures.value rank next b c.requires.rank other at) in
    let tells = subst (λ (list : List PlaceRow). TellsPlaces p list) (sym items) (tells_push p places row rank value long few found kept.places) in
    let values = values_more p value node some few c.store_of.ensures.is_store c.store_of.ensures.value load (base p load) b c.args.self.now.values.items c.loop-value.self.values.items in
    elim c.if-is_other.branch [
      | then-is_other+in_ok-push-4 w ↦
          rw w.self-is (record {
            some = omega arith;
            loads = kept.loads;
            values = values w.push-then-is_other.new.self.items other kept.values (w.in_ok-push-4.ensures.items ∙ ap (λ (d : Bool). c.loop-value.self.values.items ++ cond d (value ∷ []) []) (sym w.if-is_other.true));
            long = omega (arith, more, long);
            places = tells;
          })
      | else-is_other w ↦
          rw w.self-is (record {
            some = omega arith;
            loads = kept.loads;
            values = values c.loop-value.self.values.items other kept.values (sym (append-nil c.loop-value.self.values.items) ∙ ap (λ (d : Bool). c.loop-value.self.values.items ++ cond d (value ∷ []) []) (sym w.if-is_other.false));
            long = omega (arith, more, long);
            places = tells;
          })
    ]

-- all candidates are listed

at_end : (c : After-loop-value) → (c.loop-value.value - 1 ≡ store_count c.args.test.now) × (c.loop-value.value ≡ store_count c.args.test.now + 1)
at_end c =
    let past = c.loop-value-test.false in
    let until = c.loop-value.auto.value-end in
    let count = c.stores-value-end.ensures.count in
    (omega (arith, past, until, count), omega (arith, past, until, count))

all_listed : (c : After-loop-value) → c.loop-value.self.values.items ≡ c.args.self.now.values.items ++ candidates_at c.args.test.now c.args.rank
all_listed c =
    let p = c.args.test.now in
    let load = load_at p c.args.rank in
    c.loop-value.invariant.values
    ∙ ap (λ (n : ℕ). c.args.self.now.values.items ++ base p load ∷ others_below p load n) (at_end c).0
    ∙ ap (λ (list : List ℕ). c.args.self.now.values.items ++ base p load ∷ list) (others_below-all p load)

all_counted : (c : After-loop-value) → c.loop-value.self.values.len ≡ c.args.self.now.values.len + length (candidates_at c.args.test.now c.args.rank)
all_counted c =
    let all = ap length (all_listed c) in
    let both = length-append c.args.self.now.values.items (candidates_at c.args.test.now c.args.rank) in
    let long = c.loop-value.self.values.ok.0 in
    let short = c.args.self.now.values.ok.0 in
    omega (arith, all, both, long, short)

pub overflow_cast-count : goal.overflow_cast-count
overflow_cast-count c =
    let p = c.args.test.now in
    let all = all_counted (goal.at.overflow_cast-count c).After-loop-value in
    let fewer = count_at-le p c.args.rank c.requires.rank in
    let few = c.stores-value-end.ensures.room in
    let len = c.len-2.ensures in
    let first = c.len-first.ensures in
    record { fits = omega (arith, all, fewer, few, len, first) }

pub returns : goal.returns
returns c =
    let p = c.args.test.now in
    let end = (goal.at.returns c).After-loop-value in
    let all = all_counted end in
    let short = c.args.self.now.values.ok.0 in
    let len = c.len-2.ensures in
    let fits = c.len-2.type_inv in
    let first = c.len-first.ensures in
    let long = c.loop-value.invariant.long in
    let last = (at_end end).1 in
    let row : LoadRow = record { first = c.len-first.result; count = c.len-2.result - c.len-first.result } in
    let loads : c.push-3.new.self.items ≡ c.args.self.now.loads.items ++ row ∷ [] = c.in_ok-push-5.ensures.items ∙ ap (λ (rows : List LoadRow). rows ++ row ∷ []) c.loop-value.invariant.loads in
    let more = lists_more p c.args.rank c.args.self.now.loads.items c.args.self.now.values.items c.args.self.now.places.items c.loop-value.self.places.items row c.requires.before
    (omega (arith, first, short)) (omega (arith, all, len, first)) (omega (arith, all, len, first, fits)) (omega (arith, long, last)) c.loop-value.invariant.places in
    subst (λ (rows : List LoadRow). ListsLoads p (c.args.rank + 1) rows c.loop-value.self.values.items c.loop-value.self.places.items) (sym loads)
    (subst (λ (list : List ℕ). ListsLoads p (c.args.rank + 1) (c.args.self.now.loads.items ++ row ∷ []) list c.loop-value.self.places.items) (sym (all_listed end)) more)
