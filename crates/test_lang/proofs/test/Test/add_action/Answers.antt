use Rattle.std.proofs.Common.{◌≡◌, ◌∙◌, ◌+◌, ◌-◌, ◌++◌, List, [], ◌∷◌, suc, length, cond, ap, sym, arith, append-nil}
use Rattle.std.specs.Prelude.{is_ok, IsTrue, if◌then◌else◌}
use Rattle.test_lang.specs.declared.test.Row.{Row}
use Rattle.test_lang.specs.Actions.{op_of, allows}
use Rattle.test_lang.specs.Program.{op_count, HasWord}
use Rattle.test_lang.specs.Values.{is_load, is_store}
use Rattle.test_lang.proofs.Rows.{length-threads_of}
use Rattle.test_lang.proofs.Tabulated.{few_loads, few_stores}
use Rattle.test_lang.proofs.Steps.{IsNext, action_added, tabulates_action_added}
use Rattle.test_lang.proofs.test.Test.add_action.Goals as goal
use Rattle.test_lang.proofs.test.Test.add_action.Goals.{in-Load+in_ok-push-in-Load, in-Store+in_ok-push-in-Store, in-Fence}

pub overflow_cast-row-2 : goal.overflow_cast-row-2
overflow_cast-row-2 c =
    let few = few_stores _ _ _ _ _ c.self.invariant in
    let ops = c.self.invariant.limits.operations in
    let len = c.self.inside.store_nodes.ok.0 in
    omega (arith, few, ops, len)

pub overflow_add-row : goal.overflow_add-row
overflow_add-row c =
    let few = few_stores _ _ _ _ _ c.self.invariant in
    let ops = c.self.invariant.limits.operations in
    let len = c.self.inside.store_nodes.ok.0 in
    omega (arith, few, ops, len)

pub overflow_cast-row-3 : goal.overflow_cast-row-3
overflow_cast-row-3 c =
    let few = few_loads _ _ _ _ _ c.self.invariant in
    let ops = c.self.invariant.limits.operations in
    let len = c.self.inside.load_nodes.ok.0 in
    omega (arith, few, ops, len)

-- the row that is pushed
abbrev row_of : goal.After-unwrap → Row
row_of c = record { thread = c.len.result - 1; action = c.args.action; value = c.len-2.result + 1; rank = c.len-3.result }

-- the lists of loads and of stores behind the match
record Noted (c : goal.After-unwrap) : Type 0 where
  version_is : c.match-action.self-inside.version ≡ c.self.inside.version
  words_are : c.match-action.self-inside.words ≡ c.self.inside.words
  rows_are : c.match-action.self-inside.rows.items ≡ c.self.inside.rows.items
  loads_are : c.match-action.self-inside.load_nodes.items ≡ c.self.inside.load_nodes.items ++ cond (is_load (op_of c.args.action)) (length c.self.inside.rows.items ∷ []) []
  stores_are : c.match-action.self-inside.store_nodes.items ≡ c.self.inside.store_nodes.items ++ cond (is_store (op_of c.args.action)) (length c.self.inside.rows.items ∷ []) []
  firsts_are : c.match-action.self-inside.first_nodes.items ≡ c.self.inside.first_nodes.items

noted : (c : goal.After-unwrap) → Noted c
noted c =
    let node : c.len-node.result ≡ length c.self.inside.rows.items = c.len-node.ensures ∙ c.self.inside.rows.ok.0 in
    let same_rows : c.reserve.new.self.items ≡ c.self.inside.rows.items = c.reserve.ensures.items in
    elim c.match-action.branch [
      | in-Load+in_ok-push-in-Load w ↦ record {
        version_is = ap (λ i. i.version) w.self-inside-is;
        words_are = ap (λ i. i.words) w.self-inside-is;
        rows_are = ap (λ i. i.rows.items) w.self-inside-is ∙ same_rows;
        loads_are = rw (w.self-inside-is, w.in-Load.is) (w.in_ok-push-in-Load.ensures.items ∙ ap (λ n. c.self.inside.load_nodes.items ++ n ∷ []) node);
        stores_are = rw (w.self-inside-is, w.in-Load.is) (sym (append-nil c.self.inside.store_nodes.items));
        firsts_are = ap (λ i. i.first_nodes.items) w.self-inside-is;
      }
      | in-Store+in_ok-push-in-Store w ↦ record {
        version_is = ap (λ i. i.version) w.self-inside-is;
        words_are = ap (λ i. i.words) w.self-inside-is;
        rows_are = ap (λ i. i.rows.items) w.self-inside-is ∙ same_rows;
        loads_are = rw (w.self-inside-is, w.in-Store.is) (sym (append-nil c.self.inside.load_nodes.items));
        stores_are = rw (w.self-inside-is, w.in-Store.is) (w.in_ok-push-in-Store.ensures.items ∙ ap (λ n. c.self.inside.store_nodes.items ++ n ∷ []) node);
        firsts_are = ap (λ i. i.first_nodes.items) w.self-inside-is;
      }
      | in-Fence w ↦ record {
        version_is = ap (λ i. i.version) w.self-inside-is;
        words_are = ap (λ i. i.words) w.self-inside-is;
        rows_are = ap (λ i. i.rows.items) w.self-inside-is ∙ same_rows;
        loads_are = rw (w.self-inside-is, w.in-Fence.is) (sym (append-nil c.self.inside.load_nodes.items));
        stores_are = rw (w.self-inside-is, w.in-Fence.is) (sym (append-nil c.self.inside.store_nodes.items));
        firsts_are = ap (λ i. i.first_nodes.items) w.self-inside-is;
      }
    ]

rows_pushed : (c : goal.After-unwrap) → c.push-2.new.self.items ≡ c.self.inside.rows.items ++ row_of c ∷ []
rows_pushed c =
    let old : List Row = c.match-action.self-inside.rows.items in
    c.push-2.ensures.items ∙ ap (λ r. if is_ok r then old ++ row_of c ∷ [] else old) c.unwrap.ensures ∙ ap (λ rows. rows ++ row_of c ∷ []) (noted c).rows_are

last_thread : (c : goal.After-unwrap) → suc (row_of c).thread ≡ length c.self.inside.first_nodes.items
last_thread c =
    let threads = ap (λ p. length p.threads) c.self.view_is in
    let some = c.requires.thread in
    let long = length-threads_of (length c.self.inside.first_nodes.items) c.self.inside.rows.items in
    let firsts = c.self.inside.first_nodes.ok.0 in
    omega (arith, threads, some, long, firsts)

is_next : (c : goal.After-unwrap) → IsNext c.self.inside.version c.self.inside.words c.self.inside.rows.items c.self.inside.load_nodes.items c.self.inside.store_nodes.items c.self.inside.first_nodes.items c.self.invariant (row_of c)
is_next c =
    let stores = c.self.inside.store_nodes.ok.0 in
    let loads = c.self.inside.load_nodes.ok.0 in
    record {
      last_thread = last_thread c;
      next_value = omega (arith, stores);
      next_rank = omega (arith, loads);
      room = rw (ap op_count c.self.view_is) c.requires.room;
      some_word = rw (ap (λ p. HasWord p (op_of c.args.action)) c.self.view_is) c.requires.word;
      some_kind = rw (ap (λ p. IsTrue (allows p.version c.args.action)) c.self.view_is) c.requires.kind;
    }

pub invariant_of-self-2 : goal.invariant_of-self-2
invariant_of-self-2 c =
    let n = noted c in
    let i = c.self.inside in
    rw (rows_pushed c, n.version_is, n.words_are, n.loads_are, n.stores_are, n.firsts_are)
    (tabulates_action_added i.version i.words i.rows.items i.load_nodes.items i.store_nodes.items i.first_nodes.items c.self.invariant (row_of c) (is_next c))

pub returns-clause-ok : goal.returns-clause-ok
returns-clause-ok c =
    let n = noted c in
    let i = c.self.inside in
    rw (← c.self.view_is, rows_pushed c, n.version_is, n.words_are, n.firsts_are)
    (action_added i.version i.words i.rows.items i.load_nodes.items i.store_nodes.items i.first_nodes.items c.self.invariant (row_of c) (last_thread c))
