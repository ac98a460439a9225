-- What a load finds in its thread's buffer.
use Rattle.std.proofs.Common.{◌≡◌, ◌∙◌, ℕ, ◌+◌, ◌<◌, List, [], ◌∷◌, ◌++◌, Bool, true, false, not, ◌&&◌, cond, map, take, drop, length, get_or, refl, sym, ap, Option, None, Some}
use Rattle.std.specs.Prelude.{◌==◌, filter, slice_get}
use Rattle.std.specs.List.{last_or}
use Rattle.std.specs.Option.{option_map, option_map_or}
use Rattle.std.proofs.lemmas.Bool.{eqb-true, eq-eqb, ne_eqb}
use Rattle.std.proofs.lemmas.List.{take-append-drop, drop_more}
use Rattle.std.proofs.lemmas.List.Elements.{filter-append, filter_agree}
use Rattle.std.proofs.lemmas.Option.{same_Some}
use Rattle.test_lang.specs.declared.op.Op.{Op}
use Rattle.test_lang.specs.declared.op.Op.TheVariants.{Load, Store, Fence}
use Rattle.test_lang.specs.Program.{Program, nodes, op_at, passes, passes_after}
use Rattle.test_lang.specs.Values.{is_store, is_store_to, is_of, same_word, same_thread, value_of}
use Rattle.test_lang.specs.Runs.{writes_for}
use Rattle.test_lang.specs.Play.States.{State, has, is_of_thread, buffer, last_value, stores_to}
use Rattle.test_lang.specs.Play.Machines.{buffered, forwarded}
use Rattle.test_lang.proofs.BaseStores.{last-push}
use Rattle.tso_machine.proofs.ListChanges.{filter-filter}

-- the node that is last

last_from : (p : Program) (first : ℕ) (xs : List ℕ) (other : ℕ) → last_value (map (value_of p) (first ∷ xs)) ≡ option_map_or (value_of p) (last_or (Some first) xs) other
last_from p first [] other = refl
last_from p first (x ∷ xs) other = last_from p x xs other

pub forwarded_last : (p : Program) (xs : List ℕ) (other : ℕ) → forwarded p xs other ≡ option_map_or (value_of p) (last_or None xs) other
forwarded_last p [] other = refl
forwarded_last p (x ∷ xs) other = last_from p x xs other

-- the stores for a load of a word are those to the word

writes_from : (word : ℕ) (load found : Option (ℕ × Op)) → option_map (λ node. node.1) load ≡ Some (Load word)
    → (passes (λ node. is_store node.1) found && passes_after (λ first second. same_word first.1 second.1) load found) ≡ passes (λ node. is_store_to word node.1) found
writes_from word None found e = absurd cc
writes_from word (Some load) None e = refl
writes_from word (Some load) (Some node) e = ap (λ op. is_store node.1 && same_word op node.1) (same_Some load.1 (Load word) e) ∙ kinds node.1 where
  kinds : (op : Op) → (is_store op && is_of word op) ≡ is_store_to word op
  kinds (Load x) = refl
  kinds (Store x) = refl
  kinds Fence = refl

writes_are : (p : Program) (load word n : ℕ) → op_at p load ≡ Some (Load word) → writes_for p load n ≡ stores_to p word n
writes_are p load word n e = writes_from word (slice_get (nodes p) load) (slice_get (nodes p) n) e

threads_from : (t : ℕ) (load found : Option (ℕ × Op)) → passes (λ node. node.0 == t) load ≡ true → passes_after (λ first second. first.0 == second.0) load found ≡ passes (λ node. node.0 == t) found
threads_from t None found h = absurd cc
threads_from t (Some load) None h = refl
threads_from t (Some load) (Some node) h = ap (λ (k : ℕ). k == node.0) (eqb-true load.0 t h) ∙ eqb_comm t node.0 where
  eqb_comm : (a b : ℕ) → (a == b) ≡ (b == a)
  eqb_comm a b = at (a == b) refl where
    at : (c : Bool) → (a == b) ≡ c → (a == b) ≡ (b == a)
    at true e = e ∙ sym (eq-eqb b a (sym (eqb-true a b e)))
    at false e = e ∙ sym (ne_eqb b a (λ is. let yes = eq-eqb a b (sym is) in absurd cc))

thread_is : (p : Program) (t load n : ℕ) → is_of_thread p t load ≡ true → same_thread p load n ≡ is_of_thread p t n
thread_is p t load n h = threads_from t (slice_get (nodes p) load) (slice_get (nodes p) n) h

regroup : (w s e : Bool) → ((w && s) && e) ≡ ((s && e) && w)
regroup true true e = at e where
  at : (e : Bool) → e ≡ (e && true)
  at true = refl
  at false = refl
regroup true false e = refl
regroup false true true = refl
regroup false true false = refl
regroup false false e = refl

-- a load's buffered stores are those to its word in its thread's buffer
pub buffered_are : (p : Program) (st : State) (t load word : ℕ) → is_of_thread p t load ≡ true → op_at p load ≡ Some (Load word) → buffered p st load ≡ filter (stores_to p word) (buffer p st t)
buffered_are p st t load word own is =
    filter_agree (λ n. (writes_for p load n && same_thread p load n) && not (has st.effects n)) (λ n. (is_of_thread p t n && not (has st.effects n)) && stores_to p word n)
    (λ n. ap (λ b. (b && same_thread p load n) && not (has st.effects n)) (writes_are p load word n is)
    ∙ ap (λ b. (stores_to p word n && b) && not (has st.effects n)) (thread_is p t load n own)
    ∙ regroup (stores_to p word n) (is_of_thread p t n) (not (has st.effects n)))
    st.executed
    ∙ sym (filter-filter (stores_to p word) (λ n. is_of_thread p t n && not (has st.effects n)) st.executed)

-- the walk from the newest entry on

pub none_behind : (test : ℕ → Bool) (xs : List ℕ) (k : ℕ) → k < length xs → test (get_or xs k 0) ≡ false → filter test (drop (k + 1) xs) ≡ [] → filter test (drop k xs) ≡ []
none_behind test xs k lt fails rest =
    ap (filter test) (drop_more xs k 0 lt) ∙ ap (λ b. cond b (get_or xs k 0 ∷ filter test (drop (k + 1) xs)) (filter test (drop (k + 1) xs))) fails ∙ rest

pub last_at : (test : ℕ → Bool) (xs : List ℕ) (k : ℕ) → k < length xs → test (get_or xs k 0) ≡ true → filter test (drop (k + 1) xs) ≡ [] → last_or None (filter test xs) ≡ Some (get_or xs k 0)
last_at test xs k lt passes rest =
    let here : filter test (drop k xs) ≡ get_or xs k 0 ∷ [] =
    ap (filter test) (drop_more xs k 0 lt)
    ∙ ap (λ b. cond b (get_or xs k 0 ∷ filter test (drop (k + 1) xs)) (filter test (drop (k + 1) xs))) passes
    ∙ ap (λ (ys : List ℕ). get_or xs k 0 ∷ ys) rest in
    ap (λ (ys : List ℕ). last_or None (filter test ys)) (sym (take-append-drop k xs))
    ∙ ap (last_or None) (filter-append test (take k xs) (drop k xs) ∙ ap (λ (ys : List ℕ). filter test (take k xs) ++ ys) here)
    ∙ last-push (filter test (take k xs)) (get_or xs k 0)
