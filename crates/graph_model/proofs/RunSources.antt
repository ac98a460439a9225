-- From which nodes an edge leads to a node.
use Rattle.std.proofs.Common.{◌≡◌, ◌≢◌, ◌⊎◌, ◌∙◌, ℕ, ◌+◌, ◌<◌, ◌≤◌, List, length, get_or, set, length-set, get_or-set_same, get_or-set_other, Bool, true, false, not, ◌&&◌, ◌||◌, inl, inr, arith, refl, sym, ap, subst}
use Rattle.std.specs.Prelude.{Option, Some, None, slice_get, nat_lt, ◌==◌, IsTrue}
use Rattle.std.specs.Option.{option_map, option_map_or}
use Rattle.std.proofs.lemmas.Bool.{cases_eq, cases_lt, eqb-true, eq-eqb}
use Rattle.test_lang.specs.declared.op.Op.{Op}
use Rattle.test_lang.specs.declared.op.Op.TheVariants.{Load, Store, Fence}
use Rattle.test_lang.specs.declared.op.Action.{Action}
use Rattle.test_lang.specs.declared.op.Action.TheVariants.{Load as LoadAction, Store as StoreAction, Fence as FenceAction}
use Rattle.test_lang.specs.Actions.{op_of}
use Rattle.test_lang.specs.declared.op.MemModel.{MemModel}
use Rattle.test_lang.specs.Program.{Program, nodes, actions, action_at, thread_at, op_count, first_node, at_action, passes, passes_after}
use Rattle.test_lang.specs.Values.{is_load, is_of, same_word, is_load_at, is_store_at, same_thread, one_word, value_of}
use Rattle.test_lang.specs.Kept.{is_kept}
use Rattle.test_lang.specs.Runs.{IsInside, value_read, writes_for, base_store}
use Rattle.test_lang.specs.Edges.{Edge}
use Rattle.test_lang.specs.EdgeList.{is_reads_from, is_before_later, is_before_any, is_base_store, is_written_before}
use Rattle.test_lang.proofs.Nodes.{same_thread_iff}
use Rattle.test_lang.proofs.Threads.{thread_at-stands}
use Rattle.test_lang.proofs.Ranks.{one_store}
use Rattle.test_lang.proofs.ActionNodes.{node_of, node-action, node-is}
use Rattle.test_lang.proofs.EdgeTests.{decides_edge, decides_written, decides_base, decides_reads_from, at_action-below, not-true}
use Rattle.test_lang.proofs.CandidateKinds.{IsCandidate, inside_candidate}
use Rattle.test_lang.proofs.CandidateKinds.IsCandidate.{initial, own, other}
use Rattle.digraph.specs.Marks.{MarksWhere, MarksSources}
use Rattle.digraph.proofs.Marks.{marks_idle, marks_like, marks_both}
use Rattle.graph_model.specs.declared.kinds.Kind.TheVariants.{LoadOfWord}
use Rattle.graph_model.specs.FewKept.{is_kind}
use Rattle.graph_model.specs.NearestNodes.{last_node}
use Rattle.graph_model.specs.WordLoads.{last_load}
use Rattle.graph_model.proofs.LaterStores.{IsBefore, decides_before, before_no_store}
use Rattle.graph_model.proofs.Near.{last_below-some}
use Rattle.graph_model.proofs.Beside.{both, both_true, kept_pair}
use Rattle.graph_model.proofs.WordLoads.{none_passes}

-- kept operations are earlier ones of the thread
pub kept_from : (m : MemModel) (p : Program) (a t u : ℕ) → thread_at p t ≡ Some u → is_kept m p a t ≡ true → (first_node p u ≤ a) × (a < t)
kept_from m p a t u e h =
    let k = kept_pair m p a t h in
    let second : thread_at p t ≡ Some k.thread = ap (option_map (λ (node : ℕ × Op). node.0)) (node-is p t k.thread k.second k.second_is) in
    let both_threads : ◌≡◌ {A = Option ℕ} (Some k.thread) (Some u) = sym second ∙ e in
    let same : k.thread ≡ u = cc in
    let first : thread_at p a ≡ Some u = ap (option_map (λ (node : ℕ × Op). node.0)) (node-is p a k.thread k.first k.first_is) ∙ ap Some same in
    ((thread_at-stands p a u first).from, k.earlier)

false_of : (b : Bool) → (b ≡ true → ⊥) → b ≡ false
false_of true h = absurd (h refl)
false_of false h = refl

-- nodes of two threads are no kept pair
pub not_kept : (m : MemModel) (p : Program) (a b t u : ℕ) → thread_at p a ≡ Some t → thread_at p b ≡ Some u → (t == u) ≡ false → is_kept m p a b ≡ false
not_kept m p a b t u a_in b_in differ = false_of (is_kept m p a b) (λ h.
    let k = kept_pair m p a b h in
    let first : thread_at p a ≡ Some k.thread = ap (option_map (λ (node : ℕ × Op). node.0)) (node-is p a k.thread k.first k.first_is) in
    let second : thread_at p b ≡ Some k.thread = ap (option_map (λ (node : ℕ × Op). node.0)) (node-is p b k.thread k.second k.second_is) in
    let one : ◌≡◌ {A = Option ℕ} (Some t) (Some k.thread) = sym a_in ∙ first in
    let two : ◌≡◌ {A = Option ℕ} (Some u) (Some k.thread) = sym b_in ∙ second in
    let same : t ≡ u = cc in
    let yes : (t == u) ≡ true = eq-eqb t u same in
    absurd cc)

-- the store that a load reads

pub reads_are : (p : Program) (run : List ℕ) (a load : ℕ) → is_reads_from p run a load ≡ true → (is_store_at p a ≡ true) × (value_read p run load ≡ value_of p a) × (same_thread p a load ≡ false)
reads_are p run a load h =
    let parts = both (is_store_at p a && is_load_at p load) ((value_read p run load == value_of p a) && not (same_thread p a load)) h in
    let more = both (value_read p run load == value_of p a) (not (same_thread p a load)) parts.1 in (
      (both (is_store_at p a) (is_load_at p load) parts.0).0,
      eqb-true (value_read p run load) (value_of p a) more.0,
      not-true (same_thread p a load) more.1,
    )

true-not : (b : Bool) → b ≡ false → not b ≡ true
true-not true h = absurd cc
true-not false h = refl

pub reads_from_it : (p : Program) (run : List ℕ) (store load : ℕ) → is_store_at p store ≡ true → is_load_at p load ≡ true → value_read p run load ≡ value_of p store → same_thread p store load ≡ false →
    is_reads_from p run store load ≡ true
reads_from_it p run store load s l v apart =
    both_true (is_store_at p store && is_load_at p load) ((value_read p run load == value_of p store) && not (same_thread p store load)) (both_true (is_store_at p store) (is_load_at p load) s l)
    (both_true (value_read p run load == value_of p store) (not (same_thread p store load)) (eq-eqb (value_read p run load) (value_of p store) v) (true-not (same_thread p store load) apart))

module _ (p : Program) (run : List ℕ) (load store t u : ℕ) (is_store : is_store_at p store ≡ true) (value : value_read p run load ≡ value_of p store)
    (store_in : thread_at p store ≡ Some t) (load_in : thread_at p load ≡ Some u) where
  read_is : (a : ℕ) → is_reads_from p run a load ≡ true → a ≡ store
  read_is a h = let r = reads_are p run a load h in one_store p a store r.0 is_store (sym r.1 ∙ value)

  pub reads_it : is_load_at p load ≡ true → t ≢ u → (mark : ℕ) (old new : List ℕ) → MarksWhere (λ a. a ≡ store) mark old new → MarksWhere (λ a. IsTrue (is_reads_from p run a load)) mark old new
  reads_it l apart mark old new marks =
      let different : same_thread p store load ≡ false = false_of (same_thread p store load) (λ h. apart ((same_thread_iff p store load t u store_in load_in).0 h)) in
      marks_like (λ a. a ≡ store) (λ a. IsTrue (is_reads_from p run a load)) mark old new
      (λ a same. subst (λ (n : ℕ). is_reads_from p run n load ≡ true) (sym same) (reads_from_it p run store load is_store l value different)) read_is marks

  pub reads_own : t ≡ u → (mark : ℕ) (old : List ℕ) → MarksWhere (λ a. IsTrue (is_reads_from p run a load)) mark old old
  reads_own same mark old =
      marks_idle (λ a. IsTrue (is_reads_from p run a load)) mark old (λ a zero h.
      let at = read_is a h in
      let apart : same_thread p store load ≡ false = subst (λ (n : ℕ). same_thread p n load ≡ false) at (reads_are p run a load h).2 in
      let together : same_thread p store load ≡ true = (same_thread_iff p store load t u store_in load_in).1 same in
      cc)

-- the loads that come before a store

abbrev pub Before : Program → List ℕ → ℕ → ℕ → Type 0
Before p run a b = IsTrue (is_before_later p run a b || is_before_any p run a b)

candidate_word : (p : Program) (load value store : ℕ) → IsCandidate p load value → is_store_at p store ≡ true → value ≡ value_of p store → one_word p load store ≡ true
candidate_word p load value store (initial zero none) s v = absurd (omega (arith, zero, v))
candidate_word p load value store (own w earlier e last) s v =
    let writes = both (is_store_at p w) (one_word p load w) (both (writes_for p load w) (same_thread p load w && nat_lt w load) earlier).0 in
    let same : w ≡ store = one_store p w store writes.0 s (e ∙ v) in
    subst (λ (n : ℕ). one_word p load n ≡ true) same writes.1
candidate_word p load value store (other w writing far e) s v =
    let writes = both (is_store_at p w) (one_word p load w) writing in
    let same : w ≡ store = one_store p w store writes.0 s (e ∙ v) in
    subst (λ (n : ℕ). one_word p load n ≡ true) same writes.1

of_one : (w : ℕ) (b c : Op) → is_of w b ≡ true → same_word b c ≡ true → is_of w c ≡ true
of_one w (Load v) c h k = subst (λ (n : ℕ). is_of n c ≡ true) (sym (eqb-true w v h)) k
of_one w (Store v) c h k = subst (λ (n : ℕ). is_of n c ≡ true) (sym (eqb-true w v h)) k
of_one w Fence c h k = absurd cc

word_along : (a b c : Op) → same_word a b ≡ true → same_word b c ≡ true → same_word a c ≡ true
word_along (Load w) b c h k = of_one w b c h k
word_along (Store w) b c h k = of_one w b c h k
word_along Fence b c h k = absurd cc

word_back : (a b : Op) → same_word a b ≡ true → same_word b a ≡ true
word_back (Load w) (Load v) h = eq-eqb v w (sym (eqb-true w v h))
word_back (Load w) (Store v) h = eq-eqb v w (sym (eqb-true w v h))
word_back (Load w) Fence h = absurd cc
word_back (Store w) (Load v) h = eq-eqb v w (sym (eqb-true w v h))
word_back (Store w) (Store v) h = eq-eqb v w (sym (eqb-true w v h))
word_back (Store w) Fence h = absurd cc
word_back Fence b h = absurd cc

words_from : (x y z : Option (ℕ × Op)) → passes_after (λ first second. same_word first.1 second.1) x y ≡ true → passes_after (λ first second. same_word first.1 second.1) y z ≡ true →
    passes_after (λ first second. same_word first.1 second.1) x z ≡ true
words_from None y z h k = h
words_from (Some x) None z h k = absurd cc
words_from (Some x) (Some y) None h k = k
words_from (Some x) (Some y) (Some z) h k = word_along x.1 y.1 z.1 h k

pub before_word : (p : Program) (run : List ℕ) (a b : ℕ) → IsInside p run → Before p run a b → (is_load_at p a ≡ true) × (one_word p a b ≡ true)
before_word p run a b inside h = told ((decides_before p run a b).0 h) where
  told : IsBefore p run a b → (is_load_at p a ≡ true) × (one_word p a b ≡ true)
  told (inl later) =
      let load = later.1.0.0 in
      let given = candidate_word p a (value_read p run a) later.0 (inside_candidate p run a inside load) later.1.0.1.0 later.1.0.1.1 in
      (load, words_from (slice_get (nodes p) a) (slice_get (nodes p) later.0) (slice_get (nodes p) b) given later.1.1.1.1)
  told (inr any) = (any.0.0, any.1.1)

kind_from : (x y : Option (ℕ × Action)) (action : Action) → option_map (λ node. node.1) y ≡ Some action → passes (λ node. is_load node.1) (option_map node_of x) ≡ true →
    passes_after (λ first second. same_word first.1 second.1) (option_map node_of x) (option_map node_of y) ≡ true → option_map_or (λ node. is_kind LoadOfWord action node.1) x false ≡ true
kind_from None y action e h k = absurd cc
kind_from (Some x) None action e h k = absurd cc
kind_from (Some x) (Some y) action e h k =
    let same : y.1 ≡ action = cc in
    both_true (same_word (op_of action) (op_of x.1)) (is_load (op_of x.1))
    (subst (λ (o : Action). same_word (op_of o) (op_of x.1) ≡ true) same (word_back (op_of x.1) (op_of y.1) k)) h

-- a load of the word of an action is of the kind
pub word_kind : (p : Program) (a b : ℕ) (action : Action) → action_at p b ≡ Some action → is_load_at p a ≡ true → one_word p a b ≡ true → at_action (λ node. is_kind LoadOfWord action node.1) p a ≡ true
word_kind p a b action e load word =
    kind_from (slice_get (actions p) a) (slice_get (actions p) b) action e
    (sym (ap (passes (λ node. is_load node.1)) (node-action p a)) ∙ load)
    (sym (ap (λ (x : Option (ℕ × Op)). passes_after (λ first second. same_word first.1 second.1) x (slice_get (nodes p) b)) (node-action p a)
    ∙ ap (passes_after (λ first second. same_word first.1 second.1) (option_map node_of (slice_get (actions p) a))) (node-action p b)) ∙ word)

-- the loads that come before a store are among the loads of its word
pub before_kind : (p : Program) (run : List ℕ) (a b : ℕ) (action : Action) → IsInside p run → action_at p b ≡ Some action → Before p run a b → at_action (λ node. is_kind LoadOfWord action node.1) p a ≡ true
before_kind p run a b action inside e h = let parts = before_word p run a b inside h in word_kind p a b action e parts.0 parts.1

loaded_from : (x : Option (ℕ × Action)) (action : Action) → option_map_or (λ node. is_kind LoadOfWord action node.1) x false ≡ true → passes (λ node. is_load node.1) (option_map node_of x) ≡ true
loaded_from None action h = absurd cc
loaded_from (Some x) action h = (both (same_word (op_of action) (op_of x.1)) (is_load (op_of x.1)) h).1

pub kind_is_load : (p : Program) (n : ℕ) (action : Action) → at_action (λ node. is_kind LoadOfWord action node.1) p n ≡ true → is_load_at p n ≡ true
kind_is_load p n action h = ap (passes (λ node. is_load node.1)) (node-action p n) ∙ loaded_from (slice_get (actions p) n) action h

-- so are the loads that give it
pub reads_kind : (p : Program) (run : List ℕ) (store load : ℕ) (action : Action) → IsInside p run → action_at p store ≡ Some action → is_reads_from p run store load ≡ true →
    at_action (λ node. is_kind LoadOfWord action node.1) p load ≡ true
reads_kind p run store load action inside e h =
    let r = (decides_reads_from p run store load).0 h in
    let word = candidate_word p load (value_read p run load) store (inside_candidate p run load inside r.0.1) r.0.0 r.1.0 in
    word_kind p load store action e r.0.1 word

-- the loads of one word are those of another action of it

loads_of_word : ℕ → Action → Bool
loads_of_word w action = is_of w (op_of action) && is_load (op_of action)

kind_same : (action x : Action) → same_word (op_of action) (op_of x) ≡ true → is_kind LoadOfWord action ≡ is_kind LoadOfWord x
unfolding loads_of_word
kind_same (LoadAction w) (LoadAction v) h = ap loads_of_word (eqb-true w v h)
kind_same (LoadAction w) (StoreAction v) h = ap loads_of_word (eqb-true w v h)
kind_same (LoadAction w) (FenceAction kind) h = absurd cc
kind_same (StoreAction w) (LoadAction v) h = ap loads_of_word (eqb-true w v h)
kind_same (StoreAction w) (StoreAction v) h = ap loads_of_word (eqb-true w v h)
kind_same (StoreAction w) (FenceAction kind) h = absurd cc
kind_same (FenceAction kind) x h = absurd cc

passing_action : (x : Option (ℕ × Action)) (action : Action) → option_map_or (λ node. is_kind LoadOfWord action node.1) x false ≡ true
    → (own : Action) × (option_map (λ node. node.1) x ≡ Some own) × (same_word (op_of action) (op_of own) ≡ true)
passing_action None action h = absurd cc
passing_action (Some x) action h = (x.1, refl, (both (same_word (op_of action) (op_of x.1)) (is_load (op_of x.1)) h).0)

-- over any nodes that the loads of a word from a node on give
module _ (p : Program) (store : ℕ) (action : Action) (at : action_at p store ≡ Some action) (mark : ℕ) (old : List ℕ) (Source : ℕ → ℕ → Type 0)
    (of_word : (load a : ℕ) → Source load a → at_action (λ node. is_kind LoadOfWord action node.1) p load ≡ true) where
  -- what the loads from a node on give has the mark
  abbrev pub MarksFrom : ℕ → List ℕ → Type 0
  MarksFrom m new = MarksWhere (λ a. (load : ℕ) × (m ≤ load) × Source load a) mark old new

  pub marks_from_end : MarksFrom (op_count p) old
  marks_from_end = marks_idle (λ a. (load : ℕ) × (op_count p ≤ load) × Source load a) mark old (λ a zero h.
      let out = h.1 in
      let below = at_action-below (λ node. is_kind LoadOfWord action node.1) p h.0 (of_word h.0 a h.2) in
      omega (arith, out, below))

  behind : (m load : ℕ) → ((k : ℕ) → load < k → k < m → at_action (λ node. is_kind LoadOfWord action node.1) p k ≡ false) → (l a : ℕ) → load ≤ l → l ≢ load → Source l a → m ≤ l
  behind m load none l a ge apart h = elim (cases_lt l m) [
    | inl lt ↦
        let passing = of_word l a h in
        let failing = none l (omega (arith, ge, apart)) lt in
        absurd cc
    | inr out ↦ out
  ]

  -- one load more
  pub marks_from_load : (m load : ℕ) (mid new : List ℕ) → last_load p m action ≡ Some load → MarksFrom m mid → MarksWhere (λ a. Source load a) mark mid new → MarksFrom load new
  marks_from_load m load mid new e from marks =
      let test : ℕ → Bool = at_action (λ node. is_kind LoadOfWord action node.1) p in
      let l = last_below-some test m load e in
      let lt = l.below in
      let Later : ℕ → Type 0 = λ a. (l : ℕ) × (m ≤ l) × Source l a in
      let All : ℕ → Type 0 = λ a. (l : ℕ) × (load ≤ l) × Source l a in
      marks_like (λ a. Later a ⊎ Source load a) All mark old new
      (λ a either. elim either [ inl h ↦ let ge = h.1 in (h.0, omega (arith, ge, lt), h.2) | inr h ↦ (load, omega arith, h) ])
      (λ a h. elim (cases_eq h.0 load) [
        | inl same ↦ inr (subst (λ (k : ℕ). Source k a) same h.2)
        | inr apart ↦ inl (h.0, behind m load l.none_between h.0 a h.1 apart h.2, h.2)
      ])
      (marks_both Later (λ a. Source load a) mark old mid new from marks)

  -- no load is left
  pub marks_from_none : (m : ℕ) (new : List ℕ) → last_load p m action ≡ None → MarksFrom m new → MarksWhere (λ a. (load : ℕ) × Source load a) mark old new
  marks_from_none m new e from =
      marks_like (λ a. (load : ℕ) × (m ≤ load) × Source load a) (λ a. (load : ℕ) × Source load a) mark old new (λ a h. (h.0, h.2))
      (λ a h. elim (cases_lt h.0 m) [
        | inl lt ↦ absurd (none_passes (at_action (λ node. is_kind LoadOfWord action node.1) p) m e h.0 lt (of_word h.0 a h.1))
        | inr out ↦ (h.0, out, h.1)
      ]) from

-- the load's own entry of the table tells the next one
pub next_load : (p : Program) (action : Action) (m load : ℕ) → last_load p m action ≡ Some load → (own : Action) × (action_at p load ≡ Some own) × (last_load p load own ≡ last_load p load action)
next_load p action m load e =
    let l = last_below-some (at_action (λ node. is_kind LoadOfWord action node.1) p) m load e in
    let o = passing_action (slice_get (actions p) load) action l.passes in
    (o.0, o.1, ap (λ (test : Action → Bool). last_node p load test) (sym (kind_same action o.0 o.2)))

-- what a load gives to the nodes before a store: itself, where it comes before the store; or its base store, where it gives the store

abbrev pub GivesItself : Program → List ℕ → ℕ → ℕ → ℕ → Type 0
GivesItself p run store load a = (a ≡ load) × Before p run a store

abbrev pub GivesBase : Program → List ℕ → ℕ → ℕ → ℕ → Type 0
GivesBase p run store load a = IsTrue (is_reads_from p run store load) × IsTrue (is_base_store p load a)

pub itself_of_word : (p : Program) (run : List ℕ) (store : ℕ) (action : Action) → IsInside p run → action_at p store ≡ Some action → (load a : ℕ) → GivesItself p run store load a
    → at_action (λ node. is_kind LoadOfWord action node.1) p load ≡ true
itself_of_word p run store action inside at load a h = before_kind p run load store action inside at (subst (λ (k : ℕ). Before p run k store) h.0 h.1)

pub base_of_word : (p : Program) (run : List ℕ) (store : ℕ) (action : Action) → IsInside p run → action_at p store ≡ Some action → (load a : ℕ) → GivesBase p run store load a
    → at_action (λ node. is_kind LoadOfWord action node.1) p load ≡ true
base_of_word p run store action inside at load a h = reads_kind p run store load action inside at h.0

pub all_before : (p : Program) (run : List ℕ) (store mark : ℕ) (old new : List ℕ) → MarksWhere (λ a. (load : ℕ) × GivesItself p run store load a) mark old new → MarksWhere (λ a. Before p run a store) mark old new
all_before p run store mark old new marks =
    marks_like (λ a. (load : ℕ) × GivesItself p run store load a) (λ a. Before p run a store) mark old new (λ a h. h.1.1) (λ a h. (a, (refl, h))) marks

pub all_written : (p : Program) (run : List ℕ) (store mark : ℕ) (old new : List ℕ) → MarksWhere (λ a. (load : ℕ) × GivesBase p run store load a) mark old new
    → MarksWhere (λ a. IsTrue (is_written_before p run a store)) mark old new
all_written p run store mark old new marks =
    marks_like (λ a. (load : ℕ) × GivesBase p run store load a) (λ a. IsTrue (is_written_before p run a store)) mark old new
    (λ a h. (decides_written p run a store).1 (h.0, ((decides_reads_from p run store h.0).0 h.1.0, (decides_base p h.0 a).0 h.1.1)))
    (λ a h. let w = (decides_written p run a store).0 h in (w.0, ((decides_reads_from p run store w.0).1 w.1.0, (decides_base p w.0 a).1 w.1.1)))
    marks

-- the edges by loads, by the operation that they lead to

or_false : (x : Bool) → x ≡ (x || false)
or_false true = refl
or_false false = refl

or_true : (x y : Bool) → (x ≡ true) ⊎ (y ≡ true) → (x || y) ≡ true
or_true true y h = refl
or_true false y (inl h) = absurd cc
or_true false y (inr h) = h

true_or : (x y : Bool) → (x || y) ≡ true → (x ≡ true) ⊎ (y ≡ true)
true_or true y h = inl refl
true_or false y h = inr h

no_reads : (p : Program) (run : List ℕ) (a b : ℕ) → is_load_at p b ≡ false → is_reads_from p run a b ≡ false
no_reads p run a b e = false_of (is_reads_from p run a b) (λ h.
    let parts = both (is_store_at p a && is_load_at p b) ((value_read p run b == value_of p a) && not (same_thread p a b)) h in
    let load = (both (is_store_at p a) (is_load_at p b) parts.0).1 in
    cc)

no_written : (p : Program) (run : List ℕ) (a b : ℕ) → is_store_at p b ≡ false → is_written_before p run a b ≡ false
no_written p run a b e = false_of (is_written_before p run a b) (λ h. let store = ((decides_written p run a b).0 h).1.0.0.0 in cc)

-- whether an edge leads from a to b because of what a load gives
abbrev pub by_loads : Program → List ℕ → ℕ → ℕ → Bool
by_loads p run b a = is_reads_from p run a b || (is_before_later p run a b || (is_before_any p run a b || is_written_before p run a b))

regroup : (x y z : Bool) → ((x || y) || z) ≡ (x || (y || z))
regroup true y z = refl
regroup false y z = refl

module _ (p : Program) (run : List ℕ) (to mark : ℕ) where
  to_load_is : is_store_at p to ≡ false → (a : ℕ) → is_reads_from p run a to ≡ by_loads p run to a
  to_load_is e a =
      or_false (is_reads_from p run a to)
      ∙ ap (λ (b : Bool). is_reads_from p run a to || b)
      (before_no_store p run a to e
      ∙ or_false (is_before_later p run a to || is_before_any p run a to)
      ∙ ap (λ (b : Bool). (is_before_later p run a to || is_before_any p run a to) || b) (sym (no_written p run a to e))
      ∙ regroup (is_before_later p run a to) (is_before_any p run a to) (is_written_before p run a to))

  to_store_is : is_load_at p to ≡ false → (a : ℕ) → ((is_before_later p run a to || is_before_any p run a to) || is_written_before p run a to) ≡ by_loads p run to a
  to_store_is e a =
      regroup (is_before_later p run a to) (is_before_any p run a to) (is_written_before p run a to)
      ∙ sym (ap (λ (b : Bool). b || (is_before_later p run a to || (is_before_any p run a to || is_written_before p run a to))) (no_reads p run a to e))

  pub marks_to_load : (old new : List ℕ) → is_store_at p to ≡ false → MarksWhere (λ a. IsTrue (is_reads_from p run a to)) mark old new → MarksWhere (λ a. IsTrue (by_loads p run to a)) mark old new
  marks_to_load old new e marks =
      marks_like (λ a. IsTrue (is_reads_from p run a to)) (λ a. IsTrue (by_loads p run to a)) mark old new (λ a h. sym (to_load_is e a) ∙ h) (λ a h. to_load_is e a ∙ h) marks

  pub marks_to_store : (old mid new : List ℕ) → is_load_at p to ≡ false → MarksWhere (λ a. Before p run a to) mark old mid → MarksWhere (λ a. IsTrue (is_written_before p run a to)) mark mid new
      → MarksWhere (λ a. IsTrue (by_loads p run to a)) mark old new
  marks_to_store old mid new e before written =
      marks_like (λ a. Before p run a to ⊎ IsTrue (is_written_before p run a to)) (λ a. IsTrue (by_loads p run to a)) mark old new
      (λ a h. sym (to_store_is e a) ∙ or_true (is_before_later p run a to || is_before_any p run a to) (is_written_before p run a to) h)
      (λ a h. true_or (is_before_later p run a to || is_before_any p run a to) (is_written_before p run a to) (to_store_is e a ∙ h))
      (marks_both (λ a. Before p run a to) (λ a. IsTrue (is_written_before p run a to)) mark old mid new before written)

  pub marks_to_fence : (old : List ℕ) → is_load_at p to ≡ false → is_store_at p to ≡ false → MarksWhere (λ a. IsTrue (by_loads p run to a)) mark old old
  marks_to_fence old l s = marks_idle (λ a. IsTrue (by_loads p run to a)) mark old (λ a zero h.
      let none : false ≡ by_loads p run to a = sym (no_reads p run a to l) ∙ to_load_is s a in
      cc)

-- kept operations and the others are all sources

pub all_sources : (m : MemModel) (p : Program) (run : List ℕ) (to mark : ℕ) (old mid new : List ℕ) → MarksWhere (λ a. IsTrue (is_kept m p a to)) mark old mid →
    MarksWhere (λ a. IsTrue (by_loads p run to a)) mark mid new → MarksSources (Edge m p run) to mark old new
all_sources m p run to mark old mid new kept others =
    marks_like (λ a. IsTrue (is_kept m p a to) ⊎ IsTrue (by_loads p run to a)) (λ a. Edge m p run a to) mark old new
    (λ a h. (decides_edge m p run a to).0 (or_true (is_kept m p a to) (by_loads p run to a) h))
    (λ a e. true_or (is_kept m p a to) (by_loads p run to a) ((decides_edge m p run a to).1 e))
    (marks_both (λ a. IsTrue (is_kept m p a to)) (λ a. IsTrue (by_loads p run to a)) mark old mid new kept others)

-- the base store of a load that gives the store, or doesn't

module _ (p : Program) (run : List ℕ) (store load t u mark : ℕ) (old : List ℕ) (is_store : is_store_at p store ≡ true) (is_load_node : is_load_at p load ≡ true)
    (store_in : thread_at p store ≡ Some t) (load_in : thread_at p load ≡ Some u) where
  pub base_marked : (base : ℕ) (new : List ℕ) → base_store p load ≡ Some base → value_read p run load ≡ value_of p store → u ≢ t → MarksWhere (λ a. a ≡ base) mark old new
      → MarksWhere (λ a. GivesBase p run store load a) mark old new
  base_marked base new found value apart marks =
      let different : same_thread p store load ≡ false = false_of (same_thread p store load) (λ h. apart (sym ((same_thread_iff p store load t u store_in load_in).0 h))) in
      let reads = reads_from_it p run store load is_store is_load_node value different in
      marks_like (λ a. a ≡ base) (λ a. GivesBase p run store load a) mark old new
      (λ a same. (reads, (decides_base p load a).1 (found ∙ ap Some (sym same))))
      (λ a h. let both_found : ◌≡◌ {A = Option ℕ} (Some a) (Some base) = sym ((decides_base p load a).0 h.1) ∙ found in cc)
      marks

  pub no_base_marked : base_store p load ≡ None → MarksWhere (λ a. GivesBase p run store load a) mark old old
  no_base_marked none = marks_idle (λ a. GivesBase p run store load a) mark old (λ a zero h.
      let differ : ◌≡◌ {A = Option ℕ} None (Some a) = sym none ∙ (decides_base p load a).0 h.1 in
      cc)

  pub other_value_marked : (value_read p run load ≡ value_of p store → ⊥) → MarksWhere (λ a. GivesBase p run store load a) mark old old
  other_value_marked differ = marks_idle (λ a. GivesBase p run store load a) mark old (λ a zero h. differ ((reads_are p run store load h.0).1))

  pub own_value_marked : u ≡ t → MarksWhere (λ a. GivesBase p run store load a) mark old old
  own_value_marked same = marks_idle (λ a. GivesBase p run store load a) mark old (λ a zero h.
      let apart = (reads_are p run store load h.0).2 in
      let together : same_thread p store load ≡ true = (same_thread_iff p store load t u store_in load_in).1 (sym same) in
      cc)

-- one more node is looked at

pub node_marked : (K : ℕ → Type 0) (mark : ℕ) (old now : List ℕ) (n : ℕ) → n < length old → get_or now n 0 ≡ 0 → K n → MarksWhere (λ a. (a < n) × K a) mark old now → MarksWhere (λ a. (a < n + 1) × K a) mark old (set now n mark)
node_marked K mark old now n within zero is h = record {
  room = length-set now n mark ∙ h.room;
  kept = λ x some. elim (cases_eq x n) [
    | inl same ↦
        let here = h.kept x some in
        let none : get_or now x 0 ≡ 0 = subst (λ (k : ℕ). get_or now k 0 ≡ 0) (sym same) zero in
        absurd (some (sym here ∙ none))
    | inr differ ↦ get_or-set_other now n x mark 0 differ ∙ h.kept x some
  ];
  fresh = λ x none. elim (cases_eq x n) [
    | inl same ↦
        let place : n < length now = let room = h.room in omega (arith, within, room) in
        inl (subst (λ (k : ℕ). get_or (set now n mark) k 0 ≡ mark) (sym same) (get_or-set_same now n mark 0 place), (omega (arith, same), subst K (sym same) is))
    | inr differ ↦
        let stays = get_or-set_other now n x mark 0 differ in
        elim (h.fresh x none) [
          | inl there ↦ let lt = there.1.0 in inl (stays ∙ there.0, (omega (arith, lt), there.1.1))
          | inr free ↦ inr (stays ∙ free.0, λ (q : (x < n + 1) × K x). let lt = q.0 in free.1 (omega (arith, lt, differ), q.1))
        ]
  ];
}

pub node_passed : (K : ℕ → Type 0) (mark : ℕ) (old now : List ℕ) (n : ℕ) → ((get_or now n 0 ≡ 0) → K n → ⊥) → MarksWhere (λ a. (a < n) × K a) mark old now → MarksWhere (λ a. (a < n + 1) × K a) mark old now
node_passed K mark old now n none_here h = record {
  room = h.room;
  kept = h.kept;
  fresh = λ x none. elim (h.fresh x none) [
    | inl there ↦ let lt = there.1.0 in inl (there.0, (omega (arith, lt), there.1.1))
    | inr free ↦ inr (
      free.0,
      λ (q : (x < n + 1) × K x). elim (cases_eq x n) [
        | inl same ↦ none_here (subst (λ (k : ℕ). get_or now k 0 ≡ 0) same free.0) (subst K same q.1)
        | inr differ ↦ let lt = q.0 in free.1 (omega (arith, lt, differ), q.1)
      ],
    )
  ];
}
