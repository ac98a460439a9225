-- Lists of tasks, and threads that are gathered in one seat.
use Rattle.std.proofs.Common.{◌≡◌, ℕ, zero, suc, ◌+◌, ◌<◌, List, [], ◌∷◌, ◌++◌, length, refl, sym, ap, ◌∙◌, subst, arith}
use Rattle.std.specs.Prelude.{slice_index_or}
use Rattle.std.specs.List.{flat_map, remove}
use Rattle.std.proofs.lemmas.List.{append_assoc}
use Rattle.std.proofs.lemmas.List.Concat.{flat_map-cons}
use mathlib.Core.Option.{some}
use lib.ListN.{get_elem?}
use Rattle.orders.specs.Orders.{nodes_below}
use Rattle.atomic_table.proofs.Lists.{at_longer}
use Rattle.atomic_table.specs.Seated.{TableId}
use Rattle.sim_core.proofs.BelowLists.{flat_below-suc}
use Rattle.test_lang.specs.Program.{Program, thread_length}
use Rattle.shared_words.specs.declared.racer.Task.{Task}
use Rattle.shared_words.specs.declared.rule.Part.{Part}
use Rattle.shared_words.specs.declared.rule.View.{View}
use Rattle.shared_words.specs.Interleavings.{IsInterleaved}
use Rattle.shared_words.specs.Racers.{RacerState, racer_state, fresh, part_of}
use Rattle.shared_words.specs.Rule.{newcomer, keeper_after, IsReachedBy}
use Rattle.shared_words.specs.Steps.{own}
use Rattle.shared_words.specs.Tasks.{HasRun, HaveRun, HasEach}
use Rattle.shared_words.proofs.Reaching.{is_done_play, run_is}

-- lists that stand one behind the other, told by their number
flat_shift : (g : ℕ → List ℕ) (n : ℕ) → flat_map g (nodes_below (suc n)) ≡ g 0 ++ flat_map (λ k. g (suc k)) (nodes_below n)
flat_shift g zero = flat_map-cons g 0 []
flat_shift g (suc n) =
    flat_below-suc g (suc n)
    ∙ ap (λ (xs : List ℕ). xs ++ g (suc n)) (flat_shift g n)
    ∙ append_assoc (g 0) (flat_map (λ k. g (suc k)) (nodes_below n)) (g (suc n))
    ∙ ap (λ (xs : List ℕ). g 0 ++ xs) (sym (flat_below-suc (λ k. g (suc k)) n))

module _ {A : Type 0} where
  -- what holds of each element and of a new last one holds of each
  pub all_push : (P : ℕ → A → Type 0) (xs : List A) (x : A) → ((k : ℕ) (d : A) → k < length xs → P k (slice_index_or xs k d)) → P (length xs) x
      → (k : ℕ) (d : A) → k < length (xs ++ x ∷ []) → P k (slice_index_or (xs ++ x ∷ []) k d)
  all_push P [] x all last zero d low = last
  all_push P [] x all last (suc k) d low = absurd (omega (arith, low))
  all_push P (y ∷ ys) x all last zero d low = all zero d (omega arith)
  all_push P (y ∷ ys) x all last (suc k) d low = all_push (λ j. P (suc j)) ys x (λ j e under. all (suc j) e (omega (arith, under))) last k d (omega (arith, low))

  -- what holds of a new first one and of each element behind it holds of each
  pub all_first : (P : ℕ → A → Type 0) (x : A) (xs : List A) → P 0 x → ((k : ℕ) (d : A) → k < length xs → P (k + 1) (slice_index_or xs k d))
      → (k : ℕ) (d : A) → k < length (x ∷ xs) → P k (slice_index_or (x ∷ xs) k d)
  all_first P x xs first all zero d low = first
  all_first P x xs first all (suc k) d low = let one : k + 1 ≡ suc k = omega arith in subst (λ (j : ℕ). P j (slice_index_or xs k d)) one (all k d (omega (arith, low)))

  pub index_there : (xs ys : List A) (x d : A) → slice_index_or (xs ++ x ∷ ys) (length xs) d ≡ x
  index_there [] ys x d = refl
  index_there (y ∷ xs) ys x d = index_there xs ys x d

  pub length_there : (xs ys : List A) (x : A) → length xs < length (xs ++ x ∷ ys)
  length_there [] ys x = omega arith
  length_there (y ∷ xs) ys x = let more = length_there xs ys x in omega (arith, more)

  pub is_empty : (xs : List A) → length xs ≡ 0 → xs ≡ []
  is_empty [] none = refl
  is_empty (x ∷ xs) none = absurd (omega (arith, none))

  elem_there : (xs ys : List A) (x : A) → get_elem? (xs ++ x ∷ ys) (length xs) ≡ some x
  elem_there [] ys x = refl
  elem_there (y ∷ xs) ys x = elem_there xs ys x

  -- a list whose first element is taken
  pub taken_first : (xs rest : List A) (x : A) → 0 < length xs → rest ≡ remove xs 0 → x ≡ slice_index_or xs 0 x → xs ≡ x ∷ rest
  taken_first [] rest x full is value = absurd (omega (arith, full))
  taken_first (y ∷ xs) rest x full is value = λ i. sym value i ∷ sym is i

  pub flat_by_number : (f : A → List ℕ) (g : ℕ → List ℕ) (xs : List A) → ((k : ℕ) (d : A) → k < length xs → f (slice_index_or xs k d) ≡ g k) → flat_map f xs ≡ flat_map g (nodes_below (length xs))
  flat_by_number f g [] each = refl
  flat_by_number f g (x ∷ xs) each =
      flat_map-cons f x xs
      ∙ ap (λ (ys : List ℕ). ys ++ flat_map f xs) (each 0 x (omega arith))
      ∙ ap (λ (ys : List ℕ). g 0 ++ ys) (flat_by_number f (λ k. g (suc k)) xs (λ k d low. each (suc k) d (omega (arith, low))))
      ∙ sym (flat_shift g (length xs))

-- a thread that was just made
pub fresh_other : (z : TableId) (n k : ℕ) → racer_state z (newcomer (k + 1)) ≡ fresh z n (k + 1)
fresh_other z n k = let one : suc k ≡ k + 1 = omega arith in subst (λ (j : ℕ). racer_state z (newcomer j) ≡ fresh z n j) one refl

-- a thread among those that have run
pub ran_there : (z : TableId) (p : Program) (tasks done rest : List Task) (task : Task) → done ++ task ∷ rest ≡ tasks → HaveRun z p tasks → HasRun z p (length done) task
ran_there z p tasks done rest task whole ran =
    subst (HasRun z p (length done)) (index_there done rest task task)
    (subst (HaveRun z p) (sym whole) ran (length done) task (length_there done rest task))

module _ (z : TableId) (u : View) (task : Task) (seen : racer_state z u ≡ task.racer) (parts : u.parts ≡ own u ∷ []) where
  own_is : own u ≡ part_of task.racer
  own_is = ap part_of seen

  pub has_first : HasEach u (task ∷ [])
  has_first = all_push (λ k other. (i : ℕ) × (get_elem? u.parts i ≡ some (part_of other.racer))) [] task (λ k d low. absurd (omega (arith, low)))
      (0, ap (λ (ps : List Part). get_elem? ps 0) parts ∙ ap some own_is)

  pub has_more : (v : View) (done : List Task) → HasEach v done → HasEach (keeper_after v u) (done ++ task ∷ [])
  has_more v done has = all_push (λ k other. (i : ℕ) × (get_elem? (v.parts ++ u.parts) i ≡ some (part_of other.racer))) done task
      (λ k d low. let there = has k d low in (there.0, at_longer v.parts u.parts there.0 (part_of (slice_index_or done k d).racer) there.1))
      (length v.parts, ap (λ (ps : List Part). get_elem? (v.parts ++ ps) (length v.parts)) parts ∙ elem_there v.parts [] (own u) ∙ ap some own_is)

-- where all have run, and all are in one seat, their values in a row are the run of a play that is done
module _ (z : TableId) (p : Program) (tasks : List Task) (count : length tasks ≡ length p.threads) (ran : HaveRun z p tasks) (v : View) (has : HasEach v tasks) (reached : IsReachedBy p v) where
  says : (k : ℕ) (d : Task) → k < length tasks → (reached.progress.done k ≡ thread_length p k) × (reached.progress.values k ≡ (slice_index_or tasks k d).values.items)
  says k d low =
      let there = has k d low in
      let is = reached.parts there.0 (part_of (slice_index_or tasks k d).racer) there.1 in
      subst (λ (r : RacerState). (reached.progress.done r.number ≡ r.passed) × (reached.progress.values r.number ≡ r.values)) (ran k d low) (is.passed, is.values)

  all_done : (t : ℕ) → t < length p.threads → reached.progress.done t ≡ thread_length p t
  all_done t lt = at tasks count says where
    at : (ts : List Task) → length ts ≡ length p.threads → ((k : ℕ) (d : Task) → k < length ts → (reached.progress.done k ≡ thread_length p k) × (reached.progress.values k ≡ (slice_index_or ts k d).values.items))
        → reached.progress.done t ≡ thread_length p t
    at [] few each = absurd (omega (arith, few, lt))
    at (task ∷ more) many each = (each t task (omega (arith, many, lt))).0

  pub is_interleaved : (run : List ℕ) → run ≡ flat_map (λ (task : Task). task.values.items) tasks → IsInterleaved p run
  is_interleaved run is = record {
    steps = reached.reached.steps;
    is_done_play = is_done_play p reached.progress all_done reached.reached;
    gives =
        run_is p reached.progress all_done reached.reached
        ∙ ap (λ (n : ℕ). flat_map reached.progress.values (nodes_below n)) (sym count)
        ∙ sym (flat_by_number (λ (task : Task). task.values.items) reached.progress.values tasks (λ k d low. sym (says k d low).1))
        ∙ sym is;
  }
