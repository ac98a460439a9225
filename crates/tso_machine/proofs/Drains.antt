-- The places of a buffer that can be drained.
use Rattle.std.proofs.Common.{◌≡◌, ◌∙◌, ℕ, zero, suc, ◌<◌, List, [], ◌∷◌, ◌++◌, Bool, true, false, not, ◌||◌, cond, take, length, get_or, Contains, refl, ap, arith, Option, None, Some}
use Rattle.std.specs.Prelude.{◌==◌, filter, slice_get}
use Rattle.std.specs.List.{list_any}
use Rattle.std.specs.Option.{option_map, option_map_or}
use Rattle.std.proofs.lemmas.Bool.{ne_eqb}
use Rattle.std.proofs.lemmas.List.Elements.{All-contains, filter-append}
use Rattle.std.proofs.lemmas.Option.{same_Some, slice_get-get_or}
use Rattle.orders.specs.Orders.{nodes_below}
use Rattle.orders.proofs.Below.{all-below}
use Rattle.test_lang.specs.declared.step.Step.TheVariants.{Drain}
use Rattle.test_lang.specs.declared.target.Fault.{Fault}
use Rattle.test_lang.specs.declared.op.Action.{Action}
use Rattle.test_lang.specs.Program.{Program, actions, action_at}
use Rattle.test_lang.specs.Play.States.{State, buffer}
use Rattle.test_lang.specs.Play.Faults.{drains_any}
use Rattle.test_lang.specs.Play.Machines.{holds_back, holds_back_at, is_enabled}
use Rattle.tso_machine.specs.declared.playing.StoreOrder.{StoreOrder}
use Rattle.tso_machine.specs.declared.playing.StoreOrder.TheVariants.{Total, Partial}
use Rattle.tso_machine.specs.Moments.{target_of}
use Rattle.tso_machine.specs.Places.{is_free, free_places}
use Rattle.tso_machine.proofs.ListChanges.{filter_all, filter_same_in, or_false}

-- whether the place can be drained, by the buffer alone
abbrev pub may_leave : StoreOrder → Fault → Program → List ℕ → ℕ → Bool
may_leave Total fault p entries place = (place == 0) || drains_any fault
may_leave Partial fault p entries place = is_free p entries place || drains_any fault

abbrev pub leaves_as : StoreOrder → Fault → Program → List ℕ → ℕ → ℕ → Bool
leaves_as Total fault p entries place n = (place == 0) || drains_any fault
leaves_as Partial fault p entries place n = not (list_any (λ a. holds_back_at p a n) (take place entries)) || drains_any fault

pub drain_by : (order : StoreOrder) (fault : Fault) (p : Program) (st : State) (t place : ℕ) → is_enabled (target_of order) fault p st (Drain t place)
    ≡ option_map_or (leaves_as order fault p (buffer p st t) place) (slice_get (buffer p st t) place) false
drain_by Total fault p st t place = refl
drain_by Partial fault p st t place = refl

leaves_at : (order : StoreOrder) (fault : Fault) (p : Program) (entries : List ℕ) (place : ℕ) → leaves_as order fault p entries place (get_or entries place 0) ≡ may_leave order fault p entries place
leaves_at Total fault p entries place = refl
leaves_at Partial fault p entries place = refl

pub drain_within : (order : StoreOrder) (fault : Fault) (p : Program) (st : State) (t place : ℕ) → place < length (buffer p st t) → is_enabled (target_of order) fault p st (Drain t place) ≡ may_leave order fault p (buffer p st t) place
drain_within order fault p st t place lt =
    drain_by order fault p st t place
    ∙ ap (λ found. option_map_or (leaves_as order fault p (buffer p st t) place) found false) (slice_get-get_or (buffer p st t) place 0 lt)
    ∙ leaves_at order fault p (buffer p st t) place

-- a list of them
abbrev pub drains : StoreOrder → Fault → Program → List ℕ → List ℕ
drains order fault p entries = filter (may_leave order fault p entries) (nodes_below (length entries))

below : (n x : ℕ) → Contains (nodes_below n) x → x < n
below n x there = All-contains (λ (y : ℕ). y < n) (nodes_below n) x (all-below n) there

pub drains_are : (order : StoreOrder) (fault : Fault) (p : Program) (st : State) (t : ℕ) →
    filter (λ place. is_enabled (target_of order) fault p st (Drain t place)) (nodes_below (length (buffer p st t))) ≡ drains order fault p (buffer p st t)
drains_are order fault p st t =
    filter_same_in (λ place. is_enabled (target_of order) fault p st (Drain t place)) (may_leave order fault p (buffer p st t)) (nodes_below (length (buffer p st t)))
    (λ place there. drain_within order fault p st t place (below (length (buffer p st t)) place there))

any_leaves : (order : StoreOrder) (fault : Fault) (p : Program) (entries : List ℕ) (place : ℕ) → drains_any fault ≡ true → may_leave order fault p entries place ≡ true
any_leaves Total fault p entries place h = ap (λ b. (place == 0) || b) h ∙ or_true (place == 0) where
  or_true : (b : Bool) → (b || true) ≡ true
  or_true true = refl
  or_true false = refl
any_leaves Partial fault p entries place h = ap (λ b. is_free p entries place || b) h ∙ or_true (is_free p entries place) where
  or_true : (b : Bool) → (b || true) ≡ true
  or_true true = refl
  or_true false = refl

-- in any order: all places
pub drains-any : (order : StoreOrder) (fault : Fault) (p : Program) (entries : List ℕ) → drains_any fault ≡ true → drains order fault p entries ≡ nodes_below (length entries)
drains-any order fault p entries h = filter_all (may_leave order fault p entries) (nodes_below (length entries)) (λ place there. any_leaves order fault p entries place h)

zeros : (n : ℕ) → filter (λ (place : ℕ). place == 0) (nodes_below (suc n)) ≡ 0 ∷ []
zeros zero = refl
zeros (suc n) =
    filter-append (λ (place : ℕ). place == 0) (nodes_below (suc n)) (suc n ∷ [])
    ∙ ap (λ (ys : List ℕ). ys ++ cond (suc n == 0) (suc n ∷ []) []) (zeros n)
    ∙ ap (λ b. (0 ∷ []) ++ cond b (suc n ∷ []) []) (ne_eqb (suc n) 0 (λ is. omega (arith, is)))

total_front : (fault : Fault) (p : Program) (entries : List ℕ) → drains_any fault ≡ false → drains Total fault p entries ≡ filter (λ (place : ℕ). place == 0) (nodes_below (length entries))
total_front fault p entries h =
    filter_same_in (may_leave Total fault p entries) (λ (place : ℕ). place == 0) (nodes_below (length entries)) (λ place there. ap (λ b. (place == 0) || b) h ∙ or_false (place == 0))

-- in order: the first, where there is one
pub drains-first : (fault : Fault) (p : Program) (entries : List ℕ) → drains_any fault ≡ false → (n : ℕ) → length entries ≡ suc n → drains Total fault p entries ≡ 0 ∷ []
drains-first fault p entries h n long = total_front fault p entries h ∙ ap (λ (k : ℕ). filter (λ (place : ℕ). place == 0) (nodes_below k)) long ∙ zeros n

pub drains-none : (fault : Fault) (p : Program) (entries : List ℕ) → drains_any fault ≡ false → length entries ≡ 0 → drains Total fault p entries ≡ []
drains-none fault p entries h long = total_front fault p entries h ∙ ap (λ (k : ℕ). filter (λ (place : ℕ). place == 0) (nodes_below k)) long

-- in partial order: those that are free
pub drains-free : (fault : Fault) (p : Program) (entries : List ℕ) → drains_any fault ≡ false → drains Partial fault p entries ≡ free_places p entries
drains-free fault p entries h =
    filter_same_in (may_leave Partial fault p entries) (is_free p entries) (nodes_below (length entries)) (λ place there. ap (λ b. is_free p entries place || b) h ∙ or_false (is_free p entries place))

-- whether an action holds another back
pub holds_back_at-actions : (p : Program) (a b : ℕ) (first second : Action) → action_at p a ≡ Some first → action_at p b ≡ Some second → holds_back_at p a b ≡ holds_back first second
holds_back_at-actions p a b first second x y = held (slice_get (actions p) a) (slice_get (actions p) b) x y where
  held : (found other : Option (ℕ × Action)) → option_map (λ (node : ℕ × Action). node.1) found ≡ Some first → option_map (λ (node : ℕ × Action). node.1) other ≡ Some second
      → option_map_or (λ (one : ℕ × Action). option_map_or (λ (two : ℕ × Action). holds_back one.1 two.1) other false) found false ≡ holds_back first second
  held None other x y = absurd cc
  held (Some one) None x y = absurd cc
  held (Some one) (Some two) x y = ap (λ (action : Action). holds_back action two.1) (same_Some one.1 first x) ∙ ap (holds_back first) (same_Some two.1 second y)
