-- The nodes of a thread stand together, those of an earlier thread before.
use Rattle.std.proofs.Common.{◌≡◌, ◌∙◌, ℕ, zero, suc, ◌+◌, ◌<◌, ◌≤◌, ◌⊎◌, List, [], ◌∷◌, ◌++◌, map, take, length, get_or, Option, None, Some, refl, ap, arith, sym, inl, inr, ⊎_elim, length-append}
use Rattle.std.specs.Prelude.{sum_by, slice_get}
use Rattle.std.specs.Option.{option_map}
use Rattle.std.proofs.lemmas.Bool.{cases_order}
use Rattle.std.proofs.lemmas.List.{take_all, take-take, length-map}
use Rattle.std.proofs.lemmas.List.Sums.{sum_by-cons, sum_by-take-le}
use Rattle.std.proofs.lemmas.Option.{slice_get-get_or, same_Some}
use Rattle.test_lang.specs.declared.op.Op.{Op}
use Rattle.test_lang.specs.declared.op.Op.TheVariants.{Fence}
use Rattle.test_lang.specs.declared.op.Action.{Action}
use Rattle.test_lang.specs.Actions.{op_of}
use Rattle.test_lang.specs.Program.{Program, nodes, nodes_from, op_count, thread_at, first_node, thread_length}

-- the first node of a thread, by the list of threads
abbrev first_of : List (List Action) → ℕ → ℕ
first_of threads t = sum_by length (take t threads)

length-nodes_from : (k : ℕ) (threads : List (List Action)) → length (nodes_from k threads) ≡ sum_by length threads
length-nodes_from k [] = refl
length-nodes_from k (thread ∷ more) =
    let rest = length-nodes_from (suc k) more in
    let all = sum_by-cons length thread more in
    let both = length-append (map (λ action. (k, op_of action)) thread) (nodes_from (suc k) more) in
    let same = length-map {B = ℕ × Op} thread (λ action. (k, op_of action)) in
    omega (arith, rest, all, both, same)

first_of-suc : (threads : List (List Action)) (t : ℕ) → first_of threads (suc t) ≡ first_of threads t + length (get_or threads t [])
first_of-suc [] zero = refl
first_of-suc [] (suc t) = refl
first_of-suc (thread ∷ more) zero = let one = sum_by-cons length thread [] in omega (arith, one)
first_of-suc (thread ∷ more) (suc t) =
    let long = sum_by-cons length thread (take (suc t) more) in
    let short = sum_by-cons length thread (take t more) in
    let rest = first_of-suc more t in
    omega (arith, long, short, rest)

first_of-monotone : (threads : List (List Action)) (t u : ℕ) → t ≤ u → first_of threads t ≤ first_of threads u
first_of-monotone threads t u h =
    let shorter = sum_by-take-le length (take u threads) t in
    let same = ap (sum_by length) (take-take t u threads h) in
    omega (arith, shorter, same)

-- the node stands in a thread, whose number is told from k on
record StandsFrom (k : ℕ) (threads : List (List Action)) (n : ℕ) (thread : ℕ) : Type 0 where
  index : ℕ
  is_index : thread ≡ k + index
  in_range : index < length threads
  from : first_of threads index ≤ n
  to : n < first_of threads (suc index)

-- the element is one of the first thread's actions, or one behind them
split_at : (k : ℕ) (thread : List Action) (rest : List (ℕ × Op)) (n : ℕ) (x : ℕ × Op) → slice_get (map (λ action. (k, op_of action)) thread ++ rest) n ≡ Some x
    → ((n < length thread) × (x.0 ≡ k)) ⊎ ((j : ℕ) × ((n ≡ length thread + j) × (slice_get rest j ≡ Some x)))
split_at k [] rest n x e = inr (n, (omega arith, e))
split_at k (action ∷ thread) rest zero x e = inl (omega arith, ap (λ node. node.0) (sym (same_Some _ _ e)))
split_at k (action ∷ thread) rest (suc n) x e =
    ⊎_elim
    (λ (l : (n < length thread) × (x.0 ≡ k)). inl (let lt = l.0 in omega (arith, lt), l.1))
    (λ (r : (j : ℕ) × ((n ≡ length thread + j) × (slice_get rest j ≡ Some x))). let is = r.1.0 in inr (r.0, (omega (arith, is), r.1.1)))
    (split_at k thread rest n x e)

stands_from : (k : ℕ) (threads : List (List Action)) (n : ℕ) (x : ℕ × Op) → slice_get (nodes_from k threads) n ≡ Some x → StandsFrom k threads n x.0
stands_from k [] n x e = absurd cc
stands_from k (thread ∷ more) n x e =
    ⊎_elim
    (λ (l : (n < length thread) × (x.0 ≡ k)).
    let lt = l.0 in
    let same = l.1 in
    let one = sum_by-cons length thread [] in
    record { index = 0; is_index = omega (arith, same); in_range = omega arith; from = omega arith; to = omega (arith, lt, one) })
    (λ (r : (j : ℕ) × ((n ≡ length thread + j) × (slice_get (nodes_from (suc k) more) j ≡ Some x))).
    let is = r.1.0 in
    let later = stands_from (suc k) more r.0 x r.1.1 in
    let is_index = later.is_index in
    let in_range = later.in_range in
    let from = later.from in
    let to = later.to in
    let short = sum_by-cons length thread (take later.index more) in
    let long = sum_by-cons length thread (take (suc later.index) more) in
    record { index = suc later.index; is_index = omega (arith, is_index); in_range = omega (arith, in_range); from = omega (arith, is, from, short); to = omega (arith, is, to, long) })
    (split_at k thread (nodes_from (suc k) more) n x e)

-- of a program

pub first_node-suc : (p : Program) (t : ℕ) → first_node p (suc t) ≡ first_node p t + thread_length p t
first_node-suc p t = first_of-suc p.threads t

pub first_node-monotone : (p : Program) (t u : ℕ) → t ≤ u → first_node p t ≤ first_node p u
first_node-monotone p t u h = first_of-monotone p.threads t u h

pub first_node_all : (p : Program) (t : ℕ) → length p.threads ≤ t → first_node p t ≡ op_count p
first_node_all p t h = ap (sum_by length) (take_all t p.threads h) ∙ sym (length-nodes_from 0 p.threads)

pub first_node-le : (p : Program) (t : ℕ) → first_node p t ≤ op_count p
first_node-le p t =
    let part = sum_by-take-le length p.threads t in
    let all = length-nodes_from 0 p.threads in
    omega (arith, part, all)

pub thread_end-le : (p : Program) (t : ℕ) → first_node p t + thread_length p t ≤ op_count p
thread_end-le p t =
    let more = first_node-suc p t in
    let le = first_node-le p (suc t) in
    omega (arith, more, le)

-- the node is one of the thread
pub record StandsIn (p : Program) (t n : ℕ) : Type 0 where
  pub in_range : t < length p.threads
  pub from : first_node p t ≤ n
  pub to : n < first_node p t + thread_length p t

thread_of : (p : Program) (n t : ℕ) (found : Option (ℕ × Op)) → slice_get (nodes p) n ≡ found → option_map (λ node. node.0) found ≡ Some t → StandsIn p t n
thread_of p n t None here e = absurd cc
thread_of p n t (Some x) here e =
    let s = stands_from 0 p.threads n x here in
    let is_index = s.is_index in
    let same : x.0 ≡ t = same_Some x.0 t e in
    let index : s.index ≡ t = omega (arith, is_index, same) in
    let in_range = s.in_range in
    let from = s.from in
    let to = s.to in
    let begin = ap (first_node p) index in
    let end = ap (λ (m : ℕ). first_node p (suc m)) index in
    let more = first_node-suc p t in
    record { in_range = omega (arith, in_range, index); from = omega (arith, from, begin); to = omega (arith, to, end, more) }

pub thread_at-stands : (p : Program) (n t : ℕ) → thread_at p n ≡ Some t → StandsIn p t n
thread_at-stands p n t e = thread_of p n t (slice_get (nodes p) n) refl e

-- each node has a thread
pub thread_at_some : (p : Program) (n : ℕ) → n < op_count p → (t : ℕ) × (thread_at p n ≡ Some t)
thread_at_some p n h = ((get_or (nodes p) n (0, Fence)).0, ap (option_map (λ node. node.0)) (slice_get-get_or (nodes p) n (0, Fence) h))

-- nodes of an earlier thread are smaller
pub earlier_thread : (p : Program) (a b t u : ℕ) → StandsIn p t a → StandsIn p u b → t < u → a < b
earlier_thread p a b t u i j h =
    let to = i.to in
    let from = j.from in
    let more = first_node-suc p t in
    let between = first_node-monotone p (suc t) u (omega (arith, h)) in
    omega (arith, to, from, more, between)

-- a node stands in one thread
pub one_thread : (p : Program) (n t u : ℕ) → StandsIn p t n → StandsIn p u n → t ≡ u
one_thread p n t u i j =
    ⊎_elim (λ (same : t ≡ u). same)
    (λ (other : (t < u) ⊎ (u < t)).
    ⊎_elim
    (λ (lt : t < u). let no = earlier_thread p n n t u i j lt in absurd (omega (arith, no)))
    (λ (gt : u < t). let no = earlier_thread p n n u t j i gt in absurd (omega (arith, no)))
    other)
    (cases_order t u)

pub stands-thread_at : (p : Program) (n t : ℕ) → StandsIn p t n → thread_at p n ≡ Some t
stands-thread_at p n t i =
    let to = i.to in
    let end = thread_end-le p t in
    let found = thread_at_some p n (omega (arith, to, end)) in
    found.1 ∙ ap Some (one_thread p n found.0 t (thread_at-stands p n found.0 found.1) i)
