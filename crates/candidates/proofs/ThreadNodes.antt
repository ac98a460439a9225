-- The nodes of a thread.
use Rattle.std.proofs.Common.{◌≡◌, ◌∙◌, ℕ, ◌<◌, ◌≤◌, ◌&&◌, Option, None, Some, true, false, refl, ap, arith, sym}
use Rattle.std.specs.Prelude.{◌==◌, nat_lt, slice_get}
use Rattle.std.specs.Option.{option_map}
use Rattle.std.proofs.lemmas.Bool.{and_parts, eqb-true, false_from_ne_true}
use Rattle.test_lang.specs.declared.op.Op.{Op}
use Rattle.test_lang.specs.Program.{Program, nodes, op_at, thread_at, first_node, passes_after}
use Rattle.test_lang.specs.Values.{same_thread}
use Rattle.test_lang.specs.Runs.{own_earlier, writes_for}
use Rattle.test_lang.proofs.Nodes.{node_at}
use Rattle.test_lang.proofs.Threads.{StandsIn, stands-thread_at, thread_at-stands}

-- a node of the thread
pub thread_node : (p : Program) (t n : ℕ) (op : Op) → StandsIn p t n → op_at p n ≡ Some op → slice_get (nodes p) n ≡ Some (t, op)
thread_node p t n op stands e = node_at p n t op (stands-thread_at p n t stands) e

-- no node before the load's thread is an earlier one of it

thread_from : (p : Program) (load n t : ℕ) (first second : Option (ℕ × Op)) → slice_get (nodes p) load ≡ first → slice_get (nodes p) n ≡ second → passes_after (λ a b. a.0 == b.0) first second ≡ true → option_map (λ node. node.0) first ≡ Some t
    → thread_at p n ≡ Some t
thread_from p load n t None second here there h e = absurd cc
thread_from p load n t (Some a) None here there h e = absurd cc
thread_from p load n t (Some a) (Some b) here there h e = ap (option_map (λ node. node.0)) there ∙ ap Some (sym (eqb-true a.0 b.0 h)) ∙ e

pub not_earlier : (p : Program) (load t n : ℕ) → thread_at p load ≡ Some t → n < first_node p t → own_earlier p load n ≡ false
not_earlier p load t n e before = false_from_ne_true (own_earlier p load n) (λ h.
    let near = (and_parts (same_thread p load n) (nat_lt n load) (and_parts (writes_for p load n) (same_thread p load n && nat_lt n load) h).1).0 in
    let stands = thread_at-stands p n t (thread_from p load n t (slice_get (nodes p) load) (slice_get (nodes p) n) refl refl near e) in
    let from = stands.from in
    absurd (omega (arith, before, from)))

pub earlier_node : (p : Program) (load t n : ℕ) (op : Op) → thread_at p load ≡ Some t → op_at p n ≡ Some op → first_node p t ≤ n → n < load → slice_get (nodes p) n ≡ Some (t, op)
earlier_node p load t n op e found from before =
    let stands = thread_at-stands p load t e in
    let to = stands.to in
    thread_node p t n op (record { in_range = stands.in_range; from = from; to = omega (arith, to, before) }) found
