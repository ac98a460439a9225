-- Cycles of a run have no more nodes than the test.
use Rattle.std.proofs.Common.{ℕ, ◌<◌, ◌≤◌, List, [], ◌∷◌, length, Contains, subst, inl, inr}
use Rattle.orders.specs.Paths.{Linked}
use Rattle.orders.proofs.Members.{Contains-cons_cases, Contains-nil}
use Rattle.full_sort.proofs.Pigeons.{length-once-le}
use Rattle.test_lang.proofs.EdgeTests.{edge-nodes}
use Rattle.test_lang.specs.declared.op.MemModel.{MemModel}
use Rattle.test_lang.specs.Edges.{Edge, IsCanonicalRunCycle}
use Rattle.test_lang.specs.Program.{Program, op_count}

-- each node of a path has an edge, and so is a node of the test
linked-below : (model : MemModel) (p : Program) (run : List ℕ) (first : ℕ) (more : List ℕ) (end : ℕ) → Linked (Edge model p run) first more end → (x : ℕ) → Contains (first ∷ more) x → x < op_count p
linked-below model p run first [] end h x in_list = elim (Contains-cons_cases first [] x in_list) [
  | inl e ↦ subst (λ (n : ℕ). n < op_count p) e (edge-nodes model p run first end h).0
  | inr c ↦ absurd (Contains-nil x c)
]
linked-below model p run first (next ∷ more) end h x in_list = elim (Contains-cons_cases first (next ∷ more) x in_list) [
  | inl e ↦ subst (λ (n : ℕ). n < op_count p) e (edge-nodes model p run first next h.0).0
  | inr c ↦ linked-below model p run next more end h.1 x c
]

pub length-cycle : (model : MemModel) (p : Program) (run cycle : List ℕ) → IsCanonicalRunCycle model p run cycle → length cycle ≤ op_count p
length-cycle model p run [] h = absurd h
length-cycle model p run (start ∷ more) h =
    length-once-le (op_count p) (start ∷ more) h.1.is_cycle.1 (linked-below model p run start more start h.1.is_cycle.0)
