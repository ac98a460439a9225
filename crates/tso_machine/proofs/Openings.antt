-- The opening state of a machine.
use Rattle.std.proofs.Common.{◌≡◌, ◌∙◌, ℕ, ◌<◌, List, [], map, length, get_or, replicate, sym, ap, arith}
use Rattle.orders.specs.Orders.{nodes_below}
use Rattle.test_lang.specs.declared.target.Fault.{Fault}
use Rattle.test_lang.specs.Program.{Program, IsWithinLimits, first_node, thread_length}
use Rattle.test_lang.specs.Values.{load_count}
use Rattle.sim_core.proofs.LoadsAfter.{loads-opening}
use Rattle.sim_core.proofs.MemoryAfter.{before-opening, now-opening}
use Rattle.tso_machine.specs.declared.playing.StoreOrder.{StoreOrder}
use Rattle.tso_machine.specs.Moments.{StandsBehind, moment_of, position}
use Rattle.tso_machine.specs.Moves.{IsPlaying}
use Rattle.tso_machine.specs.Queues.{Queues}
use Rattle.sim_core.proofs.BelowLists.{get_or-map_below}
use Rattle.tso_machine.proofs.ListChanges.{map_same}
use Rattle.tso_machine.proofs.Shown.{buffers_of}

module _ (order : StoreOrder) (fault : Fault) (p : Program) (positions : List ℕ) (queues : Queues) (values values_before loads : List ℕ) (limits : IsWithinLimits p)
    (firsts : positions ≡ map (first_node p) (nodes_below (length p.threads))) (empty : queues.entries ≡ map (λ t. []) (nodes_below (length p.threads)))
    (now : values ≡ replicate p.words 0) (before : values_before ≡ replicate p.words 0) (none : loads ≡ replicate (load_count p) 0) where
  pub stands_opening : StandsBehind (moment_of order fault p positions queues values values_before loads) []
  stands_opening = record {
    has_buffers = buffers_of order;
    limits = limits;
    is_play = tt;
    shows = record {
      positions = firsts ∙ map_same (first_node p) (position p []) (nodes_below (length p.threads)) (λ t. omega arith);
      buffers = empty;
      values = now ∙ sym (now-opening p);
      values_before = before ∙ sym (before-opening p);
      loads = none ∙ sym (loads-opening p);
    };
  }

  pub playing_opening : queues.rooms ≡ map (thread_length p) (nodes_below (length p.threads)) → length queues.pushed ≡ length p.threads → ((t : ℕ) → t < length p.threads → get_or queues.pushed t 0 ≡ 0)
      → IsPlaying (moment_of order fault p positions queues values values_before loads) queues
  playing_opening rooms long pushed = record {
    steps = [];
    stands = stands_opening;
    rooms = rooms;
    long = long;
    pushed = λ t lt.
        let at : get_or positions t 0 ≡ first_node p t = ap (λ (xs : List ℕ). get_or xs t 0) firsts ∙ get_or-map_below (first_node p) (length p.threads) t 0 lt in
        let nothing = pushed t lt in
        omega (arith, at, nothing);
  }
