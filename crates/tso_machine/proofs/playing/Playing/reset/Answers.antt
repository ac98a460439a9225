use Rattle.std.proofs.Common.{◌∙◌, ℕ, List, [], map, length, get_or, replicate, ap, sym, subst, refl, arith}
use Rattle.std.proofs.lemmas.List.{get_or-map, length-map, with_items_is}
use Rattle.orders.specs.Orders.{nodes_below}
use Rattle.sim_core.specs.Setup.{state_after}
use Rattle.test_lang.specs.Program.{first_node}
use Rattle.test_lang.specs.Play.States.{buffer}
use Rattle.tso_machine.specs.Moments.{StandsBehind, moment_of}
use Rattle.tso_machine.specs.Moves.{IsPlaying}
use Rattle.tso_machine.specs.Queues.{Queues}
use Rattle.tso_machine.proofs.Bounds.{long_loads, long_positions, long_values, long_values_before}
use Rattle.tso_machine.proofs.ListChanges.{map-map}
use Rattle.tso_machine.proofs.Openings.{playing_opening, stands_opening}
use Rattle.tso_machine.proofs.playing.Playing.reset.Goals as goal

pub put_first_nodes-requires : goal.put_first_nodes-requires
put_first_nodes-requires c =
    let i = c.self.inside in
    let m = moment_of i.order i.fault i.test i.positions.items i.buffers i.values.items i.values_before.items i.loads.items in
    ap length c.deref_mut.ensures.value ∙ long_positions m i.order refl c.self.invariant.steps c.self.invariant.stands

pub invariant_of-self : goal.invariant_of-self
invariant_of-self c =
    let i = c.self.inside in
    let k = c.self.invariant in
    let m = moment_of i.order i.fault i.test i.positions.items i.buffers i.values.items i.values_before.items i.loads.items in
    let items = with_items_is i.positions c.put_first_nodes.new.nodes (c.put_first_nodes.auto.nodes ∙ c.deref_mut.ensures.len) ∙ c.put_first_nodes.ensures in
    let q = c.clear.new.self in
    let queues = c.clear.ensures in
    let empty = ap (λ (s : Queues). s.entries) queues ∙ ap (map (λ entries. [])) k.stands.shows.buffers ∙ map-map (λ entries. []) (buffer i.test (state_after m.setup k.steps)) (nodes_below (length i.test.threads)) in
    let now = c.fill.ensures.items (λ y h. h) ∙ ap (λ (n : ℕ). replicate n 0) (i.values.ok.0 ∙ long_values m i.order refl k.steps k.stands) in
    let before = c.fill-2.ensures.items (λ y h. h) ∙ ap (λ (n : ℕ). replicate n 0) (i.values_before.ok.0 ∙ long_values_before m i.order refl k.steps k.stands) in
    let none = c.fill-3.ensures.items (λ y h. h) ∙ ap (λ (n : ℕ). replicate n 0) (i.loads.ok.0 ∙ long_loads m i.order refl k.steps k.stands) in
    let pushed = ap (λ (s : Queues). s.pushed) queues in
    let long = ap length pushed ∙ length-map i.buffers.pushed (λ pushed. 0) ∙ k.long in
    subst (λ (xs : List ℕ). IsPlaying (moment_of i.order i.fault i.test xs q c.fill.new.self.items c.fill-2.new.self.items c.fill-3.new.self.items) q) (sym items)
    (playing_opening i.order i.fault i.test (map (first_node i.test) (nodes_below (length i.test.threads))) q c.fill.new.self.items c.fill-2.new.self.items c.fill-3.new.self.items k.stands.limits refl empty now before none
    (ap (λ (s : Queues). s.rooms) queues ∙ k.rooms) long
    (λ t lt. let old = k.long in ap (λ (xs : List ℕ). get_or xs t 0) pushed ∙ get_or-map (λ pushed. 0) i.buffers.pushed t 0 0 (omega (arith, lt, old))))

pub returns-clause-stands : goal.returns-clause-stands
returns-clause-stands c =
    let i = c.self.inside in
    let k = c.self.invariant in
    let m = moment_of i.order i.fault i.test i.positions.items i.buffers i.values.items i.values_before.items i.loads.items in
    let items = with_items_is i.positions c.put_first_nodes.new.nodes (c.put_first_nodes.auto.nodes ∙ c.deref_mut.ensures.len) ∙ c.put_first_nodes.ensures in
    let q = c.clear.new.self in
    let queues = c.clear.ensures in
    let empty = ap (λ (s : Queues). s.entries) queues ∙ ap (map (λ entries. [])) k.stands.shows.buffers ∙ map-map (λ entries. []) (buffer i.test (state_after m.setup k.steps)) (nodes_below (length i.test.threads)) in
    let now = c.fill.ensures.items (λ y h. h) ∙ ap (λ (n : ℕ). replicate n 0) (i.values.ok.0 ∙ long_values m i.order refl k.steps k.stands) in
    let before = c.fill-2.ensures.items (λ y h. h) ∙ ap (λ (n : ℕ). replicate n 0) (i.values_before.ok.0 ∙ long_values_before m i.order refl k.steps k.stands) in
    let none = c.fill-3.ensures.items (λ y h. h) ∙ ap (λ (n : ℕ). replicate n 0) (i.loads.ok.0 ∙ long_loads m i.order refl k.steps k.stands) in
    subst (λ (xs : List ℕ). StandsBehind (moment_of i.order i.fault i.test xs q c.fill.new.self.items c.fill-2.new.self.items c.fill-3.new.self.items) []) (sym items)
    (stands_opening i.order i.fault i.test (map (first_node i.test) (nodes_below (length i.test.threads))) q c.fill.new.self.items c.fill-2.new.self.items c.fill-3.new.self.items k.stands.limits refl empty now before none)
