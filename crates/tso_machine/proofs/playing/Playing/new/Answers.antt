use Rattle.std.proofs.Common.{◌∙◌, ℕ, [], length, get_or, replicate, ap, sym, subst}
use Rattle.test_lang.specs.Program.{Program}
use Rattle.tso_machine.specs.Moments.{StandsBehind, moment_of}
use Rattle.tso_machine.specs.Moves.{IsPlaying}
use Rattle.tso_machine.specs.Queues.{Queues}
use Rattle.sim_core.proofs.BelowLists.{get_or-map_below, length-map_below}
use Rattle.tso_machine.proofs.Openings.{playing_opening, stands_opening}
use Rattle.tso_machine.proofs.playing.Playing.new.Goals as goal

pub invariant_of-result : goal.invariant_of-result
invariant_of-result c =
    let p = c.args.test.now in
    let clone = c.in_ok-clone.ensures.cases in
    let queues = c.in_ok-new.ensures in
    let words = c.words-words.ensures.count in
    let now = c.in_ok-vec.ensures.items_if_clones_equal (λ y h. h) ∙ ap (λ (n : ℕ). replicate n 0) words in
    let before = c.in_ok-vec-2.ensures.items_if_clones_equal (λ y h. h) ∙ ap (λ (n : ℕ). replicate n 0) words in
    let none = c.in_ok-vec-3.ensures.items_if_clones_equal (λ y h. h) ∙ ap (λ (n : ℕ). replicate n 0) c.loads.ensures.count in
    let q = c.in_ok-new.field-0 in
    subst (λ (test : Program). IsPlaying (moment_of c.args.order c.args.fault test c.in_ok-first_nodes.field-0.items q c.in_ok-vec.field-0.items c.in_ok-vec-2.field-0.items c.in_ok-vec-3.field-0.items) q) (sym clone)
    (playing_opening c.args.order c.args.fault p c.in_ok-first_nodes.field-0.items q c.in_ok-vec.field-0.items c.in_ok-vec-2.field-0.items c.in_ok-vec-3.field-0.items c.words-words.ensures.limits
    c.in_ok-first_nodes.ensures (ap (λ (s : Queues). s.entries) queues) now before none (ap (λ (s : Queues). s.rooms) queues) (ap (λ (s : Queues). length s.pushed) queues ∙ length-map_below (λ t. 0) (length p.threads))
    (λ t lt. ap (λ (s : Queues). get_or s.pushed t 0) queues ∙ get_or-map_below (λ t. 0) (length p.threads) t 0 lt))

pub returns-clause-stands : goal.returns-clause-stands
returns-clause-stands c =
    let p = c.args.test.now in
    let clone = c.in_ok-clone.ensures.cases in
    let queues = c.in_ok-new.ensures in
    let words = c.words-words.ensures.count in
    let now = c.in_ok-vec.ensures.items_if_clones_equal (λ y h. h) ∙ ap (λ (n : ℕ). replicate n 0) words in
    let before = c.in_ok-vec-2.ensures.items_if_clones_equal (λ y h. h) ∙ ap (λ (n : ℕ). replicate n 0) words in
    let none = c.in_ok-vec-3.ensures.items_if_clones_equal (λ y h. h) ∙ ap (λ (n : ℕ). replicate n 0) c.loads.ensures.count in
    let q = c.in_ok-new.field-0 in
    subst (λ (test : Program). StandsBehind (moment_of c.args.order c.args.fault test c.in_ok-first_nodes.field-0.items q c.in_ok-vec.field-0.items c.in_ok-vec-2.field-0.items c.in_ok-vec-3.field-0.items) []) (sym clone)
    (stands_opening c.args.order c.args.fault p c.in_ok-first_nodes.field-0.items q c.in_ok-vec.field-0.items c.in_ok-vec-2.field-0.items c.in_ok-vec-3.field-0.items c.words-words.ensures.limits
    c.in_ok-first_nodes.ensures (ap (λ (s : Queues). s.entries) queues) now before none)
