-- A walk over the last edges, which stops three before its end.
use Rattle.std.proofs.Common.{◌∙◌, ℕ, ◌-◌, List, None, get_or, ap, subst, arith, refl, inl, ⊎_elim, get_or-set_other}
use Rattle.std.proofs.lemmas.List.{length-set}
use Rattle.full_sort.specs.Ready.{IsHeld}
use Rattle.full_sort.proofs.Releases.{gained-step, far-between, three-near, walk-goes_on}
use Rattle.full_sort.proofs.Walk.{IsWalk, given, begin-walk, begin-between, begin-from}
use Rattle.full_sort.proofs.WalkSteps.{turn-walk, turn-ticked, turn-lowered, turn-enough, turn-from, last-lowered, last-degree, last-fewer}
use Rattle.full_sort.proofs.releasing.release_far.Goals as goal

pub loop-init : goal.loop-init
loop-init g c =
    let none = begin-from c.args.graph.now.edges c.args.node c.first_out-next.result c.first_out-next.ensures.last in
    record {
      walk = begin-walk c.args.graph.now.edges c.args.node c.first_out-next.result c.first_out-next.ensures.last;
      turns = omega (arith, none);
      counted = λ t lt. let zeros = begin-between c.args.graph.now.edges c.args.node c.first_out-next.result c.first_out-next.ensures.last t in omega (arith, zeros);
      spare = refl;
      counts_room = refl;
      gained = λ t. ((λ h. inl h), (λ h. ⊎_elim (λ b. b) (λ f. absurd (f.0 f.1)) h));
      kept = tt;
      room = refl;
      ticked = let first = c.first_out-next.ensures.ticks in omega (arith, none, first);
    }

pub unwrap-edge-requires : goal.unwrap-edge-requires
unwrap-edge-requires g c =
    let turns = c.loop.invariant.turns in
    let more = c.requires.more in
    rw (walk-goes_on c.args.graph.now.edges c.args.node c.loop.next (omega (arith, turns, more))).1 refl

pub target-requires : goal.target-requires
target-requires g c = (subst (IsWalk c.args.graph.now.edges c.args.node) c.unwrap-edge.ensures c.loop.invariant.walk).0

pub release-kept-requires-clause-some : goal.release-kept-requires-clause-some
release-kept-requires-clause-some g c =
    turn-enough c.args.graph.now.edges c.args.node c.unwrap-edge.result c.loop.next c.unwrap-edge.ensures c.loop.invariant.walk
    c.loop.counts c.args.counts.now c.args.graph.now.nodes c.target.result c.target.ensures.value c.target.ensures.inside (let room = c.loop.invariant.counts_room in let long = c.requires.counts in omega (arith, room, long)) c.loop.invariant.counted c.requires.enough

pub release-kept-requires-clause-room : goal.release-kept-requires-clause-room
release-kept-requires-clause-room g c = λ one.
    let inside = c.target.ensures.inside in
    let room = c.loop.invariant.room in
    let nodes = c.requires.room in
    omega (arith, inside, room, nodes)

pub release-kept-requires-clause-marks : goal.release-kept-requires-clause-marks
release-kept-requires-clause-marks g c = λ one. let inside = c.target.ensures.inside in let marks = c.requires.marks in omega (arith, inside, marks)

pub release-kept-requires-clause-kept : goal.release-kept-requires-clause-kept
release-kept-requires-clause-kept g c = c.loop.invariant.kept

pub next_out-next-requires : goal.next_out-next-requires
next_out-next-requires g c = (subst (IsWalk c.args.graph.now.edges c.args.node) c.unwrap-edge.ensures c.loop.invariant.walk).0

pub loop-preserved : goal.loop-preserved
loop-preserved g c =
    let es : List (ℕ × ℕ) = c.args.graph.now.edges in
    let x : ℕ = c.target.result in
    let ws : List ℕ = c.loop.counts in
    let room = c.loop.invariant.counts_room in
    let long = c.requires.counts in
    let inside = c.target.ensures.inside in
    let some = turn-enough c.args.graph.now.edges c.args.node c.unwrap-edge.result c.loop.next c.unwrap-edge.ensures c.loop.invariant.walk
    c.loop.counts c.args.counts.now c.args.graph.now.nodes c.target.result c.target.ensures.value c.target.ensures.inside (let room = c.loop.invariant.counts_room in let long = c.requires.counts in omega (arith, room, long)) c.loop.invariant.counted c.requires.enough in
    let fewer = last-fewer c.args.graph.now.edges c.args.node c.unwrap-edge.result c.loop.next c.unwrap-edge.ensures c.loop.invariant.walk
    c.loop.counts c.args.counts.now c.args.graph.now.nodes c.target.result c.target.ensures.value c.target.ensures.inside (let room = c.loop.invariant.counts_room in let long = c.requires.counts in omega (arith, room, long)) c.loop.invariant.counted c.requires.enough in
    rw c.release-kept.ensures.less (record {
      walk = turn-walk c.args.graph.now.edges c.args.node c.unwrap-edge.result c.loop.next c.unwrap-edge.ensures c.loop.invariant.walk c.next_out-next.result c.next_out-next.ensures.last;
      turns = (let more = turn-from c.args.graph.now.edges c.args.node c.unwrap-edge.result c.loop.next c.unwrap-edge.ensures c.loop.invariant.walk c.next_out-next.result c.next_out-next.ensures.last in let turns = c.loop.invariant.turns in omega (arith, more, turns));
      counted = turn-lowered c.args.graph.now.edges c.args.node c.unwrap-edge.result c.loop.next c.unwrap-edge.ensures c.loop.invariant.walk
          c.loop.counts c.args.counts.now c.args.graph.now.nodes c.target.result c.target.ensures.value c.target.ensures.inside (let room = c.loop.invariant.counts_room in let long = c.requires.counts in omega (arith, room, long)) c.loop.invariant.counted c.requires.enough c.next_out-next.result c.next_out-next.ensures.last;
      spare = get_or-set_other ws x c.args.graph.now.nodes (get_or ws x 0 - 1) 0 (λ same. omega (arith, same, inside)) ∙ c.loop.invariant.spare;
      counts_room = length-set ws x (get_or ws x 0 - 1) ∙ room;
      gained =
          gained-step (IsHeld c.args.ready.now None) (IsHeld c.loop.ready c.loop.kept) (IsHeld c.release-kept.new.ready c.release-kept.result) c.args.marks.now c.args.counts.now ws x (omega (arith, room, long, inside))
          some fewer c.loop.invariant.gained c.release-kept.ensures.gained;
      kept = c.release-kept.ensures.kept;
      room = c.release-kept.ensures.room ∙ c.loop.invariant.room;
      ticked = turn-ticked c.args.graph.now.edges c.args.node c.unwrap-edge.result c.loop.next c.unwrap-edge.ensures c.loop.invariant.walk c.next_out-next.result c.next_out-next.ensures.last
          c.args.steps.now c.loop.steps c.next_out-next.new.steps c.loop.invariant.ticked c.next_out-next.ensures.ticks;
    })

pub unwrap-edge-requires-2 : goal.unwrap-edge-requires-2
unwrap-edge-requires-2 g c =
    let turns = c.loop.invariant.turns in
    let more = c.requires.more in
    rw (walk-goes_on c.args.graph.now.edges c.args.node c.loop.next (omega (arith, turns, more))).1 refl

pub target-requires-2 : goal.target-requires-2
target-requires-2 g c = (subst (IsWalk c.args.graph.now.edges c.args.node) c.unwrap-edge-2.ensures c.loop.invariant.walk).0

pub release-requires-clause-some : goal.release-requires-clause-some
release-requires-clause-some g c =
    turn-enough c.args.graph.now.edges c.args.node c.unwrap-edge-2.result c.loop.next c.unwrap-edge-2.ensures c.loop.invariant.walk
    c.loop.counts c.args.counts.now c.args.graph.now.nodes c.target-2.result c.target-2.ensures.value c.target-2.ensures.inside (let room = c.loop.invariant.counts_room in let long = c.requires.counts in omega (arith, room, long)) c.loop.invariant.counted c.requires.enough

pub release-requires-clause-room : goal.release-requires-clause-room
release-requires-clause-room g c = λ one.
    let inside = c.target-2.ensures.inside in
    let room = c.loop.invariant.room in
    let nodes = c.requires.room in
    omega (arith, inside, room, nodes)

pub release-requires-clause-marks : goal.release-requires-clause-marks
release-requires-clause-marks g c = λ one. let inside = c.target-2.ensures.inside in let marks = c.requires.marks in omega (arith, inside, marks)

pub release-requires-clause-kept : goal.release-requires-clause-kept
release-requires-clause-kept g c = c.loop.invariant.kept

pub returns-clause-less : goal.returns-clause-less
returns-clause-less g c = λ t lt.
    let degree = last-degree c.args.graph.now.edges c.args.node c.unwrap-edge-2.result c.loop.next c.unwrap-edge-2.ensures c.loop.invariant.walk
    c.loop.counts c.args.counts.now c.args.graph.now.nodes c.target-2.result c.target-2.ensures.value c.target-2.ensures.inside (let room = c.loop.invariant.counts_room in let long = c.requires.counts in omega (arith, room, long)) c.loop.invariant.counted c.requires.enough in
    let turns = c.loop.invariant.turns in
    let end = c.loop.auto.counter-end c.requires.some in
    let far = far-between c.args.graph.now.edges c.args.node c.unwrap-edge-2.result (three-near c.args.graph.now.edges c.args.node c.unwrap-edge-2.result c.args.more c.requires.more (omega (arith, degree, turns, end))) t in
    let less = last-lowered c.args.graph.now.edges c.args.node c.unwrap-edge-2.result c.loop.next c.unwrap-edge-2.ensures c.loop.invariant.walk
    c.loop.counts c.args.counts.now c.args.graph.now.nodes c.target-2.result c.target-2.ensures.value c.target-2.ensures.inside (let room = c.loop.invariant.counts_room in let long = c.requires.counts in omega (arith, room, long)) c.loop.invariant.counted c.requires.enough t lt in
    rw c.release.ensures.less (omega (arith, far, less))

pub returns-clause-spare : goal.returns-clause-spare
returns-clause-spare g c =
    let inside = c.target-2.ensures.inside in
    rw c.release.ensures.less (get_or-set_other c.loop.counts c.target-2.result c.args.graph.now.nodes (get_or c.loop.counts c.target-2.result 0 - 1) 0 (λ same. omega (arith, same, inside)) ∙ c.loop.invariant.spare)

pub returns-clause-gained : goal.returns-clause-gained
returns-clause-gained g c =
    let room = c.loop.invariant.counts_room in
    let long = c.requires.counts in
    let inside = c.target-2.ensures.inside in
    let some = turn-enough c.args.graph.now.edges c.args.node c.unwrap-edge-2.result c.loop.next c.unwrap-edge-2.ensures c.loop.invariant.walk
    c.loop.counts c.args.counts.now c.args.graph.now.nodes c.target-2.result c.target-2.ensures.value c.target-2.ensures.inside (let room = c.loop.invariant.counts_room in let long = c.requires.counts in omega (arith, room, long)) c.loop.invariant.counted c.requires.enough in
    let fewer = last-fewer c.args.graph.now.edges c.args.node c.unwrap-edge-2.result c.loop.next c.unwrap-edge-2.ensures c.loop.invariant.walk
    c.loop.counts c.args.counts.now c.args.graph.now.nodes c.target-2.result c.target-2.ensures.value c.target-2.ensures.inside (let room = c.loop.invariant.counts_room in let long = c.requires.counts in omega (arith, room, long)) c.loop.invariant.counted c.requires.enough in
    rw c.release.ensures.less
    (gained-step (IsHeld c.args.ready.now None) (IsHeld c.loop.ready c.loop.kept) (IsHeld c.release.new.ready c.release.result) c.args.marks.now c.args.counts.now c.loop.counts c.target-2.result (omega (arith, room, long, inside))
    some fewer c.loop.invariant.gained c.release.ensures.gained)

pub returns-clause-room : goal.returns-clause-room
returns-clause-room g c = c.release.ensures.room ∙ c.loop.invariant.room

pub returns-clause-ticks : goal.returns-clause-ticks
returns-clause-ticks g c =
    let ticked = c.loop.invariant.ticked in
    let turns = c.loop.invariant.turns in
    let end = c.loop.auto.counter-end c.requires.some in
    let given_one = ap given c.unwrap-edge-2.ensures in
    omega (arith, ticked, turns, end, given_one)
