-- The three targets at hand are released one after another.
use Rattle.std.proofs.Common.{◌≡◌, ◌∙◌, ℕ, ◌+◌, ◌-◌, ◌<◌, ◌≤◌, List, get_or, set, take, length, ap, sym, subst, arith, refl, inl, inr, ⊎_elim, get_or-set_same, get_or-set_other}
use Rattle.std.proofs.lemmas.Bool.{cases_eq}
use Rattle.std.proofs.lemmas.List.{length-set, take_all}
use Rattle.digraph.specs.Digraph.{targets_from}
use Rattle.full_sort.specs.Ready.{IsHeld, times_in}
use Rattle.full_sort.proofs.Releases.{gained-step, list-less, list-some, near-count, near-inside, targets-inside}
use Rattle.full_sort.proofs.releasing.release_near.Goals as goal

-- a count that falls by one at a place doesn't rise
fewer-set : (w0 ws : List ℕ) (x : ℕ) → x < length ws → ((t : ℕ) → get_or ws t 0 ≤ get_or w0 t 0) → (t : ℕ) → get_or (set ws x (get_or ws x 0 - 1)) t 0 ≤ get_or w0 t 0
fewer-set w0 ws x inside fewer t = elim (cases_eq t x) [
  | inl same ↦
      subst (λ (m : ℕ). get_or (set ws x (get_or ws x 0 - 1)) m 0 ≤ get_or w0 m 0) (sym same)
      (let written = get_or-set_same ws x (get_or ws x 0 - 1) 0 inside in let before = fewer x in omega (arith, written, before))
  | inr other ↦ (let kept = get_or-set_other ws x t (get_or ws x 0 - 1) 0 other in let before = fewer t in omega (arith, kept, before))
]

-- one value falls by one at most
least-set : (w0 i : ℕ) (ws : List ℕ) (x n : ℕ) → x < length ws → w0 ≤ get_or ws n 0 + i → w0 ≤ get_or (set ws x (get_or ws x 0 - 1)) n 0 + (i + 1)
least-set w0 i ws x n inside le = elim (cases_eq n x) [
  | inl same ↦
      (let written : get_or (set ws x (get_or ws x 0 - 1)) n 0 ≡ get_or ws x 0 - 1 = ap (λ (m : ℕ). get_or (set ws x (get_or ws x 0 - 1)) m 0) same ∙ get_or-set_same ws x (get_or ws x 0 - 1) 0 inside in
      let at : get_or ws n 0 ≡ get_or ws x 0 = ap (λ (m : ℕ). get_or ws m 0) same in
      omega (arith, written, at, le))
  | inr other ↦ (let kept = get_or-set_other ws x n (get_or ws x 0 - 1) 0 other in omega (arith, kept, le))
]

-- each target at hand waits for an edge, and the place of no node has enough to spare
near-some : (items : List ℕ) (n i : ℕ) (w0 ws : List ℕ) → i < length items → i < 3 → get_or items i 0 ≤ n → length ws ≡ n + 1 →
    ((t : ℕ) → t < n → get_or ws t 0 + times_in (take i items) t ≡ get_or w0 t 0) → ((t : ℕ) → t < n → times_in items t ≤ get_or w0 t 0) →
    get_or w0 n 0 ≤ get_or ws n 0 + i → 4 ≤ get_or w0 n 0 → 1 ≤ get_or ws (get_or items i 0) 0
near-some items n i w0 ws lt low inside whole counted enough spare some = elim (cases_eq (get_or items i 0) n) [
  | inl same ↦
      (let at : get_or ws (get_or items i 0) 0 ≡ get_or ws n 0 = ap (λ (m : ℕ). get_or ws m 0) same in omega (arith, spare, some, at, low))
  | inr other ↦ list-some items i (get_or items i 0) lt refl n w0 ws whole counted enough (omega (arith, inside, other))
]

pub loop-target-init : goal.loop-target-init
loop-target-init g c = record {
  counted = λ t lt. omega arith;
  spare = omega arith;
  fewer = λ t. omega arith;
  counts_room = refl;
  gained = λ t. ((λ h. inl h), (λ h. ⊎_elim (λ b. b) (λ f. absurd (f.0 f.1)) h));
  kept = c.requires.kept;
  room = refl;
}

pub release-kept-requires-clause-target : goal.release-kept-requires-clause-target
release-kept-requires-clause-target g c =
    let n : ℕ = c.args.graph.now.nodes in
    let inside = near-inside (targets_from c.args.graph.now.edges c.args.node) c.near_targets-target-items.result.now n c.near_targets-target-items.ensures.long c.near_targets-target-items.ensures.at
    (targets-inside c.args.graph.now.edges c.args.node n c.nodes-nodes.ensures.sound.ends) c.loop-target.target-index (let long = c.near_targets-target-items.ensures.long in omega (arith, long)) in
    let room = c.loop-target.invariant.counts_room in
    let long = c.requires.counts in
    omega (arith, inside, room, long)

pub release-kept-requires-clause-some : goal.release-kept-requires-clause-some
release-kept-requires-clause-some g c =
    let n : ℕ = c.args.graph.now.nodes in
    let items : List ℕ = c.near_targets-target-items.result.now in
    let i : ℕ = c.loop-target.target-index in
    let x : ℕ = get_or items i 0 in
    let tell = c.near_targets-target-items.ensures in
    let long = tell.long in
    let targets : List ℕ = targets_from c.args.graph.now.edges c.args.node in
    let low : i < 3 = omega (arith, long) in
    let inside = near-inside targets items n tell.long tell.at (targets-inside c.args.graph.now.edges c.args.node n c.nodes-nodes.ensures.sound.ends) i low in
    let room = c.loop-target.invariant.counts_room in
    let whole = c.requires.counts in
    near-some items n i c.args.counts.now c.loop-target.counts (omega (arith, long, low)) low inside (omega (arith, room, whole)) c.loop-target.invariant.counted
    (λ t lt. let same = near-count targets items n tell.long tell.at t lt in let most = c.requires.enough t lt in omega (arith, same, most)) c.loop-target.invariant.spare c.requires.spare

pub release-kept-requires-clause-room : goal.release-kept-requires-clause-room
release-kept-requires-clause-room g c = λ one.
    let n : ℕ = c.args.graph.now.nodes in
    let items : List ℕ = c.near_targets-target-items.result.now in
    let i : ℕ = c.loop-target.target-index in
    let x : ℕ = get_or items i 0 in
    let tell = c.near_targets-target-items.ensures in
    let long = tell.long in
    let low : i < 3 = omega (arith, long) in
    let inside = near-inside (targets_from c.args.graph.now.edges c.args.node) items n tell.long tell.at (targets-inside c.args.graph.now.edges c.args.node n c.nodes-nodes.ensures.sound.ends) i low in
    let room = c.loop-target.invariant.room in
    let nodes = c.requires.room in
    elim (cases_eq x n) [
      | inl same ↦
          let spare = c.loop-target.invariant.spare in
          let some = c.requires.spare in
          let at : get_or c.loop-target.counts x 0 ≡ get_or c.loop-target.counts n 0 = ap (λ (m : ℕ). get_or c.loop-target.counts m 0) same in
          absurd (omega (arith, spare, some, at, low, one))
      | inr other ↦ omega (arith, inside, other, room, nodes)
    ]

pub release-kept-requires-clause-marks : goal.release-kept-requires-clause-marks
release-kept-requires-clause-marks g c = λ one.
    let n : ℕ = c.args.graph.now.nodes in
    let items : List ℕ = c.near_targets-target-items.result.now in
    let i : ℕ = c.loop-target.target-index in
    let x : ℕ = get_or items i 0 in
    let tell = c.near_targets-target-items.ensures in
    let long = tell.long in
    let low : i < 3 = omega (arith, long) in
    let inside = near-inside (targets_from c.args.graph.now.edges c.args.node) items n tell.long tell.at (targets-inside c.args.graph.now.edges c.args.node n c.nodes-nodes.ensures.sound.ends) i low in
    let marks = c.requires.marks in
    elim (cases_eq x n) [
      | inl same ↦
          let spare = c.loop-target.invariant.spare in
          let some = c.requires.spare in
          let at : get_or c.loop-target.counts x 0 ≡ get_or c.loop-target.counts n 0 = ap (λ (m : ℕ). get_or c.loop-target.counts m 0) same in
          absurd (omega (arith, spare, some, at, low, one))
      | inr other ↦ omega (arith, inside, other, marks)
    ]

pub release-kept-requires-clause-kept : goal.release-kept-requires-clause-kept
release-kept-requires-clause-kept g c = c.loop-target.invariant.kept

pub loop-target-preserved : goal.loop-target-preserved
loop-target-preserved g c =
    let n : ℕ = c.args.graph.now.nodes in
    let items : List ℕ = c.near_targets-target-items.result.now in
    let i : ℕ = c.loop-target.target-index in
    let x : ℕ = get_or items i 0 in
    let tell = c.near_targets-target-items.ensures in
    let long = tell.long in
    let targets : List ℕ = targets_from c.args.graph.now.edges c.args.node in
    let low : i < 3 = omega (arith, long) in
    let inside = near-inside targets items n tell.long tell.at (targets-inside c.args.graph.now.edges c.args.node n c.nodes-nodes.ensures.sound.ends) i low in
    let room = c.loop-target.invariant.counts_room in
    let whole = c.requires.counts in
    let within : x < length c.loop-target.counts = omega (arith, inside, room, whole) in
    let some =
    near-some items n i c.args.counts.now c.loop-target.counts (omega (arith, long, low)) low inside (omega (arith, room, whole)) c.loop-target.invariant.counted
    (λ t lt. let same = near-count targets items n tell.long tell.at t lt in let most = c.requires.enough t lt in omega (arith, same, most)) c.loop-target.invariant.spare c.requires.spare in
    rw c.release-kept.ensures.less (record {
      counted =
          list-less items i x (omega (arith, long, low)) refl n c.args.counts.now c.loop-target.counts (omega (arith, room, whole)) c.loop-target.invariant.counted
          (λ t lt. let same = near-count targets items n tell.long tell.at t lt in let most = c.requires.enough t lt in omega (arith, same, most)) (omega (arith, inside));
      spare = least-set (get_or c.args.counts.now n 0) i c.loop-target.counts x n within c.loop-target.invariant.spare;
      fewer = fewer-set c.args.counts.now c.loop-target.counts x within c.loop-target.invariant.fewer;
      counts_room = length-set c.loop-target.counts x (get_or c.loop-target.counts x 0 - 1) ∙ room;
      gained =
          gained-step (IsHeld c.args.ready.now c.args.kept) (IsHeld c.loop-target.ready c.loop-target.kept) (IsHeld c.release-kept.new.ready c.release-kept.result) c.args.marks.now c.args.counts.now c.loop-target.counts x within
          some (c.loop-target.invariant.fewer x) c.loop-target.invariant.gained c.release-kept.ensures.gained;
      kept = c.release-kept.ensures.kept;
      room = c.release-kept.ensures.room ∙ c.loop-target.invariant.room;
    })

pub returns-clause-less : goal.returns-clause-less
returns-clause-less g c = λ t lt.
    let n : ℕ = c.args.graph.now.nodes in
    let same = near-count (targets_from c.args.graph.now.edges c.args.node) c.near_targets-target-items.result.now n c.near_targets-target-items.ensures.long c.near_targets-target-items.ensures.at t lt in
    let so_far = c.loop-target.invariant.counted t lt in
    let all = ap (λ (xs : List ℕ). times_in xs t) (take_all c.loop-target.target-index c.near_targets-target-items.result.now (omega arith)) in
    omega (arith, same, so_far, all)

pub returns-clause-spare : goal.returns-clause-spare
returns-clause-spare g c =
    let spare = c.loop-target.invariant.spare in
    let some = c.requires.spare in
    let long = c.near_targets-target-items.ensures.long in
    omega (arith, spare, some, long)

pub returns-clause-gained : goal.returns-clause-gained
returns-clause-gained g c = c.loop-target.invariant.gained

pub returns-clause-kept : goal.returns-clause-kept
returns-clause-kept g c = c.loop-target.invariant.kept

pub returns-clause-room : goal.returns-clause-room
returns-clause-room g c = c.loop-target.invariant.room
