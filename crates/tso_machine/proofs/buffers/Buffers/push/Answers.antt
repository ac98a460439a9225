use Rattle.std.proofs.Common.{◌≡◌, ◌<◌, length, set, subst, refl}
use Rattle.std.proofs.lemmas.Option.{slice_get_read}
use Rattle.tso_machine.specs.Queues.{Queues, queues_of, with_entry}
use Rattle.tso_machine.proofs.Ranges.{has_room, in_ranges, longer, pushed_queues}
use Rattle.tso_machine.proofs.buffers.Buffers.push.Goals as goal

pub returns : goal.returns
returns c =
    let nodes = c.self.inside.nodes.items in
    let ranges = c.self.inside.ranges.items in
    let t = c.args.thread in
    let range = c.index-range.result.now in
    let lt : t < length ranges = in_ranges nodes ranges c.args.self.now c.self.view_is t c.requires.thread in
    let here = slice_get_read ranges (length ranges) t range refl lt c.index-range.ensures in
    let room = has_room nodes ranges c.self.invariant t range here c.args.self.now c.self.view_is c.requires.room in
    subst (λ (queues : Queues). queues_of (set nodes range.end c.args.node) (set ranges t (longer nodes ranges c.self.invariant t range here c.args.node room)) ≡ with_entry queues t c.args.node) c.self.view_is
    (pushed_queues nodes ranges c.self.invariant t range here c.args.node room)
