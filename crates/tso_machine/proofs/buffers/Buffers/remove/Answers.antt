use Rattle.std.proofs.Common.{ℕ, ◌+◌, ◌-◌, ◌≡◌, ◌∙◌, ◌<◌, length, set, subst, refl, sym, arith}
use Rattle.std.specs.List.{CopiedTo, SameFrom}
use Rattle.std.proofs.lemmas.Option.{slice_get_read}
use Rattle.tso_machine.specs.Queues.{Queues, queues_of, without_entry}
use Rattle.tso_machine.proofs.Ranges.{in_part, in_ranges, left_queues}
use Rattle.tso_machine.proofs.buffers.Buffers.remove.Goals as goal

pub returns : goal.returns
returns c =
    let nodes = c.self.inside.nodes.items in
    let ranges = c.self.inside.ranges.items in
    let more = c.copy_within.new.self.items in
    let t = c.args.thread in
    let place = c.args.place in
    let range = c.index-range.result.now in
    let lt : t < length ranges = in_ranges nodes ranges c.args.self.now c.self.view_is t c.requires.thread in
    let here = slice_get_read ranges (length ranges) t range refl lt c.index-range.ensures in
    let inside = in_part nodes ranges c.self.invariant t range here c.args.self.now c.self.view_is place c.requires.place in
    let long : length more ≡ length nodes = sym c.copy_within.new.self.ok.0 ∙ c.copy_within.ensures.len ∙ c.self.inside.nodes.ok.0 in
    let count : range.begin + place - range.begin ≡ place = omega arith in
    let copied = subst (λ (n : ℕ). CopiedTo nodes more range.begin (range.begin + 1) n) count c.copy_within.ensures.by_index.0 in
    let above = subst (λ (n : ℕ). SameFrom nodes more (range.begin + 1 + n)) count c.copy_within.ensures.by_index.2 in
    subst (λ (queues : Queues). queues_of more (set ranges t (record { first = range.first; begin = range.begin + 1; end = range.end; limit = range.limit })) ≡ without_entry queues t place) c.self.view_is
    (left_queues nodes ranges c.self.invariant t range here place more inside long copied c.copy_within.ensures.by_index.1 above)
