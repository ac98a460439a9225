use Rattle.std.proofs.Common.{◌∙◌, ◌+◌, ℕ, length, subst}
use Rattle.std.proofs.lemmas.List.{length-map}
use Rattle.digraph.specs.KeyList.{IsLinked}
use Rattle.digraph.specs.LinkRows.{keys_of, previous_of}
use Rattle.digraph.proofs.LinkRows.{refilled-sound}
use Rattle.digraph.proofs.links.Links.push_ends.Goals as goal

pub returns-clause-sound : goal.returns-clause-sound
returns-clause-sound c =
    let more = length-map c.args.edges.now (λ e. e.0) in
    refilled-sound (c.sources.inside.count + length c.args.edges.now) c.sources.inside.links.len c.sources.inside.last.len c.link_ends.new.source_links c.sources.inside.links.items c.link_ends.new.source_last c.sources.inside.last.items
    (subst (λ (n : ℕ). IsLinked (c.sources.inside.count + n) (keys_of c.link_ends.new.source_links) c.link_ends.new.source_last (previous_of c.link_ends.new.source_links)) more c.link_ends.ensures.sources.linked)
    (c.link_ends.ensures.sources.room ∙ c.deref_mut.ensures.len) (c.link_ends.ensures.sources.kinds ∙ c.deref_mut-2.ensures.len)

pub returns-clause-sound_targets : goal.returns-clause-sound_targets
returns-clause-sound_targets c =
    let more = length-map c.args.edges.now (λ e. e.1) in
    refilled-sound (c.sources.inside.count + length c.args.edges.now) c.targets.inside.links.len c.targets.inside.last.len c.link_ends.new.target_links c.targets.inside.links.items c.link_ends.new.target_last c.targets.inside.last.items
    (subst (λ (n : ℕ). IsLinked (c.sources.inside.count + n) (keys_of c.link_ends.new.target_links) c.link_ends.new.target_last (previous_of c.link_ends.new.target_links)) more c.link_ends.ensures.targets.linked)
    (c.link_ends.ensures.targets.room ∙ c.deref_mut-3.ensures.len) (c.link_ends.ensures.targets.kinds ∙ c.deref_mut-4.ensures.len)
