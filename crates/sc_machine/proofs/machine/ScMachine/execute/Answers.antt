use Rattle.std.proofs.Common.{◌∙◌, ◌<◌, List, ap, sym, take, arith, get_or, length, refl}
use Rattle.std.proofs.lemmas.List.{get_or_read, length-set, with_items_is}
use Rattle.sc_machine.specs.Standing.{Standing, executing_at}
use Rattle.std.specs.Prelude.{not}
use Rattle.sc_machine.specs.declared.threads.Thread.{Thread}
use Rattle.sc_machine.specs.Threads.{open_numbers}
use Rattle.sc_machine.proofs.Fields.{after_fence, asked, few_threads, in_threads, listed_after, moved_on, loaded, node_below, some_left, stored}
use Rattle.sc_machine.proofs.Opening.{limits_of, loads_each, words_before, words_now}
use Rattle.sc_machine.proofs.machine.ScMachine.execute.Goals as goal

pub index-standing-requires : goal.index-standing-requires
index-standing-requires c =
    let within = in_threads _ _ c.self.invariant.machine refl c.args.thread (asked _ c.args.self.now c.args.thread c.self.view_is c.requires) in
    let long = c.self.inside.threads.ok.0 in
    omega (arith, within, long)

pub index_mut-requires : goal.index_mut-requires
index_mut-requires c =
    let within = in_threads _ _ c.self.invariant.machine refl c.args.thread (asked _ c.args.self.now c.args.thread c.self.view_is c.requires) in
    let long = c.self.inside.threads.ok.0 in
    omega (arith, within, long)

pub overflow_add-moved : goal.overflow_add-moved
overflow_add-moved c =
    let below = node_below _ _ c.self.invariant.machine refl c.args.thread (asked _ c.args.self.now c.args.thread c.self.view_is c.requires) c.index-standing.result.now c.index-standing.ensures in
    let few = (limits_of _ _ c.self.invariant.machine).operations in
    omega (arith, below, few)

pub list_again-self-inside-requires-clause-few : goal.list_again-self-inside-requires-clause-few
list_again-self-inside-requires-clause-few c =
    let few = few_threads _ _ c.self.invariant.machine refl c.args.thread (asked _ c.args.self.now c.args.thread c.self.view_is c.requires) in
    let same = ap length c.deref.ensures.value in
    let long = length-set c.self.inside.threads.items c.args.thread (moved_on c.index-standing.result.now) in
    omega (arith, few, same, long)

pub list_again-self-inside-requires-clause-room : goal.list_again-self-inside-requires-clause-room
list_again-self-inside-requires-clause-room c =
    ap length c.deref_mut.ensures.value ∙ c.self.invariant.room ∙ sym (ap length c.deref.ensures.value ∙ length-set c.self.inside.threads.items c.args.thread (moved_on c.index-standing.result.now))

pub list_again-self-inside-requires-clause-count : goal.list_again-self-inside-requires-clause-count
list_again-self-inside-requires-clause-count c = λ stays.
    c.self.invariant.counted
    ∙ sym (ap (λ (threads : List Thread). length (open_numbers threads)) c.deref.ensures.value ∙ ap length (listed_after _ _ c.self.invariant.machine refl c.args.thread (asked _ c.args.self.now c.args.thread c.self.view_is c.requires) c.index-standing.result.now c.index-standing.ensures (not c.is_open.result) (ap not c.is_open.ensures) stays))

pub list_again-self-inside-requires-clause-listed : goal.list_again-self-inside-requires-clause-listed
list_again-self-inside-requires-clause-listed c = λ stays.
    ap (take c.self.inside.open_count) c.deref_mut.ensures.value
    ∙ c.self.invariant.listed_are
    ∙ sym (ap open_numbers c.deref.ensures.value ∙ (listed_after _ _ c.self.invariant.machine refl c.args.thread (asked _ c.args.self.now c.args.thread c.self.view_is c.requires) c.index-standing.result.now c.index-standing.ensures (not c.is_open.result) (ap not c.is_open.ensures) stays))

pub overflow_sub-self : goal.overflow_sub-self
overflow_sub-self c = some_left _ _ c.self.invariant.machine refl c.args.thread (asked _ c.args.self.now c.args.thread c.self.view_is c.requires)

pub op-requires : goal.op-requires
op-requires c = node_below _ _ c.self.invariant.machine refl c.args.thread (asked _ c.args.self.now c.args.thread c.self.view_is c.requires) c.index-standing.result.now c.index-standing.ensures

pub index-now-requires : goal.index-now-requires
index-now-requires c =
    let word = c.in-Load.ensures.word in
    let room = words_now _ _ c.self.invariant.machine in
    let long = c.self.inside.now.ok.0 in
    omega (arith, word, room, long)

pub index-before-requires : goal.index-before-requires
index-before-requires c =
    let word = c.in-Load.ensures.word in
    let room = words_before _ _ c.self.invariant.machine in
    let long = c.self.inside.before.ok.0 in
    omega (arith, word, room, long)

pub index-requires : goal.index-requires
index-requires c =
    let word = c.in-Store.ensures.word in
    let room = words_now _ _ c.self.invariant.machine in
    let long = c.self.inside.now.ok.0 in
    omega (arith, word, room, long)

pub index_mut-requires-in-Store : goal.index_mut-requires-in-Store
index_mut-requires-in-Store c =
    let word = c.in-Store.ensures.word in
    let room = words_before _ _ c.self.invariant.machine in
    let long = c.self.inside.before.ok.0 in
    omega (arith, word, room, long)

pub index_mut-requires-in-Store-2 : goal.index_mut-requires-in-Store-2
index_mut-requires-in-Store-2 c =
    let word = c.in-Store.ensures.word in
    let room = words_now _ _ c.self.invariant.machine in
    let long = c.self.inside.now.ok.0 in
    omega (arith, word, room, long)

pub index_mut-requires-in-Load : goal.index_mut-requires-in-Load
index_mut-requires-in-Load c =
    let rank = c.rank_of-rank.ensures.in_range in
    let room = loads_each _ _ c.self.invariant.machine in
    let long = c.self.inside.loads.ok.0 in
    omega (arith, rank, room, long)

pub invariant_of-self : goal.invariant_of-self
invariant_of-self c =
    let word = c.in-Load.ensures.word in
    let now_room = words_now _ _ c.self.invariant.machine in
    let now_has : c.in-Load.word < length c.self.inside.now.items = omega (arith, word, now_room) in
    let before_room = words_before _ _ c.self.invariant.machine in
    let before_has : c.in-Load.word < length c.self.inside.before.items = omega (arith, word, before_room) in
    (record {
      machine = (loaded _ _ c.self.invariant.machine refl c.args.thread (asked _ c.args.self.now c.args.thread c.self.view_is c.requires) c.index-standing.result.now c.index-standing.result.now c.index-standing.ensures c.index-standing.ensures
          c.in-Load.word c.rank_of-rank.result c.value_of_load.result c.index-now.result.now c.index-before.result.now c.in-Load.ensures.found c.rank_of-rank.ensures.rank
          (get_or_read c.self.inside.now.items c.in-Load.word c.index-now.result.now now_has c.index-now.ensures 0)
          (get_or_read c.self.inside.before.items c.in-Load.word c.index-before.result.now before_has c.index-before.ensures 0)
          c.value_of_load.ensures).machine;
      counted = c.list_again-self-inside.ensures.count ∙ ap (λ (threads : List Thread). length (open_numbers threads)) c.deref.ensures.value;
      room = ap length (with_items_is c.self.inside.open_threads c.list_again-self-inside.new.listed (c.list_again-self-inside.auto.listed ∙ c.deref_mut.ensures.len)) ∙ c.list_again-self-inside.auto.listed ∙ ap length c.deref_mut.ensures.value ∙ c.self.invariant.room ∙ sym (length-set c.self.inside.threads.items c.args.thread (moved_on c.index-standing.result.now));
      listed_are = ap (take c.list_again-self-inside.result) (with_items_is c.self.inside.open_threads c.list_again-self-inside.new.listed (c.list_again-self-inside.auto.listed ∙ c.deref_mut.ensures.len)) ∙ c.list_again-self-inside.ensures.listed ∙ ap open_numbers c.deref.ensures.value;
    })

pub returns-in-Load : goal.returns-in-Load
returns-in-Load c =
    let word = c.in-Load.ensures.word in
    let now_room = words_now _ _ c.self.invariant.machine in
    let now_has : c.in-Load.word < length c.self.inside.now.items = omega (arith, word, now_room) in
    let before_room = words_before _ _ c.self.invariant.machine in
    let before_has : c.in-Load.word < length c.self.inside.before.items = omega (arith, word, before_room) in
    (loaded _ _ c.self.invariant.machine refl c.args.thread (asked _ c.args.self.now c.args.thread c.self.view_is c.requires) c.index-standing.result.now c.index-standing.result.now c.index-standing.ensures c.index-standing.ensures
    c.in-Load.word c.rank_of-rank.result c.value_of_load.result c.index-now.result.now c.index-before.result.now c.in-Load.ensures.found c.rank_of-rank.ensures.rank
    (get_or_read c.self.inside.now.items c.in-Load.word c.index-now.result.now now_has c.index-now.ensures 0)
    (get_or_read c.self.inside.before.items c.in-Load.word c.index-before.result.now before_has c.index-before.ensures 0)
    c.value_of_load.ensures).is
    ∙ ap (λ (m : Standing). executing_at m c.args.thread (get_or m.positions c.args.thread 0)) c.self.view_is

pub invariant_of-self-in-Store : goal.invariant_of-self-in-Store
invariant_of-self-in-Store c =
    let word = c.in-Store.ensures.word in
    let now_room = words_now _ _ c.self.invariant.machine in
    let now_has : c.in-Store.word < length c.self.inside.now.items = omega (arith, word, now_room) in
    (record {
      machine = (stored _ _ c.self.invariant.machine refl c.args.thread (asked _ c.args.self.now c.args.thread c.self.view_is c.requires) c.index-standing.result.now c.index-standing.result.now c.index-standing.ensures c.index-standing.ensures
          c.in-Store.word c.value_of-value.result c.index.result.now c.in-Store.ensures.found c.value_of-value.ensures.value
          (get_or_read c.self.inside.now.items c.in-Store.word c.index.result.now now_has c.index.ensures 0)).machine;
      counted = c.list_again-self-inside.ensures.count ∙ ap (λ (threads : List Thread). length (open_numbers threads)) c.deref.ensures.value;
      room = ap length (with_items_is c.self.inside.open_threads c.list_again-self-inside.new.listed (c.list_again-self-inside.auto.listed ∙ c.deref_mut.ensures.len)) ∙ c.list_again-self-inside.auto.listed ∙ ap length c.deref_mut.ensures.value ∙ c.self.invariant.room ∙ sym (length-set c.self.inside.threads.items c.args.thread (moved_on c.index-standing.result.now));
      listed_are = ap (take c.list_again-self-inside.result) (with_items_is c.self.inside.open_threads c.list_again-self-inside.new.listed (c.list_again-self-inside.auto.listed ∙ c.deref_mut.ensures.len)) ∙ c.list_again-self-inside.ensures.listed ∙ ap open_numbers c.deref.ensures.value;
    })

pub returns-in-Store : goal.returns-in-Store
returns-in-Store c =
    let word = c.in-Store.ensures.word in
    let now_room = words_now _ _ c.self.invariant.machine in
    let now_has : c.in-Store.word < length c.self.inside.now.items = omega (arith, word, now_room) in
    (stored _ _ c.self.invariant.machine refl c.args.thread (asked _ c.args.self.now c.args.thread c.self.view_is c.requires) c.index-standing.result.now c.index-standing.result.now c.index-standing.ensures c.index-standing.ensures
    c.in-Store.word c.value_of-value.result c.index.result.now c.in-Store.ensures.found c.value_of-value.ensures.value
    (get_or_read c.self.inside.now.items c.in-Store.word c.index.result.now now_has c.index.ensures 0)).is
    ∙ ap (λ (m : Standing). executing_at m c.args.thread (get_or m.positions c.args.thread 0)) c.self.view_is

pub invariant_of-self-in-Fence : goal.invariant_of-self-in-Fence
invariant_of-self-in-Fence c =
    (record {
      machine = (after_fence _ _ c.self.invariant.machine refl c.args.thread (asked _ c.args.self.now c.args.thread c.self.view_is c.requires) c.index-standing.result.now c.index-standing.result.now c.index-standing.ensures c.index-standing.ensures c.in-Fence.ensures.found).machine;
      counted = c.list_again-self-inside.ensures.count ∙ ap (λ (threads : List Thread). length (open_numbers threads)) c.deref.ensures.value;
      room = ap length (with_items_is c.self.inside.open_threads c.list_again-self-inside.new.listed (c.list_again-self-inside.auto.listed ∙ c.deref_mut.ensures.len)) ∙ c.list_again-self-inside.auto.listed ∙ ap length c.deref_mut.ensures.value ∙ c.self.invariant.room ∙ sym (length-set c.self.inside.threads.items c.args.thread (moved_on c.index-standing.result.now));
      listed_are = ap (take c.list_again-self-inside.result) (with_items_is c.self.inside.open_threads c.list_again-self-inside.new.listed (c.list_again-self-inside.auto.listed ∙ c.deref_mut.ensures.len)) ∙ c.list_again-self-inside.ensures.listed ∙ ap open_numbers c.deref.ensures.value;
    })

pub returns-in-Fence : goal.returns-in-Fence
returns-in-Fence c =
    (after_fence _ _ c.self.invariant.machine refl c.args.thread (asked _ c.args.self.now c.args.thread c.self.view_is c.requires) c.index-standing.result.now c.index-standing.result.now c.index-standing.ensures c.index-standing.ensures c.in-Fence.ensures.found).is
    ∙ ap (λ (m : Standing). executing_at m c.args.thread (get_or m.positions c.args.thread 0)) c.self.view_is
