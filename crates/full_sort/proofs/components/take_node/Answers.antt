use Rattle.std.proofs.Common.{ℕ, arith}
use Rattle.std.proofs.lemmas.List.{length-set}
use Rattle.full_sort.proofs.Numbering.{listed_taken, queue_room}
use Rattle.full_sort.proofs.components.take_node.Goals as goal

pub bounds-queue-count : goal.bounds-queue-count
bounds-queue-count c =
    queue_room c.args.numbers.now c.args.queue.now c.args.number c.args.count c.args.node c.requires.number c.requires.node c.if-numbers-node-ne0.false c.requires.queue c.requires.few c.requires.listed

pub returns-clause-listed : goal.returns-clause-listed
returns-clause-listed c =
    listed_taken c.args.numbers.now c.args.queue.now c.args.number c.args.count c.args.node c.requires.number c.requires.node c.if-numbers-node-ne0.false c.requires.queue c.requires.few c.requires.listed

pub returns-clause-few : goal.returns-clause-few
returns-clause-few c =
    let room = queue_room c.args.numbers.now c.args.queue.now c.args.number c.args.count c.args.node c.requires.number c.requires.node c.if-numbers-node-ne0.false c.requires.queue c.requires.few c.requires.listed in
    omega (arith, room, length-set {A = ℕ})
