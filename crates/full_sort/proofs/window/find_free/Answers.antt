-- Each node of the window is noted where it is free.
use Rattle.std.proofs.Common.{◌≡◌, ◌∙◌, ℕ, List, All, subst, arith}
use Rattle.std.proofs.lemmas.List.{take_all}
use Rattle.full_sort.specs.Bits.{bit_of}
use Rattle.full_sort.specs.Waiting.{IsFree}
use Rattle.full_sort.proofs.Free.{only-more, noted-more, free-noted}
use Rattle.full_sort.proofs.window.find_free.Goals as goal

pub loop-node-preserved : goal.loop-node-preserved
loop-node-preserved c = record {
  only = only-more c.loop-node.ready c.args.waiting.now c.args.marks.now c.loop-node.invariant.only c.note_free.new.ready _ c.note_free.ensures;
  noted = noted-more c.loop-node.ready c.args.waiting.now c.args.marks.now c.args.window.now c.loop-node.node-index (omega arith) c.loop-node.invariant.noted c.note_free.new.ready c.note_free.ensures;
  room = c.note_free.ensures.room ∙ c.loop-node.invariant.room;
}

pub returns-clause-free : goal.returns-clause-free
returns-clause-free c =
    free-noted c.loop-node.ready c.args.waiting.now c.args.marks.now c.args.window.now c.loop-node.invariant.only
    (subst (λ (xs : List ℕ). All (λ (z : ℕ). IsFree c.args.waiting.now c.args.marks.now z → bit_of c.loop-node.ready z ≡ 1) xs) (take_all c.loop-node.node-index c.args.window.now (omega arith)) c.loop-node.invariant.noted)
    c.requires.only
