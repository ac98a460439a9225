use Rattle.std.proofs.Common.{◌≡◌, refl, arith, length-append}
use Rattle.std.proofs.lemmas.List.{length-take}
use Rattle.std.proofs.KnownBytes.{Consumes-kept, Consumes-trans, Consumes-whole}
use Rattle.mtrace_app.proofs.reading.read_to_end.Goals as goal

pub returns-in-Took-clause-rest : goal.returns-in-Took-clause-rest
returns-in-Took-clause-rest g c = (
  _,
  Consumes-trans _ _ _ _ _ c.loop-count.invariant.taken c.in-Took.ensures.next,
  simp (length-append, length-take) (omega (arith, c.loop-count.invariant.fits, c.in-Took.ensures.within.1, c.loop-count.invariant.block)),
)

pub returns-in_err-extend_from_slice-in-Took-2-clause-rest : goal.returns-in_err-extend_from_slice-in-Took-2-clause-rest
returns-in_err-extend_from_slice-in-Took-2-clause-rest g c = (
  _,
  Consumes-trans _ _ _ _ _ c.loop-count.invariant.taken c.in-Took-2.ensures.next,
  simp (length-append, length-take) (omega (arith, c.loop-count.invariant.fits, c.in-Took-2.ensures.within.1, c.loop-count.invariant.block)),
)

pub returns-in-End-clause-bytes : goal.returns-in-End-clause-bytes
returns-in-End-clause-bytes g c =
    let (kept, end) = c.in-End.ensures.next in
    Consumes-whole _ _ _ (λ left. c.loop-count.bytes.items ≡ left) (Consumes-kept _ _ _ _ c.loop-count.invariant.taken kept) end refl
