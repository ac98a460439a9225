use Rattle.std.proofs.Common.{◌∙◌, ◌-◌, sym}
use Rattle.std.proofs.lemmas.List.{take_rest}
use Rattle.run_text.proofs.Cutting.{feeds}
use Rattle.run_text.proofs.pieces.cut_front.Goals as goal

pub returns-clause-feed : goal.returns-clause-feed
returns-clause-feed c =
    let h = feeds c.args.text.now c.in_ok-rest.field-0-0.now c.in_ok-rest.rest.now (c.args.size - 1) (sym (take_rest c.args.text.now (c.args.size - 1)) ∙ c.in_ok-rest.ensures.found.whole) in
    (h.0, c.split_at.ensures.front ∙ h.1)
