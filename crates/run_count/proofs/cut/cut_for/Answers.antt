use Rattle.std.proofs.Common.{length, vec_len, rules}
use Rattle.run_count.proofs.FewPieces.{few_pieces, if_ok_more}
use Rattle.run_count.proofs.cut.cut_for.Goals as goal

pub returns-clause-few : goal.returns-clause-few
returns-clause-few c =
    if_ok_more c.cut_pieces.result _ _ (λ pieces few. few_pieces c.least_size.result (length c.args.text.now) c.args.workers (vec_len pieces) c.requires.workers (search rules) few) c.cut_pieces.ensures.few
