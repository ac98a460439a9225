use Rattle.std.proofs.Common.{◌∙◌, ◌^◌, List, ℕ, Bor, map, length, ap, arith, sym}
use Rattle.run_count.proofs.FewPieces.{if_ok_both}
use Rattle.run_count.proofs.Joining.{each-read}
use Rattle.run_count.proofs.Whole.{all-short}
use Rattle.run_count.proofs.text.count_by_pieces.Goals as goal

pub count_each-requires-after_bounds : goal.count_each-requires-after_bounds
count_each-requires-after_bounds g c κs within = all-short (2 ^ 32) c.in_ok-pieces.pieces.items (omega (arith, ap length c.in_ok-pieces.ensures.whole, c.requires.short))

pub returns : goal.returns
returns g c =
    let pieces = c.in_ok-pieces.pieces in
    if_ok_both c.count_each.result _ _ _ (λ counts len each. record {
      texts = map (λ (piece : Bor (List ℕ)). piece.now) pieces.items;
      cut = c.in_ok-pieces.ensures.cut;
      whole = c.in_ok-pieces.ensures.whole;
      read = each-read c.args.most c.args.plan.now pieces.items counts.items (sym counts.ok.0 ∙ len ∙ pieces.ok.0) each;
    }) c.count_each.ensures.len c.count_each.ensures.each
