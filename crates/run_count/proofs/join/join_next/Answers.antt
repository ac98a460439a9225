use Rattle.run_count.specs.Pieces.{in_piece}
use Rattle.run_count.proofs.join.join_next.Goals as goal

pub returns-in_ok-join_two-in-Ok : goal.returns-in_ok-join_two-in-Ok
returns-in_ok-join_two-in-Ok c = λ p. record {
  count = c.in-Ok.next;
  given = c.in-Ok.is;
  not_done = c.if-all.false;
  is_done = c.in_ok-join_two-in-Ok.ensures.is_done;
  counted = c.in_ok-join_two-in-Ok.ensures.counted p;
}

pub returns-in-Err : goal.returns-in-Err
returns-in-Err c = λ p. in_piece c.in-Err.fault c.in-Err.is c.if-all.false c.moved.ensures
