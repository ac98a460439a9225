use Rattle.window_resort.proofs.OneWalk.{one_taken}
use Rattle.window_resort.proofs.laws.a_run_is_taken_one_way.Goals as goal

pub returns : goal.returns
returns c = λ m p base run v w a b x y. one_taken m p run base v w a b x y
