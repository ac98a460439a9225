-- A model keeps what each weaker one keeps, since it keeps what the next weaker one keeps.
use Rattle.std.specs.Prelude.{IsTrue}
use Rattle.test_lang.specs.declared.op.MemModel.{MemModel}
use Rattle.test_lang.specs.declared.op.MemModel.TheVariants.{Sc, Tso, Pso, Weak}
use Rattle.test_lang.specs.Kept.{IsKept}
use Rattle.test_lang.specs.Models.{is_no_stronger}
use Rattle.test_lang.specs.Program.{Program}
use Rattle.test_lang.specs.Play.Explanations.{IsWeaker}

module _ (p : Program) (tso : IsWeaker (IsKept Tso p) (IsKept Sc p)) (pso : IsWeaker (IsKept Pso p) (IsKept Tso p)) (weak : IsWeaker (IsKept Weak p) (IsKept Pso p)) where
  pub weaker_by : (m n : MemModel) → IsTrue (is_no_stronger m n) → IsWeaker (IsKept m p) (IsKept n p)
  weaker_by Sc Sc e = λ a b h. h
  weaker_by Sc Tso e = absurd cc
  weaker_by Sc Pso e = absurd cc
  weaker_by Sc Weak e = absurd cc
  weaker_by Tso Sc e = tso
  weaker_by Tso Tso e = λ a b h. h
  weaker_by Tso Pso e = absurd cc
  weaker_by Tso Weak e = absurd cc
  weaker_by Pso Sc e = λ a b h. tso a b (pso a b h)
  weaker_by Pso Tso e = pso
  weaker_by Pso Pso e = λ a b h. h
  weaker_by Pso Weak e = absurd cc
  weaker_by Weak Sc e = λ a b h. tso a b (pso a b (weak a b h))
  weaker_by Weak Tso e = λ a b h. pso a b (weak a b h)
  weaker_by Weak Pso e = weak
  weaker_by Weak Weak e = λ a b h. h
