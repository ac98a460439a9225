-- The names that commands and reports give the memory models, and their order.
use Rattle.std.specs.Prelude.{ℕ, List, Bool, not, nat_lt, codes}
use Rattle.test_lang.specs.declared.op.MemModel.{MemModel}
use Rattle.test_lang.specs.declared.op.MemModel.TheVariants.{Sc, Tso, Pso, Weak}

abbrev pub model_name : MemModel → List ℕ
model_name Sc = codes "sc"
model_name Tso = codes "tso"
model_name Pso = codes "pso"
model_name Weak = codes "weak"

-- From the strongest to the weakest the models are `sc`, `tso`, `pso`, `weak`.
abbrev pub strength : MemModel → ℕ
strength Sc = 3
strength Tso = 2
strength Pso = 1
strength Weak = 0

-- the first model is the second or a weaker one
abbrev pub is_no_stronger : MemModel → MemModel → Bool
is_no_stronger m n = not (nat_lt (strength n) (strength m))
