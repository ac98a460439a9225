-- A test, a memory model and a run: what the constraint graph of a run is made of.
use Rattle.std.specs.Prelude.{ℕ, List}
use Rattle.test_lang.specs.declared.op.MemModel.{MemModel}
use Rattle.test_lang.specs.Program.{Program}

pub record RunGraph : Type 0 where
  pub test : Program
  pub model : MemModel
  pub run : List ℕ
