-- Words have one list of settings at most.
use Rattle.std.proofs.Common.{◌≡◌, ◌∙◌, ℕ, List, sym}
use Rattle.std.specs.Prelude.{Option, Some}
use Rattle.command_line.specs.declared.meaning.Settings.{Settings}
use Rattle.command_line.specs.Settings.{HasSettings}

same : {A : Type 0} (x y : A) (said : Option A) → said ≡ Some x → said ≡ Some y → x ≡ y
same x y said h k = let e = sym h ∙ k in cc

pub one_settings : (words : List (List ℕ)) (s t : Settings) → HasSettings words s → HasSettings words t → s ≡ t
one_settings words s t h k = λ i. record {
  command = same s.command t.command _ h.says.command k.says.command i;
  model = same s.model t.model _ h.says.model k.says.model i;
  target = same s.target t.target _ h.says.target k.says.target i;
  fault = same s.fault t.fault _ h.says.fault k.says.fault i;
  chunk = same s.chunk t.chunk _ h.says.chunk k.says.chunk i;
  workers = same s.workers t.workers _ h.says.workers k.says.workers i;
  runners = same s.runners t.runners _ h.says.runners k.says.runners i;
  runs = same s.runs t.runs _ h.says.runs k.says.runs i;
  gen_settings = record {
    seed = same s.gen_settings.seed t.gen_settings.seed _ h.says.generated.seed k.says.generated.seed i;
    threads = same s.gen_settings.threads t.gen_settings.threads _ h.says.generated.threads k.says.generated.threads i;
    ops = same s.gen_settings.ops t.gen_settings.ops _ h.says.generated.ops k.says.generated.ops i;
    words = same s.gen_settings.words t.gen_settings.words _ h.says.generated.words k.says.generated.words i;
    stores = same s.gen_settings.stores t.gen_settings.stores _ h.says.generated.stores k.says.generated.stores i;
    fences = same s.gen_settings.fences t.gen_settings.fences _ h.says.generated.fences k.says.generated.fences i;
  };
}
