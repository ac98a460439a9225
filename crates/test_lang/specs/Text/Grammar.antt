-- The one text of a test.
use Rattle.std.specs.Prelude.{◌≡◌, ℕ, ◌<◌, List, [], ◌∷◌, ◌++◌, map, length, codes}
use Rattle.std.specs.Fmt.{decimal}
use Rattle.std.specs.List.{flat_map}
use Rattle.test_lang.specs.declared.op.FenceKind.TheVariants.{Full, Store as StoreFence, Load as LoadFence}
use Rattle.test_lang.specs.declared.op.Action.{Action}
use Rattle.test_lang.specs.declared.op.Action.TheVariants.{Load, Store, Fence}
use Rattle.test_lang.specs.Program.{Program, IsWithinLimits}
use Rattle.test_lang.specs.Text.Line.{closed}
use Rattle.test_lang.specs.Text.Numeral.{part}

abbrev pub head_line : ℕ → List ℕ
head_line version = codes "mtest" ++ part (decimal version)

abbrev pub words_line : ℕ → List ℕ
words_line n = codes "words" ++ part (decimal n)

abbrev pub action_line : Action → List ℕ
action_line (Load word) = codes "ld" ++ part (decimal word)
action_line (Store word) = codes "st" ++ part (decimal word)
action_line (Fence Full) = codes "fence"
action_line (Fence StoreFence) = codes "fence st"
action_line (Fence LoadFence) = codes "fence ld"

abbrev pub thread_lines : List Action → List (List ℕ)
thread_lines thread = codes "thread" ∷ map action_line thread

-- the lines of the threads
abbrev pub body_lines : Program → List (List ℕ)
body_lines p = flat_map thread_lines p.threads

-- The lines that a test has.
abbrev pub test_lines : Program → List (List ℕ)
test_lines p = head_line p.version ∷ words_line p.words ∷ (body_lines p ++ codes "end" ∷ [])

-- The text of a test: its lines, each closed by a line feed.
abbrev pub test_text : Program → List ℕ
test_text p = closed (test_lines p)

-- The text begins with the text of this test, which has a thread, and these bytes stand behind it.
pub record StartsWithTest (text : List ℕ) (p : Program) (rest : List ℕ) : Type 0 where
  pub limits : IsWithinLimits p
  pub some_thread : 0 < length p.threads
  pub whole : text ≡ test_text p ++ rest
