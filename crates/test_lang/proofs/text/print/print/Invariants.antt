use Rattle.std.proofs.Common.{◌≡◌, ◌∷◌, take}
use Rattle.std.specs.List.{flat_map}
use Rattle.test_lang.specs.Text.Line.{closed}
use Rattle.test_lang.specs.Text.Grammar.{head_line, words_line, thread_lines}
use Rattle.test_lang.proofs.text.print.print.Given as goal

-- The lines of the threads so far stand behind the first two.
abbrev pub invariant-loop-thread : goal.invariant-loop-thread
invariant-loop-thread l = l.out.items ≡ closed (head_line l.test.version ∷ words_line l.test.words ∷ flat_map thread_lines (take l.thread l.test.threads))
