use Rattle.std.proofs.Common.{◌≡◌, [], ◌∷◌, ◌++◌, map, take, get_or}
use Rattle.std.specs.Prelude.{codes}
use Rattle.test_lang.specs.Text.Line.{closed}
use Rattle.test_lang.specs.Text.Grammar.{action_line}
use Rattle.test_lang.proofs.text.print.push_thread.Given as goal

-- The lines of the actions so far stand behind the line that begins the thread.
abbrev pub invariant-loop-place : goal.invariant-loop-place
invariant-loop-place l = l.out.items ≡ l.fn.out.items ++ closed (codes "thread" ∷ map action_line (take l.place (get_or l.test.threads l.thread [])))
