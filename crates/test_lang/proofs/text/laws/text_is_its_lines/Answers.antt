use Rattle.std.proofs.Common.{ap, ◌∙◌, ◌++◌, List, ℕ}
use Rattle.std.proofs.lemmas.List.{append-nil}
use Rattle.test_lang.specs.Text.Line.{lines_of}
use Rattle.test_lang.proofs.TextLemmas.Lines.{lines_of-closed, lines_of-none}
use Rattle.test_lang.proofs.TextLemmas.Readings.{in_lines}
use Rattle.test_lang.proofs.text.laws.text_is_its_lines.Goals as goal

pub returns-clause-lines : goal.returns-clause-lines
returns-clause-lines c = in_lines

pub returns-clause-only : goal.returns-clause-only
returns-clause-only c = λ text lines rest h.
    ap lines_of h.whole ∙ lines_of-closed lines rest h.each ∙ ap (λ (ls : List (List ℕ)). lines ++ ls) (lines_of-none rest h.unclosed) ∙ append-nil lines
