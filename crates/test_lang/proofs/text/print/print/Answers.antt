use Rattle.std.proofs.Common.{◌≡◌, ℕ, ◌<◌, ◌≤◌, List, [], ◌∷◌, ◌++◌, length, arith, ap, sym, ◌∙◌}
use Rattle.std.specs.List.{flat_map}
use Rattle.std.proofs.lemmas.List.{take_all}
use Rattle.test_lang.specs.declared.op.Action.{Action}
use Rattle.test_lang.specs.Text.Line.{closed}
use Rattle.test_lang.specs.Text.Grammar.{head_line, words_line, thread_lines, test_text}
use Rattle.test_lang.proofs.TextLemmas.Printing.{printed-thread, printed-end}
use Rattle.test_lang.proofs.TextLemmas.Readings.{reading-test_text, reading-starts}
use Rattle.test_lang.proofs.text.print.print.Goals as goal

pub loop-thread-preserved : goal.loop-thread-preserved
loop-thread-preserved c =
    let in_range : c.loop-thread.thread < length c.args.test.now.threads = omega (arith, c.threads-thread-end.ensures.count) in
    printed-thread (head_line c.args.test.now.version ∷ words_line c.args.test.now.words ∷ []) _ _ _ _ c.loop-thread.invariant in_range c.in_ok-push_thread.ensures

-- All threads were printed, and `end` behind them.
printed : (c : goal.In_ok-extend_from_slice) → c.extend_from_slice.new.self.items ≡ test_text c.args.test.now
printed c =
    let front = head_line c.args.test.now.version ∷ words_line c.args.test.now.words ∷ [] in
    let threads = c.args.test.now.threads in
    let all : length threads ≤ c.loop-thread.thread = omega (arith, c.threads-thread-end.ensures.count, c.loop-thread-test.false) in
    let whole : c.loop-thread.out.items ≡ closed (front ++ flat_map thread_lines threads) =
    c.loop-thread.invariant ∙ ap (λ (ts : List (List Action)). closed (front ++ flat_map thread_lines ts)) (take_all c.loop-thread.thread threads all) in
    printed-end front c.loop-thread.out.items c.extend_from_slice.new.self.items (flat_map thread_lines threads) whole c.in_ok-extend_from_slice.ensures.items

pub returns-clause-text : goal.returns-clause-text
returns-clause-text c = printed c

pub returns-clause-read_back : goal.returns-clause-read_back
returns-clause-read_back c = λ rest. reading-test_text c.extend_from_slice.new.self.items c.args.test.now rest (printed c) c.words.ensures.limits c.requires

pub returns-clause-only : goal.returns-clause-only
returns-clause-only c = λ bytes e.
    let is = reading-starts bytes c.args.test.now e in
    (is.0, is.1.whole ∙ ap (λ (ys : List ℕ). ys ++ is.0) (sym (printed c)))
