use Rattle.std.proofs.Common.{refl, inr}
use Rattle.std.proofs.lemmas.Result.{err_from_is_err_and}
use Rattle.test_lang.proofs.TextLemmas.Heads.{reading-unclosed, reading-no_head, reading-unclosed_words, reading-no_words, reading-refused, reading-test, is_read_as}
use Rattle.test_lang.proofs.text.read.read_test.Goals as goal

pub returns-in_default : goal.returns-in_default
returns-in_default c = inr (reading-unclosed _ c.in_default.ensures.found)

pub returns-in_default-read_version : goal.returns-in_default-read_version
returns-in_default-read_version c = inr (reading-no_head _ _ _ c.in-Some.ensures.found c.in_default-read_version.ensures)

pub returns-in_default-first_line : goal.returns-in_default-first_line
returns-in_default-first_line c = inr (reading-unclosed_words _ _ _ c.in-Some.ensures.found _ c.in-Some-read_version.ensures c.in_default-first_line.ensures.found)

pub returns-in_default-read_words : goal.returns-in_default-read_words
returns-in_default-read_words c =
    inr (reading-no_words _ _ _ c.in-Some.ensures.found _ c.in-Some-read_version.ensures _ _ c.in-Some-first_line.ensures.found c.in_default-read_words.ensures)

pub returns-in_err-body : goal.returns-in_err-body
returns-in_err-body c =
    let p = err_from_is_err_and c.from_residual.result c.from_residual.ensures.1 in
    rw (p.1, p.2) (reading-refused _ _ _ c.in-Some.ensures.found _ c.in-Some-read_version.ensures _ _ c.in-Some-first_line.ensures.found _ c.in-Some-read_words.ensures _ c.in_err-body.ensures.fault)

pub returns : goal.returns
returns c =
    let here = c.in_ok-body.ensures in
    rw (reading-test _ _ _ c.in-Some.ensures.found _ c.in-Some-read_version.ensures _ _ c.in-Some-first_line.ensures.found _ c.in-Some-read_words.ensures _ here.test)
    (is_read_as _ _ _ c.in-Some.ensures.found _ c.in-Some-read_version.ensures _ _ c.in-Some-first_line.ensures.found _ c.in-Some-read_words.ensures _ _ here.test here.left _ refl refl here.last)
