use Rattle.std.proofs.Common.{◌≡◌, ◌∙◌, ◌<◌, ◌^◌, true, arith}
use Rattle.std.specs.Prelude.{is_some}
use Rattle.std.proofs.lemmas.Result.{MatchResult-at_ok, MatchResult-at_err}
use Rattle.test_lang.specs.Text.Numeral.{whole_numeral}
use Rattle.command_line.proofs.Numbers.{parsed_between}
use Rattle.command_line.proofs.texts.read_number.Goals as goal

pub returns-in-Ok-clause-exact : goal.returns-in-Ok-clause-exact
returns-in-Ok-clause-exact c =
    let fits : c.args.most < 2 ^ 64 = omega (arith, c.ranges.most) in
    let is : is_some (whole_numeral c.args.text.now) ≡ true = cc in
    c.within.ensures.exact ∙ MatchResult-at_ok _ _ c.in-Ok.number c.in-Ok.is
    (parsed_between c.args.text.now c.args.least c.args.most c.parse.result fits is c.parse.ensures.value.0)

pub returns-in-Err-clause-exact : goal.returns-in-Err-clause-exact
returns-in-Err-clause-exact c =
    let fits : c.args.most < 2 ^ 64 = omega (arith, c.ranges.most) in
    let is : is_some (whole_numeral c.args.text.now) ≡ true = cc in
    MatchResult-at_err _ _ c.in-Err.field-0 c.in-Err.is
    (parsed_between c.args.text.now c.args.least c.args.most c.parse.result fits is c.parse.ensures.value.0)
