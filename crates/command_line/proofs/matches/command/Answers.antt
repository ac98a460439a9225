use Rattle.std.proofs.Common.{◌≡◌, ◌∙◌, ap, ap₂, rules, false, codes}
use Rattle.std.proofs.lemmas.Result.{IfOk-weaker}
use Rattle.clap.specs.Words.{App, app_of, new_app, rule_of, with_rule}
use Rattle.clap.specs.Simple.{app_of_fields}
use Rattle.command_line.specs.Options.{behind_the_name, command_rule, with_rules}
use Rattle.command_line.proofs.Chain.{rules_of_names, rules_of_numbers}
use Rattle.command_line.proofs.matches.command.Goals as goal

pub returns : goal.returns
returns c =
    let named : app_of c.no_binary_name.result ≡ behind_the_name (new_app (codes "mtrace")) =
    ap app_of_fields c.no_binary_name.ensures ∙ ap behind_the_name c.new-2.ensures.app in
    let word : rule_of c.required-word.result ≡ command_rule = search rules in
    let local : c.required-word.result.global ≡ false = search rules in
    let first : app_of c.in_ok-command.command ≡ with_rule (behind_the_name (new_app (codes "mtrace"))) command_rule =
    c.in_ok-command.ensures.shape local ∙ ap₂ with_rule named word in
    IfOk-weaker c.with_numbers.result _ _ (λ made h. h ∙ ap (λ (a : App). with_rules a rules_of_numbers) (c.in_ok-command-2.ensures ∙ ap (λ (a : App). with_rules a rules_of_names) first)) c.with_numbers.ensures
