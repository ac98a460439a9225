use Rattle.std.proofs.Common.{◌≡◌, [], ap, ◌∙◌, refl, true, map, string_bytes, List, subst, ⊎_elim}
use Rattle.clap.specs.Words.{App, Text, Kinds, IsAmong, app_of, fault_of, is_simple, is_simple_and_free, kind_of, matches_of}
use Rattle.clap.specs.declared.error.kind.ErrorKind.TheVariants.{OutOfMemory}
use Rattle.clap.proofs.OnLiterals.{clap_on_literals}
use Rattle.command_line.specs.Options.{the_command}
use Rattle.command_line.proofs.matches.matches.Goals as goal

is_free : is_simple_and_free the_command ≡ true
unfolding clap_on_literals
is_free = refl

is_plain : is_simple the_command ≡ true
unfolding clap_on_literals
is_plain = refl

pub returns-in-Ok-try_get_matches_from-clause-ok : goal.returns-in-Ok-try_get_matches_from-clause-ok
returns-in-Ok-try_get_matches_from-clause-ok c =
    let texts : List Text = map string_bytes c.args.words.now in
    let same : app_of c.in-Ok.command ≡ the_command = c.in-Ok.ensures in (
      subst (λ (a : App). fault_of a texts ≡ []) same (c.in-Ok-try_get_matches_from.ensures.kinds (ap is_simple_and_free same ∙ is_free)),
      (c.in-Ok-try_get_matches_from.ensures.matches (ap is_simple same ∙ is_plain)).0 ∙ ap (λ (a : App). matches_of a texts) same,
    )

pub returns-clause-refused : goal.returns-clause-refused
returns-clause-refused c = λ refused none.
    let texts : List Text = map string_bytes c.args.words.now in
    let same : app_of c.in-Ok.command ≡ the_command = c.in-Ok.ensures in
    let faults : fault_of (app_of c.in-Ok.command) texts ≡ [] = ap (λ (a : App). fault_of a texts) same ∙ none in
    ⊎_elim
    (λ (memory : kind_of c.in-Err.error ≡ OutOfMemory). c.in_default-kind.not-OutOfMemory (c.kind.ensures ∙ memory))
    (λ (among : IsAmong (kind_of c.in-Err.error) (fault_of (app_of c.in-Ok.command) texts)). subst (λ (ks : Kinds). IsAmong (kind_of c.in-Err.error) ks) faults among)
    (c.in-Err.ensures.kinds (ap is_simple_and_free same ∙ is_free))
