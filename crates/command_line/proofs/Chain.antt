-- Adding the rules of a list, one by one.
use Rattle.std.proofs.Common.{◌≡◌, ℕ, ◌+◌, ◌<◌, List, [], ◌∷◌, ◌++◌, refl, length, map, take, get_or, ap, ◌∙◌, sym}
use Rattle.std.proofs.lemmas.List.{take_more, map_push}
use Rattle.clap.specs.Words.{App, Rule, with_rule}
use Rattle.command_line.specs.Options.{rule_for, with_rules, model_option, target_option, fault_option, chunk_option, workers_option, runners_option, runs_option, seed_option, threads_option, ops_option, words_option, stores_option, fences_option}

pub with_rules-push : (a : App) (rules : List Rule) (rule : Rule) → with_rules a (rules ++ rule ∷ []) ≡ with_rule (with_rules a rules) rule
with_rules-push a [] rule = refl
with_rules-push a (r ∷ rs) rule = with_rules-push (with_rule a r) rs rule

-- one more turn
pub one_more : {X : Type 0} (f : X → Rule) (start : App) (xs : List X) (i : ℕ) (x : X) (before after : App) → i < length xs
    → before ≡ with_rules start (map f (take i xs)) → after ≡ with_rule before (f (get_or xs i x))
    → after ≡ with_rules start (map f (take (i + 1) xs))
one_more f start xs i x before after lt so_far added =
    added ∙ ap (λ (a : App). with_rule a (f (get_or xs i x))) so_far
    ∙ sym (ap (λ (ys : List _). with_rules start (map f ys)) (take_more xs i x lt) ∙ ap (with_rules start) (map_push f (take i xs) (get_or xs i x))
    ∙ with_rules-push start (map f (take i xs)) (f (get_or xs i x)))

-- the rules of the options whose texts are names, and of those whose texts are numerals
abbrev pub rules_of_names : List Rule
rules_of_names = rule_for model_option ∷ rule_for target_option ∷ rule_for fault_option ∷ []

abbrev pub rules_of_numbers : List Rule
rules_of_numbers = rule_for chunk_option ∷ rule_for workers_option ∷ rule_for runners_option ∷ rule_for runs_option ∷ rule_for seed_option
    ∷ rule_for threads_option ∷ rule_for ops_option ∷ rule_for words_option ∷ rule_for stores_option ∷ rule_for fences_option ∷ []
