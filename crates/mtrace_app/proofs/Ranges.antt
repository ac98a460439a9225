-- The numbers of settings that words have are in their ranges.
use Rattle.std.proofs.Common.{◌≡◌, ◌≤◌, ℕ, List, Option, Some, None, leb, subst}
use Rattle.std.specs.Prelude.{option_and_then}
use Rattle.std.proofs.lemmas.Bool.{and_parts, leb-true}
use Rattle.test_lang.specs.Text.Numeral.{whole_numeral}
use Rattle.test_lang.proofs.TextLemmas.Choices.{guarded}
use Rattle.clap.specs.Words.{Row, first_of, matches_of}
use Rattle.test_gen.specs.declared.settings.GenSettings.{GenSettings}
use Rattle.command_line.specs.declared.meaning.Settings.{Settings}
use Rattle.command_line.specs.Options.{between, fences_option, number_between, ops_option, stores_option, the_command, threads_option, words_option}
use Rattle.command_line.specs.Settings.{HasSettings, IsGenWithinRanges, SaysGen}

within : (least most n m : ℕ) → between least most n ≡ Some m → (least ≤ m) × (m ≤ most)
within least most n m e =
    let held = guarded _ (Some n) m e in
    let same : n ≡ m = let is = held.1 in cc in
    let parts = and_parts (leb least n) (leb n most) held.0 in
    subst (λ (k : ℕ). (least ≤ k) × (k ≤ most)) same (leb-true least n parts.0, leb-true n most parts.1)

of_numeral : (least most m : ℕ) (number : Option ℕ) → option_and_then (between least most) number ≡ Some m → (least ≤ m) × (m ≤ most)
of_numeral least most m None e = absurd cc
of_numeral least most m (Some n) e = within least most n m e

-- the number of an option's text is in the option's range
in_range : (least most m : ℕ) (text : Option (List ℕ)) → option_and_then (number_between least most) text ≡ Some m → (least ≤ m) × (m ≤ most)
in_range least most m None e = absurd cc
in_range least most m (Some text) e = of_numeral least most m (whole_numeral text) e

gen_ranges : (rows : List Row) (g : GenSettings) → SaysGen rows g → IsGenWithinRanges g
gen_ranges rows g says =
    let threads = in_range 1 16 g.threads (first_of threads_option.name rows) says.threads in
    let words = in_range 1 256 g.words (first_of words_option.name rows) says.words in
    record {
      some_threads = threads.0;
      threads = threads.1;
      ops = (in_range 0 2048 g.ops (first_of ops_option.name rows) says.ops).1;
      some_words = words.0;
      words = words.1;
      stores = (in_range 0 100 g.stores (first_of stores_option.name rows) says.stores).1;
      fences = (in_range 0 100 g.fences (first_of fences_option.name rows) says.fences).1;
    }

pub ranges_of_words : (words : List (List ℕ)) (s : Settings) → HasSettings words s → IsGenWithinRanges s.gen_settings
ranges_of_words words s h = gen_ranges (matches_of the_command words) s.gen_settings h.says.generated
