use Rattle.std.proofs.Common.{◌≡◌, [], ℕ, List, replicate, sym, ◌∙◌, subst}
use Rattle.std.proofs.lemmas.List.{length-replicate}
use Rattle.atomic_table.specs.Table.{opening}
use Rattle.shared_words.specs.Rule.{Holds, maker_of}
use Rattle.shared_words.proofs.Moves.{starts, zeros}
use Rattle.shared_words.proofs.racing.home.Goals as goal

pub of_words-requires : goal.of_words-requires
of_words-requires c =
    let n : ℕ = c.args.words in
    let is : c.as_slice.result.now ≡ replicate n 0 = c.as_slice.ensures.value ∙ c.in_ok-zeros.ensures.items_if_clones_equal (λ y e. e) in
    subst (λ (ws : List ℕ). Holds c.args.test.now (opening ws [] (maker_of 1))) (sym is) (starts c.args.test.now (replicate n 0) (length-replicate n 0 ∙ c.requires) (zeros n))
