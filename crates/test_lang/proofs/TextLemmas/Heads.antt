-- The first two lines of a test text are read, and then the others.
use Rattle.std.proofs.Common.{◌≡◌, ℕ, ◌+◌, ◌-◌, ◌≤◌, ◌⊎◌, List, [], ◌∷◌, ◌++◌, ap, arith, ◌∙◌, sym, subst, Option, Some, None, Ok, Err, inl, inr, ⊎_elim, length, append_assoc, length-append}
use Rattle.std.specs.Prelude.{codes}
use Rattle.test_lang.specs.declared.text.fault.TestFault.{TestFault}
use Rattle.test_lang.specs.declared.text.fault.TestFault.TheVariants.{BadHead, BadWords, NoEnd, Memory}
use Rattle.test_lang.specs.declared.text.read.ReadTest.{ReadTest}
use Rattle.test_lang.specs.Program.{Program, empty_program, IsVersion}
use Rattle.test_lang.specs.Text.Line.{IsLine, StartsWithLine, closed, lines_of}
use Rattle.test_lang.specs.Text.Grammar.{head_line, words_line, body_lines, test_text}
use Rattle.test_lang.specs.Text.Reading.{walk, version_of, words_of, behind_words, behind_version, behind_head, reading_lines, reading}
use Rattle.test_lang.specs.Text.Answer.{IsReadAs}
use Rattle.test_lang.proofs.TextLemmas.Lines.{lines_of-line, lines_of-none}
use Rattle.test_lang.proofs.TextLemmas.Forms.{version_of-line, words_of-line}
use Rattle.test_lang.proofs.TextLemmas.Bodies.{limits-empty}
use Rattle.test_lang.proofs.TextLemmas.Walking.{Ends, Walks, walk-walks}

pub reading-unclosed : (text : List ℕ) → IsLine text → reading text ≡ Err (NoEnd 1)
reading-unclosed text h = ap reading_lines (lines_of-none text h)

lines_of-starts : (text line rest : List ℕ) → StartsWithLine text line rest → lines_of text ≡ line ∷ lines_of rest
lines_of-starts text line rest h = ap lines_of h.whole ∙ lines_of-line line rest h.no_feed

module _ (text first rest : List ℕ) (starts : StartsWithLine text first rest) where
  reading-first : (version : Option ℕ) → version ≡ version_of first → reading text ≡ behind_head version (lines_of rest)
  reading-first version e = ap reading_lines (lines_of-starts text first rest starts) ∙ ap (λ (o : Option ℕ). behind_head o (lines_of rest)) (sym e)

  pub reading-no_head : None ≡ version_of first → reading text ≡ Err (BadHead 1)
  reading-no_head e = reading-first None e

  module _ (version : ℕ) (is_version : Some version ≡ version_of first) where
    pub version_is : (first ≡ head_line version) × IsVersion version
    version_is = version_of-line first version (sym is_version)

    pub reading-unclosed_words : IsLine rest → reading text ≡ Err (NoEnd 2)
    reading-unclosed_words h = reading-first (Some version) is_version ∙ ap (behind_version version) (lines_of-none rest h)

    module _ (second left : List ℕ) (starts_second : StartsWithLine rest second left) where
      reading-second : (words : Option ℕ) → words ≡ words_of second → reading text ≡ behind_words version words (lines_of left)
      reading-second words e =
          reading-first (Some version) is_version ∙ ap (behind_version version) (lines_of-starts rest second left starts_second) ∙ ap (λ (o : Option ℕ). behind_words version o (lines_of left)) (sym e)

      pub reading-no_words : None ≡ words_of second → reading text ≡ Err (BadWords 2)
      reading-no_words e = reading-second None e

      module _ (words : ℕ) (are_words : Some words ≡ words_of second) where
        pub words_are : (second ≡ words_line words) × (1 ≤ words) × (words ≤ 256)
        words_are = words_of-line second words (sym are_words)

        reading-body : reading text ≡ walk (empty_program version words) 3 (lines_of left)
        reading-body = reading-second (Some words) are_words

        -- A refusal of the lines behind the second is that of the text.
        pub reading-refused : (fault : TestFault) → (fault ≡ Memory) ⊎ (walk (empty_program version words) 3 (lines_of left) ≡ Err fault) → (fault ≡ Memory) ⊎ (reading text ≡ Err fault)
        reading-refused fault h = ⊎_elim (λ (e : fault ≡ Memory). inl e) (λ (e : walk (empty_program version words) 3 (lines_of left) ≡ Err fault). inr (reading-body ∙ e)) h

        pub reading-test : (p : Program) → walk (empty_program version words) 3 (lines_of left) ≡ Ok p → reading text ≡ Ok p
        reading-test p e = reading-body ∙ e

        -- What was read is the text of the test, and what is left.
        module _ (p : Program) (rest_left : List ℕ) (walked : walk (empty_program version words) 3 (lines_of left) ≡ Ok p) (body : left ≡ closed (body_lines p ++ codes "end" ∷ []) ++ rest_left) where
          ends : Ends (empty_program version words) p (lines_of left)
          ends =
              let is = words_are in
              subst (Walks (empty_program version words) 3 (lines_of left)) walked (walk-walks (lines_of left) (empty_program version words) 3 (limits-empty version words (version_is.1) (is.1) (is.2)))

          text_is : text ≡ test_text p ++ rest_left
          text_is =
              let behind = closed (body_lines p ++ codes "end" ∷ []) in
              let first_is : first ≡ head_line p.version = version_is.0 ∙ ap head_line (sym ends.same_version) in
              let second_is : second ≡ words_line p.words = words_are.0 ∙ ap words_line (sym ends.same_words) in
              starts.whole ∙ ap (λ (ys : List ℕ). ys ++ 10 ∷ rest) first_is
              ∙ ap (λ (ys : List ℕ). head_line p.version ++ 10 ∷ ys) (starts_second.whole ∙ ap (λ (ys : List ℕ). ys ++ 10 ∷ left) second_is ∙ ap (λ (ys : List ℕ). words_line p.words ++ 10 ∷ ys) body)
              ∙ ap (λ (ys : List ℕ). head_line p.version ++ 10 ∷ ys) (sym (append_assoc (words_line p.words) (10 ∷ behind) rest_left))
              ∙ sym (append_assoc (head_line p.version) (10 ∷ (words_line p.words ++ 10 ∷ behind)) rest_left)

          pub is_read_as : (read : ReadTest) → read.test ≡ p → read.used ≡ length text - length rest_left → read.lines ≡ length (body_lines p) + 3 → IsReadAs read p
          is_read_as read test used lines =
              let long : length text ≡ length (test_text p) + length rest_left = ap length text_is ∙ length-append (test_text p) rest_left in
              let ended = length-append (body_lines p) (codes "end" ∷ []) in
              record { test = test; used = omega (arith, used, long); lines = omega (arith, lines, ended) }
