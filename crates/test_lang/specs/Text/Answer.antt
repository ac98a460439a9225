-- How a reader of tests answers.
use Rattle.std.specs.Prelude.{◌≡◌, ◌⊎◌, ℕ, List, drop, length, Result, Ok, Err}
use Rattle.test_lang.specs.declared.text.fault.TestFault.{TestFault}
use Rattle.test_lang.specs.declared.text.fault.TestFault.TheVariants.{Memory}
use Rattle.test_lang.specs.declared.text.read.ReadTest.{ReadTest}
use Rattle.test_lang.specs.Program.{Program}
use Rattle.test_lang.specs.Text.Grammar.{test_lines, test_text, StartsWithTest}

-- The test that was read is p; its text has so many bytes and lines.
pub record IsReadAs (read : ReadTest) (p : Program) : Type 0 where
  pub test : read.test ≡ p
  pub used : read.used ≡ length (test_text p)
  pub lines : read.lines ≡ length (test_lines p)

-- The text of the test that was read, which has a thread, stands at the front of these bytes.
pub record IsRead (bytes : List ℕ) (read : ReadTest) : Type 0 where
  pub starts : StartsWithTest bytes read.test (drop read.used bytes)
  pub used : read.used ≡ length (test_text read.test)
  pub lines : read.lines ≡ length (test_lines read.test)

-- What reading gives is answered, unless memory ran out.
abbrev pub Answers : Result ReadTest TestFault → Result Program TestFault → Type 0
Answers (Ok read) (Ok p) = IsReadAs read p
Answers (Ok read) (Err fault) = ⊥
Answers (Err fault) reading = (fault ≡ Memory) ⊎ (reading ≡ Err fault)
