-- What reading a text as a test gives: the test, or the refusal of the first bad line.
use Rattle.std.specs.Prelude.{ℕ, ◌+◌, List, [], ◌∷◌, Bool, true, false, not, ◌&&◌, ◌==◌, nat_eq, nat_le, Option, Some, None, Result, Ok, Err, if◌then◌else◌, length, drop, codes}
use Rattle.std.specs.Str.{bytes_eq}
use Rattle.std.specs.List.{starts_with}
use Rattle.test_lang.specs.declared.op.Action.TheVariants.{Load, Store, Fence}
use Rattle.test_lang.specs.declared.text.form.Form.{Form}
use Rattle.test_lang.specs.declared.text.form.Form.TheVariants.{Thread, Operation, End}
use Rattle.test_lang.specs.declared.text.fault.TestFault.{TestFault}
use Rattle.test_lang.specs.declared.text.fault.TestFault.TheVariants.{BadHead, BadWords, BadLine, WordRange, TooManyThreads, TooManyOps, NoThread, NoEnd}
use Rattle.test_lang.specs.Program.{Program, empty_program, with_thread, with_action, op_count}
use Rattle.test_lang.specs.Text.Line.{lines_of}
use Rattle.test_lang.specs.Text.Numeral.{whole_numeral}
use Rattle.test_lang.specs.Text.Form.{form_of}

abbrev pub is_thread : Form → Bool
is_thread Thread = true
is_thread (Operation action) = false
is_thread End = false

abbrev pub is_operation : Form → Bool
is_operation Thread = false
is_operation (Operation action) = true
is_operation End = false

-- the form names a word that the program doesn't have
abbrev pub names_other_word : Program → Form → Bool
names_other_word p Thread = false
names_other_word p (Operation (Load word)) = nat_le p.words word
names_other_word p (Operation (Store word)) = nat_le p.words word
names_other_word p (Operation (Fence kind)) = false
names_other_word p End = false

-- The refusals of a line that has a form, in their order, each with whether it applies behind the lines of this program.
abbrev pub refusals : Program → ℕ → Form → List (Bool × TestFault)
refusals p number form =
    (is_thread form && nat_le 16 (length p.threads), TooManyThreads number)
    ∷ (not (is_thread form) && (length p.threads == 0), NoThread number)
    ∷ (names_other_word p form, WordRange number)
    ∷ (is_operation form && nat_le 2048 (op_count p), TooManyOps number)
    ∷ []

-- the first that applies, or the form
abbrev pub first_refusal : Form → List (Bool × TestFault) → Result Form TestFault
first_refusal form [] = Ok form
first_refusal form ((applies, fault) ∷ more) = if applies then Err fault else first_refusal form more

-- A line behind the second and behind the lines of this program: its form, or its refusal.
abbrev pub judged : Program → ℕ → Option Form → Result Form TestFault
judged p number None = Err (BadLine number)
judged p number (Some form) = first_refusal form (refusals p number form)

-- the program with the line, and what more gives of it
abbrev pub go_on : Program → (Program → Result Program TestFault) → Result Form TestFault → Result Program TestFault
go_on p more (Err fault) = Err fault
go_on p more (Ok Thread) = more (with_thread p)
go_on p more (Ok (Operation action)) = more (with_action p action)
go_on p more (Ok End) = Ok p

-- The lines behind those of this program, the first of which has this number.
abbrev pub walk : Program → ℕ → List (List ℕ) → Result Program TestFault
walk p number [] = Err (NoEnd number)
walk p number (line ∷ lines) = go_on p (λ q. walk q (number + 1) lines) (judged p number (form_of p.version line))

-- from 1 to 256 words
abbrev pub few_words : Option ℕ → Option ℕ
few_words None = None
few_words (Some n) = if nat_le 1 n && nat_le n 256 then Some n else None

-- the number of words that the second line gives
abbrev pub words_of : List ℕ → Option ℕ
words_of line = if starts_with nat_eq line (codes "words ") then few_words (whole_numeral (drop 6 line)) else None

abbrev pub behind_words : ℕ → Option ℕ → List (List ℕ) → Result Program TestFault
behind_words version None lines = Err (BadWords 2)
behind_words version (Some n) lines = walk (empty_program version n) 3 lines

abbrev pub behind_version : ℕ → List (List ℕ) → Result Program TestFault
behind_version version [] = Err (NoEnd 2)
behind_version version (line ∷ lines) = behind_words version (words_of line) lines

-- the version that the first line gives
abbrev pub version_of : List ℕ → Option ℕ
version_of line = if bytes_eq line (codes "mtest 1") then Some 1 else if bytes_eq line (codes "mtest 2") then Some 2 else None

abbrev pub behind_head : Option ℕ → List (List ℕ) → Result Program TestFault
behind_head None lines = Err (BadHead 1)
behind_head (Some version) lines = behind_version version lines

abbrev pub reading_lines : List (List ℕ) → Result Program TestFault
reading_lines [] = Err (NoEnd 1)
reading_lines (line ∷ lines) = behind_head (version_of line) lines

-- What reading a text gives.
abbrev pub reading : List ℕ → Result Program TestFault
reading text = reading_lines (lines_of text)
