-- Why a text is refused, in the words of the format.
use Rattle.std.specs.Prelude.{◌≡◌, ◌≢◌, ℕ, ◌+◌, ◌<◌, ◌≤◌, List, [], ◌∷◌, ◌++◌, length, Result, Ok, Err}
use Rattle.test_lang.specs.declared.op.Action.{Action}
use Rattle.test_lang.specs.declared.text.form.Form.{Form}
use Rattle.test_lang.specs.declared.text.form.Form.TheVariants.{Thread, Operation}
use Rattle.test_lang.specs.declared.text.fault.TestFault.{TestFault}
use Rattle.test_lang.specs.declared.text.fault.TestFault.TheVariants.{BadHead, BadWords, BadLine, WordRange, TooManyThreads, TooManyOps, NoThread, NoEnd, Memory}
use Rattle.test_lang.specs.Actions.{op_of}
use Rattle.test_lang.specs.Program.{Program, op_count, HasWord, IsVersion, IsWithinLimits}
use Rattle.test_lang.specs.Text.Line.{IsLine, StartsWithLine, closed}
use Rattle.test_lang.specs.Text.Form.{HasForm}
use Rattle.test_lang.specs.Text.Grammar.{head_line, words_line, body_lines, StartsWithTest}

-- The good lines before a bad one: none, the first of a version, or those of a test but its last.
pub data Begun : Type 0 where
  nothing : Begun
  head : ℕ → Begun
  behind : Program → Begun

abbrev pub begun_lines : Begun → List (List ℕ)
begun_lines nothing = []
begun_lines (head version) = head_line version ∷ []
begun_lines (behind p) = head_line p.version ∷ words_line p.words ∷ body_lines p

abbrev pub IsWellBegun : Begun → Type 0
IsWellBegun nothing = Unit {0}
IsWellBegun (head version) = IsVersion version
IsWellBegun (behind p) = IsWithinLimits p

-- Why a line is bad behind the good ones, one row for each refusal.
abbrev pub IsBadLine : TestFault → Begun → List ℕ → Type 0
IsBadLine (BadHead number) nothing line = (version : ℕ) → IsVersion version → line ≢ head_line version
IsBadLine (BadWords number) (head version) line = (n : ℕ) → 1 ≤ n → n ≤ 256 → line ≢ words_line n
IsBadLine (BadLine number) (behind p) line = (form : Form) → ¬ HasForm p.version line form
IsBadLine (TooManyThreads number) (behind p) line = HasForm p.version line Thread × (length p.threads ≡ 16)
IsBadLine (NoThread number) (behind p) line = (form : Form) × HasForm p.version line form × (form ≢ Thread) × (length p.threads ≡ 0)
IsBadLine (WordRange number) (behind p) line = (action : Action) × HasForm p.version line (Operation action) × (0 < length p.threads) × ¬ HasWord p (op_of action)
IsBadLine (TooManyOps number) (behind p) line = (action : Action) × HasForm p.version line (Operation action) × (0 < length p.threads) × HasWord p (op_of action) × (op_count p ≡ 2048)
IsBadLine fault begun line = ⊥

-- The bytes behind the good lines are bad: no line of them is closed, or the first is bad.
abbrev pub IsBad : TestFault → Begun → List ℕ → Type 0
IsBad (NoEnd number) begun bytes = IsLine bytes
IsBad fault begun bytes = (line : List ℕ) × (rest : List ℕ) × StartsWithLine bytes line rest × IsBadLine fault begun line

abbrev pub number_of : TestFault → ℕ
number_of (BadHead number) = number
number_of (BadWords number) = number
number_of (BadLine number) = number
number_of (WordRange number) = number
number_of (TooManyThreads number) = number
number_of (TooManyOps number) = number
number_of (NoThread number) = number
number_of (NoEnd number) = number
number_of Memory = 0

-- The text is refused: behind good lines its next line is bad.
pub record IsRefused (text : List ℕ) (fault : TestFault) : Type 0 where
  pub begun : Begun
  pub bytes : List ℕ
  pub good : IsWellBegun begun
  pub whole : text ≡ closed (begun_lines begun) ++ bytes
  pub bad : IsBad fault begun bytes
  pub number : number_of fault ≡ length (begun_lines begun) + 1

-- What a text means: it begins with the text of a test, or is refused.
abbrev pub TextMeans : List ℕ → Result Program TestFault → Type 0
TextMeans text (Ok p) = (rest : List ℕ) × StartsWithTest text p rest
TextMeans text (Err fault) = IsRefused text fault
