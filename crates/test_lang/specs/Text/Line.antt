-- The lines of a text: each is closed by a line feed.
use Rattle.std.specs.Prelude.{◌≡◌, ◌≢◌, ℕ, List, [], ◌∷◌, ◌++◌, Option, Some, None, ◌==◌, if◌then◌else◌}
use Rattle.std.specs.List.{AllByRecursion}

-- no line feed among the bytes
abbrev pub IsLine : List ℕ → Type 0
IsLine [] = Unit {0}
IsLine (c ∷ cs) = (c ≢ 10) × IsLine cs

-- The text begins with this line, closed, and these bytes stand behind it.
pub record StartsWithLine (text line rest : List ℕ) : Type 0 where
  pub no_feed : IsLine line
  pub whole : text ≡ line ++ 10 ∷ rest

-- the lines, each closed by a line feed
abbrev pub closed : List (List ℕ) → List ℕ
closed [] = []
closed (line ∷ lines) = line ++ 10 ∷ closed lines

abbrev pub line_on : ℕ → Option (List ℕ × List ℕ) → Option (List ℕ × List ℕ)
line_on c None = None
line_on c (Some l) = Some (c ∷ l.0, l.1)

-- the first line and the bytes behind it, if it is closed
abbrev pub first_line : List ℕ → Option (List ℕ × List ℕ)
first_line [] = None
first_line (c ∷ cs) = if c == 10 then Some ([], cs) else line_on c (first_line cs)

abbrev pub on_first : ℕ → List (List ℕ) → List (List ℕ)
on_first c [] = []
on_first c (line ∷ lines) = (c ∷ line) ∷ lines

-- The lines of a text, without their line feeds. Bytes behind the last line feed are no line.
abbrev pub lines_of : List ℕ → List (List ℕ)
lines_of [] = []
lines_of (c ∷ cs) = if c == 10 then [] ∷ lines_of cs else on_first c (lines_of cs)

-- The bytes of a text are its lines, each closed by a line feed, and bytes without a line feed.
pub record IsInLines (text : List ℕ) (lines : List (List ℕ)) (rest : List ℕ) : Type 0 where
  pub each : AllByRecursion IsLine lines
  pub unclosed : IsLine rest
  pub whole : text ≡ closed lines ++ rest
