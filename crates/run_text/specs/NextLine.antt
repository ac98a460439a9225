-- What comes next in a text of lines that ends with the line `done`.
use Rattle.std.specs.Prelude.{ℕ, ◌+◌, List, [], ◌∷◌, Option, Some, None, Result, Ok, Err, if◌then◌else◌, codes}
use Rattle.std.specs.Str.{bytes_eq}
use Rattle.test_lang.specs.Text.Line.{first_line}
use Rattle.run_text.specs.declared.fault.RunFault.{RunFault}
use Rattle.run_text.specs.declared.fault.RunFault.TheVariants.{NoDone, AfterDone}

-- nothing may stand behind the line with this number, which is `done`
abbrev pub end_behind : ℕ → List ℕ → Result (Option (List ℕ × List ℕ)) RunFault
end_behind number [] = Ok None
end_behind number (c ∷ cs) = Err (AfterDone (number + 1))

abbrev pub next_from : ℕ → Option (List ℕ × List ℕ) → Result (Option (List ℕ × List ℕ)) RunFault
next_from number None = Err (NoDone number)
next_from number (Some l) = if bytes_eq l.0 (codes "done") then end_behind number l.1 else Ok (Some l)

-- The next line, which has this number, and the bytes behind it; none where it is `done` and the text ends there.
abbrev pub next_line : ℕ → List ℕ → Result (Option (List ℕ × List ℕ)) RunFault
next_line number bytes = next_from number (first_line bytes)
