-- Why a call has no output, and the line that tells it.
use Rattle.std.specs.Prelude.{ℕ, List, [], ◌∷◌, ◌++◌, Bool, true, false, codes}
use Rattle.std.specs.Fmt.{decimal}
use Rattle.mtrace_app.specs.declared.refusal.Reason.{Reason}
use Rattle.mtrace_app.specs.declared.refusal.Reason.TheVariants.{BadHead, BadWords, BadLine, WordRange, TooManyThreads, TooManyOps, NoThread, NoEnd, BadRunLine, WrongCount, ValueRange, NoDone, AfterDone, NotEnabled, Unfinished}
use Rattle.mtrace_app.specs.declared.refusal.Size.{Size}
use Rattle.mtrace_app.specs.declared.refusal.Size.TheVariants.{Bytes, Runs, Values}
use Rattle.mtrace_app.specs.declared.refusal.Refusal.{Refusal}
use Rattle.mtrace_app.specs.declared.refusal.Refusal.TheVariants.{Words, ReadFault, Input, TooLarge}
use Rattle.mtrace_app.specs.declared.status.Status.{Status}
use Rattle.mtrace_app.specs.declared.status.Status.TheVariants.{Words as StatusWords, ReadFault as StatusReadFault, Input as StatusInput, TooLarge as StatusTooLarge}

-- why a line of an input is bad
abbrev pub reason_text : Reason → List ℕ
reason_text BadHead = codes "BadHead"
reason_text BadWords = codes "BadWords"
reason_text BadLine = codes "BadLine"
reason_text WordRange = codes "WordRange"
reason_text TooManyThreads = codes "TooManyThreads"
reason_text TooManyOps = codes "TooManyOps"
reason_text NoThread = codes "NoThread"
reason_text NoEnd = codes "NoEnd"
reason_text BadRunLine = codes "BadRunLine"
reason_text (WrongCount want got) = codes "WrongCount want " ++ (decimal want ++ (codes " got " ++ decimal got))
reason_text ValueRange = codes "ValueRange"
reason_text NoDone = codes "NoDone"
reason_text AfterDone = codes "AfterDone"
reason_text (NotEnabled place) = codes "NotEnabled place " ++ decimal place
reason_text Unfinished = codes "Unfinished"

-- which limit is passed, and how many there are
abbrev pub size_text : Size → List ℕ
size_text Bytes = codes "bytes"
size_text (Runs count) = codes "runs " ++ decimal count
size_text (Values count) = codes "values " ++ decimal count

-- why there is no output
abbrev pub refusal_text : Refusal → List ℕ
refusal_text Words = codes "words"
refusal_text ReadFault = codes "read fault"
refusal_text (Input fault) = codes "input line " ++ (decimal fault.line ++ (codes ": " ++ reason_text fault.reason))
refusal_text (TooLarge size) = codes "too large: " ++ size_text size

-- a text as a line for the errors
abbrev pub message : List ℕ → List ℕ
message text = codes "mtrace: " ++ (text ++ 10 ∷ [])

-- the status of a call that is refused
abbrev pub status_of : Refusal → Status
status_of Words = StatusWords
status_of ReadFault = StatusReadFault
status_of (Input fault) = StatusInput
status_of (TooLarge size) = StatusTooLarge

-- whether the line of a refusal has no number, so that it takes no memory
abbrev pub has_fixed_line : Refusal → Bool
has_fixed_line Words = true
has_fixed_line ReadFault = true
has_fixed_line (Input fault) = false
has_fixed_line (TooLarge Bytes) = true
has_fixed_line (TooLarge (Runs count)) = false
has_fixed_line (TooLarge (Values count)) = false
