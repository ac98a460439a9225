-- What is answered before anything is written, and what is written of it.
use Rattle.std.specs.Prelude.{◌≡◌, ◌≢◌, ◌⊎◌, ℕ, List, [], codes}
use Rattle.std.specs.Cow.{cow_str_bytes}
use Rattle.std.specs.Io.KnownBytes.{Appends, Keeps}
use Rattle.mtrace_app.specs.declared.answer.Answer.{Answer}
use Rattle.mtrace_app.specs.declared.answer.Answer.TheVariants.{Made, Refused, NoMemory}
use Rattle.mtrace_app.specs.declared.refusal.Refusal.{Refusal}
use Rattle.mtrace_app.specs.declared.refusal.Refusal.TheVariants.{TooLarge}
use Rattle.mtrace_app.specs.declared.refusal.Size.TheVariants.{Bytes}
use Rattle.mtrace_app.specs.declared.status.Status.{Status}
use Rattle.mtrace_app.specs.declared.status.Status.TheVariants.{WriteFault, Memory}
use Rattle.mtrace_app.specs.Answers.{HasCause, HasOutput}
use Rattle.mtrace_app.specs.Outside.{AppendsFront, Change, HadFault}
use Rattle.mtrace_app.specs.Refusals.{message, refusal_text, status_of}
use Rattle.mtrace_app.specs.Status.{output_status}

-- the status of a call, where everything is written
abbrev pub answer_status : Answer → Status
answer_status (Made output) = output_status output.is_clean
answer_status (Refused refusal line) = status_of refusal
answer_status NoMemory = Memory

-- the line for the errors, where everything is written
abbrev pub answer_line : Answer → List ℕ
answer_line (Made output) = []
answer_line (Refused refusal line) = cow_str_bytes line
answer_line NoMemory = message (codes "memory")

-- The answer tells this refusal, unless memory was refused for its line. That of an input of too many bytes takes none.
abbrev pub TellsRefusal : Refusal → Answer → Type 0
TellsRefusal refusal (Made output) = ⊥
TellsRefusal refusal (Refused told line) = (told ≡ refusal) × (cow_str_bytes line ≡ message (refusal_text refusal))
TellsRefusal refusal NoMemory = refusal ≢ TooLarge Bytes

-- The answer to words and to what a source gives.
abbrev pub IsAnswerTo : List (List ℕ) → Change → Answer → Type 0
IsAnswerTo words source (Made output) = HasOutput words source output.text.items output.is_clean
IsAnswerTo words source (Refused refusal line) = HasCause words source refusal × (cow_str_bytes line ≡ message (refusal_text refusal))
IsAnswerTo words source NoMemory = Unit {0}

-- What the sink gets of an answer, and the status that the call then ends with.
abbrev pub IsPut : Answer → Change → Status → Type 0
IsPut (Made output) sink status =
    ((status ≡ output_status output.is_clean) × Appends sink.before sink.now output.text.items)
    ⊎ ((status ≡ WriteFault) × HadFault sink × AppendsFront sink.before sink.now output.text.items)
IsPut answer sink status = (status ≡ answer_status answer) × Keeps sink.before sink.now
