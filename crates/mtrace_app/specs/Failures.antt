-- The failures that end the work on an answer: a refusal, or want of memory.
use Rattle.std.specs.Prelude.{Option, Some, None}
use Rattle.command_line.specs.declared.meaning.WordsFault.{WordsFault}
use Rattle.command_line.specs.declared.meaning.WordsFault.TheVariants.{Refused as RefusedWords, Memory as MemoryOfWords}
use Rattle.mtrace_app.specs.declared.failure.Failure.{Failure}
use Rattle.mtrace_app.specs.declared.failure.Failure.TheVariants.{Refused, Memory}
use Rattle.mtrace_app.specs.declared.reading.ReadError.{ReadError}
use Rattle.mtrace_app.specs.declared.reading.ReadError.TheVariants.{Fault, TooLarge as PastLimit, Memory as MemoryOfReading}
use Rattle.mtrace_app.specs.declared.refusal.InputFault.{InputFault}
use Rattle.mtrace_app.specs.declared.refusal.Refusal.{Refusal}
use Rattle.mtrace_app.specs.declared.refusal.Refusal.TheVariants.{Words, ReadFault, Input, TooLarge}
use Rattle.mtrace_app.specs.declared.refusal.Size.TheVariants.{Bytes}

-- a refusal of a text, which is want of memory where there is none
abbrev pub failure_of : Option InputFault → Failure
failure_of (Some fault) = Refused (Input fault)
failure_of None = Memory

abbrev pub failure_of_words : WordsFault → Failure
failure_of_words RefusedWords = Refused Words
failure_of_words MemoryOfWords = Memory

abbrev pub failure_of_reading : ReadError → Failure
failure_of_reading Fault = Refused ReadFault
failure_of_reading PastLimit = Refused (TooLarge Bytes)
failure_of_reading MemoryOfReading = Memory

-- this holds of the refusal, if it is one
abbrev pub IfRefused : (Refusal → Type 0) → Failure → Type 0
IfRefused P (Refused refusal) = P refusal
IfRefused P Memory = Unit {0}
