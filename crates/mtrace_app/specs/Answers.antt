-- The table of answers: for each the cause, what the sink gets, and the line for the errors.
use Rattle.std.specs.Prelude.{◌≡◌, ◌⊎◌, ℕ, List, [], map, Bool, IsTrue, String, string_bytes, codes}
use Rattle.std.specs.Io.KnownBytes.{Appends, Keeps}
use Rattle.test_lang.specs.Program.{Program}
use Rattle.test_lang.specs.Values.{load_count}
use Rattle.command_line.specs.declared.meaning.Settings.{Settings}
use Rattle.command_line.specs.Settings.{HasNoSettings, HasSettings}
use Rattle.mtrace_app.specs.declared.refusal.InputFault.{InputFault}
use Rattle.mtrace_app.specs.declared.refusal.Refusal.{Refusal}
use Rattle.mtrace_app.specs.declared.refusal.Refusal.TheVariants.{Words, ReadFault, Input, TooLarge}
use Rattle.mtrace_app.specs.declared.refusal.Size.{Size}
use Rattle.mtrace_app.specs.declared.refusal.Size.TheVariants.{Bytes}
use Rattle.mtrace_app.specs.declared.status.Status.{Status}
use Rattle.mtrace_app.specs.declared.status.Status.TheVariants.{Clean, Found, WriteFault, Memory, Input as InputStatus, TooLarge as TooLargeStatus}
use Rattle.mtrace_app.specs.Inputs.{HasRunCount, IsRefusedInput, reads}
use Rattle.mtrace_app.specs.Limits.{FitLimits, PassLimit}
use Rattle.mtrace_app.specs.Outputs.{IsOfInput, IsOutputOf}
use Rattle.mtrace_app.specs.Outside.{AppendsFront, Change, HadFault, IsPastLimit, WhereTold}
use Rattle.mtrace_app.specs.Refusals.{message, refusal_text, status_of}
use Rattle.mtrace_app.specs.Status.{EndsWith, output_status}

-- the bytes of words
abbrev pub texts : {A : Type 0} → List (String A) → List (List ℕ)
texts words = map string_bytes words

-- ---- the causes

-- The bytes mean runs that pass a limit, which this size names.
abbrev pub IsTooLarge : Settings → List ℕ → Size → Type 0
IsTooLarge s bytes size = (p : Program) × (count : ℕ) × HasRunCount s bytes p count × PassLimit count (load_count p) size

-- why there is no output for bytes that were taken
abbrev pub RefusesInput : Settings → List ℕ → Refusal → Type 0
RefusesInput s bytes (Input fault) = IsRefusedInput s bytes fault
RefusesInput s bytes (TooLarge size) = IsTooLarge s bytes size
RefusesInput s bytes Words = ⊥
RefusesInput s bytes ReadFault = ⊥

-- why a command has no output
abbrev pub IsCause : Settings → Change → Refusal → Type 0
IsCause s source Words = ⊥
IsCause s source ReadFault = IsTrue (reads s.command) × HadFault source
IsCause s source (TooLarge Bytes) = IsTrue (reads s.command) × WhereTold source.before source.now IsPastLimit
IsCause s source refusal = IsOfInput s source (λ bytes. RefusesInput s bytes refusal)

-- The words have no settings; or their settings have this cause.
abbrev pub HasCause : List (List ℕ) → Change → Refusal → Type 0
HasCause words source Words = HasNoSettings words
HasCause words source refusal = (s : Settings) × HasSettings words s × IsCause s source refusal

-- By the settings that the words have, this is the output for the bytes that were taken.
abbrev pub HasOutput : List (List ℕ) → Change → List ℕ → Bool → Type 0
HasOutput words source text is_clean = (s : Settings) × HasSettings words s × IsOfInput s source (λ bytes. IsOutputOf s bytes text is_clean)

-- ---- the table

-- A call is refused, or writes its output, or fails at that, or memory was refused.
pub data IsAnswered (words : List (List ℕ)) (source sink : Change) (status : Status) (line : List ℕ) : Type 0 where
  refused : (refusal : Refusal) → HasCause words source refusal → status ≡ status_of refusal → Keeps sink.before sink.now → line ≡ message (refusal_text refusal) → IsAnswered words source sink status line
  written : (text : List ℕ) (is_clean : Bool) → HasOutput words source text is_clean → status ≡ output_status is_clean → Appends sink.before sink.now text → line ≡ [] → IsAnswered words source sink status line
  cut_off : (text : List ℕ) (is_clean : Bool) → HasOutput words source text is_clean → HadFault sink → status ≡ WriteFault → AppendsFront sink.before sink.now text → line ≡ message (codes "write fault")
      → IsAnswered words source sink status line
  no_memory : status ≡ Memory → Keeps sink.before sink.now → line ≡ message (codes "memory") → IsAnswered words source sink status line

-- ---- completeness: what is due is answered, but for want of memory

-- The status of a call, by the bytes of its input: no more than an input may have, and taken without a fault.
pub record IsDue (s : Settings) (bytes : List ℕ) (sink : Change) (status : Status) : Type 0 where
  -- bytes that are refused
  pub refused : (fault : InputFault) → IsRefusedInput s bytes fault → EndsWith status InputStatus
  -- recorded runs that pass a limit
  pub too_large : (p : Program) (count : ℕ) → HasRunCount s bytes p count → ¬ FitLimits count (load_count p) → EndsWith status TooLargeStatus
  -- all other recorded runs have their output, where the sink had no fault
  pub output : (p : Program) (count : ℕ) → HasRunCount s bytes p count → FitLimits count (load_count p) → ¬ HadFault sink → (status ≡ Clean) ⊎ EndsWith status Found
