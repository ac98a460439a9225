-- What a call ends with, by its answer and by what the sink got of it.
use Rattle.std.proofs.Common.{◌≡◌, ◌≢◌, ◌∙◌, ◌⊎◌, ℕ, List, [], Bool, true, false, Result, Ok, Err, append-nil, sym, inl, inr}
use Rattle.std.specs.Prelude.{codes, OnErr, OnOk}
use Rattle.std.specs.Io.KnownBytes.{Appends, Keeps}
use Rattle.mtrace_app.specs.declared.answer.Answer.{Answer}
use Rattle.mtrace_app.specs.declared.answer.Answer.TheVariants.{Made, Refused, NoMemory}
use Rattle.mtrace_app.specs.declared.refusal.Refusal.{Refusal}
use Rattle.mtrace_app.specs.declared.refusal.Refusal.TheVariants.{Words, ReadFault, Input, TooLarge}
use Rattle.mtrace_app.specs.declared.status.Status.{Status}
use Rattle.mtrace_app.specs.declared.status.Status.TheVariants.{WriteFault, TooLarge as TooLargeStatus}
use Rattle.mtrace_app.specs.Answering.{IsAnswerTo, IsPut, answer_line, answer_status}
use Rattle.mtrace_app.specs.Answers.{IsAnswered, refused, written, cut_off, no_memory}
use Rattle.mtrace_app.specs.Outside.{AppendsFront, Change, HadFault, IsTold}
use Rattle.mtrace_app.specs.Refusals.{message, status_of}
use Rattle.mtrace_app.specs.Status.{EndsWith, output_status}

output_is_written : (b : Bool) → output_status b ≡ WriteFault → ⊥
output_is_written true e = cc
output_is_written false e = cc

refusal_is_no_fault : (refusal : Refusal) → status_of refusal ≡ WriteFault → ⊥
refusal_is_no_fault Words e = cc
refusal_is_no_fault ReadFault e = cc
refusal_is_no_fault (Input fault) e = cc
refusal_is_no_fault (TooLarge size) e = cc

output_is_no_refusal : (b : Bool) (refusal : Refusal) → output_status b ≡ status_of refusal → ⊥
output_is_no_refusal true Words e = cc
output_is_no_refusal true ReadFault e = cc
output_is_no_refusal true (Input fault) e = cc
output_is_no_refusal true (TooLarge size) e = cc
output_is_no_refusal false Words e = cc
output_is_no_refusal false ReadFault e = cc
output_is_no_refusal false (Input fault) e = cc
output_is_no_refusal false (TooLarge size) e = cc

not_large : (b : Bool) → output_status b ≡ TooLargeStatus → ⊥
not_large true e = cc
not_large false e = cc

module _ (sink : Change) (status : Status) where
  -- each answer has its row of the table
  pub answers : (words : List (List ℕ)) (source : Change) (answer : Answer) (line : List ℕ) → IsAnswerTo words source answer → IsPut answer sink status → (status ≡ WriteFault → line ≡ message (codes "write fault"))
      → (status ≢ WriteFault → line ≡ answer_line answer) → IsAnswered words source sink status line
  answers words source (Made output) line h put failed other = elim put [
    | inl w ↦ written output.text.items output.is_clean h w.0 w.1 (other (λ e. output_is_written output.is_clean (sym w.0 ∙ e)))
    | inr w ↦ cut_off output.text.items output.is_clean h w.1 w.0 w.2 (failed w.0)
  ]
  answers words source (Refused refusal told) line h put failed other = refused refusal h.0 put.0 put.1 (other (λ e. refusal_is_no_fault refusal (sym put.0 ∙ e)) ∙ h.1)
  answers words source NoMemory line h put failed other = no_memory put.0 put.1 (other (λ e. let g = put.0 in cc))

  -- an answer that is no output keeps its status, and the sink gets nothing
  pub ends_with : (refusal : Refusal) (answer : Answer) → IsPut answer sink status → (answer_status answer ≡ status_of refusal) ⊎ (answer ≡ NoMemory) → EndsWith status (status_of refusal) × Keeps sink.before sink.now
  ends_with refusal (Made output) put h = elim h [ inl e ↦ absurd (output_is_no_refusal output.is_clean refusal e) | inr e ↦ absurd cc ]
  ends_with refusal (Refused told line) put h = elim h [ inl e ↦ (inl (put.0 ∙ e), put.1) | inr e ↦ absurd cc ]
  ends_with refusal NoMemory put h = (inr put.0, put.1)

  pub too_large_stays : (answer : Answer) → IsPut answer sink status → answer_status answer ≡ TooLargeStatus → status ≡ TooLargeStatus
  too_large_stays (Made output) put e = absurd (not_large output.is_clean e)
  too_large_stays (Refused told line) put e = put.0 ∙ e
  too_large_stays NoMemory put e = put.0 ∙ e

-- the line was put to the errors, or a front of it
pub told_by : {X E : Type 0} (r : Result X E) (line : List ℕ) (errs : Change) → OnOk r (Appends errs.before errs.now line) → OnErr r (HadFault errs) → OnErr r (AppendsFront errs.before errs.now line) → IsTold line errs
told_by (Ok x) line errs whole fault front = record { whole = λ _. whole; front = record { front = line; rest = []; whole = sym (append-nil line); appended = whole } }
told_by (Err e) line errs whole fault front = record { whole = λ quiet. absurd (quiet fault); front = front }
