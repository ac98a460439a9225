-- Where no fault comes up, a call ends with the status that is due, or for want of memory.
use Rattle.std.proofs.Common.{◌≡◌, ◌⊎◌, ◌≤◌, ◌^◌, ℕ, List, [], Bool, true, false, length, refl, sym, ap, subst, arith, inl, inr}
use Rattle.std.specs.Prelude.{Option, Some, None, IfSome, IsTrue, if◌then◌else◌}
use Rattle.test_lang.specs.Program.{Program}
use Rattle.test_lang.specs.Values.{load_count}
use Rattle.command_line.specs.declared.meaning.Settings.{Settings}
use Rattle.command_line.specs.Settings.{HasSettings}
use Rattle.mtrace_app.specs.declared.refusal.InputFault.{InputFault}
use Rattle.mtrace_app.specs.declared.refusal.Refusal.{Refusal}
use Rattle.mtrace_app.specs.declared.refusal.Refusal.TheVariants.{Words, ReadFault, Input, TooLarge}
use Rattle.mtrace_app.specs.declared.refusal.Size.{Size}
use Rattle.mtrace_app.specs.declared.refusal.Size.TheVariants.{Bytes, Runs, Values}
use Rattle.mtrace_app.specs.declared.status.Status.{Status}
use Rattle.mtrace_app.specs.declared.status.Status.TheVariants.{Clean, Found, Input as InputStatus, TooLarge as TooLargeStatus, Memory}
use Rattle.mtrace_app.specs.Answers.{IsAnswered, refused, written, cut_off, no_memory, HasCause, IsCause, IsDue, IsTooLarge, RefusesInput}
use Rattle.mtrace_app.specs.Inputs.{HasRunCount, IsRecorded, IsRefusedInput, reads}
use Rattle.mtrace_app.specs.Limits.{FitLimits, PassLimit}
use Rattle.mtrace_app.specs.Outputs.{IsOfInput, IsOutputOf, input_of}
use Rattle.mtrace_app.specs.Outside.{Change, HadFault, IsPastLimit, IsRestOf, WhereTold}
use Rattle.mtrace_app.specs.Refusals.{status_of}
use Rattle.mtrace_app.specs.Status.{EndsWith, output_status}
use Rattle.mtrace_app.proofs.OneSettings.{one_settings}
use Rattle.mtrace_app.proofs.ByCommand.{not_both_by, one_meaning_by}

-- What an answer says of the bytes that were taken, where reading them had no fault and they are no more than an input may have.
pub data Says (s : Settings) (bytes : List ℕ) (sink : Change) (status : Status) : Type 0 where
  for_input : (refusal : Refusal) → RefusesInput s bytes refusal → status ≡ status_of refusal → Says s bytes sink status
  has_output : (text : List ℕ) (is_clean : Bool) → IsOutputOf s bytes text is_clean → (status ≡ output_status is_clean) ⊎ HadFault sink → Says s bytes sink status
  had_no_memory : status ≡ Memory → Says s bytes sink status

-- ---- from the table

module _ (s : Settings) (bytes : List ℕ) (source sink : Change) (status : Status) (few : length bytes ≤ 2 ^ 30) (quiet : ¬ HadFault source) (taken : IsRestOf source.before source.now) where
  of_bytes : (P : List ℕ → Type 0) → input_of s source.before ≡ Some bytes → IsOfInput s source P → P bytes
  of_bytes P e h = subst P (subst (λ (i : Option (List ℕ)). IfSome i (λ left. h.bytes ≡ left)) e h.whole) h.holds

  -- no more was taken than an input may have
  not_past : (before now : Option (List ℕ)) → before ≡ Some bytes → IsRestOf before now → WhereTold before now IsPastLimit → ⊥
  not_past None now e rest h = cc
  not_past (Some xs) None e rest h = rest.1
  not_past (Some xs) (Some ys) e rest h = let same : xs ≡ bytes = cc in let size = ap (length {A = ℕ}) same in omega (arith, few, size, h)

  before_is : input_of s source.before ≡ Some bytes → IsTrue (reads s.command) → source.before ≡ Some bytes
  before_is e r = subst (λ (b : Bool). (if b then source.before else Some []) ≡ Some bytes) r e

  says_refused : input_of s source.before ≡ Some bytes → (refusal : Refusal) → IsCause s source refusal → status ≡ status_of refusal → Says s bytes sink status
  says_refused e Words h is = absurd h
  says_refused e ReadFault h is = absurd (quiet h.1)
  says_refused e (Input fault) h is = for_input (Input fault) (of_bytes (λ b. RefusesInput s b (Input fault)) e h) is
  says_refused e (TooLarge Bytes) h is = absurd (not_past source.before source.now (before_is e h.0) taken h.1)
  says_refused e (TooLarge (Runs n)) h is = for_input (TooLarge (Runs n)) (of_bytes (λ b. RefusesInput s b (TooLarge (Runs n))) e h) is
  says_refused e (TooLarge (Values n)) h is = for_input (TooLarge (Values n)) (of_bytes (λ b. RefusesInput s b (TooLarge (Values n))) e h) is

  module _ (words : List (List ℕ)) (settings : HasSettings words s) (e : input_of s source.before ≡ Some bytes) where
    cause_here : (t : Settings) → HasSettings words t → (refusal : Refusal) → IsCause t source refusal → IsCause s source refusal
    cause_here t there refusal h = subst (λ (x : Settings). IsCause x source refusal) (one_settings words t s there settings) h

    says_cause : (refusal : Refusal) → HasCause words source refusal → status ≡ status_of refusal → Says s bytes sink status
    says_cause Words h is = absurd (h s settings)
    says_cause ReadFault h is = says_refused e ReadFault (cause_here h.0 h.1 ReadFault h.2) is
    says_cause (Input fault) h is = says_refused e (Input fault) (cause_here h.0 h.1 (Input fault) h.2) is
    says_cause (TooLarge size) h is = says_refused e (TooLarge size) (cause_here h.0 h.1 (TooLarge size) h.2) is

    output_here : (text : List ℕ) (is_clean : Bool) (t : Settings) → HasSettings words t → IsOfInput t source (λ b. IsOutputOf t b text is_clean) → IsOutputOf s bytes text is_clean
    output_here text is_clean t there h =
        let here = subst (λ (x : Settings). IsOfInput x source (λ b. IsOutputOf x b text is_clean)) (one_settings words t s there settings) h in
        of_bytes (λ b. IsOutputOf s b text is_clean) e here

    pub says : (line : List ℕ) → IsAnswered words source sink status line → Says s bytes sink status
    says line (refused refusal cause is kept told) = says_cause refusal cause is
    says line (written text is_clean h is appended told) = has_output text is_clean (output_here text is_clean h.0 h.1 h.2) (inl is)
    says line (cut_off text is_clean h fault is appended told) = has_output text is_clean (output_here text is_clean h.0 h.1 h.2) (inr fault)
    says line (no_memory is kept told) = had_no_memory is

-- ---- what is due

module _ (s : Settings) (bytes : List ℕ) where
  within_as : (p q : Program) (runs others : List (List ℕ)) → IsRecorded s bytes p runs → IsRecorded s bytes q others → FitLimits (length runs) (load_count p) → FitLimits (length others) (load_count q)
  within_as p q runs others h k within =
      let same = one_meaning_by s.command s bytes p q runs others h k in
      subst (λ (n : ℕ). FitLimits n (load_count q)) same.same_count (subst (λ (t : Program). FitLimits (length runs) (load_count t)) same.same_test within)

  fit_as : (p q : Program) (runs : List (List ℕ)) (count : ℕ) → IsRecorded s bytes p runs → HasRunCount s bytes q count → FitLimits (length runs) (load_count p) → FitLimits count (load_count q)
  fit_as p q runs count h k within = subst (λ (n : ℕ). FitLimits n (load_count q)) (sym k.2) (within_as p q runs k.0 h k.1 within)

  past : (runs loads : ℕ) (size : Size) → PassLimit runs loads size → FitLimits runs loads → ⊥
  past runs loads Bytes h fit = h
  past runs loads (Runs n) h fit = let few = fit.0 in let many = h.0 in omega (arith, many, few)
  past runs loads (Values n) h fit = let few = fit.1 in let many = h.1 in omega (arith, many, few)

  -- runs that pass a limit aren't within the limits
  not_large : (size : Size) → IsTooLarge s bytes size → (p : Program) (count : ℕ) → HasRunCount s bytes p count → FitLimits count (load_count p) → ⊥
  not_large size large p count h fit =
      let k = large.2 in
      let within = subst (λ (n : ℕ). FitLimits n (load_count p)) h.2 fit in
      past large.1 (load_count large.0) size large.3 (fit_as p large.0 h.0 large.1 h.1 k within)

  module _ (sink : Change) (status : Status) where
    due_refused : Says s bytes sink status → (fault : InputFault) → IsRefusedInput s bytes fault → EndsWith status InputStatus
    due_refused (for_input (Input other) h is) fault r = inl is
    due_refused (for_input (TooLarge size) h is) fault r = absurd (not_both_by s.command s bytes h.0 h.2.0 fault h.2.1 r)
    due_refused (for_input Words h is) fault r = absurd h
    due_refused (for_input ReadFault h is) fault r = absurd h
    due_refused (has_output text is_clean h is) fault r = absurd (not_both_by s.command s bytes h.test h.runs fault h.recorded r)
    due_refused (had_no_memory is) fault r = inr is

    due_large : Says s bytes sink status → (p : Program) (count : ℕ) → HasRunCount s bytes p count → ¬ FitLimits count (load_count p) → EndsWith status TooLargeStatus
    due_large (for_input (Input other) h is) p count k many = absurd (not_both_by s.command s bytes p k.0 other k.1 h)
    due_large (for_input (TooLarge size) h is) p count k many = inl is
    due_large (for_input Words h is) p count k many = absurd h
    due_large (for_input ReadFault h is) p count k many = absurd h
    due_large (has_output text is_clean h is) p count k many = absurd (many (fit_as h.test p h.runs count h.recorded k h.limits))
    due_large (had_no_memory is) p count k many = inr is

    clean_or_found : (is_clean : Bool) → status ≡ output_status is_clean → (status ≡ Clean) ⊎ EndsWith status Found
    clean_or_found true is = inl is
    clean_or_found false is = inr (inl is)

    due_output : Says s bytes sink status → (p : Program) (count : ℕ) → HasRunCount s bytes p count → FitLimits count (load_count p) → ¬ HadFault sink → (status ≡ Clean) ⊎ EndsWith status Found
    due_output (for_input (Input other) h is) p count k fit quiet = absurd (not_both_by s.command s bytes p k.0 other k.1 h)
    due_output (for_input (TooLarge size) h is) p count k fit quiet = absurd (not_large size h p count k fit)
    due_output (for_input Words h is) p count k fit quiet = absurd h
    due_output (for_input ReadFault h is) p count k fit quiet = absurd h
    due_output (has_output text is_clean h is) p count k fit quiet = elim is [ inl e ↦ clean_or_found is_clean e | inr fault ↦ absurd (quiet fault) ]
    due_output (had_no_memory is) p count k fit quiet = inr (inr is)

    due : Says s bytes sink status → IsDue s bytes sink status
    due h = record { refused = due_refused h; too_large = due_large h; output = due_output h }

-- each input is answered as is due
due_in : (words : List (List ℕ)) (s : Settings) (source sink : Change) (status : Status) (line : List ℕ) → HasSettings words s → IsRestOf source.before source.now → ¬ HadFault source → IsAnswered words source sink status line
    → (input : Option (List ℕ)) → input_of s source.before ≡ input → IfSome input (λ bytes. length bytes ≤ 2 ^ 30 → IsDue s bytes sink status)
due_in words s source sink status line settings taken quiet h None e = tt
due_in words s source sink status line settings taken quiet h (Some bytes) e = λ few. due s bytes sink status (says s bytes source sink status few quiet taken words settings e line h)

pub due_of : (words : List (List ℕ)) (s : Settings) (source sink : Change) (status : Status) (line : List ℕ) → HasSettings words s → IsRestOf source.before source.now → ¬ HadFault source → IsAnswered words source sink status line
    → IfSome (input_of s source.before) (λ bytes. length bytes ≤ 2 ^ 30 → IsDue s bytes sink status)
due_of words s source sink status line settings taken quiet h = due_in words s source sink status line settings taken quiet h (input_of s source.before) refl
