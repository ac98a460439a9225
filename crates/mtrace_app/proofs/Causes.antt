-- What was taken of a source, and the causes of refusals.
use Rattle.std.proofs.Common.{◌≡◌, ◌≤◌, ◌^◌, ℕ, List, [], length, Bool, true, false, refl, sym, ap, subst, arith}
use Rattle.std.specs.Prelude.{◌↔◌, Option, Some, None, Ok, IfSome, IsErrOf, IsTrue, if◌then◌else◌}
use Rattle.std.specs.Io.KnownBytes.{IsAtEnd}
use Rattle.test_gen.specs.Generated.{generated}
use Rattle.test_lang.specs.Text.Grammar.{test_text}
use Rattle.command_line.specs.declared.meaning.Command.{Command}
use Rattle.command_line.specs.declared.meaning.Command.TheVariants.{Generate}
use Rattle.command_line.specs.declared.meaning.Settings.{Settings}
use Rattle.command_line.specs.Settings.{HasSettings}
use Rattle.mtrace_app.specs.declared.failure.Failure.{Failure}
use Rattle.mtrace_app.specs.declared.failure.Failure.TheVariants.{Refused, Memory}
use Rattle.mtrace_app.specs.declared.reading.ReadError.TheVariants.{TooLarge as PastEnd}
use Rattle.mtrace_app.specs.declared.refusal.Refusal.{Refusal}
use Rattle.mtrace_app.specs.declared.refusal.Refusal.TheVariants.{Words, ReadFault, Input, TooLarge}
use Rattle.mtrace_app.specs.declared.refusal.Size.TheVariants.{Bytes, Runs, Values}
use Rattle.mtrace_app.specs.Answers.{HasCause, IsCause, RefusesInput}
use Rattle.mtrace_app.specs.Failures.{IfRefused}
use Rattle.mtrace_app.specs.Inputs.{RecordsBy, reads}
use Rattle.mtrace_app.specs.Outputs.{IsOfInput, IsOutputOf, OutputsBy, TakesBy}
use Rattle.mtrace_app.specs.Outside.{Change, IsPastLimit, IsWithinLimit, WhereTold}

-- what isn't past the limit is within it
within_limit : (xs ys : List ℕ) → (IsPastLimit xs ys → ⊥) → IsWithinLimit xs ys
within_limit xs ys h = omega arith

pub where_told : (before now : Option (List ℕ)) (P Q : List ℕ → List ℕ → Type 0) → ((xs ys : List ℕ) → P xs ys → Q xs ys) → WhereTold before now P → WhereTold before now Q
where_told None now P Q more h = tt
where_told (Some xs) None P Q more h = tt
where_told (Some xs) (Some ys) P Q more h = more xs ys h

-- an input that was read isn't past the limit
not_past : {X : Type 0} (bytes : X) (before now : Option (List ℕ)) → WhereTold before now (λ xs ys. IsErrOf (Ok bytes) PastEnd ↔ IsPastLimit xs ys) → WhereTold before now IsWithinLimit
not_past bytes before now = where_told before now _ IsWithinLimit (λ xs ys h. within_limit xs ys (λ past. let e = h.1 past in cc))

module _ (s : Settings) (command_reads : IsTrue (reads s.command)) (source : Change) where
  -- the bytes that were read are those of the input
  pub of_input : {X : Type 0} (whole : X) (bytes : List ℕ) → IsAtEnd source.now → WhereTold source.before source.now (λ xs ys. IsErrOf (Ok whole) PastEnd ↔ IsPastLimit xs ys) → IfSome source.before (λ left. bytes ≡ left) → length bytes ≤ 2 ^ 30
      → (P : List ℕ → Type 0) → P bytes → IsOfInput s source P
  of_input whole bytes end within same few P h = record {
    taken = subst (λ (b : Bool). TakesBy b source) (sym command_reads) (end, not_past whole source.before source.now within);
    bytes = bytes;
    whole = subst (λ (b : Bool). IfSome (if b then source.before else Some []) (λ left. bytes ≡ left)) (sym command_reads) same;
    few = few;
    holds = h;
  }

  -- the bytes that were read have no output
  cause_of : {X : Type 0} (whole : X) (bytes : List ℕ) → IsAtEnd source.now → WhereTold source.before source.now (λ xs ys. IsErrOf (Ok whole) PastEnd ↔ IsPastLimit xs ys) → IfSome source.before (λ left. bytes ≡ left) → length bytes ≤ 2 ^ 30
      → (refusal : Refusal) → RefusesInput s bytes refusal → IsCause s source refusal
  cause_of whole bytes end within same few Words h = absurd h
  cause_of whole bytes end within same few ReadFault h = absurd h
  cause_of whole bytes end within same few (Input fault) h = of_input whole bytes end within same few (λ b. RefusesInput s b (Input fault)) h
  cause_of whole bytes end within same few (TooLarge Bytes) h = absurd h.3
  cause_of whole bytes end within same few (TooLarge (Runs n)) h = of_input whole bytes end within same few (λ b. RefusesInput s b (TooLarge (Runs n))) h
  cause_of whole bytes end within same few (TooLarge (Values n)) h = of_input whole bytes end within same few (λ b. RefusesInput s b (TooLarge (Values n))) h

  pub causes_of : {X : Type 0} (whole : X) (bytes : List ℕ) → IsAtEnd source.now → WhereTold source.before source.now (λ xs ys. IsErrOf (Ok whole) PastEnd ↔ IsPastLimit xs ys) → IfSome source.before (λ left. bytes ≡ left) → length bytes ≤ 2 ^ 30
      → (failure : Failure) → IfRefused (RefusesInput s bytes) failure → IfRefused (IsCause s source) failure
  causes_of whole bytes end within same few (Refused refusal) h = cause_of whole bytes end within same few refusal h
  causes_of whole bytes end within same few Memory h = tt

-- the cause of a command's refusal is that of the words
cause_by_words : (words : List (List ℕ)) (s : Settings) (source : Change) → HasSettings words s → (refusal : Refusal) → IsCause s source refusal → HasCause words source refusal
cause_by_words words s source settings Words h = absurd h
cause_by_words words s source settings ReadFault h = (s, settings, h)
cause_by_words words s source settings (Input fault) h = (s, settings, h)
cause_by_words words s source settings (TooLarge size) h = (s, settings, h)

pub causes_by_words : (words : List (List ℕ)) (s : Settings) (source : Change) → HasSettings words s → (failure : Failure) → IfRefused (IsCause s source) failure → IfRefused (HasCause words source) failure
causes_by_words words s source settings (Refused refusal) h = cause_by_words words s source settings refusal h
causes_by_words words s source settings Memory h = tt

-- ---- a command that takes nothing

module _ (s : Settings) (source : Change) (takes_nothing : reads s.command ≡ false) (same : source.now ≡ source.before) where
  pub of_nothing : (P : List ℕ → Type 0) → P [] → IsOfInput s source P
  of_nothing P h = record {
    taken = subst (λ (b : Bool). TakesBy b source) (sym takes_nothing) same;
    bytes = [];
    whole = subst (λ (b : Bool). IfSome (if b then source.before else Some []) (λ left. [] ≡ left)) (sym takes_nothing) refl;
    few = omega arith;
    holds = h;
  }

  cause_of_nothing : (refusal : Refusal) → RefusesInput s [] refusal → IsCause s source refusal
  cause_of_nothing Words h = absurd h
  cause_of_nothing ReadFault h = absurd h
  cause_of_nothing (Input fault) h = of_nothing (λ b. RefusesInput s b (Input fault)) h
  cause_of_nothing (TooLarge Bytes) h = absurd h.3
  cause_of_nothing (TooLarge (Runs n)) h = of_nothing (λ b. RefusesInput s b (TooLarge (Runs n))) h
  cause_of_nothing (TooLarge (Values n)) h = of_nothing (λ b. RefusesInput s b (TooLarge (Values n))) h

  pub causes_of_nothing : (failure : Failure) → IfRefused (RefusesInput s []) failure → IfRefused (IsCause s source) failure
  causes_of_nothing (Refused refusal) h = cause_of_nothing refusal h
  causes_of_nothing Memory h = tt

-- a test that is generated is the output of a command that takes nothing
pub generated_output : (s : Settings) (source : Change) (text : List ℕ) (is_clean : Bool) → s.command ≡ Generate → source.now ≡ source.before → text ≡ test_text (generated s.gen_settings) → is_clean ≡ true
    → IsOfInput s source (λ bytes. IsOutputOf s bytes text is_clean)
generated_output s source text is_clean e same whole clean =
    let p = generated s.gen_settings in
    let takes_nothing : reads s.command ≡ false = ap reads e in
    let output : IsOutputOf s [] text is_clean = record {
      test = p;
      runs = [];
      recorded = subst (λ (c : Command). RecordsBy c s [] p []) (sym e) (refl, refl);
      limits = (omega arith, omega arith);
      output = subst (λ (c : Command). OutputsBy c s p [] text is_clean) (sym e) (whole, clean);
    } in
    of_nothing s source takes_nothing same (λ bytes. IsOutputOf s bytes text is_clean) output
