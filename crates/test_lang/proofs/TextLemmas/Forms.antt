-- The form that is read of a line is the form that it has.
use Rattle.std.proofs.Common.{◌≡◌, ℕ, ◌^◌, ◌<◌, ◌≤◌, ◌⊎◌, List, [], ◌∷◌, ◌++◌, Bool, true, false, ◌&&◌, refl, ap, arith, ◌∙◌, sym, subst, cond, Option, Some, None, eqb, leb, inl, inr, ⊎_elim, take, drop, length, nat_eq, append_assoc}
use Rattle.std.specs.Prelude.{◌+◌, codes, IsTrue}
use Rattle.std.specs.Option.{option_map}
use Rattle.std.specs.Str.{bytes_eq}
use Rattle.std.specs.List.{starts_with}
use Rattle.std.specs.Fmt.{decimal}
use Rattle.std.proofs.lemmas.Bool.{and_parts, and_from, cases_eq, eqb-true, eq-eqb, leb-true, le-leb}
use Rattle.std.proofs.lemmas.Fmt.{decimal_digit}
use Rattle.std.proofs.lemmas.List.{take-append-drop}
use Rattle.std.proofs.lemmas.Slice.Eq.{bytes_eq-Decides}
use Rattle.test_lang.specs.declared.op.FenceKind.TheVariants.{Full, Store as StoreFence, Load as LoadFence}
use Rattle.test_lang.specs.declared.op.Action.{Action}
use Rattle.test_lang.specs.declared.op.Action.TheVariants.{Load, Store, Fence}
use Rattle.test_lang.specs.declared.text.form.Form.{Form}
use Rattle.test_lang.specs.declared.text.form.Form.TheVariants.{Thread, Operation, End}
use Rattle.test_lang.specs.Actions.{op_of, allows}
use Rattle.test_lang.specs.Program.{HasWordBelow, IsVersion}
use Rattle.test_lang.specs.Text.Line.{IsLine}
use Rattle.test_lang.specs.Text.Numeral.{part, whole_numeral}
use Rattle.test_lang.specs.Text.Form.{IsNumbered, HasForm, partial_fence_of, form_of}
use Rattle.test_lang.specs.Text.Grammar.{head_line, words_line, action_line}
use Rattle.test_lang.specs.Text.Reading.{few_words, version_of, words_of}
use Rattle.test_lang.proofs.TextLemmas.Choices.{chosen, guarded}
use Rattle.test_lang.proofs.TextLemmas.Numerals.{whole_numeral-spelled, whole_numeral-of, decimal-numeral, numeral-is_decimal, IsLine-decimal}

-- A line that begins with a word and a space, and a numeral behind them.
numbered : (word line : List ℕ) (n : ℕ) → starts_with nat_eq line (word ++ 32 ∷ []) ≡ true → whole_numeral (drop (length (word ++ 32 ∷ [])) line) ≡ Some n → IsNumbered word n line
numbered word line n begins read =
    let front = word ++ 32 ∷ [] in
    let rest = drop (length front) line in
    record {
      numeral = rest;
      is_numeral = whole_numeral-spelled rest n read;
      whole = sym (take-append-drop (length front) line) ∙ ap (λ (ys : List ℕ). ys ++ rest) (sym ((bytes_eq-Decides front (take (length front) line)).0 begins)) ∙ append_assoc word (32 ∷ []) rest;
    }

-- Where a word is tested first, the line is that word, or the rest decides.
word_or : (version : ℕ) (line word : List ℕ) (first form : Form) (rest : Option Form) → (line ≡ word → HasForm version line first) → cond (bytes_eq line word) (Some first) rest ≡ Some form
    → HasForm version line form ⊎ (rest ≡ Some form)
word_or version line word first form rest has e = ⊎_elim
    (λ (here : (bytes_eq line word ≡ true) × (Some first ≡ Some form)).
    let same : first ≡ form = let h = here.1 in cc in
    inl (subst (HasForm version line) same (has ((bytes_eq-Decides line word).0 here.0))))
    (λ (later : (bytes_eq line word ≡ false) × (rest ≡ Some form)). inr later.1)
    (chosen (bytes_eq line word) (Some first) rest (Some form) e)

mapped : (make : ℕ → Form) (o : Option ℕ) (form : Form) → option_map make o ≡ Some form → (n : ℕ) × (o ≡ Some n) × (make n ≡ form)
mapped make None form e = absurd cc
mapped make (Some n) form e = (n, refl, cc)

-- Where a word with a numeral behind it is tested first, the line is so, or the rest decides.
number_or : (version : ℕ) (line word : List ℕ) (make : ℕ → Form) (form : Form) (rest : Option Form) → ((n : ℕ) → IsNumbered word n line → HasForm version line (make n))
    → cond (starts_with nat_eq line (word ++ 32 ∷ [])) (option_map make (whole_numeral (drop (length (word ++ 32 ∷ [])) line))) rest ≡ Some form
    → HasForm version line form ⊎ (rest ≡ Some form)
number_or version line word make form rest has e = ⊎_elim
    (λ (here : (starts_with nat_eq line (word ++ 32 ∷ []) ≡ true) × (option_map make (whole_numeral (drop (length (word ++ 32 ∷ [])) line)) ≡ Some form)).
    let is = mapped make (whole_numeral (drop (length (word ++ 32 ∷ [])) line)) form here.1 in
    inl (subst (HasForm version line) (is.2) (has (is.0) (numbered word line (is.0) here.0 (is.1)))))
    (λ (later : (starts_with nat_eq line (word ++ 32 ∷ []) ≡ false) × (rest ≡ Some form)). inr later.1)
    (chosen (starts_with nat_eq line (word ++ 32 ∷ [])) (option_map make (whole_numeral (drop (length (word ++ 32 ∷ [])) line))) rest (Some form) e)

partial_fence-has : (version : ℕ) (line : List ℕ) (form : Form) → version ≡ 2 → partial_fence_of line ≡ Some form → HasForm version line form
partial_fence-has version line form second e =
    ⊎_elim (λ is. is) (λ e1.
    ⊎_elim (λ is. is) (λ (none : None ≡ Some form). absurd cc)
    (word_or version line (codes "fence ld") (Operation (Fence LoadFence)) form None (λ is. (is, second)) e1))
    (word_or version line (codes "fence st") (Operation (Fence StoreFence)) form _ (λ is. (is, second)) e)

pub form_of-has : (version : ℕ) (line : List ℕ) (form : Form) → form_of version line ≡ Some form → HasForm version line form
form_of-has version line form e =
    ⊎_elim (λ is. is) (λ e1.
    ⊎_elim (λ is. is) (λ e2.
    ⊎_elim (λ is. is) (λ e3.
    ⊎_elim (λ is. is) (λ e4.
    ⊎_elim (λ is. is) (λ e5. let is = guarded (eqb version 2) (partial_fence_of line) form e5 in partial_fence-has version line form (eqb-true version 2 (is.0)) (is.1))
    (number_or version line (codes "st") (λ word. Operation (Store word)) form _ (λ n is. is) e4))
    (number_or version line (codes "ld") (λ word. Operation (Load word)) form _ (λ n is. is) e3))
    (word_or version line (codes "end") End form _ (λ is. is) e2))
    (word_or version line (codes "fence") (Operation (Fence Full)) form _ (λ is. is) e1))
    (word_or version line (codes "thread") Thread form _ (λ is. is) e)

pub has-form_of : (version : ℕ) (line : List ℕ) (form : Form) → HasForm version line form → form_of version line ≡ Some form
has-form_of version line Thread h = ap (form_of version) h
has-form_of version line (Operation (Load word)) h = ap (form_of version) h.whole ∙ ap (option_map (λ n. Operation (Load n))) (whole_numeral-of h.numeral word h.is_numeral)
has-form_of version line (Operation (Store word)) h = ap (form_of version) h.whole ∙ ap (option_map (λ n. Operation (Store n))) (whole_numeral-of h.numeral word h.is_numeral)
has-form_of version line (Operation (Fence Full)) h = ap (form_of version) h
has-form_of version line (Operation (Fence StoreFence)) h =
    ap (form_of version) (h.0) ∙ ap (λ (b : Bool). cond b (Some (Operation (Fence StoreFence))) None) (eq-eqb version 2 (h.1))
has-form_of version line (Operation (Fence LoadFence)) h =
    ap (form_of version) (h.0) ∙ ap (λ (b : Bool). cond b (Some (Operation (Fence LoadFence))) None) (eq-eqb version 2 (h.1))
has-form_of version line End h = ap (form_of version) h

-- A line of a version has only the actions that the version allows.
pub form-allows : (version : ℕ) (line : List ℕ) (action : Action) → HasForm version line (Operation action) → IsTrue (allows version action)
form-allows version line (Load word) h = refl
form-allows version line (Store word) h = refl
form-allows version line (Fence Full) h = refl
form-allows version line (Fence StoreFence) h = eq-eqb version 2 (h.1)
form-allows version line (Fence LoadFence) h = eq-eqb version 2 (h.1)

-- The numeral of a number behind a word is its decimal text.
pub numbered-decimal : (word line : List ℕ) (n : ℕ) → IsNumbered word n line → n < 2 ^ 64 → line ≡ word ++ part (decimal n)
numbered-decimal word line n h small = h.whole ∙ ap (λ (ys : List ℕ). word ++ part ys) (numeral-is_decimal h.numeral n h.is_numeral small)

pub decimal-numbered : (word : List ℕ) (n : ℕ) → n < 2 ^ 64 → IsNumbered word n (word ++ part (decimal n))
decimal-numbered word n small = record { numeral = decimal n; is_numeral = decimal-numeral n small; whole = refl }

-- A line with the form of an action is the line of that action, and the other way round.
pub form-action_line : (version : ℕ) (line : List ℕ) (action : Action) → HasForm version line (Operation action) → HasWordBelow 256 (op_of action) → line ≡ action_line action
form-action_line version line (Load word) h small = numbered-decimal (codes "ld") line word h (omega (arith, small))
form-action_line version line (Store word) h small = numbered-decimal (codes "st") line word h (omega (arith, small))
form-action_line version line (Fence Full) h small = h
form-action_line version line (Fence StoreFence) h small = h.0
form-action_line version line (Fence LoadFence) h small = h.0

pub action_line-form : (version : ℕ) (action : Action) → HasWordBelow 256 (op_of action) → IsTrue (allows version action) → HasForm version (action_line action) (Operation action)
action_line-form version (Load word) small kind = decimal-numbered (codes "ld") word (omega (arith, small))
action_line-form version (Store word) small kind = decimal-numbered (codes "st") word (omega (arith, small))
action_line-form version (Fence Full) small kind = refl
action_line-form version (Fence StoreFence) small kind = (refl, eqb-true version 2 kind)
action_line-form version (Fence LoadFence) small kind = (refl, eqb-true version 2 kind)

-- The first line.

head_is : (version : ℕ) → version < 10 → head_line version ≡ codes "mtest" ++ part ((48 + version) ∷ [])
head_is version small = ap (λ (ys : List ℕ). codes "mtest" ++ part ys) (decimal_digit version small)

pub version_of-line : (line : List ℕ) (version : ℕ) → version_of line ≡ Some version → (line ≡ head_line version) × IsVersion version
version_of-line line version e = ⊎_elim
    (λ (here : (bytes_eq line (codes "mtest 1") ≡ true) × (Some 1 ≡ Some version)).
    let same : 1 ≡ version = let h = here.1 in cc in
    let small : version < 10 = omega (arith, same) in
    let is : codes "mtest 1" ≡ codes "mtest" ++ part ((48 + version) ∷ []) = ap (λ (n : ℕ). codes "mtest" ++ part ((48 + n) ∷ [])) same in
    ((bytes_eq-Decides line (codes "mtest 1")).0 here.0 ∙ is ∙ sym (head_is version small), (omega (arith, same), omega (arith, same))))
    (λ (later : (bytes_eq line (codes "mtest 1") ≡ false) × (cond (bytes_eq line (codes "mtest 2")) (Some 2) None ≡ Some version)).
    let here = guarded (bytes_eq line (codes "mtest 2")) (Some 2) version later.1 in
    let same : 2 ≡ version = let h = here.1 in cc in
    let small : version < 10 = omega (arith, same) in
    let is : codes "mtest 2" ≡ codes "mtest" ++ part ((48 + version) ∷ []) = ap (λ (n : ℕ). codes "mtest" ++ part ((48 + n) ∷ [])) same in
    ((bytes_eq-Decides line (codes "mtest 2")).0 here.0 ∙ is ∙ sym (head_is version small), (omega (arith, same), omega (arith, same))))
    (chosen (bytes_eq line (codes "mtest 1")) (Some 1) (cond (bytes_eq line (codes "mtest 2")) (Some 2) None) (Some version) e)

pub head_line-version_of : (version : ℕ) → IsVersion version → version_of (head_line version) ≡ Some version
head_line-version_of version is = elim (cases_eq version 1) [
  | inl first ↦
      let small : 1 < 10 = omega arith in
      ap (λ (n : ℕ). version_of (head_line n)) first ∙ ap version_of (head_is 1 small) ∙ ap (λ (n : ℕ). Some n) (sym first)
  | inr other ↦
      let last : version ≡ 2 = omega (arith, is.0, is.1, other) in
      let small : 2 < 10 = omega arith in
      ap (λ (n : ℕ). version_of (head_line n)) last ∙ ap version_of (head_is 2 small) ∙ ap (λ (n : ℕ). Some n) (sym last)
]

-- The second line.

few_words-is : (o : Option ℕ) (n : ℕ) → few_words o ≡ Some n → (o ≡ Some n) × (1 ≤ n) × (n ≤ 256)
few_words-is None n e = absurd cc
few_words-is (Some m) n e =
    let is = guarded (leb 1 m && leb m 256) (Some m) n e in
    let same : m ≡ n = let h = is.1 in cc in
    let bounds = and_parts (leb 1 m) (leb m 256) (is.0) in
    let low = leb-true 1 m (bounds.0) in
    let high = leb-true m 256 (bounds.1) in
    (is.1, omega arith, omega arith)

pub words_of-line : (line : List ℕ) (n : ℕ) → words_of line ≡ Some n → (line ≡ words_line n) × (1 ≤ n) × (n ≤ 256)
words_of-line line n e =
    let word = guarded (starts_with nat_eq line (codes "words ")) (few_words (whole_numeral (drop 6 line))) n e in
    let number = few_words-is (whole_numeral (drop 6 line)) n (word.1) in
    let high = number.2 in
    (numbered-decimal (codes "words") line n (numbered (codes "words") line n (word.0) (number.0)) (omega arith), number.1, number.2)

pub words_line-words_of : (n : ℕ) → 1 ≤ n → n ≤ 256 → words_of (words_line n) ≡ Some n
words_line-words_of n some few =
    let small : n < 2 ^ 64 = omega arith in
    ap few_words (whole_numeral-of (decimal n) n (decimal-numeral n small)) ∙ ap (λ (b : Bool). cond b (Some n) None) (and_from (leb 1 n) (leb n 256) (le-leb 1 n some) (le-leb n 256 few))

-- No line of a test holds a line feed.

pub IsLine-head : (version : ℕ) → version ≤ 2 → IsLine (head_line version)
IsLine-head version last = (λ e. absurd (omega arith), (λ e. absurd (omega arith), (λ e. absurd (omega arith), (λ e. absurd (omega arith), (λ e. absurd (omega arith), (λ e. absurd (omega arith), IsLine-decimal version (omega (arith, last))))))))

pub IsLine-words : (n : ℕ) → n ≤ 256 → IsLine (words_line n)
IsLine-words n few = (λ e. absurd (omega arith), (λ e. absurd (omega arith), (λ e. absurd (omega arith), (λ e. absurd (omega arith), (λ e. absurd (omega arith), (λ e. absurd (omega arith), IsLine-decimal n (omega arith)))))))

pub IsLine-thread : IsLine (codes "thread")
IsLine-thread = (λ e. absurd (omega arith), (λ e. absurd (omega arith), (λ e. absurd (omega arith), (λ e. absurd (omega arith), (λ e. absurd (omega arith), (λ e. absurd (omega arith), tt))))))

pub IsLine-action : (action : Action) → HasWordBelow 256 (op_of action) → IsLine (action_line action)
IsLine-action (Load word) small = (λ e. absurd (omega arith), (λ e. absurd (omega arith), (λ e. absurd (omega arith), IsLine-decimal word (omega (arith, small)))))
IsLine-action (Store word) small = (λ e. absurd (omega arith), (λ e. absurd (omega arith), (λ e. absurd (omega arith), IsLine-decimal word (omega (arith, small)))))
IsLine-action (Fence Full) small = (λ e. absurd (omega arith), (λ e. absurd (omega arith), (λ e. absurd (omega arith), (λ e. absurd (omega arith), (λ e. absurd (omega arith), tt)))))
IsLine-action (Fence StoreFence) small =
    (λ e. absurd (omega arith), (λ e. absurd (omega arith), (λ e. absurd (omega arith), (λ e. absurd (omega arith), (λ e. absurd (omega arith), (λ e. absurd (omega arith), (λ e. absurd (omega arith), (λ e. absurd (omega arith), tt))))))))
IsLine-action (Fence LoadFence) small =
    (λ e. absurd (omega arith), (λ e. absurd (omega arith), (λ e. absurd (omega arith), (λ e. absurd (omega arith), (λ e. absurd (omega arith), (λ e. absurd (omega arith), (λ e. absurd (omega arith), (λ e. absurd (omega arith), tt))))))))

pub IsLine-end : IsLine (codes "end")
IsLine-end = (λ e. absurd (omega arith), (λ e. absurd (omega arith), (λ e. absurd (omega arith), tt)))
