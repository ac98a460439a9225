-- A walk goes over the lines of a test.
use Rattle.std.proofs.Common.{◌≡◌, ℕ, suc, ◌+◌, ◌<◌, ◌≤◌, List, [], ◌∷◌, ◌++◌, map, refl, ap, arith, ◌∙◌, sym, Option, Some, Result, Ok, length, append_assoc, append-nil, length-append}
use Rattle.std.specs.Prelude.{codes, sum_by, IsTrue}
use Rattle.std.specs.List.{AllByRecursion, flat_map}
use Rattle.std.proofs.lemmas.List.{length-map}
use Rattle.std.proofs.lemmas.List.Sums.{sum_by-cons, sum_by-append}
use Rattle.std.proofs.lemmas.List.Elements.{recursion_from_All}
use Rattle.test_lang.specs.declared.op.Op.{Op}
use Rattle.test_lang.specs.declared.op.Action.{Action}
use Rattle.test_lang.specs.declared.text.form.Form.{Form}
use Rattle.test_lang.specs.declared.text.form.Form.TheVariants.{Thread, Operation}
use Rattle.test_lang.specs.declared.text.fault.TestFault.{TestFault}
use Rattle.test_lang.specs.Actions.{op_of, allows}
use Rattle.test_lang.specs.Program.{Program, empty_program, with_last, nodes_from, actions, actions_from, op_count, HasWord, HasWordBelow, IsWithinLimits}
use Rattle.test_lang.specs.Text.Form.{HasForm}
use Rattle.test_lang.specs.Text.Grammar.{action_line, thread_lines, body_lines}
use Rattle.test_lang.specs.Text.Reading.{judged, go_on, walk}
use Rattle.test_lang.proofs.TextLemmas.Forms.{has-form_of, action_line-form}
use Rattle.test_lang.proofs.TextLemmas.Judging.{Judges, judges-judged}
use Rattle.test_lang.proofs.TextLemmas.Walking.{below_256}
use Rattle.test_lang.proofs.TextLemmas.Bodies.{op_count-sum_by}

-- the test of this version with so many words and these threads
abbrev pub program : ℕ → ℕ → List (List Action) → Program
program version words threads = record { version = version; words = words; threads = threads }

-- the action fits a test of this version with so many words
abbrev pub IsFit : ℕ → ℕ → Action → Type 0
IsFit version words action = HasWordBelow words (op_of action) × IsTrue (allows version action)

-- A line that has a form passes where the form is judged good.
pub walk-form : (p : Program) (n : ℕ) (line : List ℕ) (lines : List (List ℕ)) (form : Form) (judgement : Result Form TestFault) → HasForm p.version line form → Judges p n (Some form) judgement
    → walk p n (line ∷ lines) ≡ go_on p (λ q. walk q (n + 1) lines) judgement
walk-form p n line lines form judgement has judges =
    ap (λ (o : Option Form). go_on p (λ q. walk q (n + 1) lines) (judged p n o)) (has-form_of p.version line form has) ∙ ap (go_on p (λ q. walk q (n + 1) lines)) (judges-judged p n (Some form) judgement judges)

with_last-end : (front : List (List Action)) (thread : List Action) (action : Action) → with_last (front ++ thread ∷ []) action ≡ front ++ (thread ++ action ∷ []) ∷ []
with_last-end [] thread action = refl
with_last-end (first ∷ []) thread action = refl
with_last-end (first ∷ next ∷ more) thread action = ap (λ (ts : List (List Action)). first ∷ ts) (with_last-end (next ∷ more) thread action)

count-end : (version words : ℕ) (front : List (List Action)) (thread : List Action) → op_count (program version words (front ++ thread ∷ [])) ≡ sum_by length front + length thread
count-end version words front thread =
    let one = sum_by-append length front (thread ∷ []) in
    let last = sum_by-cons length thread [] in
    op_count-sum_by (program version words (front ++ thread ∷ [])) ∙ omega (arith, one, last)

-- the lines of a thread's actions, behind those that it has
walk-actions : (version words : ℕ) (front : List (List Action)) (done thread : List Action) (n : ℕ) (lines : List (List ℕ)) → words ≤ 256 → AllByRecursion (IsFit version words) thread
    → sum_by length front + length done + length thread ≤ 2048
    → walk (program version words (front ++ done ∷ [])) n (map action_line thread ++ lines) ≡ walk (program version words (front ++ (done ++ thread) ∷ [])) (n + length thread) lines
walk-actions version words front done [] n lines few has room =
    let number : n ≡ n + 0 = omega arith in
    ap (λ (xs : List Action). walk (program version words (front ++ xs ∷ [])) n lines) (sym (append-nil done)) ∙ ap (λ (k : ℕ). walk (program version words (front ++ (done ++ []) ∷ [])) k lines) number
walk-actions version words front done (action ∷ thread) n lines few has room =
    let p = program version words (front ++ done ∷ []) in
    let some : 0 < length (front ++ done ∷ []) = simp length-append (omega arith) in
    let count = count-end version words front done in
    let below : op_count p < 2048 = omega (arith, count, room) in
    let more : sum_by length front + length (done ++ action ∷ []) + length thread ≤ 2048 = simp length-append (omega (arith, room)) in
    let number : n + 1 + length thread ≡ n + length (action ∷ thread) = omega arith in
    walk-form p n (action_line action) (map action_line thread ++ lines) (Operation action) (Ok (Operation action)) (action_line-form version action (below_256 (program version words []) action few (has.0.0)) (has.0.1)) (refl, some, has.0.0, below)
    ∙ ap (λ (ts : List (List Action)). walk (program version words ts) (n + 1) (map action_line thread ++ lines)) (with_last-end front done action)
    ∙ walk-actions version words front (done ++ action ∷ []) thread (n + 1) lines few (has.1) more
    ∙ ap (λ (xs : List Action). walk (program version words (front ++ xs ∷ [])) (n + 1 + length thread) lines) (append_assoc done (action ∷ []) thread)
    ∙ ap (λ (k : ℕ). walk (program version words (front ++ (done ++ action ∷ thread) ∷ [])) k lines) number

-- the lines of threads, behind those of the threads in front
walk-threads : (version words : ℕ) (front threads : List (List Action)) (n : ℕ) (lines : List (List ℕ)) → words ≤ 256 → AllByRecursion (AllByRecursion (IsFit version words)) threads
    → length front + length threads ≤ 16 → sum_by length front + sum_by length threads ≤ 2048
    → walk (program version words front) n (flat_map thread_lines threads ++ lines) ≡ walk (program version words (front ++ threads)) (n + length (flat_map thread_lines threads)) lines
walk-threads version words front [] n lines few has threads_fit actions_fit =
    let number : n ≡ n + 0 = omega arith in
    ap (λ (ts : List (List Action)). walk (program version words ts) n lines) (sym (append-nil front)) ∙ ap (λ (k : ℕ). walk (program version words (front ++ [])) k lines) number
walk-threads version words front (thread ∷ more) n lines few has threads_fit actions_fit =
    let p = program version words front in
    let behind = flat_map thread_lines more ++ lines in
    let room : length front < 16 = omega (arith, threads_fit) in
    let whole = sum_by-cons length thread more in
    let one = sum_by-append length front (thread ∷ []) in
    let single = sum_by-cons length thread [] in
    let actions_here : sum_by length front + length {A = Action} [] + length thread ≤ 2048 = omega (arith, actions_fit, whole) in
    let threads_later : length (front ++ thread ∷ []) + length more ≤ 16 = simp length-append (omega (arith, threads_fit)) in
    let actions_later : sum_by length (front ++ thread ∷ []) + sum_by length more ≤ 2048 = omega (arith, actions_fit, whole, one, single) in
    let long : length (flat_map thread_lines (thread ∷ more)) ≡ 1 + length thread + length (flat_map thread_lines more) = simp (length-append, length-map) (omega arith) in
    let number : n + 1 + length thread + length (flat_map thread_lines more) ≡ n + length (flat_map thread_lines (thread ∷ more)) = omega (arith, long) in
    ap (walk p n) (append_assoc (thread_lines thread) (flat_map thread_lines more) lines)
    ∙ walk-form p n (codes "thread") (map action_line thread ++ behind) Thread (Ok Thread) refl (refl, room)
    ∙ walk-actions version words front [] thread (n + 1) behind few (has.0) actions_here
    ∙ walk-threads version words (front ++ thread ∷ []) more (n + 1 + length thread) lines few (has.1) threads_later actions_later
    ∙ ap (λ (ts : List (List Action)). walk (program version words ts) (n + 1 + length thread + length (flat_map thread_lines more)) lines) (append_assoc front (thread ∷ []) more)
    ∙ ap (λ (k : ℕ). walk (program version words (front ++ thread ∷ more)) k lines) number

-- the words and the kinds of all actions, thread by thread

words-split : (P : Op → Type 0) (k : ℕ) (thread : List Action) (rest : List (ℕ × Op)) → AllByRecursion (λ (node : ℕ × Op). P node.1) (map (λ action. (k, op_of action)) thread ++ rest)
    → AllByRecursion (λ (action : Action). P (op_of action)) thread × AllByRecursion (λ (node : ℕ × Op). P node.1) rest
words-split P k [] rest h = (tt, h)
words-split P k (action ∷ thread) rest h = let more = words-split P k thread rest (h.1) in ((h.0, more.0), more.1)

words-threads : (P : Op → Type 0) (k : ℕ) (threads : List (List Action)) → AllByRecursion (λ (node : ℕ × Op). P node.1) (nodes_from k threads)
    → AllByRecursion (AllByRecursion (λ (action : Action). P (op_of action))) threads
words-threads P k [] h = tt
words-threads P k (thread ∷ more) h =
    let parts = words-split P k thread (nodes_from (suc k) more) h in
    (parts.0, words-threads P (suc k) more (parts.1))

kinds-split : (P : Action → Type 0) (k : ℕ) (thread : List Action) (rest : List (ℕ × Action)) → AllByRecursion (λ (node : ℕ × Action). P node.1) (map (λ action. (k, action)) thread ++ rest)
    → AllByRecursion P thread × AllByRecursion (λ (node : ℕ × Action). P node.1) rest
kinds-split P k [] rest h = (tt, h)
kinds-split P k (action ∷ thread) rest h = let more = kinds-split P k thread rest (h.1) in ((h.0, more.0), more.1)

kinds-threads : (P : Action → Type 0) (k : ℕ) (threads : List (List Action)) → AllByRecursion (λ (node : ℕ × Action). P node.1) (actions_from k threads) → AllByRecursion (AllByRecursion P) threads
kinds-threads P k [] h = tt
kinds-threads P k (thread ∷ more) h =
    let parts = kinds-split P k thread (actions_from (suc k) more) h in
    (parts.0, kinds-threads P (suc k) more (parts.1))

both : (P Q : Action → Type 0) (thread : List Action) → AllByRecursion P thread → AllByRecursion Q thread → AllByRecursion (λ (action : Action). P action × Q action) thread
both P Q [] h k = tt
both P Q (action ∷ thread) h k = ((h.0, k.0), both P Q thread (h.1) (k.1))

both-threads : (P Q : Action → Type 0) (threads : List (List Action)) → AllByRecursion (AllByRecursion P) threads → AllByRecursion (AllByRecursion Q) threads
    → AllByRecursion (AllByRecursion (λ (action : Action). P action × Q action)) threads
both-threads P Q [] h k = tt
both-threads P Q (thread ∷ more) h k = (both P Q thread (h.0) (k.0), both-threads P Q more (h.1) (k.1))

pub fit-threads : (p : Program) → IsWithinLimits p → AllByRecursion (AllByRecursion (IsFit p.version p.words)) p.threads
fit-threads p h =
    both-threads (λ (action : Action). HasWordBelow p.words (op_of action)) (λ (action : Action). IsTrue (allows p.version action)) p.threads
    (words-threads (HasWordBelow p.words) 0 p.threads (recursion_from_All (λ (node : ℕ × Op). HasWord p node.1) (nodes_from 0 p.threads) h.words_of))
    (kinds-threads (λ (action : Action). IsTrue (allows p.version action)) 0 p.threads (recursion_from_All (λ (node : ℕ × Action). IsTrue (allows p.version node.1)) (actions p) h.kinds_of))

-- A walk goes over all lines of a test within the limits.
pub walk-body : (p : Program) (n : ℕ) (lines : List (List ℕ)) → IsWithinLimits p → walk (empty_program p.version p.words) n (body_lines p ++ lines) ≡ walk p (n + length (body_lines p)) lines
walk-body p n lines h =
    let count = op_count-sum_by p in
    walk-threads p.version p.words [] p.threads n lines h.words (fit-threads p h) (omega (arith, h.threads)) (omega (arith, count, h.operations))
