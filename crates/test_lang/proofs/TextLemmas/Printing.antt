-- How the text of a test is printed, action by action and thread by thread.
use Rattle.std.proofs.Common.{◌≡◌, ℕ, zero, suc, ◌+◌, ◌<◌, List, [], ◌∷◌, ◌++◌, map, take, length, get_or, Some, ap, arith, ◌∙◌, sym, append_assoc, append-nil, add-one}
use Rattle.std.specs.Prelude.{codes, sum_by, slice_get}
use Rattle.std.specs.List.{flat_map}
use Rattle.std.specs.Option.{option_map}
use Rattle.std.proofs.lemmas.List.{map-append, take_more}
use Rattle.std.proofs.lemmas.List.Concat.{flat_map-append}
use Rattle.std.proofs.lemmas.List.Sums.{sum_by-cons}
use Rattle.std.proofs.lemmas.Option.{slice_get-get_or, same_Some}
use Rattle.test_lang.specs.declared.op.FenceKind.TheVariants.{Full}
use Rattle.test_lang.specs.declared.op.Action.{Action}
use Rattle.test_lang.specs.declared.op.Action.TheVariants.{Fence}
use Rattle.test_lang.specs.Program.{Program, actions_from, action_at, first_node, thread_length}
use Rattle.test_lang.specs.Text.Line.{closed}
use Rattle.test_lang.specs.Text.Grammar.{action_line, thread_lines}
use Rattle.test_lang.proofs.Places.{take-slice_get}
use Rattle.test_lang.proofs.TextLemmas.Lines.{closed-append}

-- the actions of a thread are those of its nodes

action_here : (j : ℕ) (thread : List Action) (rest : List (ℕ × Action)) (k : ℕ) (action : Action) → slice_get thread k ≡ Some action
    → option_map (λ node. node.1) (slice_get (map (λ a. (j, a)) thread ++ rest) k) ≡ Some action
action_here j [] rest k action e = absurd cc
action_here j (a ∷ thread) rest zero action e = e
action_here j (a ∷ thread) rest (suc k) action e = action_here j thread rest k action e

action_later : (j : ℕ) (thread : List Action) (rest : List (ℕ × Action)) (n : ℕ) → slice_get (map (λ a. (j, a)) thread ++ rest) (length thread + n) ≡ slice_get rest n
action_later j [] rest n = let same : 0 + n ≡ n = omega arith in ap (slice_get rest) same
action_later j (a ∷ thread) rest n =
    let one : length (a ∷ thread) + n ≡ suc (length thread + n) = omega arith in
    ap (slice_get ((j, a) ∷ (map (λ a. (j, a)) thread ++ rest))) one ∙ action_later j thread rest n

thread_action-from : (j : ℕ) (threads : List (List Action)) (t k : ℕ) (action : Action) → t < length threads → slice_get (get_or threads t []) k ≡ Some action
    → option_map (λ node. node.1) (slice_get (actions_from j threads) (sum_by length (take t threads) + k)) ≡ Some action
thread_action-from j [] t k action h e = absurd (omega arith)
thread_action-from j (thread ∷ more) zero k action h e =
    let same : 0 + k ≡ k = omega arith in
    ap (λ (n : ℕ). option_map (λ node. node.1) (slice_get (map (λ a. (j, a)) thread ++ actions_from (suc j) more) n)) same ∙ action_here j thread (actions_from (suc j) more) k action e
thread_action-from j (thread ∷ more) (suc t) k action h e =
    let whole = sum_by-cons length thread (take t more) in
    let place : sum_by length (take (suc t) (thread ∷ more)) + k ≡ length thread + (sum_by length (take t more) + k) = omega (arith, whole) in
    ap (λ (n : ℕ). option_map (λ node. node.1) (slice_get (map (λ a. (j, a)) thread ++ actions_from (suc j) more) n)) place
    ∙ ap (option_map (λ node. node.1)) (action_later j thread (actions_from (suc j) more) (sum_by length (take t more) + k)) ∙ thread_action-from (suc j) more t k action (omega arith) e

pub thread_action : (p : Program) (t k : ℕ) (action : Action) → t < length p.threads → k < thread_length p t → action_at p (first_node p t + k) ≡ Some action → slice_get (get_or p.threads t []) k ≡ Some action
thread_action p t k action in_range within found =
    let thread = get_or p.threads t [] in
    let here = slice_get-get_or thread k (Fence Full) within in
    here ∙ ap (λ (a : Action). Some a) (same_Some _ _ (sym (thread_action-from 0 p.threads t k (get_or thread k (Fence Full)) in_range here) ∙ found))

-- One line more, and one thread more.

pub printed-action : (old out new : List ℕ) (thread : List Action) (k : ℕ) (action : Action) → out ≡ old ++ closed (codes "thread" ∷ map action_line (take k thread)) → slice_get thread k ≡ Some action
    → new ≡ out ++ closed (action_line action ∷ []) → new ≡ old ++ closed (codes "thread" ∷ map action_line (take (k + 1) thread))
printed-action old out new thread k action so_far found added =
    let lines = map action_line (take k thread) in
    let more : map action_line (take (k + 1) thread) ≡ lines ++ action_line action ∷ [] =
    ap (λ (n : ℕ). map action_line (take n thread)) (add-one k) ∙ ap (map action_line) (take-slice_get thread k action found) ∙ map-append action_line (take k thread) (action ∷ []) in
    added ∙ ap (λ (ys : List ℕ). ys ++ closed (action_line action ∷ [])) so_far ∙ append_assoc old (closed (codes "thread" ∷ lines)) (closed (action_line action ∷ []))
    ∙ ap (λ (ys : List ℕ). old ++ ys) (sym (closed-append (codes "thread" ∷ lines) (action_line action ∷ [])))
    ∙ ap (λ (ls : List (List ℕ)). old ++ closed (codes "thread" ∷ ls)) (sym more)

pub printed-thread : (front : List (List ℕ)) (out new : List ℕ) (threads : List (List Action)) (t : ℕ) → out ≡ closed (front ++ flat_map thread_lines (take t threads)) → t < length threads
    → new ≡ out ++ closed (thread_lines (get_or threads t [])) → new ≡ closed (front ++ flat_map thread_lines (take (t + 1) threads))
printed-thread front out new threads t so_far in_range added =
    let lines = flat_map thread_lines (take t threads) in
    let thread = thread_lines (get_or threads t []) in
    let more : flat_map thread_lines (take (t + 1) threads) ≡ lines ++ thread =
    ap (flat_map thread_lines) (take_more threads t [] in_range) ∙ flat_map-append thread_lines (take t threads) (get_or threads t [] ∷ []) ∙ ap (λ (ls : List (List ℕ)). lines ++ ls) (append-nil thread) in
    added ∙ ap (λ (ys : List ℕ). ys ++ closed thread) so_far ∙ sym (closed-append (front ++ lines) thread)
    ∙ ap closed (append_assoc front lines thread ∙ ap (λ (ls : List (List ℕ)). front ++ ls) (sym more))

-- the first two lines
pub printed-front : (first second empty one two : List ℕ) → empty ≡ [] → one ≡ empty ++ closed (first ∷ []) → two ≡ one ++ closed (second ∷ []) → two ≡ closed (first ∷ second ∷ [])
printed-front first second empty one two none e f =
    f ∙ ap (λ (ys : List ℕ). ys ++ closed (second ∷ [])) (e ∙ ap (λ (ys : List ℕ). ys ++ closed (first ∷ [])) none) ∙ sym (closed-append (first ∷ []) (second ∷ []))

pub printed-end : (front : List (List ℕ)) (out new : List ℕ) (lines : List (List ℕ)) → out ≡ closed (front ++ lines) → new ≡ out ++ closed (codes "end" ∷ [])
    → new ≡ closed (front ++ (lines ++ codes "end" ∷ []))
printed-end front out new lines so_far added =
    added ∙ ap (λ (ys : List ℕ). ys ++ closed (codes "end" ∷ [])) so_far ∙ sym (closed-append (front ++ lines) (codes "end" ∷ [])) ∙ ap closed (append_assoc front lines (codes "end" ∷ []))
