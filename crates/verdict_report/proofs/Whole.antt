-- The lines of a report, part by part.
use Rattle.std.proofs.Common.{◌≡◌, ◌∙◌, ℕ, List, [], ◌∷◌, ◌++◌, ap, sym, append_assoc}
use Rattle.test_lang.specs.Text.Line.{closed}
use Rattle.test_lang.proofs.TextLemmas.Lines.{closed-append}

pub whole_report : (one two three four : List ℕ) (head outcomes : List (List ℕ)) (sum work : List ℕ) → one ≡ closed head → two ≡ one ++ closed outcomes → three ≡ two ++ closed (sum ∷ []) → four ≡ three ++ closed (work ∷ [])
    → four ≡ closed (head ++ outcomes ++ sum ∷ work ∷ [])
whole_report one two three four head outcomes sum work a b c d =
    let two_is : two ≡ closed (head ++ outcomes) = b ∙ ap (λ (ys : List ℕ). ys ++ closed outcomes) a ∙ sym (closed-append head outcomes) in
    d ∙ ap (λ (ys : List ℕ). ys ++ closed (work ∷ [])) (c ∙ ap (λ (ys : List ℕ). ys ++ closed (sum ∷ [])) two_is)
    ∙ append_assoc (closed (head ++ outcomes)) (closed (sum ∷ [])) (closed (work ∷ []))
    ∙ ap (λ (ys : List ℕ). closed (head ++ outcomes) ++ ys) (sym (closed-append (sum ∷ []) (work ∷ [])))
    ∙ sym (closed-append (head ++ outcomes) (sum ∷ work ∷ []))

then_added : (old middle new x y : List ℕ) → middle ≡ old ++ x → new ≡ middle ++ y → new ≡ old ++ (x ++ y)
then_added old middle new x y a b = b ∙ ap (λ (ys : List ℕ). ys ++ y) a ∙ append_assoc old x y

-- a line of a word and four parts
pub line_of_four : (old m0 m1 m2 m3 m4 new front p1 p2 p3 p4 : List ℕ) → m0 ≡ old ++ front → m1 ≡ m0 ++ p1 → m2 ≡ m1 ++ p2 → m3 ≡ m2 ++ p3 → m4 ≡ m3 ++ p4 → new ≡ m4 ++ 10 ∷ []
    → new ≡ old ++ closed ((front ++ p1 ++ p2 ++ p3 ++ p4) ∷ [])
line_of_four old m0 m1 m2 m3 m4 new front p1 p2 p3 p4 h0 h1 h2 h3 h4 end =
    then_added old m4 new (front ++ p1 ++ p2 ++ p3 ++ p4) (10 ∷ [])
    (then_added old m3 m4 (front ++ p1 ++ p2 ++ p3) p4 (then_added old m2 m3 (front ++ p1 ++ p2) p3 (then_added old m1 m2 (front ++ p1) p2 (then_added old m0 m1 front p1 h0 h1) h2) h3) h4) end

-- a line of a word and five parts
pub line_of_five : (old m0 m1 m2 m3 m4 m5 new front p1 p2 p3 p4 p5 : List ℕ) → m0 ≡ old ++ front → m1 ≡ m0 ++ p1 → m2 ≡ m1 ++ p2 → m3 ≡ m2 ++ p3 → m4 ≡ m3 ++ p4 → m5 ≡ m4 ++ p5 → new ≡ m5 ++ 10 ∷ []
    → new ≡ old ++ closed ((front ++ p1 ++ p2 ++ p3 ++ p4 ++ p5) ∷ [])
line_of_five old m0 m1 m2 m3 m4 m5 new front p1 p2 p3 p4 p5 h0 h1 h2 h3 h4 h5 end =
    line_of_four old m1 m2 m3 m4 m5 new (front ++ p1) p2 p3 p4 p5 (then_added old m0 m1 front p1 h0 h1) h2 h3 h4 h5 end
