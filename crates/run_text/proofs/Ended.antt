-- After `done` a call answers `false`, and changes nothing.
use Rattle.std.proofs.Common.{◌≡◌, ℕ, List, [], Bool, true, false, ap, ◌∙◌, subst, cond, Result, Ok}
use Rattle.std.proofs.lemmas.List.{append-nil}
use Rattle.test_lang.specs.Text.Line.{first_line}
use Rattle.run_text.specs.declared.fault.RunFault.{RunFault}
use Rattle.run_text.specs.Reader.{Reader, line_at, turn, Gives}

pub turn_ended : (r : Reader) → r.is_done ≡ true → turn r ≡ Ok (record { more = false; values = []; reader = r })
turn_ended r e = ap (λ (b : Bool). cond b (Ok (record { more = false; values = []; reader = r })) (line_at r (first_line r.left))) e

pub ended_stays : (r after : Reader) (old new : List ℕ) (result : Result Bool RunFault) → r.is_done ≡ true → result ≡ Ok false → Gives result old new r after (turn r)
    → (result ≡ Ok false) × (new ≡ old) × (after ≡ r)
ended_stays r after old new result done is h =
    let told : Gives result old new r after (Ok (record { more = false; values = []; reader = r })) = subst (Gives result old new r after) (turn_ended r done) h in
    let here : Gives (Ok false) old new r after (Ok (record { more = false; values = []; reader = r })) =
    subst (λ (x : Result Bool RunFault). Gives x old new r after (Ok (record { more = false; values = []; reader = r }))) is told in
    (is, here.values_added ∙ append-nil old, here.reader_moved)
