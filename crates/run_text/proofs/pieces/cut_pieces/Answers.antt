use Rattle.std.proofs.Common.{◌≡◌, ◌+◌, ◌*◌, ◌<◌, ◌≤◌, ◌∙◌, ℕ, List, [], ◌∷◌, ◌++◌, Bor, ap, map, length, rules, subst, sym}
use Rattle.std.proofs.lemmas.List.{length-map, map-append}
use Rattle.run_text.proofs.Cutting.{IsCutting, AreCutFrom, cutting-step, cut-none, cut-last_piece, none-by}
use Rattle.run_text.proofs.pieces.cut_pieces.Goals as goal

abbrev seen : List (Bor (List ℕ)) → List (List ℕ)
seen pieces = map (λ piece. piece.now) pieces

pushed : (old new : List (Bor (List ℕ))) (x : Bor (List ℕ)) → new ≡ old ++ x ∷ [] → seen new ≡ seen old ++ x.now ∷ []
pushed old new x e = ap seen e ∙ map-append (λ piece. piece.now) old (x ∷ [])

pub cuts-preserved : goal.cuts-preserved
cuts-preserved c =
    subst (λ (ps : List (List ℕ)). IsCutting c.args.text.now c.args.size ps c.in-Some.rest.now) (sym (pushed c.cuts.pieces.items c.push.new.self.items c.in-Some.piece c.in_ok-push.ensures.items))
    (cutting-step c.args.text.now c.args.size (seen c.cuts.pieces.items) c.cuts.left.now c.in-Some.piece.now c.in-Some.rest.now c.cuts.invariant c.in-Some.ensures.whole c.in-Some.ensures.feed c.in-Some.ensures.front c.in-Some.ensures.long)

pub returns-then-is_empty-clause-cut : goal.returns-then-is_empty-clause-cut
returns-then-is_empty-clause-cut c =
    let few : length c.cuts.left.now ≤ 0 = search rules in
    (cut-none c.args.text.now c.args.size (seen c.cuts.pieces.items) c.cuts.left.now c.requires c.cuts.invariant (none-by c.cuts.left.now few)).cut

abbrev AreCutSeen : List ℕ → ℕ → List (Bor (List ℕ)) → Type 0
AreCutSeen text size pieces = AreCutFrom text size (seen pieces)

all : (text : List ℕ) (size : ℕ) (old new : List (Bor (List ℕ))) (x : Bor (List ℕ)) → new ≡ old ++ x ∷ [] → IsCutting text size (seen old) x.now → 1 ≤ length x.now → AreCutSeen text size new
all text size old new x e h some = subst (AreCutFrom text size) (sym (pushed old new x e)) (cut-last_piece text size (seen old) x.now h some)

few_of : (text : List ℕ) (size : ℕ) (new : List (Bor (List ℕ))) (len : ℕ) → len ≡ length new → AreCutSeen text size new → size * len < length text + size
few_of text size new len e h = subst (λ (n : ℕ). size * n < length text + size) (length-map new (λ (piece : Bor (List ℕ)). piece.now) ∙ sym e) h.few

pub returns-clause-whole : goal.returns-clause-whole
returns-clause-whole c =
    let some : 1 ≤ length c.cuts.left.now = search rules in
    (all c.args.text.now c.args.size c.cuts.pieces.items c.push-2.new.self.items c.cuts.left c.in_ok-push-2.ensures.items c.cuts.invariant some).whole

pub returns-clause-cut : goal.returns-clause-cut
returns-clause-cut c =
    let some : 1 ≤ length c.cuts.left.now = search rules in
    (all c.args.text.now c.args.size c.cuts.pieces.items c.push-2.new.self.items c.cuts.left c.in_ok-push-2.ensures.items c.cuts.invariant some).cut

pub returns-clause-few : goal.returns-clause-few
returns-clause-few c =
    let some : 1 ≤ length c.cuts.left.now = search rules in
    few_of c.args.text.now c.args.size c.push-2.new.self.items c.push-2.new.self.len c.push-2.new.self.ok.0
    (all c.args.text.now c.args.size c.cuts.pieces.items c.push-2.new.self.items c.cuts.left c.in_ok-push-2.ensures.items c.cuts.invariant some)
