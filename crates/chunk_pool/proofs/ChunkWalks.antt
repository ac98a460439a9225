-- A chunk that is walked one signature after another.
use Rattle.std.proofs.Common.{◌≡◌, ◌∙◌, ℕ, ◌+◌, ◌-◌, ◌<◌, ◌≤◌, List, [], ◌∷◌, ◌++◌, length, get_or, take, drop, refl, sym, ap, subst, arith}
use Rattle.std.specs.Prelude.{Option, None, Some, if◌then◌else◌, slice_range}
use Rattle.std.specs.List.{AllZip}
use Rattle.std.proofs.lemmas.List.{take_more, get_or-drop, length-drop}
use Rattle.std.proofs.lemmas.List.Elements.{AllZip-push}
use Rattle.std.proofs.lemmas.List.Sums.{sum_by-append}
use Rattle.graph_model.specs.StaticGraph.{StaticGraph}
use Rattle.test_lang.specs.declared.op.MemModel.{MemModel}
use Rattle.test_lang.specs.Program.{Program}
use Rattle.test_lang.specs.Signatures.{Means}
use Rattle.window_resort.specs.declared.verdicts.Verdict.{Verdict}
use Rattle.window_resort.specs.Walks.{Base, IsWalk, TakesRun, counts_full, counts_kept, counts_resorted, nodes_sorted}
use Rattle.chunk_pool.specs.declared.share.Counts.{Counts}
use Rattle.chunk_pool.specs.Shares.{TakesSignature, WalksChunk, counted}

pub no_base : (base : Base) → None ≡ Some base → ⊥
no_base base e = cc

-- the base that a walk leaves
abbrev pub last_base : Option Base → List (Option Base) → Option Base
last_base base [] = base
last_base base (after ∷ bases) = last_base after bases

last_base-push : (base after : Option Base) (bases : List (Option Base)) → last_base base (bases ++ after ∷ []) ≡ after
last_base-push base after [] = refl
last_base-push base after (next ∷ bases) = last_base-push next after bases

module _ (m : MemModel) (p : Program) (run : List ℕ) (verdict : Verdict) (after : Option Base) where
  walk_more : (base : Option Base) (runs : List (List ℕ)) (verdicts : List Verdict) (bases : List (Option Base)) → IsWalk m p base runs verdicts bases → TakesRun m p (last_base base bases) run verdict after
      → IsWalk m p base (runs ++ run ∷ []) (verdicts ++ verdict ∷ []) (bases ++ after ∷ [])
  walk_more base [] [] [] walk taken = (taken, tt)
  walk_more base (r ∷ runs) (v ∷ verdicts) (b ∷ bases) walk taken = (walk.0, walk_more b runs verdicts bases walk.1 taken)
  walk_more base [] (v ∷ verdicts) bases walk taken = absurd walk
  walk_more base [] [] (b ∷ bases) walk taken = absurd walk
  walk_more base (r ∷ runs) [] bases walk taken = absurd walk
  walk_more base (r ∷ runs) (v ∷ verdicts) [] walk taken = absurd walk

pub same_counts : (a b : Counts) → a.full ≡ b.full → a.kept ≡ b.kept → a.resorted ≡ b.resorted → a.nodes ≡ b.nodes → a ≡ b
same_counts a b full kept resorted nodes =
    let all : a ≡ b =
    ap (λ (f : ℕ). record { full = f; kept = a.kept; resorted = a.resorted; nodes = a.nodes }) full
    ∙ ap (λ (k : ℕ). record { full = b.full; kept = k; resorted = a.resorted; nodes = a.nodes }) kept
    ∙ ap (λ (r : ℕ). record { full = b.full; kept = b.kept; resorted = r; nodes = a.nodes }) resorted
    ∙ ap (λ (n : ℕ). record { full = b.full; kept = b.kept; resorted = b.resorted; nodes = n }) nodes in
    all

counted-none : (counts : Counts) → counts ≡ counted counts []
counted-none counts = same_counts counts (counted counts []) (omega arith) (omega arith) (omega arith) (omega arith)

counted-more : (counts : Counts) (verdicts : List Verdict) (verdict : Verdict) → counted (counted counts verdicts) (verdict ∷ []) ≡ counted counts (verdicts ++ verdict ∷ [])
counted-more counts verdicts verdict =
    let full = sum_by-append (λ v. if counts_full v then 1 else 0) verdicts (verdict ∷ []) in
    let kept = sum_by-append (λ v. if counts_kept v then 1 else 0) verdicts (verdict ∷ []) in
    let resorted = sum_by-append (λ v. if counts_resorted v then 1 else 0) verdicts (verdict ∷ []) in
    let nodes = sum_by-append nodes_sorted verdicts (verdict ∷ []) in
    same_counts (counted (counted counts verdicts) (verdict ∷ [])) (counted counts (verdicts ++ verdict ∷ [])) (omega (arith, full)) (omega (arith, kept)) (omega (arith, resorted)) (omega (arith, nodes))

-- The first signatures of a chunk are walked, and this is the base then.
pub record IsWalkedTo (s : StaticGraph) (signatures : List (List ℕ)) (base : Option Base) (old new : Counts) : Type 0 where
  pub runs : List (List ℕ)
  pub mean : AllZip (Means s.test) signatures runs
  pub verdicts : List Verdict
  pub bases : List (Option Base)
  pub walk : IsWalk s.model s.test None runs verdicts bases
  pub last : last_base None bases ≡ base
  pub counts : new ≡ counted old verdicts

pub walked-none : (s : StaticGraph) (base : Option Base) (counts : Counts) → base ≡ None → IsWalkedTo s [] base counts counts
walked-none s base counts none = record {
  runs = [];
  mean = tt;
  verdicts = [];
  bases = [];
  walk = tt;
  last = sym none;
  counts = counted-none counts;
}

pub walked-more : (s : StaticGraph) (signatures : List (List ℕ)) (words : List ℕ) (base after : Option Base) (old mid new : Counts) → IsWalkedTo s signatures base old mid → TakesSignature s words base after mid new
    → IsWalkedTo s (signatures ++ words ∷ []) after old new
walked-more s signatures words base after old mid new h t = record {
  runs = h.runs ++ t.run ∷ [];
  mean = AllZip-push (Means s.test) signatures h.runs words t.run h.mean t.means;
  verdicts = h.verdicts ++ t.verdict ∷ [];
  bases = h.bases ++ after ∷ [];
  walk = walk_more s.model s.test t.run t.verdict after None h.runs h.verdicts h.bases h.walk (subst (λ (b : Option Base). TakesRun s.model s.test b t.run t.verdict after) (sym h.last) t.taken);
  last = last_base-push None after h.bases;
  counts = t.counts ∙ ap (λ (c : Counts). counted c (t.verdict ∷ [])) h.counts ∙ counted-more old h.verdicts t.verdict;
}

pub walked-all : (s : StaticGraph) (signatures : List (List ℕ)) (base : Option Base) (old new : Counts) → IsWalkedTo s signatures base old new → WalksChunk s signatures old new
walked-all s signatures base old new h = record {
  verdicts = h.verdicts;
  walked = record { runs = h.runs; mean = h.mean; bases = h.bases; walk = h.walk };
  counts = h.counts;
}

-- the signatures from a place on

pub range-none : {X : Type 0} (xs : List X) (first : ℕ) → slice_range xs first first ≡ []
range-none xs first = let none : first - first ≡ 0 = omega arith in ap (λ (n : ℕ). take n (drop first xs)) none

pub range-more : {X : Type 0} (xs : List X) (first place : ℕ) (d : X) → first ≤ place → place < length xs → slice_range xs first (place + 1) ≡ slice_range xs first place ++ get_or xs place d ∷ []
range-more xs first place d from below =
    let within = length-drop first xs in
    let step = take_more (drop first xs) (place - first) d (omega (arith, from, below, within)) in
    let there : first + (place - first) ≡ place = omega (arith, from) in
    let next : place + 1 - first ≡ place - first + 1 = omega (arith, from) in
    let at : get_or (drop first xs) (place - first) d ≡ get_or xs place d = get_or-drop first xs (place - first) d ∙ ap (λ (n : ℕ). get_or xs n d) there in
    ap (λ (n : ℕ). take n (drop first xs)) next ∙ step ∙ ap (λ x. take (place - first) (drop first xs) ++ x ∷ []) at
