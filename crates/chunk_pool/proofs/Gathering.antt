-- Putting together one share after another.
use Rattle.std.proofs.Common.{◌≡◌, ◌∙◌, ℕ, ◌+◌, ◌*◌, ◌≤◌, List, [], ◌∷◌, ◌++◌, map, length, replicate, append_assoc, append-nil, length-append, refl, sym, ap, subst, arith}
use Rattle.std.specs.Prelude.{Result, fold}
use Rattle.std.specs.Prelude.{Ok as Given}
use Rattle.std.proofs.lemmas.List.{length-map, map-append}
use Rattle.std.proofs.lemmas.List.Sums.{sum_by-append}
use Rattle.verdict_report.specs.declared.report.Judged.{Judged}
use Rattle.verdict_report.specs.declared.report.Judged.TheVariants.{Ok}
use Rattle.chunk_pool.specs.declared.share.Counts.{Counts}
use Rattle.chunk_pool.specs.declared.share.Share.{Share}
use Rattle.chunk_pool.specs.Gathered.{AreSmall, IsSmall}
use Rattle.chunk_pool.specs.Shares.{IsFew, counts_with, no_counts, put_cycles, put_shares, sum_counts}
use Rattle.chunk_pool.proofs.ChunkWalks.{same_counts}
use Rattle.chunk_pool.proofs.Putting.{length-put_cycles}
use Rattle.chunk_pool.proofs.Settling.{few-more}

-- The results but for the rest are shares, and these are put together.
pub record IsGatheredTo {E : Type 0} (signatures : ℕ) (results rest : List (Result Share E)) (found : List Judged) (counts : Counts) : Type 0 where
  pub shares : List Share
  pub split : results ≡ map Given shares ++ rest
  pub found_is : found ≡ put_shares (replicate signatures Ok) shares
  pub counts_are : counts ≡ sum_counts shares
  pub few : IsFew (length shares * 1000000) counts
  pub long : length found ≡ signatures
  pub small : AreSmall signatures rest

fold_more : {X Y : Type 0} (f : Y → X → Y) (a : Y) (xs : List X) (x : X) → fold f a (xs ++ x ∷ []) ≡ f (fold f a xs) x
fold_more f a [] x = refl
fold_more f a (y ∷ xs) x = fold_more f (f a y) xs x

sum_more : (shares : List Share) (share : Share) → counts_with (sum_counts shares) share.counts ≡ sum_counts (shares ++ share ∷ [])
sum_more shares share =
    let full = sum_by-append (λ (s : Share). s.counts.full) shares (share ∷ []) in
    let kept = sum_by-append (λ (s : Share). s.counts.kept) shares (share ∷ []) in
    let resorted = sum_by-append (λ (s : Share). s.counts.resorted) shares (share ∷ []) in
    let nodes = sum_by-append (λ (s : Share). s.counts.nodes) shares (share ∷ []) in
    same_counts (counts_with (sum_counts shares) share.counts) (sum_counts (shares ++ share ∷ [])) (omega (arith, full)) (omega (arith, kept)) (omega (arith, resorted)) (omega (arith, nodes))

few_with : (m : ℕ) (counts more : Counts) → IsFew (m * 1000000) counts → IsFew 1000000 more → IsFew ((m + 1) * 1000000) (counts_with counts more)
few_with m counts more h k =
    let full = h.full in
    let kept = h.kept in
    let resorted = h.resorted in
    let nodes = h.nodes in
    let full' = k.full in
    let kept' = k.kept in
    let resorted' = k.resorted in
    let nodes' = k.nodes in
    record { full = omega (arith, full, full'); kept = omega (arith, kept, kept'); resorted = omega (arith, resorted, resorted'); nodes = omega (arith, nodes, nodes') }

module _ {E : Type 0} (signatures : ℕ) (results : List (Result Share E)) where
  pub gathered-none : (found : List Judged) (counts : Counts) → found ≡ replicate signatures Ok → counts ≡ no_counts → length found ≡ signatures → AreSmall signatures results → IsGatheredTo signatures results results found counts
  gathered-none found counts found_is none long small = record {
    shares = [];
    split = refl;
    found_is = found_is;
    counts_are = none;
    few = subst (λ (c : Counts). IsFew 0 c) (sym none) (record { full = omega arith; kept = omega arith; resorted = omega arith; nodes = omega arith });
    long = long;
    small = small;
  }

  pub gathered-more : (left rest : List (Result Share E)) (share : Share) (found : List Judged) (counts : Counts) → left ≡ Given share ∷ rest → IsGatheredTo signatures results left found counts
      → IsGatheredTo signatures results rest (put_cycles found share.cycles.items) (counts_with counts share.counts)
  gathered-more left rest share found counts e h =
      let small : AreSmall signatures (Given share ∷ rest) = subst (AreSmall signatures) e h.small in
      let more = length-append h.shares (share ∷ []) in
      let next : length h.shares + 1 ≡ length (h.shares ++ share ∷ []) = omega (arith, more) in
      record {
        shares = h.shares ++ share ∷ [];
        split = h.split ∙ ap (λ (l : List (Result Share E)). map Given h.shares ++ l) e ∙ sym (append_assoc (map Given h.shares) (Given share ∷ []) rest)
            ∙ ap (λ (l : List (Result Share E)). l ++ rest) (sym (map-append Given h.shares (share ∷ [])));
        found_is = ap (λ (f : List Judged). put_cycles f share.cycles.items) h.found_is ∙ sym (fold_more (λ f s. put_cycles f s.cycles.items) (replicate signatures Ok) h.shares share);
        counts_are = ap (λ (c : Counts). counts_with c share.counts) h.counts_are ∙ sum_more h.shares share;
        few = subst (λ (n : ℕ). IsFew (n * 1000000) (counts_with counts share.counts)) next (few_with (length h.shares) counts share.counts h.few small.0.few);
        long = length-put_cycles share.cycles.items found ∙ h.long;
        small = small.1;
      }

  -- what the next share needs of the limits
  pub few_now : (left : List (Result Share E)) (found : List Judged) (counts : Counts) → length results ≤ 64 → IsGatheredTo signatures results left found counts → IsFew 64000000 counts
  few_now left found counts few h =
      let split = ap (λ (l : List (Result Share E)). length l) h.split in
      let parts = length-append (map Given h.shares) left in
      let same = length-map {B = Result Share E} h.shares Given in
      few-more counts (length h.shares * 1000000) 64000000 (omega (arith, split, parts, same, few)) h.few

  pub small_now : (left rest : List (Result Share E)) (share : Share) (found : List Judged) (counts : Counts) → left ≡ Given share ∷ rest → IsGatheredTo signatures results left found counts → IsSmall signatures share
  small_now left rest share found counts e h = (subst (AreSmall signatures) e h.small).0

  pub gathered-all : (left : List (Result Share E)) (found : List Judged) (counts : Counts) → left ≡ [] → (h : IsGatheredTo signatures results left found counts) → results ≡ map Given h.shares
  gathered-all left found counts e h = h.split ∙ ap (λ (l : List (Result Share E)). map Given h.shares ++ l) e ∙ append-nil (map Given h.shares)
