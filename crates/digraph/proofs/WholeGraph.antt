-- One edge more, and one less, in all arrays of a graph.
use Rattle.std.proofs.Common.{◌≡◌, ◌∙◌, ℕ, ◌+◌, ◌-◌, ◌*◌, ◌<◌, ◌≤◌, List, [], ◌∷◌, ◌++◌, length, get_or, set, take, map, min, refl, sym, ap, subst, arith}
use Rattle.std.specs.List.{zip}
use Rattle.std.specs.Prelude.{replicate}
use Rattle.std.proofs.lemmas.List.{length-append, length-map, length-take-le, take_all, take_more}
use Rattle.digraph.specs.AtHand.{TellAtHand, HasNear}
use Rattle.digraph.specs.Digraph.{in_degree, out_degree, source_of, target_of}
use Rattle.digraph.specs.KeyList.{KeyList, IsKeyList, IsGraph}
use Rattle.digraph.proofs.AtHand.{at_hand-push, near-begin, near-pop, degrees-begin, degrees-set, in-push_other, in-push_same, out-push_other, out-push_same}
use Rattle.digraph.proofs.Ends.{zip-count, zip-push, zip-push_all, zip-source, zip-take, zip-target}

-- no edge yet
module _ (n room : ℕ) where
  none : KeyList
  none = record { kinds = n; room = room; keys = [] }

  pub graph-begin : (s t : KeyList) → s ≡ record { kinds = n; room = room; keys = [] } → t ≡ record { kinds = n; room = room; keys = [] } → IsKeyList s → IsKeyList t →
      IsGraph s t (replicate (4 * n) n) (replicate n 0) (replicate n 0)
  graph-begin s t empty none sound_s sound_t =
      rw (empty, none) (record {
        paired = record {
          sound_sources = subst IsKeyList empty sound_s;
          sound_targets = subst IsKeyList none sound_t;
          kinds = refl;
          room = refl;
          count = refl;
        };
        at_hand = record {
          near = near-begin n;
          outs = degrees-begin n (out_degree []) (λ m. refl);
          ins = degrees-begin n (in_degree []) (λ m. refl);
        };
      })

-- an edge more
module _ (s t : KeyList) (near outs ins : List ℕ) (g : IsGraph s t near outs ins) (a b : ℕ) (from : a < s.kinds) (to : b < s.kinds) where
  pub graph-push : (s' t' : KeyList) → s' ≡ record s { keys = s.keys ++ a ∷ [] } → t' ≡ record t { keys = t.keys ++ b ∷ [] } → IsKeyList s' → IsKeyList t' →
      IsGraph s' t' (set near (4 * a + min (get_or outs a 0) 3) b) (set outs a (get_or outs a 0 + 1)) (set ins b (get_or ins b 0 + 1))
  graph-push s' t' more_s more_t sound_s sound_t =
      let count = g.paired.count in
      let long_s = length-append s.keys (a ∷ []) in
      let long_t = length-append t.keys (b ∷ []) in
      rw (more_s, more_t) (record {
        paired = record {
          sound_sources = subst IsKeyList more_s sound_s;
          sound_targets = subst IsKeyList more_t sound_t;
          kinds = g.paired.kinds;
          room = g.paired.room;
          count = omega (arith, count, long_s, long_t);
        };
        at_hand = rw (zip-push s.keys t.keys a b g.paired.count) (at_hand-push s.kinds (zip s.keys t.keys) near outs ins g.at_hand a b from to);
      })

-- an edge less
module _ (s t : KeyList) (near outs ins : List ℕ) (g : IsGraph s t near outs ins) (k : ℕ) (last : length s.keys ≡ k + 1) (a b : ℕ) (is_a : a ≡ get_or s.keys k 0) (is_b : b ≡ get_or t.keys k 0) (from : a < s.kinds) (to : b < s.kinds) where
  before : List (ℕ × ℕ)
  before = zip (take k s.keys) (take k t.keys)

  pub split : zip s.keys t.keys ≡ zip (take k s.keys) (take k t.keys) ++ (a, b) ∷ []
  split =
      let count = g.paired.count in
      let source : source_of (zip s.keys t.keys) k ≡ a = zip-source s.keys t.keys g.paired.count k (omega (arith, last)) ∙ sym is_a in
      let target : target_of (zip s.keys t.keys) k ≡ b = zip-target s.keys t.keys g.paired.count k (omega (arith, last)) ∙ sym is_b in
      let edge : get_or (zip s.keys t.keys) k (0, 0) ≡ (a, b) = ap (λ (x : ℕ). (x, target_of (zip s.keys t.keys) k)) source ∙ ap (λ (y : ℕ). (a, y)) target in
      let size = zip-count s.keys t.keys g.paired.count in
      sym (take_all (k + 1) (zip s.keys t.keys) (omega (arith, size, last)))
      ∙ take_more (zip s.keys t.keys) k (0, 0) (omega (arith, size, last))
      ∙ ap (λ (e : ℕ × ℕ). take k (zip s.keys t.keys) ++ e ∷ []) edge
      ∙ ap (λ (es : List (ℕ × ℕ)). es ++ (a, b) ∷ []) (sym (zip-take k s.keys t.keys))

  out-more : out_degree (zip s.keys t.keys) a ≡ out_degree (zip (take k s.keys) (take k t.keys)) a + 1
  out-more = ap (λ (es : List (ℕ × ℕ)). out_degree es a) split ∙ out-push_same (zip (take k s.keys) (take k t.keys)) a b

  in-more : in_degree (zip s.keys t.keys) b ≡ in_degree (zip (take k s.keys) (take k t.keys)) b + 1
  in-more = ap (λ (es : List (ℕ × ℕ)). in_degree es b) split ∙ in-push_same (zip (take k s.keys) (take k t.keys)) a b

  pub out-some : (out : ℕ) → out ≡ get_or outs a 0 → 1 ≤ out
  out-some out is = let at = g.at_hand.outs.at a from in let more = out-more in omega (arith, is, at, more)

  pub in-some : (in_ : ℕ) → in_ ≡ get_or ins b 0 → 1 ≤ in_
  in-some in_ is = let at = g.at_hand.ins.at b to in let more = in-more in omega (arith, is, at, more)

  pub graph-pop : (s' t' : KeyList) → s' ≡ record s { keys = take k s.keys } → t' ≡ record t { keys = take k t.keys } → IsKeyList s' → IsKeyList t' →
      (out in_ : ℕ) → out ≡ get_or outs a 0 → in_ ≡ get_or ins b 0 →
      IsGraph s' t' (set near (4 * a + min (out - 1) 3) s.kinds) (set outs a (out - 1)) (set ins b (in_ - 1))
  graph-pop s' t' less_s less_t sound_s sound_t out in_ is_out is_in =
      let more = out-more in
      let more_in = in-more in
      let at = g.at_hand.outs.at a from in
      let at_in = g.at_hand.ins.at b to in
      let degree : out - 1 ≡ out_degree (zip (take k s.keys) (take k t.keys)) a = omega (arith, more, at, is_out) in
      let into : in_ - 1 ≡ in_degree (zip (take k s.keys) (take k t.keys)) b = omega (arith, more_in, at_in, is_in) in
      let count = g.paired.count in
      let long_s = length-take-le k s.keys (omega (arith, last)) in
      let long_t = length-take-le k t.keys (omega (arith, last, count)) in
      rw (less_s, less_t) (record {
        paired = record {
          sound_sources = subst IsKeyList less_s sound_s;
          sound_targets = subst IsKeyList less_t sound_t;
          kinds = g.paired.kinds;
          room = g.paired.room;
          count = omega (arith, long_s, long_t);
        };
        at_hand = record {
          near = subst (λ (d : ℕ). HasNear s.kinds (zip (take k s.keys) (take k t.keys)) (set near (4 * a + min d 3) s.kinds)) (sym degree)
              (near-pop s.kinds (zip (take k s.keys) (take k t.keys)) a b near from (subst (λ (es : List (ℕ × ℕ)). HasNear s.kinds es near) split g.at_hand.near));
          outs = degrees-set s.kinds (out_degree (zip s.keys t.keys)) (out_degree (zip (take k s.keys) (take k t.keys))) outs a from
              (λ m other. sym (ap (λ (es : List (ℕ × ℕ)). out_degree es m) split ∙ out-push_other (zip (take k s.keys) (take k t.keys)) a b m other)) (out - 1) degree g.at_hand.outs;
          ins = degrees-set s.kinds (in_degree (zip s.keys t.keys)) (in_degree (zip (take k s.keys) (take k t.keys))) ins b to
              (λ m other. sym (ap (λ (es : List (ℕ × ℕ)). in_degree es m) split ∙ in-push_other (zip (take k s.keys) (take k t.keys)) a b m other)) (in_ - 1) into g.at_hand.ins;
        };
      })

-- more edges
module _ (s t : KeyList) (near outs ins : List ℕ) (g : IsGraph s t near outs ins) (es : List (ℕ × ℕ)) where
  pub graph-push_all : (s' t' : KeyList) → s' ≡ record s { keys = s.keys ++ map (λ e. e.0) es } → t' ≡ record t { keys = t.keys ++ map (λ e. e.1) es } → IsKeyList s' → IsKeyList t' →
      (near' outs' ins' : List ℕ) → TellAtHand s.kinds (zip s.keys t.keys ++ es) near' outs' ins' → IsGraph s' t' near' outs' ins'
  graph-push_all s' t' more_s more_t sound_s sound_t near' outs' ins' at_hand =
      let count = g.paired.count in
      let long_s = length-append s.keys (map (λ (e : ℕ × ℕ). e.0) es) in
      let long_t = length-append t.keys (map (λ (e : ℕ × ℕ). e.1) es) in
      let sources = length-map es (λ (e : ℕ × ℕ). e.0) in
      let targets = length-map es (λ (e : ℕ × ℕ). e.1) in
      rw (more_s, more_t) (record {
        paired = record {
          sound_sources = subst IsKeyList more_s sound_s;
          sound_targets = subst IsKeyList more_t sound_t;
          kinds = g.paired.kinds;
          room = g.paired.room;
          count = omega (arith, count, long_s, long_t, sources, targets);
        };
        at_hand = rw (zip-push_all s.keys t.keys es g.paired.count) at_hand;
      })
