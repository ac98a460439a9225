-- Memory after one more effect: the values now and before of each word.
use Rattle.std.proofs.Common.{◌≡◌, ◌≢◌, ◌∙◌, ℕ, ◌-◌, ◌<◌, List, [], ◌∷◌, ◌++◌, map, take, length, set, Bool, true, false, cond, Option, Some, None, arith, refl, ap, length-append, replicate}
use Rattle.std.specs.Prelude.{filter, slice_get}
use Rattle.std.specs.Option.{option_map}
use Rattle.std.proofs.lemmas.Bool.{eq-eqb, ne_eqb}
use Rattle.std.proofs.lemmas.List.{append-nil, map-append, take-append-le, take_all}
use Rattle.std.proofs.lemmas.List.Elements.{filter-append}
use Rattle.std.proofs.lemmas.Option.{same_Some}
use Rattle.orders.specs.Orders.{nodes_below}
use Rattle.test_lang.specs.declared.op.Op.{Op}
use Rattle.test_lang.specs.declared.op.Op.TheVariants.{Load, Store, Fence}
use Rattle.test_lang.specs.Program.{Program, nodes, op_at, passes}
use Rattle.test_lang.specs.Values.{is_store, is_store_to, is_store_at, value_of}
use Rattle.test_lang.specs.Play.States.{stores_to, history, last_value, value_now, value_before}
use Rattle.sim_core.proofs.BelowLists.{map-changed, map-same_below, map_below-constant}

last_value-push : (values : List ℕ) (v : ℕ) → last_value (values ++ v ∷ []) ≡ v
last_value-push [] v = refl
last_value-push (x ∷ []) v = refl
last_value-push (x ∷ y ∷ more) v = last_value-push (y ∷ more) v

front-push : (values : List ℕ) (v : ℕ) → take (length (values ++ v ∷ []) - 1) (values ++ v ∷ []) ≡ values
front-push values v =
    let long = length-append values (v ∷ []) in
    let one : length (values ++ v ∷ []) - 1 ≡ length values = omega (arith, long) in
    ap (λ (n : ℕ). take n (values ++ v ∷ [])) one ∙ take-append-le (length values) values (v ∷ []) (omega arith) ∙ take_all (length values) values (omega arith)

-- of one word
module _ (p : Program) (effects : List ℕ) (n word : ℕ) where
  history-push : (b : Bool) → stores_to p word n ≡ b → history p (effects ++ n ∷ []) word ≡ history p effects word ++ cond b (value_of p n ∷ []) []
  history-push b e =
      ap (map (value_of p)) (filter-append (stores_to p word) effects (n ∷ []) ∙ ap (λ (t : Bool). filter (stores_to p word) effects ++ cond t (n ∷ []) []) e)
      ∙ map-append (value_of p) (filter (stores_to p word) effects) (cond b (n ∷ []) [])
      ∙ ap (λ (values : List ℕ). history p effects word ++ values) (one b)
    where
      one : (b : Bool) → map (value_of p) (cond b (n ∷ []) []) ≡ cond b (value_of p n ∷ []) []
      one true = refl
      one false = refl

  history-other : stores_to p word n ≡ false → history p (effects ++ n ∷ []) word ≡ history p effects word
  history-other e = history-push false e ∙ append-nil (history p effects word)

  pub value_now-store : stores_to p word n ≡ true → value_now p (effects ++ n ∷ []) word ≡ value_of p n
  value_now-store e = ap last_value (history-push true e) ∙ last_value-push (history p effects word) (value_of p n)

  pub value_before-store : stores_to p word n ≡ true → value_before p (effects ++ n ∷ []) word ≡ value_now p effects word
  value_before-store e =
      ap (λ (values : List ℕ). last_value (take (length values - 1) values)) (history-push true e) ∙ ap last_value (front-push (history p effects word) (value_of p n))

  pub value_now-other : stores_to p word n ≡ false → value_now p (effects ++ n ∷ []) word ≡ value_now p effects word
  value_now-other e = ap last_value (history-other e)

  pub value_before-other : stores_to p word n ≡ false → value_before p (effects ++ n ∷ []) word ≡ value_before p effects word
  value_before-other e = ap (λ (values : List ℕ). last_value (take (length values - 1) values)) (history-other e)

-- which words a node stores to

stores_from : (word : ℕ) (found : Option (ℕ × Op)) (op : Op) → option_map (λ node. node.1) found ≡ Some op → passes (λ node. is_store_to word node.1) found ≡ is_store_to word op
stores_from word None op e = absurd cc
stores_from word (Some node) op e = ap (is_store_to word) (same_Some node.1 op e)

pub stores_to-op : (p : Program) (word n : ℕ) (op : Op) → op_at p n ≡ Some op → stores_to p word n ≡ is_store_to word op
stores_to-op p word n op e = stores_from word (slice_get (nodes p) n) op e

no_store : (word : ℕ) (op : Op) → is_store op ≡ false → is_store_to word op ≡ false
no_store word (Load x) e = refl
no_store word (Store x) e = absurd cc
no_store word Fence e = refl

no_store_at : (word : ℕ) (found : Option (ℕ × Op)) → passes (λ node. is_store node.1) found ≡ false → passes (λ node. is_store_to word node.1) found ≡ false
no_store_at word None e = refl
no_store_at word (Some node) e = no_store word node.1 e

pub stores_to-none : (p : Program) (word n : ℕ) → is_store_at p n ≡ false → stores_to p word n ≡ false
stores_to-none p word n e = no_store_at word (slice_get (nodes p) n) e

-- Of all words. A store takes effect.
module _ (p : Program) (effects : List ℕ) (n x : ℕ) (is : op_at p n ≡ Some (Store x)) (within : x < p.words) where
  stores_here : stores_to p x n ≡ true
  stores_here = stores_to-op p x n (Store x) is ∙ eq-eqb x x refl

  stores_there : (word : ℕ) → word ≢ x → stores_to p word n ≡ false
  stores_there word other = stores_to-op p word n (Store x) is ∙ ne_eqb word x other

  pub now-store : map (value_now p (effects ++ n ∷ [])) (nodes_below p.words) ≡ set (map (value_now p effects) (nodes_below p.words)) x (value_of p n)
  now-store =
      map-changed (value_now p effects) (value_now p (effects ++ n ∷ [])) p.words x within (λ word lt other. value_now-other p effects n word (stores_there word other))
      ∙ ap (set (map (value_now p effects) (nodes_below p.words)) x) (value_now-store p effects n x stores_here)

  pub before-store : map (value_before p (effects ++ n ∷ [])) (nodes_below p.words) ≡ set (map (value_before p effects) (nodes_below p.words)) x (value_now p effects x)
  before-store =
      map-changed (value_before p effects) (value_before p (effects ++ n ∷ [])) p.words x within (λ word lt other. value_before-other p effects n word (stores_there word other))
      ∙ ap (set (map (value_before p effects) (nodes_below p.words)) x) (value_before-store p effects n x stores_here)

-- Another operation takes effect.
module _ (p : Program) (effects : List ℕ) (n : ℕ) (is : is_store_at p n ≡ false) where
  pub now-other : map (value_now p (effects ++ n ∷ [])) (nodes_below p.words) ≡ map (value_now p effects) (nodes_below p.words)
  now-other = map-same_below (value_now p (effects ++ n ∷ [])) (value_now p effects) p.words (λ word lt. value_now-other p effects n word (stores_to-none p word n is))

  pub before-other : map (value_before p (effects ++ n ∷ [])) (nodes_below p.words) ≡ map (value_before p effects) (nodes_below p.words)
  before-other = map-same_below (value_before p (effects ++ n ∷ [])) (value_before p effects) p.words (λ word lt. value_before-other p effects n word (stores_to-none p word n is))

-- Nothing took effect.

pub now-opening : (p : Program) → map (value_now p []) (nodes_below p.words) ≡ replicate p.words 0
now-opening p = map_below-constant (value_now p []) 0 p.words (λ word. refl)

pub before-opening : (p : Program) → map (value_before p []) (nodes_below p.words) ≡ replicate p.words 0
before-opening p = map_below-constant (value_before p []) 0 p.words (λ word. refl)
