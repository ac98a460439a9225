-- The groups of a test within its limits, and where each begins among the ranks.
use Rattle.std.proofs.Common.{◌≡◌, ◌∙◌, ℕ, suc, ◌+◌, ◌-◌, ◌^◌, ◌<◌, ◌≤◌, List, [], ◌∷◌, All, map, take, drop, length, get_or, ap, arith, sym, subst, add-one, length-append}
use Rattle.std.specs.List.{concat, flat_map}
use Rattle.std.proofs.Math.Nat.{mul-le-mul}
use Rattle.std.proofs.lemmas.List.{get_or-map, length-map, take_all}
use Rattle.std.proofs.lemmas.List.Concat.{flat_map-cons}
use Rattle.std.proofs.lemmas.List.Elements.{All-append, All-nil, All-head, All-tail}
use Rattle.orders.specs.Orders.{nodes_below}
use Rattle.test_lang.specs.Program.{Program, op_count}
use Rattle.test_lang.specs.Values.{load_count, load_nodes, thread_loads}
use Rattle.test_lang.specs.Signatures.{candidate_count, groups, groups_of, group_product}
use Rattle.test_lang.proofs.Ranks.{length-load_nodes}
use Rattle.signature_plan.specs.declared.group_rows.Group.{Group}
use Rattle.signature_plan.specs.Fitting.{product_at}
use Rattle.signature_plan.specs.Rows.{row_of, TabulatesGroups}
use Rattle.signature_plan.specs.Words.{loads_between}
use Rattle.signature_plan.proofs.AllLoads.{concat-groups, thread_counts}
use Rattle.signature_plan.proofs.Concat.{start_of, start_of-suc, start_of-le, piece_at}
use Rattle.signature_plan.proofs.LongestCuts.{longest_cut}

-- of all threads

All-flat_map : {X Y : Type 0} (P : Y → Type 0) (f : X → List Y) → ((x : X) → All P (f x)) → (xs : List X) → All P (flat_map f xs)
All-flat_map P f each [] = All-nil P
All-flat_map P f each (x ∷ xs) = subst (All P) (sym (flat_map-cons f x xs)) (All-append P (f x) (flat_map f xs) (each x) (All-flat_map P f each xs))

pub products_fit : (p : Program) → op_count p ≤ 2048 → All (λ group. group_product p group ≤ 2 ^ 64) (groups p)
products_fit p few = All-flat_map (λ group. group_product p group ≤ 2 ^ 64) (λ t. groups_of (candidate_count p) (thread_loads p t))
    (λ t. (longest_cut (candidate_count p) (thread_loads p t) (thread_counts p t few)).fit) (nodes_below (length p.threads))

pub none_empty : (p : Program) → op_count p ≤ 2048 → All (λ group. 0 < length group) (groups p)
none_empty p few = All-flat_map (λ group. 0 < length group) (λ t. groups_of (candidate_count p) (thread_loads p t))
    (λ t. (longest_cut (candidate_count p) (thread_loads p t) (thread_counts p t few)).none_empty) (nodes_below (length p.threads))

length-concat : (cut : List (List ℕ)) → All (λ group. 0 < length group) cut → length cut ≤ length (concat cut)
length-concat [] some = omega arith
length-concat (group ∷ more) some =
    let here = All-head (λ (g : List ℕ). 0 < length g) group more some in
    let rest = length-concat more (All-tail (λ (g : List ℕ). 0 < length g) group more some) in
    let both = length-append group (concat more) in
    omega (arith, here, rest, both)

-- no more groups than loads
pub groups_few : (p : Program) → op_count p ≤ 2048 → length (groups p) ≤ load_count p
groups_few p few =
    let short = length-concat (groups p) (none_empty p few) in
    let all = ap length (concat-groups p) in
    let loads = length-load_nodes p in
    omega (arith, short, all, loads)

pub product-some : (p : Program) (group : List ℕ) → 1 ≤ group_product p group
product-some p [] = omega arith
product-some p (load ∷ loads) =
    let rest = product-some p loads in
    let here : 1 ≤ candidate_count p load = omega arith in
    let both = mul-le-mul {n₁ = 1} {m₁ = 1} {n₂ = candidate_count p load} {m₂ = group_product p loads} here rest in
    omega (arith, both)

-- by place

pub row_at : (p : Program) (rows : List Group) (place : ℕ) (row : Group) → rows ≡ map (row_of p) (groups p) → place < length (groups p) → row ≡ get_or rows place row → row ≡ row_of p (get_or (groups p) place [])
row_at p rows place row e lt is = is ∙ ap (λ xs. get_or xs place row) e ∙ get_or-map (row_of p) (groups p) place [] row lt

pub rows_long : (p : Program) (rows : List Group) → rows ≡ map (row_of p) (groups p) → length rows ≡ length (groups p)
rows_long p rows e = ap length e ∙ length-map (groups p) (row_of p)

pub product_at-fits : (p : Program) (place : ℕ) → op_count p ≤ 2048 → place < length (groups p) → product_at p place ≤ 2 ^ 64
product_at-fits p place few lt = products_fit p few place [] lt

-- by rank

abbrev pub group_start : Program → ℕ → ℕ
group_start p place = start_of (groups p) place

pub group_start-suc : (p : Program) (place : ℕ) → group_start p (suc place) ≡ group_start p place + length (get_or (groups p) place [])
group_start-suc p place = start_of-suc (groups p) place

pub group_end-le : (p : Program) (place : ℕ) → group_start p place + length (get_or (groups p) place []) ≤ load_count p
group_end-le p place =
    let next = group_start-suc p place in
    let le = start_of-le (groups p) (suc place) in
    let all = ap length (concat-groups p) in
    let loads = length-load_nodes p in
    omega (arith, next, le, all, loads)

pub group_between : (p : Program) (place : ℕ) → place < length (groups p) → loads_between p (group_start p place) (group_start p place + length (get_or (groups p) place [])) ≡ get_or (groups p) place []
group_between p place lt =
    let start = group_start p place in
    let size = length (get_or (groups p) place []) in
    let gap : start + size - start ≡ size = omega arith in
    ap (λ (n : ℕ). take n (drop start (load_nodes p))) gap
    ∙ ap (λ loads. take size (drop start loads)) (sym (concat-groups p))
    ∙ piece_at (groups p) place lt

-- behind the last group all loads were passed
pub groups_all : (p : Program) (place first : ℕ) → length (groups p) ≤ place → first ≡ group_start p place → first ≡ load_count p
groups_all p place first past first_is =
    let all = ap (λ pieces. length (concat pieces)) (take_all place (groups p) past) ∙ ap length (concat-groups p) in
    let loads = length-load_nodes p in
    omega (arith, first_is, all, loads)

-- the rows of the test that contracts see
pub tables_of : (q p : Program) (rows : List Group) {inverses : List ℕ} → q ≡ p → TabulatesGroups q rows inverses → TabulatesGroups p rows inverses
tables_of q p rows {inverses = inverses} same t = subst (λ r. TabulatesGroups r rows inverses) same t

-- the group of a place, by the ranks of its loads
pub record GroupAt (p : Program) (place first loads : ℕ) : Type 0 where
  pub size : loads ≡ length (get_or (groups p) place [])
  pub within : first + loads ≤ load_count p
  pub fits : group_product p (loads_between p first (first + loads)) ≤ 2 ^ 64
  pub between : loads_between p first (first + loads) ≡ get_or (groups p) place []
  pub next : first + loads ≡ group_start p (place + 1)

pub group_at : (p : Program) (rows : List Group) (place first : ℕ) (row : Group) {inverses : List ℕ} → TabulatesGroups p rows inverses → place < length (groups p) → row ≡ get_or rows place row → first ≡ group_start p place → GroupAt p place first row.loads
group_at p rows place first row t lt is first_is =
    let size = length (get_or (groups p) place []) in
    let loads : row.loads ≡ size = ap (λ (g : Group). g.loads) (row_at p rows place row t.rows_are lt is) in
    let end = group_end-le p place in
    let between : loads_between p first (first + row.loads) ≡ get_or (groups p) place [] =
    ap (λ (n : ℕ). loads_between p first (first + n)) loads ∙ ap (λ (n : ℕ). loads_between p n (n + size)) first_is ∙ group_between p place lt in
    let product = ap (group_product p) between in
    let fits = product_at-fits p place t.limits.operations lt in
    record {
      size = loads;
      within = omega (arith, loads, first_is, end);
      fits = omega (arith, product, fits);
      between = between;
      next = ap (λ (n : ℕ). first + n) loads ∙ ap (λ (n : ℕ). n + size) first_is ∙ sym (ap (group_start p) (add-one place) ∙ group_start-suc p place);
    }
