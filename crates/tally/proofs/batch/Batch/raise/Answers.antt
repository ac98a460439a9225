use Rattle.std.proofs.Common.{◌≡◌, ◌∙◌, ℕ, ◌+◌, ◌*◌, ◌<◌, List, ◌∷◌, [], ◌++◌, length, get_or, set, ◌^◌, take, drop, ap, sym, subst, arith}
use Rattle.std.specs.Prelude.{IsPermutation}
use Rattle.std.proofs.lemmas.Grind.{get_or_default_zero}
use Rattle.tally.specs.Counting.{all_rows}
use Rattle.tally.specs.Rows.{rows_in}
use Rattle.tally.proofs.RowsInLine.{all_rows-raised, fills-raised, length-rows_in, row_in}
use Rattle.tally.proofs.batch.Batch.raise.Goals as goal

-- the place is one of those that are there
within : (width : ℕ) (words times : List ℕ) (i : ℕ) → i < length (rows_in words width times) → i < length times
within width words times i h = let long = length-rows_in width words times in omega (arith, h, long)

pub index_mut-requires : goal.index_mut-requires
index_mut-requires c =
    let there = within c.self.inside.width c.self.inside.words.items c.self.inside.times.items c.args.place (subst (λ b. c.args.place < length b.rows) (sym c.self.view_is) c.requires.within) in
    let long = c.self.inside.times.ok.0 in
    omega (arith, there, long)

pub overflow_add-index_mut : goal.overflow_add-index_mut
overflow_add-index_mut c =
    let times = c.self.inside.times.items in
    let there = within c.self.inside.width c.self.inside.words.items times c.args.place (subst (λ b. c.args.place < length b.rows) (sym c.self.view_is) c.requires.within) in
    let few = subst (λ b. (get_or {A = List ℕ × ℕ} b.rows c.args.place ([], 0)).1 + 1 < 2 ^ 32) (sym c.self.view_is) c.requires.fits in
    let is = ap (λ (e : List ℕ × ℕ). e.1) (row_in c.self.inside.width c.self.inside.words.items times c.args.place ([], 0) there) in
    let value = c.index_mut.ensures.value in
    let same = get_or_default_zero times c.args.place c.index_mut.result.now there in
    record { fits = omega (arith, few, is, value, same) }

pub invariant_of-self : goal.invariant_of-self
invariant_of-self c =
    let times = c.self.inside.times.items in
    let there = within c.self.inside.width c.self.inside.words.items times c.args.place (subst (λ b. c.args.place < length b.rows) (sym c.self.view_is) c.requires.within) in
    fills-raised c.self.inside.width c.self.inside.words.items times c.self.inside.len c.args.place _ (c.index_mut.result.now + 1) c.self.invariant there (ap (λ n. n + 1) c.index_mut.ensures.value)

-- the row that stands there waits once more
raised_row : (width : ℕ) (words times : List ℕ) (i d n : ℕ) (rows : List (List ℕ × ℕ)) → rows_in words width times ≡ rows → i < length rows → n ≡ get_or times i d + 1
    → (row : List ℕ) → (get_or rows i (row, 0)).0 ≡ row → IsPermutation (all_rows rows ++ row ∷ []) (all_rows (rows_in words width (set times i n)))
raised_row width words times i d n rows e lt is row stands =
    let there = within width words times i (subst (λ es. i < length es) (sym e) lt) in
    let here : take width (drop (i * width) words) ≡ row =
    sym (ap (λ (x : List ℕ × ℕ). x.0) (row_in width words times i (row, 0) there)) ∙ ap (λ es. (get_or {A = List ℕ × ℕ} es i (row, 0)).0) e ∙ stands in
    subst (λ es. IsPermutation (all_rows es ++ row ∷ []) (all_rows (rows_in words width (set times i n)))) e
    (subst (λ r. IsPermutation (all_rows (rows_in words width times) ++ r ∷ []) (all_rows (rows_in words width (set times i n)))) here
    (all_rows-raised width words times i d n there is))

pub returns-clause-raised : goal.returns-clause-raised
returns-clause-raised c =
    raised_row c.self.inside.width c.self.inside.words.items c.self.inside.times.items c.args.place _ (c.index_mut.result.now + 1) c.args.self.now.rows (ap (λ b. b.rows) c.self.view_is) c.requires.within (ap (λ n. n + 1) c.index_mut.ensures.value)
