-- The signature of a run: its loads' places among their candidates, as digits of words of 64 bits.
use Rattle.std.specs.Prelude.{◌≡◌, ℕ, ◌*◌, ◌^◌, List, [], ◌∷◌, map, take, length, sum_by, position, ◌==◌, nat_le, unwrap_or, slice_index, if◌then◌else◌}
use Rattle.std.specs.List.{flat_map}
use Rattle.orders.specs.Orders.{nodes_below}
use Rattle.test_lang.specs.Program.{Program}
use Rattle.test_lang.specs.Values.{thread_loads}
use Rattle.test_lang.specs.Runs.{IsInside, candidates, value_read}

abbrev pub candidate_count : Program → ℕ → ℕ
candidate_count p load = length (candidates p load)

-- the place, counted from 0, of the value that is read among the load's candidates, where it is one of them
abbrev pub place : Program → List ℕ → ℕ → ℕ
place p run load = unwrap_or (position (λ candidate. candidate == value_read p run load) (candidates p load)) 0

abbrev pub product : List ℕ → ℕ
product [] = 1
product (n ∷ ns) = n * product ns

-- Groups: loads in a row, each group the longest whose product of counts is at most 2^64. So with the counts 2 and 2^63 two loads make one group,
-- and with 2 and 2^63 + 1 two groups. The first load of a group needs no test, since no load has more than 2048 candidates.

abbrev pub put_first : ℕ → List (List ℕ) → List (List ℕ)
put_first load [] = (load ∷ []) ∷ []
put_first load (group ∷ groups) = (load ∷ group) ∷ groups

-- the groups of the loads behind an open group with this product; the first list is what the open group takes
abbrev pub groups_after : (ℕ → ℕ) → ℕ → List ℕ → List (List ℕ)
groups_after count open_product [] = [] ∷ []
groups_after count open_product (load ∷ loads) =
    if nat_le (open_product * count load) (2 ^ 64)
    then put_first load (groups_after count (open_product * count load) loads)
    else [] ∷ put_first load (groups_after count (count load) loads)

abbrev pub groups_of : (ℕ → ℕ) → List ℕ → List (List ℕ)
groups_of count [] = []
groups_of count (load ∷ loads) = put_first load (groups_after count (count load) loads)

-- the groups of a test: those of thread 0, then those of thread 1, and so on
abbrev pub groups : Program → List (List ℕ)
groups p = flat_map (λ t. groups_of (candidate_count p) (thread_loads p t)) (nodes_below (length p.threads))

-- the product of a group's counts: a word of the group is a number below it
abbrev pub group_product : Program → List ℕ → ℕ
group_product p group = product (map (candidate_count p) group)

-- the weight of a group's load at the place k, counted from 0: the product of the counts before it
abbrev pub weight : Program → List ℕ → ℕ → ℕ
weight p group k = group_product p (take k group)

-- the word of a group: the sum of each load's place times its weight
abbrev pub group_word : Program → List ℕ → List ℕ → ℕ
group_word p run group = sum_by (λ k. place p run (slice_index group k) * weight p group k) (nodes_below (length group))

-- The signature of a run: a word of 64 bits for each group.
abbrev pub signature : Program → List ℕ → List ℕ
signature p run = map (group_word p run) (groups p)

-- The words mean the run: it is inside, and they are its signature.
pub record Means (p : Program) (words run : List ℕ) : Type 0 where
  pub inside : IsInside p run
  pub words_are : signature p run ≡ words
