use Rattle.std.proofs.Common.{◌≡◌, ◌∙◌, ◌+◌, ◌*◌, ℕ, get_or, ap, arith}
use Rattle.test_lang.specs.Values.{store_count}
use Rattle.candidates.specs.ByRank.{candidates_at}
use Rattle.candidates.proofs.Finds.{finds-lacks}
use Rattle.candidates.proofs.RunLemmas.{place_told, tells}
use Rattle.candidates.proofs.TableReads.{lists_of, none_past, place_found}
use Rattle.candidates.proofs.candidate_table.Candidates.place_if_any.Goals as goal

pub returns-then-self-value-clause-found : goal.returns-then-self-value-clause-found
returns-then-self-value-clause-found c =
    let values = c.self.invariant.1 ∙ ap (λ p. store_count p + 1) c.self.view_is in
    let past = c.if-self-value.true in
    none_past c.args.self.now c.args.rank c.args.value c.requires (omega (arith, values, past))

pub returns-then-self-value-clause-candidate : goal.returns-then-self-value-clause-candidate
returns-then-self-value-clause-candidate c = (λ h. absurd cc, λ h. absurd (finds-lacks (candidates_at c.args.self.now c.args.rank) c.args.value (returns-then-self-value-clause-found c) h))

pub returns-clause-found : goal.returns-clause-found
returns-clause-found c =
    let p = c.args.self.now in
    let i = c.self.inside in
    let places = i.lists.places.items in
    let rank = c.args.rank in
    let value = c.args.value in
    let row = c.index-row.result.now in
    let values : i.value_count ≡ store_count p + 1 = c.self.invariant.1 ∙ ap (λ q. store_count q + 1) c.self.view_is in
    let before = c.if-self-value.false in
    let lists = lists_of i.test p i.lists.loads.items i.lists.values.items places c.self.view_is c.self.invariant.2 in
    let read : row ≡ get_or places (rank * (store_count p + 1) + value) row = c.index-row.ensures ∙ ap (λ (n : ℕ). get_or places (rank * n + value) row) values in
    rw c.from.ensures (place_found p i.lists.loads.items i.lists.values.items places lists rank value row c.requires (omega (arith, before, values)) read)

pub returns-clause-candidate : goal.returns-clause-candidate
returns-clause-candidate c = tells (candidates_at c.args.self.now c.args.rank) c.args.value c.from.result c.index-row.result.now.is_candidate (returns-clause-found c)

pub returns-clause-place : goal.returns-clause-place
returns-clause-place c = place_told (candidates_at c.args.self.now c.args.rank) c.args.value c.from.result c.index-row.result.now.is_candidate (returns-clause-found c)
