use Rattle.std.proofs.Common.{◌≡◌, ◌∙◌, ◌&&◌, ℕ, Bool, List, false, ap, sym, arith, length, get_or, inl, inr}
use Rattle.std.specs.Prelude.{◌==◌, nat_lt}
use Rattle.std.proofs.lemmas.Bool.{cases_Bool}
use Rattle.std.proofs.lemmas.Bool.Decides.{Decides-ltb}
use Rattle.weak_machine.specs.NodeSets.{has_flag}
use Rattle.sim_core.proofs.BelowLists.{get_or-map_below, length-map_below}
use Rattle.weak_machine.proofs.progress.find_ready.Goals as goal

not_below : (n : ℕ) → nat_lt n 0 ≡ false
not_below n = elim (cases_Bool (nat_lt n 0)) [ inl h ↦ let lt = (Decides-ltb n 0).0 h in absurd (omega (arith, lt)) | inr h ↦ h ]

pub loop-node-init : goal.loop-node-init
loop-node-init c =
    let count = length c.args.missing.now in
    record {
      long = ap length c.in_ok-ready.ensures ∙ length-map_below (λ n. false) count;
      found = λ n lt. ap (λ (flags : List Bool). has_flag flags n) c.in_ok-ready.ensures ∙ get_or-map_below (λ k. false) count n false lt ∙ sym (ap (λ b. b && (get_or c.args.missing.now n 0 == 0)) (not_below n));
    }
