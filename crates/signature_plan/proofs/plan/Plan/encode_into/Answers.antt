use Rattle.std.proofs.Common.{◌∙◌, refl, ap, sym}
use Rattle.std.specs.Option.{option_map}
use Rattle.tally.specs.declared.outcome.Outcome.TheVariants.{Inside}
use Rattle.test_lang.specs.Runs.{IsInside, first_outside, value_read}
use Rattle.signature_plan.specs.Outcomes.{outcome_by}
use Rattle.signature_plan.proofs.Reading.{run_inside}
use Rattle.signature_plan.proofs.plan.Plan.encode_into.Goals as goal

pub returns-then-write_short : goal.returns-then-write_short
returns-then-write_short c =
    let p = c.args.self.now in
    let run = c.args.run.now in
    let told = c.if-write_short.ensures.written in
    record {
      ok = record { inside = told.0; words_are = sym told.1 };
      inside = (λ h. told.0, λ h. refl);
      outside = tt;
      err = tt;
      outcome_inside = ap (λ found. outcome_by p run (option_map (λ load. (load, value_read p run load)) found)) told.0.none_outside ∙ ap Inside (sym told.1);
      outcome_outside = tt;
    }

pub returns : goal.returns
returns c =
    let p = c.args.self.now in
    let run = c.args.run.now in
    let none = sym c.in_default.ensures.load ∙ refl in
    let inside : IsInside p run = run_inside p run c.requires.loads (λ k. (c.type_inv.run k).fits) (ap (λ q. first_outside q run) (sym c.self.view_is) ∙ none) in
    let written = c.write_if_inside.ensures.written inside in
    record {
      ok = record { inside = inside; words_are = sym written };
      inside = (λ h. inside, λ h. refl);
      outside = tt;
      err = tt;
      outcome_inside = ap (λ found. outcome_by p run (option_map (λ load. (load, value_read p run load)) found)) inside.none_outside ∙ ap Inside (sym written);
      outcome_outside = tt;
    }
