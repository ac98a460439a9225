use Rattle.std.proofs.Common.{◌∙◌, refl, sym}
use Rattle.signature_plan.proofs.Meaning.{means-run_of}
use Rattle.signature_plan.proofs.plan.Plan.decode_into.Goals as goal

pub write_run-requires : goal.write_run-requires
write_run-requires c = record { fit = c.in_default.ensures.none.0 refl; loads = c.requires.loads }

pub returns : goal.returns
returns c =
    let p = c.args.self.now in
    let words = c.args.words.now in
    record {
      ok = c.write_run.ensures;
      only = λ run means. means-run_of p words run means ∙ sym (means-run_of p words c.write_run.new.out c.write_run.ensures);
      fit = (λ e. c.in_default.ensures.none.0 refl, λ f. refl);
      too_large = tt;
      err = tt;
    }
