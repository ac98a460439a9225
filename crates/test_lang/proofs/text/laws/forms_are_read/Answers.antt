use Rattle.test_lang.proofs.TextLemmas.Forms.{form_of-has, has-form_of}
use Rattle.test_lang.proofs.text.laws.forms_are_read.Goals as goal

pub returns : goal.returns
returns c = λ version line form. (form_of-has version line form, has-form_of version line form)
