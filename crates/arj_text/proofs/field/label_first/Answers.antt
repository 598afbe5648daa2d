use Rattle.arj_text.specs.Label.{LabelInForm, name}
use Rattle.arj_text.proofs.Texts.{none_first, some_first, spaceless_label}
use Rattle.arj_text.proofs.field.label_first.Goals as goal

pub returns-in_default-label_of : goal.returns-in_default-label_of
returns-in_default-label_of c =
    none_first 32 LabelInForm name (λ l. spaceless_label (name l)) c.args.bytes.now c.in-Some.word.now c.in-Some.rest.now c.in-Some.ensures.0 c.in-Some.ensures.1 c.in_default-label_of.ensures

pub returns : goal.returns
returns c =
    some_first 32 LabelInForm name (λ l. spaceless_label (name l)) c.args.bytes.now c.in-Some.word.now c.in-Some.rest.now c.in-Some-label_of.label c.in-Some.ensures.0 c.in-Some.ensures.1 c.in-Some-label_of.ensures
