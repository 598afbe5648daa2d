use Rattle.std.proofs.Common.{Some, None, subst}
use Rattle.arj_text.specs.Words.{value_text}
use Rattle.arj_text.specs.Fields.{IsRead, ValueTextInForm}
use Rattle.arj_text.proofs.Spaceless.{no_word, two_taken, value_none, value_some}
use Rattle.arj_text.proofs.field_value.value_first.Goals as goal

pub returns-in_default-cut : goal.returns-in_default-cut
returns-in_default-cut c =
    no_word c.args.bytes.now c.in-Some.class.now c.in-Some.fields.now c.in-Some.ensures.0 c.in-Some.ensures.1 c.in_default-cut.ensures

pub returns-in-Some-2 : goal.returns-in-Some-2
returns-in-Some-2 c =
    let taken = two_taken c.args.bytes.now c.in-Some.class.now c.in-Some.fields.now c.in-Some-cut.word.now c.in-Some-cut.rest.now c.in-Some.ensures.1 c.in-Some-cut.ensures.1 in
    let read = subst (λ t. IsRead ValueTextInForm value_text t (Some c.in-Some-2.found)) taken (rw c.in-Some-2.is at c.in_ok-found.ensures) in
    value_some c.args.bytes.now c.in-Some.class.now c.in-Some.fields.now c.in-Some-cut.word.now c.in-Some-cut.rest.now c.in-Some-2.found c.in-Some.ensures.0 c.in-Some.ensures.1 c.in-Some-cut.ensures.0 c.in-Some-cut.ensures.1 read

pub returns-in-None : goal.returns-in-None
returns-in-None c =
    let taken = two_taken c.args.bytes.now c.in-Some.class.now c.in-Some.fields.now c.in-Some-cut.word.now c.in-Some-cut.rest.now c.in-Some.ensures.1 c.in-Some-cut.ensures.1 in
    let read = subst (λ t. IsRead ValueTextInForm value_text t None) taken (rw c.in-None.is at c.in_ok-found.ensures) in
    value_none c.args.bytes.now c.in-Some.class.now c.in-Some.fields.now c.in-Some-cut.word.now c.in-Some-cut.rest.now c.in-Some.ensures.0 c.in-Some.ensures.1 c.in-Some-cut.ensures.0 c.in-Some-cut.ensures.1 read
