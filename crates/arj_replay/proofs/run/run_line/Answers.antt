use Rattle.std.proofs.Common.{◌≡◌, None, IfOk}
use Rattle.arj_class.specs.Table.{answer_of, value_after}
use Rattle.arj_journal.specs.declared.body.Body.TheVariants as line_body
use Rattle.arj_model.specs.Last.{object_line}
use Rattle.arj_model.specs.Serial.{with_value}
use Rattle.arj_replay.specs.Verdict.{HasValues}
use Rattle.arj_replay.specs.Verdict.{wanted_of}
use Rattle.arj_reading.specs.Readable.{object_rule}
use Rattle.arj_replay.proofs.run.run_line.Goals as goal
use Rattle.std.proofs.Common.{◌∙◌, sym, subst}
use Rattle.arj_replay.proofs.Runs.{after_call, call_fits, its_answer, no_answer, on_ok}

pub returns-in_default-2-clause-wanted : goal.returns-in_default-2-clause-wanted
returns-in_default-2-clause-wanted c = λ header all l x op answer body has fits.
    let e : line_body.Ok c.in-Ok.label c.in-Ok.x c.in-Ok.op c.in-Ok.answer ≡ line_body.Ok l x op answer = sym c.in-Ok.is ∙ body in
    let ex : c.in-Ok.x ≡ x = cc e in
    let eo : c.in-Ok.op ≡ op = cc e in
    let here : object_rule (object_line header c.in-Ok.x) c.in-Ok.op ≡ None =
    subst (λ z. object_rule (object_line header z) c.in-Ok.op ≡ None) (sym ex) (subst (λ o. object_rule (object_line header x) o ≡ None) (sym eo) fits) in
    let f = call_fits header all c.args.values.now c.in-Ok.x c.in-Ok.op has here in
    absurd (no_answer (λ a. a ≡ answer_of c.in-Ok.op (all c.in-Ok.x)) c.in_ok-given.field-0 c.in_default-2.is (c.in_ok-given.ensures.answer (all c.in-Ok.x) f.0 f.1 f.2))

pub returns-in_default-2-clause-values : goal.returns-in_default-2-clause-values
returns-in_default-2-clause-values c = λ header all l x op answer body has fits.
    let e : line_body.Ok c.in-Ok.label c.in-Ok.x c.in-Ok.op c.in-Ok.answer ≡ line_body.Ok l x op answer = sym c.in-Ok.is ∙ body in
    let ex : c.in-Ok.x ≡ x = cc e in
    let eo : c.in-Ok.op ≡ op = cc e in
    let here : object_rule (object_line header c.in-Ok.x) c.in-Ok.op ≡ None =
    subst (λ z. object_rule (object_line header z) c.in-Ok.op ≡ None) (sym ex) (subst (λ o. object_rule (object_line header x) o ≡ None) (sym eo) fits) in
    let f = call_fits header all c.args.values.now c.in-Ok.x c.in-Ok.op has here in
    absurd (no_answer (λ a. a ≡ answer_of c.in-Ok.op (all c.in-Ok.x)) c.in_ok-given.field-0 c.in_default-2.is (c.in_ok-given.ensures.answer (all c.in-Ok.x) f.0 f.1 f.2))

pub returns-clause-wanted : goal.returns-clause-wanted
returns-clause-wanted c = λ header all l x op answer body has fits.
    let e : line_body.Ok c.in-Ok.label c.in-Ok.x c.in-Ok.op c.in-Ok.answer ≡ line_body.Ok l x op answer = sym c.in-Ok.is ∙ body in
    let ex : c.in-Ok.x ≡ x = cc e in
    let eo : c.in-Ok.op ≡ op = cc e in
    let here : object_rule (object_line header c.in-Ok.x) c.in-Ok.op ≡ None =
    subst (λ z. object_rule (object_line header z) c.in-Ok.op ≡ None) (sym ex) (subst (λ o. object_rule (object_line header x) o ≡ None) (sym eo) fits) in
    let f = call_fits header all c.args.values.now c.in-Ok.x c.in-Ok.op has here in
    let ea : c.in-Ok.answer ≡ answer = cc e in
    let given : c.in-Some.given ≡ answer_of c.in-Ok.op (all c.in-Ok.x) =
    its_answer (λ a. a ≡ answer_of c.in-Ok.op (all c.in-Ok.x)) c.in_ok-given.field-0 c.in-Some.given c.in-Some.is (c.in_ok-given.ensures.answer (all c.in-Ok.x) f.0 f.1 f.2) in
    subst (λ z. IfOk c.wanted.result (λ r. r ≡ wanted_of op (all z) answer)) ex
    (subst (λ o. IfOk c.wanted.result (λ r. r ≡ wanted_of o (all c.in-Ok.x) answer)) eo
    (subst (λ b. IfOk c.wanted.result (λ r. r ≡ wanted_of c.in-Ok.op (all c.in-Ok.x) b)) (c.as_slice.ensures ∙ ea) (c.wanted.ensures c.in-Ok.op (all c.in-Ok.x) given)))

pub returns-clause-values : goal.returns-clause-values
returns-clause-values c = λ header all l x op answer body has fits.
    let e : line_body.Ok c.in-Ok.label c.in-Ok.x c.in-Ok.op c.in-Ok.answer ≡ line_body.Ok l x op answer = sym c.in-Ok.is ∙ body in
    let ex : c.in-Ok.x ≡ x = cc e in
    let eo : c.in-Ok.op ≡ op = cc e in
    let here : object_rule (object_line header c.in-Ok.x) c.in-Ok.op ≡ None =
    subst (λ z. object_rule (object_line header z) c.in-Ok.op ≡ None) (sym ex) (subst (λ o. object_rule (object_line header x) o ≡ None) (sym eo) fits) in
    let f = call_fits header all c.args.values.now c.in-Ok.x c.in-Ok.op has here in
    let next : HasValues header (with_value all c.in-Ok.x (value_after c.in-Ok.op (all c.in-Ok.x))) c.run_call.new.values =
    after_call header all c.args.values.now c.run_call.new.values c.in-Ok.x (value_after c.in-Ok.op (all c.in-Ok.x)) (c.operations_keep.ensures.class c.in-Ok.op (all c.in-Ok.x)) has (c.in_ok-given.ensures.value (all c.in-Ok.x) f.0 f.1 f.2) in
    on_ok (HasValues header (with_value all x (value_after op (all x))) c.run_call.new.values) c.wanted.result
    (subst (λ z. HasValues header (with_value all z (value_after op (all z))) c.run_call.new.values) ex (subst (λ o. HasValues header (with_value all c.in-Ok.x (value_after o (all c.in-Ok.x))) c.run_call.new.values) eo next))
