use Rattle.std.proofs.Common.{◌∙◌, ◌++◌, ap, sym, subst}
use Rattle.std.proofs.lemmas.Result.{on_ok_weaker}
use Rattle.arj_parts.proofs.Again.{all_tell}
use Rattle.arj_parts.specs.Kept.{StandsOn}
use Rattle.arj_protocol.specs.Step.{tolds_again}
use Rattle.arj_parts.proofs.parts.NodeParts.send_again.Goals as goal

pub returns : goal.returns
returns g c = on_ok_weaker c.greet.result
    (λ greeted header file h nodes stands.
    let here = subst (λ p. StandsOn g.O.ObjectStore c.args.number p file h) (sym c.self.view_is) stands in
    all_tell header c.args.number c.args.inc h.disk c.tolds_again.new.outs c.as_slice-2.result.now c.in_ok-prepared.field-0 c.args.nodes c.args.outs.now c.tell.new.outs c.ask_about.new.outs c.greet.new.outs
    (c.in_ok-tolds_again.ensures ∙ (ap (λ es. es ++ tolds_again c.self.inside.records) c.new-effects.ensures ∙ ap tolds_again here.records)) (c.in_ok-prepared.ensures file h.disk here.services) c.as_slice-2.ensures nodes c.in_ok-tell.ensures c.in_ok-ask_about.ensures greeted)
    c.greet.ensures
