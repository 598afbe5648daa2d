use Rattle.std.proofs.Common.{◌≡◌, ◌++◌, ◌∷◌, []}
use Rattle.std.proofs.lemmas.Result.{on_ok_weaker}
use Rattle.arj_core.specs.declared.output.Output.TheVariants as output
use Rattle.arj_node.proofs.Outs.{sent_one}
use Rattle.arj_node.proofs.putting.send.Goals as goal

pub returns : goal.returns
returns c = on_ok_weaker c.push.result
    (λ (are : c.push.new.self ≡ c.args.out.now ++ output.Send c.args.to c.kind_of.result c.in_ok-bytes.bytes ∷ []).
    sent_one c.args.to c.args.m.now c.kind_of.result c.in_ok-bytes.bytes c.args.out.now c.push.new.self c.in_ok-bytes.ensures.in_form c.in_ok-bytes.ensures.spelled c.kind_of.ensures are) c.push.ensures.ok
