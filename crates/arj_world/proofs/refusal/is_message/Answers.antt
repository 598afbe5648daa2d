use Rattle.std.proofs.Common.{◌≡◌, arith, sym, subst, IfOk}
use Rattle.arj_msg.specs.Layout.{FaultOf}
use Rattle.arj_protocol.specs.Words.{read_message}
use Rattle.arj_protocol.specs.World.{reads_whole}
use Rattle.arj_world.proofs.Tests.{is_none_of, is_one}
use Rattle.arj_world.proofs.refusal.is_message.Goals as goal
use Rattle.arj_world.proofs.refusal.is_message.Goals.{in-Ok, in-Err-At, in-Err-Memory}

pub returns : goal.returns
returns c =
    elim c.match-decode.branch [
      | in-Ok w ↦ subst (λ r. IfOk r (λ is. is ≡ reads_whole (read_message c.args.bytes.now))) (sym w.result-is) (sym (is_one c.args.bytes.now w.in-Ok.field-0 w.in-Ok.ensures.found.0 w.in-Ok.ensures.found.1))
      | in-Err-At w ↦ subst (λ r. IfOk r (λ is. is ≡ reads_whole (read_message c.args.bytes.now))) (sym w.result-is)
          (sym (is_none_of c.args.bytes.now (λ i. omega (arith, c.type_inv.bytes i)) (subst (FaultOf c.args.bytes.now) w.in-Err-At.field-0-is w.in-Err-At.ensures.fault).none))
      | in-Err-Memory w ↦ subst (λ r. IfOk r (λ is. is ≡ reads_whole (read_message c.args.bytes.now))) (sym w.result-is) tt
    ]
