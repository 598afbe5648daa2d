use Rattle.std.proofs.Common.{◌≡◌, refl, sym, ap, subst, Err, None}
use Rattle.arj_core.specs.declared.node.CoreFault.TheVariants.{Halted}
use Rattle.arj_core.specs.Steps.{WasCut, message_of}
use Rattle.arj_disk.specs.FileMap.{FileMap}
use Rattle.arj_node.specs.Lives.{IsNode}
use Rattle.arj_node.proofs.Cores.{up_cut, up_did}
use Rattle.arj_node.proofs.Handled.{same_fault}
use Rattle.arj_protocol.specs.Step as protocol
use Rattle.arj_protocol.specs.Step.{step}
use Rattle.arj_node.proofs.node.NodeCore.frame.Goals as goal

pub returns-in-Err-clause-halted : goal.returns-in-Err-clause-halted
returns-in-Err-clause-halted g c = λ halted header n node.
    let fault : c.in-Err.fault ≡ Halted = same_fault (Err c.fall.result) c.in-Err.fault Halted c.fall.ensures.fault halted in
    let file : FileMap = g.D.Disk.file c.args.disk.now in
    let left : FileMap = g.D.Disk.file c.deliver.new.disk in
    let input : protocol.Input = protocol.Frame c.args.k c.args.from (message_of c.args.bytes.now) in
    subst (λ core. WasCut (IsNode g.P.Parts header core left) n (step header n input) c.args.out.now c.deliver.new.out) (sym c.fall.ensures.down)
    (up_cut {P = g.row.P.Denot} g.P.Parts header c.args.self.now c.in-Some.parts None file left input c.args.out.now c.deliver.new.out
    c.in-Some.is refl (λ roster h stands. c.in-Err.ensures.halted (ap Err fault) header h stands) n node)

pub returns-in-Ok-clause-done : goal.returns-in-Ok-clause-done
returns-in-Ok-clause-done g c = λ header n node.
    let file : FileMap = g.D.Disk.file c.args.disk.now in
    let left : FileMap = g.D.Disk.file c.deliver.new.disk in
    let input : protocol.Input = protocol.Frame c.args.k c.args.from (message_of c.args.bytes.now) in
    up_did {P = g.row.P.Denot} g.P.Parts header c.args.self.now c.in-Some.parts c.deliver.new.parts file left input c.args.out.now
    c.deliver.new.out c.in-Some.is (λ roster h stands. c.in-Ok.ensures.done header h stands) n node
